-- Transmissions one after the other: their tests, and what they are sent as.
use Rattle.std.proofs.Common.{◌≡◌, ℕ, suc, ◌+◌, ◌-◌, ◌*◌, ◌<◌, ◌≤◌, Bool, true, false, nat_le, List, [], ◌∷◌, ◌++◌, length, take, drop, get_or, flat_map, None, Some, refl, sym, ap, ◌∙◌, arith}
use Rattle.std.specs.declared.option.Option.{Option}
use Rattle.std.proofs.Math.Seq.{drop-cons}
use Rattle.std.proofs.lemmas.Bool.{leb-true}
use Rattle.std.proofs.lemmas.Grind.{flat_map-append, get_or_after_one}
use Rattle.std.proofs.lemmas.List.{length-drop, map-append, take-append-drop, take_all, take_more}
use Rattle.rate_match.specs.Matching.{is_g, is_nl, is_qm}
use Rattle.rate_match.specs.Sendings.{common}
use Rattle.gomzelat_c.specs.Transmissions.{transmission_of, transmissions_of}
use Rattle.gomzelat_c.specs.Tests.{first_failed, test, transmission_tests}
use Rattle.gomzelat_c.specs.declared.refusal.Refusal.{Refusal}
use Rattle.gomzelat_c.specs.declared.refusal.Refusal.TheVariants.{BadQm, BadNl, BadG, BadVersion}
use Rattle.gomzelat_c.specs.declared.transmission.Transmission.{Transmission}
use Rattle.gomzelat_c.proofs.FirstFailed.{none_failed, one_failed}

-- the first that is refused, where none before it is
pub refused_at : (ts : List Transmission) (k : ℕ) (d : Transmission) (r : Refusal) → k < length ts →
    first_failed (flat_map transmission_tests (take k ts)) ≡ None → first_failed (transmission_tests (get_or ts k d)) ≡ Some r →
    first_failed (flat_map transmission_tests ts) ≡ Some r
refused_at ts k d r below before one =
    let seen = flat_map transmission_tests (take k ts) in
    let here = transmission_tests (get_or ts k d) in
    let left = flat_map transmission_tests (drop (suc k) ts) in
    ap (λ xs. first_failed (flat_map transmission_tests xs)) (sym (take-append-drop k ts))
    ∙ ap first_failed (flat_map-append transmission_tests (take k ts) (drop k ts))
    ∙ ap (λ xs. first_failed (seen ++ flat_map transmission_tests xs)) (drop-cons ts k d below)
    ∙ none_failed seen (here ++ left) before
    ∙ one_failed here left r one

-- one more that isn't refused
pub passed_to : (ts : List Transmission) (k : ℕ) (d : Transmission) → k < length ts →
    first_failed (flat_map transmission_tests (take k ts)) ≡ None → first_failed (transmission_tests (get_or ts k d)) ≡ None →
    first_failed (flat_map transmission_tests (take (k + 1) ts)) ≡ None
passed_to ts k d below before here =
    let seen = flat_map transmission_tests (take k ts) in
    let t = get_or ts k d in
    ap (λ xs. first_failed (flat_map transmission_tests xs)) (take_more ts k d below)
    ∙ ap first_failed (flat_map-append transmission_tests (take k ts) (t ∷ []))
    ∙ none_failed seen (transmission_tests t ++ []) before
    ∙ none_failed (transmission_tests t) [] here

pub sends_to : (limit : Option ℕ) (ts : List Transmission) (k : ℕ) (d : Transmission) → k < length ts →
    transmissions_of limit (take (k + 1) ts) ≡ transmissions_of limit (take k ts) ++ transmission_of limit (get_or ts k d) ∷ []
sends_to limit ts k d below = ap (transmissions_of limit) (take_more ts k d below) ∙ map-append (transmission_of limit) (take k ts) (get_or ts k d ∷ [])

-- those after the first
pub after_first : (ts : List Transmission) (i : ℕ) (d : Transmission) → get_or (take (length ts - 1) (drop 1 ts)) i d ≡ get_or ts (i + 1) d
after_first ts i d =
    let rest : length (drop 1 ts) ≤ length ts - 1 = omega (arith, length-drop 1 ts) in
    ap (λ xs. get_or xs i d) (take_all (length ts - 1) (drop 1 ts) rest) ∙ get_or_after_one ts i d ∙ ap (λ n. get_or ts n d) (let e : 1 + i ≡ i + 1 = omega arith in e)

pub common_limit : (limit : Option ℕ) (ts : List Transmission) → 1 ≤ length ts → (common (transmissions_of limit ts)).limit ≡ limit
common_limit limit [] some = absurd (omega (arith, some))
common_limit limit (t ∷ ts) some = refl

last_holds : (q n g v : Bool) → first_failed (test q BadQm ∷ test n BadNl ∷ test g BadG ∷ test v BadVersion ∷ []) ≡ None → v ≡ true
last_holds q n g true none = refl
last_holds false n g false none = cc
last_holds true false g false none = cc
last_holds true true false false none = cc
last_holds true true true false none = cc

pub version_few : (t : Transmission) → first_failed (transmission_tests t) ≡ None → t.rv ≤ 3
version_few t none = leb-true _ _ (last_holds (is_qm t.qm) (is_nl t.nl) (is_g (t.nl * t.qm) t.g) (nat_le t.rv 3) none)
