-- What `encode` and `trial` ask for, once their words were accepted.
use Rattle.std.proofs.Common.{◌≡◌, ℕ, zero, suc, ◌≤◌, Bool, true, false, ◌&&◌, not, nat_le, ◌==◌, if◌then◌else◌, List, length, map, slice_index, Some, None, refl, ap, sym, subst, ◌∙◌, arith}
use Rattle.std.proofs.lemmas.Bool.{and_parts, leb-true}
use Rattle.std.proofs.lemmas.Grind.{common_steps}
use Rattle.std.proofs.lemmas.List.FromFn.{get_or-map-range_with_len, length-map-range_with_len}
use Rattle.std.specs.List.{range_with_len, slice_get}
use Rattle.std.specs.declared.option.Option.{Option}
use Rattle.std.specs.declared.result.Result.{Result}
use Rattle.rate_match.specs.Sendings.{AreEven, common}
use Rattle.rate_match.specs.declared.sends.Sending.{Sending}
use Rattle.coded_stream.specs.Header.{AreHeld}
use Rattle.coded_stream.specs.Limit.{is_limit}
use Rattle.coded_stream.specs.declared.version.Version.TheVariants.{One, Two}
use Rattle.command_words.specs.Rules.{in_range}
use Rattle.command_words.specs.Tables.{lengths, limits}
use Rattle.command_words.specs.Transmissions.{each, transmission_at, limit_asked, limit_in, version_in}
use Rattle.command_words.specs.Refusals.{refused_at}
use Rattle.command_words.specs.declared.operands.Operand.{Operand}
use Rattle.command_words.specs.declared.operands.WordRefusal.{WordRefusal}
use Rattle.command_words.specs.declared.transmissions.Asked.{Asked}
use Rattle.command_words.specs.declared.blocks.CodedBlocks.{CodedBlocks}

-- ---- the chain of refusals

pub accepted : (p : Option ℕ) (b1 b2 : Bool) (x y z : Result CodedBlocks WordRefusal) → None ≡ p → b1 ≡ true → b2 ≡ true →
    refused_at p (if not b1 then x else if not b2 then y else z) ≡ z
accepted (Some place) b1 b2 x y z e1 e2 e3 = cc
accepted None false b2 x y z e1 e2 e3 = cc
accepted None true false x y z e1 e2 e3 = cc
accepted None true true x y z e1 e2 e3 = refl

pub unfit : (p : Option ℕ) (b1 b2 : Bool) (x y z : Result CodedBlocks WordRefusal) → None ≡ p → b1 ≡ true → b2 ≡ false →
    refused_at p (if not b1 then x else if not b2 then y else z) ≡ y
unfit (Some place) b1 b2 x y z e1 e2 e3 = cc
unfit None false b2 x y z e1 e2 e3 = cc
unfit None true true x y z e1 e2 e3 = cc
unfit None true false x y z e1 e2 e3 = refl

pub all_sent : (b : Bool) (xs ys : List Sending) → Some xs ≡ (if b then Some ys else None) → (b ≡ true) × (xs ≡ ys)
all_sent true xs ys is = (refl, cc)
all_sent false xs ys is = cc

-- ---- the transmissions

pub limit_at_first : (a : Asked) (n : ℕ) (s : Sending) → 1 ≤ n → slice_get (map (transmission_at a) (range_with_len 0 n)) 0 ≡ Some s → s.m.limit ≡ limit_in a
limit_at_first a zero s some is = absurd (omega (arith, some))
limit_at_first a (suc n) s some is = let same : s ≡ transmission_at a 0 = cc in ap (λ (x : Sending). x.m.limit) same

one_for_all : (o : Operand) (i j : ℕ) → (length o.numbers == 1) ≡ true → each o i ≡ each o j
one_for_all o i j one =
    ap (λ (b : Bool). if b then slice_index o.numbers 0 else slice_index o.numbers i) one
    ∙ sym (ap (λ (b : Bool). if b then slice_index o.numbers 0 else slice_index o.numbers j) one)

one_of : (b1 b2 b3 : Bool) → (if b1 && b2 && b3 then One else Two) ≡ One → (b1 ≡ true) × (b2 ≡ true) × (b3 ≡ true)
one_of true true true is = (refl, refl, refl)
one_of true true false is = cc
one_of true false b3 is = cc
one_of false b2 b3 is = cc

same_match : (a : Asked) (i j : ℕ) → version_in a.lists ≡ One → (transmission_at a i).m ≡ (transmission_at a j).m
same_match a i j one =
    let l = a.lists in
    let parts = one_of (length l.g.numbers == 1) (length l.qm.numbers == 1) (length l.nl.numbers == 1) one in
    λ k. record {
      qm = one_for_all l.qm i j parts.1 k;
      nl = one_for_all l.nl i j parts.2 k;
      g = one_for_all l.g i j parts.0 k;
      limit = limit_in a;
    }

first_match : (a : Asked) (n : ℕ) → 1 ≤ n → common (map (transmission_at a) (range_with_len 0 n)) ≡ (transmission_at a 0).m
first_match a zero some = absurd (omega (arith, some))
first_match a (suc n) some = refl

even_of : (a : Asked) (n : ℕ) → 1 ≤ n → version_in a.lists ≡ One → AreEven (map (transmission_at a) (range_with_len 0 n))
even_of a n some one i d within =
    ap (λ (s : Sending). s.m) (get_or-map-range_with_len (transmission_at a) 0 n i i d (omega (arith, within, length-map-range_with_len (transmission_at a) 0 n)) (omega arith))
    ∙ same_match a i 0 one ∙ sym (first_match a n some)

pub held_of : (a : Asked) (n : ℕ) (sends : List Sending) → 1 ≤ n → sends ≡ map (transmission_at a) (range_with_len 0 n) → AreHeld (version_in a.lists) sends
held_of a n sends some is one = subst AreEven (sym is) (even_of a n some one)

-- ---- the other numbers

pub lengths_of : (tb : ℕ) → in_range lengths tb ≡ true → (1 ≤ tb) × (tb ≤ 18722)
lengths_of tb is = let parts = and_parts (nat_le 1 tb) (nat_le tb 18722) is in (leb-true 1 tb parts.0, leb-true tb 18722 parts.1)

at_limit : (nir : ℕ) → nir ≤ 1000000 → is_limit (limit_asked nir) ≡ true
at_limit zero few = refl
at_limit (suc nir) few = grind (arith, common_steps, few)

pub limit_of_range : (nir : ℕ) → in_range limits nir ≡ true → is_limit (limit_asked nir) ≡ true
limit_of_range nir is = let parts = and_parts (nat_le 0 nir) (nat_le nir 1000000) is in at_limit nir (leb-true nir 1000000 parts.1)
