-- Bytes appended one piece after the other, of which not all may have been.
use Rattle.std.proofs.Common.{◌≡◌, ℕ, zero, suc, ◌+◌, List, [], ◌∷◌, ◌++◌, length, take, flat_map, slice_get, Some, OnOk, OnErr, inl, inr, refl, ap, sym, subst, ◌∙◌, append_assoc, add-one, arith}
use Rattle.std.specs.declared.option.Option.{Option}
use Rattle.std.specs.declared.result.Result.{Result}
use Rattle.std.specs.declared.result.Result.TheVariants.{Ok, Err}
use Rattle.std.proofs.lemmas.Bool.{cases_lt}
use Rattle.std.proofs.lemmas.List.{append-nil, take_all, take-append-le}
use Rattle.std.proofs.Math.Seq.{take-append_seam, take-append-add}
use Rattle.edge_io.specs.Edge.{Adds}
use Rattle.edge_io.proofs.Known.{adds_then}
use Rattle.rate_match.specs.Sendings.{common}
use Rattle.rate_match.specs.declared.sends.Sending.{Sending}
use Rattle.coded_stream.specs.Header.{transmission_text}
use Rattle.coded_stream.specs.declared.version.Version.{Version}

-- a prefix of a first piece is one of both
pub front_of : (old new : Option (List ℕ)) (first rest : List ℕ) (n : ℕ) → Adds old new (take n first) → (x : ℕ) × Adds old new (take x (first ++ rest))
front_of old new first rest n added =
    let P : List ℕ → Type 0 = λ xs. Adds old new xs in
    elim (cases_lt (length first) n) [
      | inl more ↦ (length first, subst P (take_all n first (omega (arith, more)) ∙ sym (take-append_seam first rest)) added)
      | inr few ↦ (n, subst P (sym (take-append-le n first rest few)) added)
    ]

-- a whole first piece, and the answer for the second
pub both_ok : {T E : Type 0} (old mid new : Option (List ℕ)) (first rest : List ℕ) (r : Result T E) → Adds old mid first → OnOk r (Adds mid new rest) → OnOk r (Adds old new (first ++ rest))
both_ok old mid new first rest (Ok v) added more = adds_then old mid new first rest added more
both_ok old mid new first rest (Err e) added more = tt

pub both_err : {T E : Type 0} (old mid new : Option (List ℕ)) (first rest : List ℕ) (r : Result T E) → Adds old mid first → OnErr r ((n : ℕ) × Adds mid new (take n rest)) →
    OnErr r ((n : ℕ) × Adds old new (take n (first ++ rest)))
both_err old mid new first rest (Ok v) added more = tt
both_err old mid new first rest (Err e) added more =
    let P : List ℕ → Type 0 = λ xs. Adds old new xs in
    (length first + more.0, subst P (sym (take-append-add first rest more.0)) (adds_then old mid new first (take more.0 rest) added more.1))

-- a prefix of a second piece, after all of a first
pub part_added : (old mid new : Option (List ℕ)) (first rest : List ℕ) → Adds old mid first → (n : ℕ) × Adds mid new (take n rest) → (x : ℕ) × Adds old new (take x (first ++ rest))
part_added old mid new first rest added more =
    let P : List ℕ → Type 0 = λ xs. Adds old new xs in
    (length first + more.0, subst P (sym (take-append-add first rest more.0)) (adds_then old mid new first (take more.0 rest) added more.1))

-- ---- one transmission of a header after others

pub record IsSplit (v : Version) (sends : List Sending) (index next : ℕ) (s : Sending) : Type 0 where
  pub front : flat_map (transmission_text v) (take next sends) ≡ flat_map (transmission_text v) (take index sends) ++ transmission_text v s
  pub rest : List ℕ
  pub all : flat_map (transmission_text v) sends ≡ (flat_map (transmission_text v) (take index sends) ++ transmission_text v s) ++ rest

split : (v : Version) (sends : List Sending) (index : ℕ) (s : Sending) → slice_get sends index ≡ Some s → IsSplit v sends index (suc index) s
split v [] index s is = absurd (let no : ⊥ = cc in no)
split v (x ∷ xs) zero s is =
    let same : x ≡ s = cc in
    let P : Sending → Type 0 = λ y. IsSplit v (x ∷ xs) 0 1 y in
    subst P same (record { front = append-nil (transmission_text v x); rest = flat_map (transmission_text v) xs; all = refl })
split v (x ∷ xs) (suc index) s is =
    let n = split v xs index s is in
    let before : List ℕ = flat_map (transmission_text v) (take index xs) in
    let first : List ℕ = transmission_text v x in
    record {
      front = ap (λ (ys : List ℕ). first ++ ys) n.front ∙ sym (append_assoc first before (transmission_text v s));
      rest = n.rest;
      all =
          ap (λ (ys : List ℕ). first ++ ys) n.all
          ∙ sym (append_assoc first (before ++ transmission_text v s) n.rest)
          ∙ ap (λ (ys : List ℕ). ys ++ n.rest) (sym (append_assoc first before (transmission_text v s)));
    }

pub transmission-split : (v : Version) (sends : List Sending) (index : ℕ) (s : Sending) → slice_get sends index ≡ Some s → IsSplit v sends index (index + 1) s
transmission-split v sends index s is = subst (λ (n : ℕ). IsSplit v sends index n s) (sym (add-one index)) (split v sends index s is)

pub common-at : (sends : List Sending) (s : Sending) → slice_get sends 0 ≡ Some s → common sends ≡ s.m
common-at [] s is = absurd (let no : ⊥ = cc in no)
common-at (x ∷ xs) s is = let same : x ≡ s = cc in ap (λ (y : Sending). y.m) same
