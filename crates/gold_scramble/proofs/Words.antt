-- Lists that take the bits of a word, place by place.
use Rattle.std.proofs.Common.{◌≡◌, ℕ, ◌+◌, ◌-◌, ◌<◌, ◌≤◌, List, ◌++◌, length, get_or, set, take, drop, refl, ap, sym, ◌∙◌, inl, inr, arith}
use Rattle.std.proofs.lemmas.Bool.{cases_eq, cases_lt}
use Rattle.std.proofs.lemmas.List.{get_or-append_right, get_or-drop, get_or-set_other, get_or-set_same, get_or-take, get_or_append_left, length-take-le}
use borrow.Rule.Slice.PartMut.{put_mid, post_of}

-- xs after i places of ys were written, each by f
pub record IsWritten {X : Type 0} (f : ℕ → X → X) (d : X) (ys : List X) (i : ℕ) (xs : List X) : Type 0 where
  pub written : (k : ℕ) → k < i → k < length ys → get_or xs k d ≡ f k (get_or ys k d)
  pub rest : (k : ℕ) → i ≤ k → get_or xs k d ≡ get_or ys k d

pub none_written : {X : Type 0} (f : ℕ → X → X) (d : X) (ys : List X) → IsWritten f d ys 0 ys
none_written f d ys = record { written = λ k h l. absurd (omega arith); rest = λ k h. refl }

pub one_more_written : {X : Type 0} (f : ℕ → X → X) (d : X) (ys : List X) (i : ℕ) (xs : List X) (x : X) → i < length xs → IsWritten f d ys i xs
    → x ≡ f i (get_or xs i d) → IsWritten f d ys (i + 1) (set xs i x)
one_more_written f d ys i xs x within is value = record {
  written = λ k h l. elim (cases_eq k i) [
    | inl same ↦
        ap (λ (n : ℕ). get_or (set xs i x) n d) same
        ∙ (get_or-set_same xs i x d within
        ∙ (value ∙ (ap (f i) (is.rest i (omega arith)) ∙ ap (λ (n : ℕ). f n (get_or ys n d)) (sym same))))
    | inr other ↦ get_or-set_other xs i k x d other ∙ is.written k (omega arith) l
  ];
  rest = λ k h. get_or-set_other xs i k x d (omega arith) ∙ is.rest k (omega arith);
}

-- ---- a part of a list that was written as a whole

before_part : {X : Type 0} (from width : ℕ) (xs zs : List X) (d : X) (i : ℕ) → from ≤ length xs → i < from → get_or (put_mid from width xs zs) i d ≡ get_or xs i d
before_part from width xs zs d i within h =
    get_or_append_left (take from xs) (zs ++ post_of from width xs) d i (let e = length-take-le from xs within in omega arith)
    ∙ get_or-take from xs i d h

in_part : {X : Type 0} (from width : ℕ) (xs zs : List X) (d : X) (k : ℕ) → from ≤ length xs → length zs ≡ width → k < width → get_or (put_mid from width xs zs) (from + k) d ≡ get_or zs k d
in_part from width xs zs d k within long h =
    get_or-append_right (take from xs) (zs ++ post_of from width xs) from (from + k) d (length-take-le from xs within) (omega arith)
    ∙ (ap (λ (n : ℕ). get_or (zs ++ post_of from width xs) n d) (let e : from + k - from ≡ k = omega arith in e)
    ∙ get_or_append_left zs (post_of from width xs) d k (omega arith))

after_part : {X : Type 0} (from width : ℕ) (xs zs : List X) (d : X) (i : ℕ) → from ≤ length xs → length zs ≡ width → from + width ≤ i → get_or (put_mid from width xs zs) i d ≡ get_or xs i d
after_part from width xs zs d i within long h =
    get_or-append_right (take from xs) (zs ++ post_of from width xs) from i d (length-take-le from xs within) (omega arith)
    ∙ (get_or-append_right zs (post_of from width xs) width (i - from) d long (omega arith)
    ∙ (get_or-drop width (drop from xs) (i - from - width) d
    ∙ (get_or-drop from xs (width + (i - from - width)) d
    ∙ ap (λ (n : ℕ). get_or xs n d) (let e : from + (width + (i - from - width)) ≡ i = omega arith in e))))

pub part_written : {X : Type 0} (f : ℕ → X → X) (d : X) (ys xs zs : List X) (from width end : ℕ) → from + width ≤ length xs → length zs ≡ width → IsWritten f d ys from xs
    → ((k : ℕ) → k < width → get_or zs k d ≡ f (from + k) (get_or xs (from + k) d))
    → from + width ≤ end → ((k : ℕ) → k < end → k < length ys → k < from + width) → IsWritten f d ys end (put_mid from width xs zs)
part_written f d ys xs zs from width end within long is part ends reaches = record {
  written = λ k h l. elim (cases_lt k from) [
    | inl before ↦ before_part from width xs zs d k (omega arith) before ∙ is.written k before l
    | inr inside ↦
        let j = k - from in
        let e : from + j ≡ k = omega arith in
        let small : k < from + width = reaches k h l in
        ap (λ (n : ℕ). get_or (put_mid from width xs zs) n d) (sym e)
        ∙ (in_part from width xs zs d j (omega arith) long (omega arith)
        ∙ (part j (omega arith)
        ∙ (ap (f (from + j)) (is.rest (from + j) (omega arith))
        ∙ ap (λ (n : ℕ). f n (get_or ys n d)) e)))
  ];
  rest = λ k h. after_part from width xs zs d k (omega arith) long (omega arith) ∙ is.rest k (omega arith);
}
