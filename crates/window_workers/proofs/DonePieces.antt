-- The pieces of a half, taken apart and put together.
use Rattle.std.proofs.Common.{◌≡◌, ℕ, zero, suc, ◌+◌, ◌<◌, ◌≤◌, List, [], ◌∷◌, length, map, refl, sym, ap, ◌∙◌, subst, arith}
use mathlib.Core.Option.{some}
use lib.ListN.{get_elem?}
use Rattle.std.specs.List.{range_with_len}
use Rattle.model_receiver.specs.HalfIteration.{Before, cells_in}
use Rattle.cell_shares.specs.declared.order.Order.{Order}
use Rattle.cell_shares.specs.Names.{Name}
use Rattle.cell_shares.specs.Deal.{deal}
use Rattle.cell_shares.specs.Shares.{share_label, share_values, AreAllOf}
use Rattle.phase_board.specs.Slots.{AllPieces}
use Rattle.window_workers.specs.declared.job.DecodingJob.{DecodingJob}
use Rattle.window_workers.specs.declared.piece.WindowPiece.{WindowPiece}
use Rattle.window_workers.specs.Orders.{IsOrderIn}
use Rattle.window_workers.specs.Jobs.{IsJob, before_half}
use Rattle.window_workers.specs.Pieces.{share_of, IsHeld, IsDone}
use Rattle.window_workers.specs.HalfEnds.{AreAllDone}
use Rattle.window_workers.proofs.Somes.{some-same}
use Rattle.window_workers.proofs.HalfCells.{cells-long}
use Rattle.window_workers.proofs.OrdersOfHalves.{same-order}
use Rattle.window_workers.proofs.SharesOfHalves.{dealt, dealt-cells}
use Rattle.half_iteration.proofs.Wholes.{are-whole}

-- what holds of each element of a list, by its index from a on
abbrev pub EachFrom : {X : Type 0} → (ℕ → X → Type 0) → ℕ → List X → Type 0
EachFrom F a xs = (i : ℕ) (x : _) → get_elem? xs i ≡ some x → F (a + i) x

rest-of_each : {X : Type 0} (F : ℕ → X → Type 0) (a : ℕ) (x : X) (xs : List X) → EachFrom F a (x ∷ xs) → EachFrom F (a + 1) xs
rest-of_each F a x xs each i y e = subst (λ (n : ℕ). F n y) (let s : a + suc i ≡ a + 1 + i = omega arith in s) (each (suc i) y e)

first-of_each : {X : Type 0} (F : ℕ → X → Type 0) (a : ℕ) (x : X) (xs : List X) → EachFrom F a (x ∷ xs) → F a x
first-of_each F a x xs each = subst (λ (n : ℕ). F n x) (let s : a + 0 ≡ a = omega arith in s) (each 0 x refl)

-- a list whose i-th element has the value f i has the values of f
pub mapped-from : {X Y : Type 0} (g : X → Y) (f : ℕ → Y) (a n : ℕ) (xs : List X) → length xs ≡ n → EachFrom (λ i x. g x ≡ f i) a xs
    → map g xs ≡ map f (range_with_len a n)
mapped-from g f a zero [] e each = refl
mapped-from g f a zero (x ∷ xs) e each = absurd (omega (arith, e))
mapped-from g f a (suc n) [] e each = absurd (omega (arith, e))
mapped-from g f a (suc n) (x ∷ xs) e each =
    ap (λ y. y ∷ map g xs) (first-of_each (λ i x. g x ≡ f i) a x xs each)
    ∙ ap (λ ys. f a ∷ ys) (mapped-from g f (a + 1) n xs (omega (arith, e)) (rest-of_each (λ i x. g x ≡ f i) a x xs each))

from-all : {X : Type 0} (F : ℕ → X → Type 0) (n : ℕ) (xs : List X) → AllPieces n F xs → EachFrom F 0 xs
from-all F n xs all i x e = subst (λ (m : ℕ). F m x) (let s : i ≡ 0 + i = omega arith in s) (all.1 i x e)

pub mapped : {X Y : Type 0} (g : X → Y) (f : ℕ → Y) (n : ℕ) (xs : List X) → AllPieces n (λ i x. g x ≡ f i) xs → map g xs ≡ map f (range_with_len 0 n)
mapped g f n xs all = mapped-from g f 0 n xs all.0 (from-all (λ i x. g x ≡ f i) n xs all)

inside : {X : Type 0} (xs : List X) (i : ℕ) (x : X) → get_elem? xs i ≡ some x → i < length xs
inside [] i x e = absurd (cc)
inside (y ∷ ys) zero x e = omega arith
inside (y ∷ ys) (suc i) x e = let h = inside ys i x e in omega (arith, h)

elem-map : {X Y : Type 0} (g : X → Y) (xs : List X) (i : ℕ) (x : X) → get_elem? xs i ≡ some x → get_elem? (map g xs) i ≡ some (g x)
elem-map g [] i x e = absurd (cc)
elem-map g (y ∷ ys) zero x e = ap (λ z. some (g z)) (some-same e)
elem-map g (y ∷ ys) (suc i) x e = elem-map g ys i x e

elem-range : {Y : Type 0} (f : ℕ → Y) (a n i : ℕ) → i < n → get_elem? (map f (range_with_len a n)) i ≡ some (f (a + i))
elem-range f a zero i lt = absurd (omega (arith, lt))
elem-range f a (suc n) zero lt = ap (λ m. some (f m)) (let e : a ≡ a + 0 = omega arith in e)
elem-range f a (suc n) (suc i) lt = elem-range f (a + 1) n i (omega (arith, lt)) ∙ ap (λ m. some (f m)) (let e : a + 1 + i ≡ a + suc i = omega arith in e)

pub long-map : {X Y : Type 0} (g : X → Y) (xs : List X) → length (map g xs) ≡ length xs
long-map g [] = refl
long-map g (x ∷ xs) = ap suc (long-map g xs)

long-range : (a n : ℕ) → length (range_with_len a n) ≡ n
long-range a zero = refl
long-range a (suc n) = ap suc (long-range (a + 1) n)

-- and the other way round: a list that has the values of f
pub told : {X Y : Type 0} (g : X → Y) (f : ℕ → Y) (n : ℕ) (xs : List X) → map g xs ≡ map f (range_with_len 0 n) → AllPieces n (λ i x. g x ≡ f i) xs
told g f n xs e =
    let long : length xs ≡ n = sym (long-map g xs) ∙ (ap length e ∙ (long-map f (range_with_len 0 n) ∙ long-range 0 n)) in (
      long,
      λ i x is. let h = inside xs i x is in
          some-same (sym (elem-map g xs i x is) ∙ (ap (λ ys. get_elem? ys i) e
          ∙ (elem-range f 0 n i (omega (arith, h, long)) ∙ ap (λ m. some (f m)) (let z : 0 + i ≡ i = omega arith in z)))),
    )

pub to_mapped : {X Y : Type 0} (g : X → Y) (n : ℕ) (F : ℕ → Y → Type 0) (xs : List X) (ys : List Y) → map g xs ≡ ys → AllPieces n F ys → AllPieces n (λ i x. F i (g x)) xs
to_mapped g n F xs ys e all =
    (sym (long-map g xs) ∙ (ap length e ∙ all.0), λ i x is. all.1 i (g x) (ap (λ zs. get_elem? zs i) (sym e) ∙ elem-map g xs i x is))

-- where there is an element, the first has it
pub first-of_all : {X : Type 0} (n : ℕ) (F : ℕ → X → Type 0) (xs : List X) → 0 < n → AllPieces n F xs → (x : X) × F 0 x
first-of_all n F [] lt all = absurd (let e = all.0 in omega (arith, e, lt))
first-of_all n F (x ∷ xs) lt all = (x, all.1 0 x refl)

-- what each element has implies, below the length
pub weaker : {X : Type 0} (n : ℕ) (F G : ℕ → X → Type 0) (xs : List X) → ((i : ℕ) (x : X) → i < n → F i x → G i x) → AllPieces n F xs → AllPieces n G xs
weaker n F G xs f all = (all.0, λ i x e. f i x (subst (λ (m : ℕ). i < m) all.0 (inside xs i x e)) (all.1 i x e))

source : {X Y : Type 0} (g : X → Y) (xs : List X) (i : ℕ) (y : Y) → get_elem? (map g xs) i ≡ some y → (x : X) × (get_elem? xs i ≡ some x) × (g x ≡ y)
source g [] i y e = absurd (cc)
source g (x ∷ xs) zero y e = (x, refl, some-same e)
source g (x ∷ xs) (suc i) y e = source g xs i y e

pub of_mapped : {X Y : Type 0} (g : X → Y) (n : ℕ) (F : ℕ → Y → Type 0) (xs : List X) → AllPieces n (λ i x. F i (g x)) xs → AllPieces n F (map g xs)
of_mapped g n F xs all = (long-map g xs ∙ all.0, λ i y e. let s = source g xs i y e in subst (F i) s.2 (all.1 i s.0 s.1))

module _ (job : DecodingJob) (h : ℕ) (order : Order) (lawful : IsJob job) (is : IsOrderIn job.shape.k h order) where
  abbrev pub label : ℕ → Name × (Order × ℕ)
  label t = (job.name, (order, t))

  label-is : (t : ℕ) (p : WindowPiece) → IsHeld job h t p → share_label p.share ≡ label t
  label-is t p held =
      let same : p.share.split.order ≡ order = same-order p.share.split.order order (held.order ∙ sym is) in
      λ i. (held.name i, (same i, held.number i))

  pub shares-of_held : (ps : List WindowPiece) → AllPieces job.shape.windows (λ t p. IsHeld job h t p) ps → AreAllOf job.name order (map share_of ps)
  shares-of_held ps held = (subst (λ (n : ℕ). 1 ≤ n) (sym lawful.windows) lawful.shape.some_windows, labels)
    where
      composed : (xs : List WindowPiece) → map share_label (map share_of xs) ≡ map (λ p. share_label p.share) xs
      composed [] = refl
      composed (x ∷ xs) = ap (λ l. share_label x.share ∷ l) (composed xs)

      labels : map share_label (map share_of ps) ≡ map label (range_with_len 0 job.name.windows)
      labels =
          composed ps ∙ (mapped (λ p. share_label p.share) label job.shape.windows ps
          (weaker job.shape.windows (λ t p. IsHeld job h t p) (λ t p. share_label p.share ≡ label t) ps (λ t p lt d. label-is t p d) held)
          ∙ ap (λ (n : ℕ). map label (range_with_len 0 n)) (sym lawful.windows))

  pub shares-of_done : (ps : List WindowPiece) → AreAllDone job h ps → AreAllOf job.name order (map share_of ps)
  shares-of_done ps done = shares-of_held ps (weaker job.shape.windows (λ t p. IsDone job h t p) (λ t p. IsHeld job h t p) ps (λ t p lt d. d.held) done)

  -- the cells of a half, dealt
  pub dealt-is : (b : Before) → length b.cells ≡ job.shape.k
      → deal order job.shape.windows b.cells ≡ map (cells_in job.shape h b) (range_with_len 0 job.shape.windows)
  dealt-is b long =
      by_range (dealt order job.shape b.cells) (cells_in job.shape h b) 0 job.shape.windows
      (λ t lt. dealt-cells job.shape h t order b (are-whole job.shape lawful.shape) (omega (arith, lt)) long is)
    where
      by_range : {X : Type 0} (f g : ℕ → X) (a n : ℕ) → ((t : ℕ) → t < a + n → f t ≡ g t) → map f (range_with_len a n) ≡ map g (range_with_len a n)
      by_range f g a zero same = refl
      by_range f g a (suc n) same =
          ap (λ x. x ∷ map f (range_with_len (a + 1) n)) (same a (omega arith))
          ∙ ap (λ xs. g a ∷ xs) (by_range f g (a + 1) n (λ t lt. same t (omega (arith, lt))))

  pub values-of_done : (ps : List WindowPiece) → AreAllDone job h ps
      → map share_values (map share_of ps) ≡ deal order job.shape.windows (before_half job (suc h)).cells
  values-of_done ps done =
      composed ps ∙ (mapped (λ p. share_values p.share) (cells_in job.shape h (before_half job (suc h))) job.shape.windows ps
      (weaker job.shape.windows (λ t p. IsDone job h t p) (λ t p. share_values p.share ≡ cells_in job.shape h (before_half job (suc h)) t) ps (λ t p lt d. d.cells) done)
      ∙ sym (dealt-is (before_half job (suc h)) (cells-long job.streams job.shape (suc h))))
    where
      composed : (xs : List WindowPiece) → map share_values (map share_of xs) ≡ map (λ p. share_values p.share) xs
      composed [] = refl
      composed (x ∷ xs) = ap (λ l. share_values x.share ∷ l) (composed xs)
