-- The lists that are made for a code block.
use Rattle.std.proofs.Common.{◌≡◌, ℕ, ℤ, ◌<◌, ◌≤◌, List, [], ◌∷◌, length, get_or, map, refl, ap, ◌∙◌, arith, Contains}
use Rattle.std.specs.List.{range_with_len}
use Rattle.std.proofs.lemmas.List.FromFn.{length-map-range_with_len, get_or-map-range_with_len}
use Rattle.lte_bits.specs.declared.block.SoftStreams.{SoftStreams}
use Rattle.model_sender.specs.Interleaver.{sizes, place}
use Rattle.model_receiver.specs.Borders.{at}
use Rattle.model_receiver.specs.HalfIteration.{Shape, systematic_at}
use Rattle.half_iteration.specs.Views.{by_position}
use Rattle.half_iteration.proofs.Orders.{place-below}

pub map-of_map : {X Y Z : Type 0} (f : Y → Z) (g : X → Y) (xs : List X) → map f (map g xs) ≡ map (λ x. f (g x)) xs
map-of_map f g [] = refl
map-of_map f g (x ∷ xs) = ap (λ ys. f (g x) ∷ ys) (map-of_map f g xs)

pub picks-below : (k n : ℕ) (places : List ℕ) → Contains sizes k → places ≡ map (place k) (range_with_len 0 k) → k ≤ n
    → (i : ℕ) → i < length places → get_or places i 0 < n
picks-below k n places size e le i lt =
    let long : length places ≡ k = ap length e ∙ length-map-range_with_len (place k) 0 k in
    let p : get_or places i 0 ≡ place k i = ap (λ (xs : List ℕ). get_or xs i 0) e ∙ get_or-map-range_with_len (place k) 0 k i i 0 (omega (arith, long)) (omega arith) in
    omega (arith, p, place-below k i size)

pub picked-is : (soft : SoftStreams) (shape : Shape) (places : List ℕ) (values : List ℤ) → places ≡ by_position shape (place shape.k)
    → values ≡ map (at soft.d0) places → values ≡ by_position shape (systematic_at soft shape.k 1)
picked-is soft shape places values ep ev =
    ev ∙ (ap (map (at soft.d0)) ep ∙ map-of_map (at soft.d0) (place shape.k) (range_with_len 0 shape.k))
