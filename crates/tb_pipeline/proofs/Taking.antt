-- What a hand has after it popped an item.
use Rattle.std.proofs.Common.{◌≡◌, ℕ, ◌+◌, ◌<◌, ◌≤◌, List, [], ◌∷◌, ◌++◌, sym, subst, ap, ◌∙◌, ⊎_elim}
use mathlib.Core.Option.{some}
use lib.ListN.{get_elem?}
use Rattle.tb_pipeline.specs.declared.known.Item.{Item}
use Rattle.tb_pipeline.specs.declared.known.Item.TheVariants.{Number, EndMark}
use Rattle.tb_pipeline.specs.declared.known.Known.{Known}
use Rattle.tb_pipeline.specs.Relays.{all_items, IsAbove, IsEndAt, Popped}
use Rattle.tb_pipeline.proofs.Lists.{at_place}

number_of : Item → ℕ
number_of (Number n) = n
number_of EndMark = 0

module _ (count hands : ℕ) (v w : Known) (all : v.all ≡ all_items count hands) where
  pub number_popped : (number : ℕ) → Popped v (Number number) w → (number < count) × IsAbove v.places number × (w.places ≡ v.places ++ number ∷ [])
  unfolding number_of
  number_popped number told =
      let t = told.3 in let g = t.0 in
      let at : get_elem? (all_items count hands) g ≡ some (Number number) = ap (λ (l : List Item). get_elem? l g) (sym all) ∙ t.2 in
      ⊎_elim (λ (p : (Number g ≡ Number number) × (g < count)). subst (λ (n : ℕ). (n < count) × IsAbove v.places n × (w.places ≡ v.places ++ n ∷ [])) (ap number_of p.0) (p.1, t.3, t.1))
      (λ (p : (EndMark ≡ Number number) × (count ≤ g) × (g < count + hands)). let f = p.0 in cc) (at_place count hands g (Number number) at)

  pub end_popped : Popped v EndMark w
      → (place : ℕ) × (count ≤ place) × (place < count + hands) × IsEndAt v.all place × IsAbove v.places place × (w.places ≡ v.places ++ place ∷ [])
  end_popped told =
      let t = told.3 in let g = t.0 in
      let at : get_elem? (all_items count hands) g ≡ some EndMark = ap (λ (l : List Item). get_elem? l g) (sym all) ∙ t.2 in
      ⊎_elim (λ (p : (Number g ≡ EndMark) × (g < count)). let f = p.0 in cc)
      (λ (p : (EndMark ≡ EndMark) × (count ≤ g) × (g < count + hands)). (g, p.1, p.2, t.2, t.3, t.1)) (at_place count hands g EndMark at)
