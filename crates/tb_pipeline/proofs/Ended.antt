-- What the rule says where a hand has ended.
use Rattle.std.proofs.Common.{◌≡◌, ℕ, ◌+◌, ◌<◌, ◌≤◌, List, Bool, sym, subst, ap, ◌∙◌, ⊎_elim, arith}
use mathlib.Core.Option.{some}
use lib.ListN.{get_elem?}
use Rattle.tb_pipeline.specs.declared.known.Item.{Item}
use Rattle.tb_pipeline.specs.declared.known.Item.TheVariants.{Number, EndMark}
use Rattle.tb_pipeline.specs.declared.known.Known.{Known}
use Rattle.tb_pipeline.specs.Relays.{all_items, times, times_taken, EndsBy, IsRelayed, SomeHasEnded}
use Rattle.tb_pipeline.proofs.Lists.{at_place, below_once, once_at, times_last, total_at}

module _ (items : List Item) (views : List Known) (state : IsRelayed items views) (count hands : ℕ) (some_has : SomeHasEnded count hands views) where
  -- the end mark that it popped is after the numbers
  pub numbers_popped : count < state.g
  numbers_popped =
      let j = some_has.0 in let v = some_has.1 in let here = some_has.2 in
      let by = subst (λ (b : Bool). EndsBy b v.all v.places) some_has.4 (state.ends j v here) in let last = by.1 in
      let mark : get_elem? (all_items count hands) last ≡ some EndMark = ap (λ (l : List Item). get_elem? l last) (sym some_has.3) ∙ by.3 in
      let once : 1 ≤ times last v.places = subst (λ (l : List ℕ). 1 ≤ times last l) (sym by.2) (times_last by.0 last) in
      let most = total_at (λ (u : Known). times last u.places) views j v here in let sum = state.taken last in
      let popped : last < state.g = below_once last state.g (omega arith) in
      ⊎_elim (λ (p : (Number last ≡ EndMark) × (last < count)). let f = p.0 in cc)
      (λ (p : (EndMark ≡ EndMark) × (count ≤ last) × (last < count + hands)). let past = p.1 in omega arith) (at_place count hands last EndMark mark)

  pub number_taken : (number : ℕ) → number < count → times_taken number views ≡ 1
  number_taken number below = let more = numbers_popped in state.taken number ∙ once_at number state.g (omega arith)
