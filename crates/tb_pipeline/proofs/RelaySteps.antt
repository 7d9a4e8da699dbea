-- Each step keeps the rule of a relay.
use Rattle.std.proofs.Common.{◌≡◌, ◌≢◌, ℕ, zero, suc, ◌+◌, List, [], ◌∷◌, ◌++◌, Bool, false, drop, set, sym, subst, refl, ap, ◌∙◌, ⊎_elim, arith, length-append, length-set}
use lib.Seq.{drop-append-le}
use mathlib.Core.Option.{some, some-injective, some-ne-none}
use lib.ListN.{get_elem?}
use Rattle.crossbeam_queue.specs.Fifo.{Pushes, Pops, Forks}
use Rattle.atomic_table.proofs.Lists.{at_set, at_snoc}
use Rattle.tb_pipeline.specs.declared.known.Item.{Item}
use Rattle.tb_pipeline.specs.declared.known.Item.TheVariants.{Number, EndMark}
use Rattle.tb_pipeline.specs.declared.known.Role.TheVariants.{Filling, Filled, Taking}
use Rattle.tb_pipeline.specs.declared.known.Known.{Known}
use Rattle.tb_pipeline.specs.Relays.{AreInOrder, times, is_end_mark, IsEndAt, NoEndAt, EndsBy, filler, hand_of, IsFiller, IsRelayed, Popped, puts}
use Rattle.tb_pipeline.proofs.Lists.{above_each, total_set, total_snoc, total_at, times_append, once_more, none_above, first_left, no_end_snoc, only_one}

pub begins : IsRelayed [] (filler [] ∷ [])
begins = record {
  put = [];
  g = 0;
  in_order = (0, 0, refl);
  items_are = refl;
  within = omega arith;
  taken = λ x. sym (none_above x 0 (omega arith));
  knows = λ j v e. let is = only j v e in ap (λ (u : Known). u.all) (sym is);
  ends = λ j v e. let is = only j v e in subst (λ (u : Known). EndsBy u.ended u.all u.places) is tt;
  alone = λ j v e o. refl;
  hands_pop = λ j v e o. ap (λ (u : Known). u.places) (sym (only j v e));
}
  where
    only : (j : ℕ) (v : Known) → get_elem? (filler [] ∷ []) j ≡ some v → filler [] ≡ v
    only zero v e = some-injective (filler []) v e
    only (suc j) v e = absurd (some-ne-none v (sym e))

-- the list of places with that of the item that was popped
ends_more : (all : List Item) (places : List ℕ) (g : ℕ) (x : Item) → get_elem? all g ≡ some x → NoEndAt all places → EndsBy (is_end_mark x) all (places ++ g ∷ [])
ends_more all places g EndMark at before = (places, g, refl, at, before)
ends_more all places g (Number n) at before = no_end_snoc all places g (λ (is : IsEndAt all g). let other : Number n ≡ EndMark = some-injective (Number n) EndMark (sym at ∙ is) in cc) before

pub pops_one : (pass : ℕ) (v : Known) → v.role ≡ Taking → v.ended ≡ false → Pops IsRelayed pass v (Popped v)
pops_one pass v takes going_on x items views r at =
    let first = first_left r.g r.put items x r.items_are in
    let all_is : v.all ≡ r.put = r.knows pass v at in
    let here : get_elem? v.all r.g ≡ some x = ap (λ (l : List Item). get_elem? l r.g) all_is ∙ first.0 in
    let w : Known = record v { places = v.places ++ r.g ∷ []; ended = is_end_mark x } in
    let before : NoEndAt v.all v.places = subst (λ (b : Bool). EndsBy b v.all v.places) going_on (r.ends pass v at) in (
      w,
      record {
        put = r.put;
        g = r.g + 1;
        in_order = r.in_order;
        items_are = first.1 ∙ (let e : suc r.g ≡ r.g + 1 = omega arith in ap (λ (k : ℕ). drop k r.put) e);
        within = (let a = first.2 in omega arith);
        taken = λ y. let t = total_set (λ (u : Known). times y u.places) views pass v w at in let d = r.taken y in let o = once_more y r.g in let g = times_append y v.places (r.g ∷ []) in omega arith;
        knows = λ j u e. ⊎_elim (λ (q : (j ≡ pass) × (w ≡ u)). ap (λ (z : Known). z.all) (sym q.1) ∙ all_is) (λ (q : (j ≢ pass) × (get_elem? views j ≡ some u)). r.knows j u q.1)
            (at_set views pass j w u e);
        ends = λ j u e. ⊎_elim (λ (q : (j ≡ pass) × (w ≡ u)). subst (λ (z : Known). EndsBy z.ended z.all z.places) q.1 (ends_more v.all v.places r.g x here before))
            (λ (q : (j ≢ pass) × (get_elem? views j ≡ some u)). r.ends j u q.1) (at_set views pass j w u e);
        alone = λ j u e o. ⊎_elim (λ (q : (j ≡ pass) × (w ≡ u)). let f : Taking ≡ Filling = sym takes ∙ ap (λ (z : Known). z.role) q.1 ∙ o in cc)
            (λ (q : (j ≢ pass) × (get_elem? views j ≡ some u)). length-set views pass w ∙ r.alone j u q.1 o) (at_set views pass j w u e);
        hands_pop = λ j u e o. ⊎_elim (λ (q : (j ≡ pass) × (w ≡ u)). absurd (o (ap (λ (z : Known). z.role) (sym q.1) ∙ takes)))
            (λ (q : (j ≢ pass) × (get_elem? views j ≡ some u)). r.hands_pop j u q.1 o) (at_set views pass j w u e);
      },
      (
        refl,
        refl,
        refl,
        (
          r.g,
          refl,
          here,
          above_each v.places r.g (λ k le. let a = total_at (λ (u : Known). times k u.places) views pass v at in let b = r.taken k in let z = none_above k r.g le in omega arith),
        ),
      ),
    )

pub puts_one : (n pass : ℕ) (v : Known) (x : Item) → v.role ≡ Filling → AreInOrder (v.all ++ x ∷ []) → Pushes IsRelayed n pass v x (puts v x)
puts_one n pass v x fills order items views room r at =
    let w : Known = filler (r.put ++ x ∷ []) in let is = r.knows pass v at in let lone = r.alone pass v at fills in
    let none : v.places ≡ [] = r.hands_pop pass v at (λ o. let f : Filling ≡ Taking = sym fills ∙ o in cc) in (
      w,
      record {
        put = r.put ++ x ∷ [];
        g = r.g;
        in_order = subst (λ (l : List Item). AreInOrder (l ++ x ∷ [])) is order;
        items_are = ap (λ (l : List Item). l ++ x ∷ []) r.items_are ∙ sym (drop-append-le r.g r.put (x ∷ []) r.within);
        within = (let a = r.within in let b = length-append r.put (x ∷ []) in omega arith);
        taken = λ y. let t = total_set (λ (u : Known). times y u.places) views pass v w at in let d = r.taken y in let z : times y v.places ≡ 0 = ap (times y) none in omega arith;
        knows = λ j u e. ⊎_elim (λ (q : (j ≡ pass) × (w ≡ u)). ap (λ (z : Known). z.all) (sym q.1))
            (λ (q : (j ≢ pass) × (get_elem? views j ≡ some u)). absurd (q.0 (only_one views j pass u v lone q.1 at))) (at_set views pass j w u e);
        ends = λ j u e. ⊎_elim (λ (q : (j ≡ pass) × (w ≡ u)). subst (λ (z : Known). EndsBy z.ended z.all z.places) q.1 tt) (λ (q : (j ≢ pass) × (get_elem? views j ≡ some u)). r.ends j u q.1)
            (at_set views pass j w u e);
        alone = λ j u e o. length-set views pass w ∙ lone;
        hands_pop = λ j u e o. ⊎_elim (λ (q : (j ≡ pass) × (w ≡ u)). ap (λ (z : Known). z.places) (sym q.1)) (λ (q : (j ≢ pass) × (get_elem? views j ≡ some u)). r.hands_pop j u q.1 o)
            (at_set views pass j w u e);
      },
      (refl, ap (λ (l : List Item). l ++ x ∷ []) (sym is)),
    )

pub deals_one : (pass : ℕ) (v : Known) → IsFiller v → Forks IsRelayed pass v (record v { role = Filled }) (hand_of v)
deals_one pass v fills items views r at =
    let left : Known = record v { role = Filled } in let mid : List Known = set views pass left in
    record {
      put = r.put;
      g = r.g;
      in_order = r.in_order;
      items_are = r.items_are;
      within = r.within;
      taken = λ y. let t = total_set (λ (u : Known). times y u.places) views pass v left at in let s = total_snoc (λ (u : Known). times y u.places) mid (hand_of v) in let d = r.taken y in omega arith;
      knows = λ j u e. ⊎_elim (λ (m : get_elem? mid j ≡ some u). ⊎_elim (λ (q : (j ≡ pass) × (left ≡ u)). ap (λ (z : Known). z.all) (sym q.1) ∙ r.knows pass v at)
          (λ (q : (j ≢ pass) × (get_elem? views j ≡ some u)). r.knows j u q.1) (at_set views pass j left u m))
          (λ (q : hand_of v ≡ u). ap (λ (z : Known). z.all) (sym q) ∙ r.knows pass v at) (at_snoc mid (hand_of v) u j e);
      ends = λ j u e. ⊎_elim (λ (m : get_elem? mid j ≡ some u). ⊎_elim (λ (q : (j ≡ pass) × (left ≡ u)). subst (λ (z : Known). EndsBy z.ended z.all z.places) q.1 (r.ends pass v at))
          (λ (q : (j ≢ pass) × (get_elem? views j ≡ some u)). r.ends j u q.1) (at_set views pass j left u m))
          (λ (q : hand_of v ≡ u). subst (λ (z : Known). EndsBy z.ended z.all z.places) q tt) (at_snoc mid (hand_of v) u j e);
      alone = λ j u e o. ⊎_elim (λ (m : get_elem? mid j ≡ some u). ⊎_elim (λ (q : (j ≡ pass) × (left ≡ u)). let f : Filled ≡ Filling = ap (λ (z : Known). z.role) q.1 ∙ o in cc)
          (λ (q : (j ≢ pass) × (get_elem? views j ≡ some u)). absurd (q.0 (only_one views j pass u v (r.alone j u q.1 o) q.1 at))) (at_set views pass j left u m))
          (λ (q : hand_of v ≡ u). let f : Taking ≡ Filling = ap (λ (z : Known). z.role) q ∙ o in cc) (at_snoc mid (hand_of v) u j e);
      hands_pop = λ j u e o. ⊎_elim (λ (m : get_elem? mid j ≡ some u). ⊎_elim (λ (q : (j ≡ pass) × (left ≡ u)). ap (λ (z : Known). z.places) (sym q.1) ∙ r.hands_pop pass v at fills)
          (λ (q : (j ≢ pass) × (get_elem? views j ≡ some u)). r.hands_pop j u q.1 o) (at_set views pass j left u m))
          (λ (q : hand_of v ≡ u). ap (λ (z : Known). z.places) (sym q)) (at_snoc mid (hand_of v) u j e);
    }
