use Rattle.std.proofs.Common.{◌≡◌, ◌≢◌, ℕ, ◌<◌, ◌≤◌, List, [], length, set, ℤ, pos, neg_ℤ, ◌≤ℤ◌, sym, ◌∙◌, subst, inl, inr, to_z, of_z, w16, arith, rules}
use Rattle.std.proofs.lemmas.Bool.{cases_lt}
use Rattle.std.proofs.lemmas.Int.{ints}
use Rattle.std.proofs.lemmas.List.{get_or-set_same, get_or-set_other, get_or_read, length-set}
use Rattle.lte_bits.specs.Softs.{IsWithin}
use Rattle.model_receiver.specs.Borders.{at}
use Rattle.window_rows.specs.Rows.{row_at, AreWithin}
use Rattle.lock_step.specs.Vectors.{IsSmall}
use Rattle.test_receiver.proofs.lane_rows.rows.Goals as goal

-- a row within the bounds takes the place of one
set-within : (n b : ℕ) (rows : List (List ℤ)) (j : ℕ) (row : List ℤ) → AreWithin n b rows → IsSmall n b row → AreWithin n b (set rows j row)
set-within n b rows j row h here k t below lt =
    let inside : k < length rows = omega (arith, below, length-set rows j row) in
    elim (cases_lt k j) [
      | inl under ↦ other (λ e. omega (arith, under, e)) inside
      | inr upto ↦ elim (cases_lt j k) [
        | inl over ↦ other (λ e. omega (arith, over, e)) inside
        | inr down ↦ (let e : j ≡ k = omega (arith, upto, down) in
            subst (λ (i : ℕ). IsWithin b (at (row_at (set rows j row) i) t)) e
            (subst (λ (xs : List ℤ). IsWithin b (at xs t)) (sym (get_or-set_same rows j row [] (omega (arith, inside, e)))) (here t lt)))
      ]
    ]
  where
    other : k ≢ j → k < length rows → IsWithin b (at (row_at (set rows j row) k) t)
    other apart inside = subst (λ (xs : List ℤ). IsWithin b (at xs t)) (sym (get_or-set_other rows j k row [] apart)) (h k t inside lt)

-- a clamped number
passed-within : (b : ℕ) (x : ℤ) → b ≤ 511 → neg_ℤ (pos b) ≤ℤ x → x ≤ℤ pos b → IsWithin b (to_z w16 (of_z w16 x))
passed-within b x le p q = (omega (arith, ints), omega (arith, ints))

pub put-requires : goal.put-requires
put-requires g c =
    let whole : length c.in_ok-rows.rows.items ≡ length c.args.numbers.now = (let l = c.in_ok-rows.ensures.len in let k = c.in_ok-rows.rows.ok.0 in omega (arith, l, k)) in
    let inside : c.loop-j.j < length c.loop-j.rows.items = omega (arith, whole, c.loop-j-test.true, c.loop-j.invariant.long) in (
      search rules,
      (
        passed-within g.row.B c.clamp.result c.requires.bound (let p = c.clamp.ensures.lower_bound in omega (arith, ints, p, c.requires.bound))
            (let q = c.clamp.ensures.upper_bound in omega (arith, ints, q, c.requires.bound)),
        λ t lt. subst (λ (xs : List ℤ). IsWithin g.row.B (at xs t))
            (sym (get_or_read c.loop-j.rows.items c.loop-j.j c.index_mut.result.now inside c.index_mut.ensures.value []))
            (c.loop-j.invariant.within c.loop-j.j t inside lt),
      ),
    )

pub loop-j-preserved : goal.loop-j-preserved
loop-j-preserved g c = record {
  long = length-set c.loop-j.rows.items c.loop-j.j c.put.new.row ∙ c.loop-j.invariant.long;
  within = set-within g.row.N g.row.B c.loop-j.rows.items c.loop-j.j c.put.new.row c.loop-j.invariant.within c.put.ensures;
}
