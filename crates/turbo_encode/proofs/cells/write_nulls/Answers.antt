use Rattle.std.proofs.Common.{◌≢◌, ◌<◌, length, get_or, get_or-set_other, get_or-set_same, below_more, sym, ap, ◌∙◌, inl, inr, refl, arith}
use Rattle.std.specs.Prelude.{nat_lt, if◌then◌else◌}
use Rattle.std.proofs.lemmas.Bool.{cases_lt, lt-ltb, le-ltb}
use Rattle.std.proofs.lemmas.List.FromFn.{fill_by_all}
use Rattle.lte_bits.specs.declared.bit.Cell.TheVariants.{Null}
use Rattle.turbo_encode.proofs.cells.write_nulls.Goals as goal

pub loop-i-preserved : goal.loop-i-preserved
loop-i-preserved c =
    let i = c.loop-i.i in
    record {
      written = below_more _ _
          (λ k h. let ne : k ≢ i = omega arith in rw get_or-set_other (c.loop-i.invariant.written k h))
          (let lt : i < length c.loop-i.cells = omega arith in rw get_or-set_same refl);
      kept = λ k h. let ne : k ≢ i = omega arith in rw get_or-set_other (c.loop-i.invariant.kept k (omega (arith, h)));
    }

pub returns : goal.returns
returns c =
    let old = c.args.cells.now in
    let fill = c.args.fill in
    let loop = c.loop-i in
    fill_by_all (λ k. if nat_lt k fill then Null else get_or old k Null) loop.cells (length old) Null (omega arith)
    (λ k h. elim (cases_lt k fill) [
      | inl below ↦ loop.invariant.written k (omega (arith, below, h)) ∙ sym (ap (λ t. if t then Null else get_or old k Null) (lt-ltb k fill below))
      | inr above ↦ loop.invariant.kept k (omega (arith, above, h)) ∙ sym (ap (λ t. if t then Null else get_or old k Null) (le-ltb k fill above))
    ])
