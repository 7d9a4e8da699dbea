use Rattle.std.proofs.Common.{◌≡◌, ℕ, ◌+◌, ◌<◌, ◌≤◌, List, length, sum_by, take, ap, ◌∙◌, arith}
use Rattle.std.proofs.lemmas.List.{take_all}
use Rattle.std.proofs.lemmas.Option.{slice_get_within}
use Rattle.rate_match.proofs.Matchings.{match-bounds}
use Rattle.rate_match.specs.declared.sends.Sending.{Sending}
use Rattle.gomzelat_c.specs.Tests.{byte_count}
use Rattle.gomzelat_c.proofs.OneByOne.{sum_more}
use Rattle.gomzelat_c.proofs.series.byte_count.Goals as goal

pub overflow_add-bytes : goal.overflow_add-bytes
overflow_add-bytes c =
    let s : Sending = record { m = c.at-m.result.0; rv = c.at-m.result.1 } in
    let below : c.loop-i.i < length c.args.sends.now = slice_get_within c.args.sends.now c.loop-i.i s c.at-m.ensures.value in
    omega (arith, below, c.at-m.ensures.lawful.few, c.loop-i.invariant.few, c.g.ensures.value, (match-bounds s.m c.g.ensures.lawful).few, c.div_ceil-bytes.ensures)

pub loop-i-preserved : goal.loop-i-preserved
loop-i-preserved c =
    let sends : List Sending = c.args.sends.now in
    let s : Sending = record { m = c.at-m.result.0; rv = c.at-m.result.1 } in
    let f : Sending → ℕ = λ x. byte_count x.m.g in
    let one = match-bounds s.m c.g.ensures.lawful in
    record {
      sum = (let e : c.loop-i.bytes + c.div_ceil-bytes.result ≡ sum_by f (take (c.loop-i.i + 1) sends) =
          omega (arith, c.loop-i.invariant.sum, c.g.ensures.value, c.div_ceil-bytes.ensures, sum_more f sends c.loop-i.i s c.at-m.ensures.value) in e);
      few = omega (arith, c.loop-i.invariant.few, c.g.ensures.value, one.few, c.div_ceil-bytes.ensures);
    }

pub returns : goal.returns
returns c =
    let sends : List Sending = c.args.sends.now in
    let f : Sending → ℕ = λ x. byte_count x.m.g in
    let all : length sends ≤ c.loop-i.i = omega (arith, c.loop-i-test.false, c.loop-i.auto.i-end, c.len-i-end.ensures.value) in
    c.loop-i.invariant.sum ∙ ap (sum_by f) (take_all c.loop-i.i sends all)
