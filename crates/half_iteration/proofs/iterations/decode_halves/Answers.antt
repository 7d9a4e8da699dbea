use Rattle.std.proofs.Common.{◌≡◌, ◌+◌, ◌-◌, true, false, List, length, take, drop, ◌++◌, refl, sym, ap, ◌∙◌, arith, rules}
use Rattle.lte_bits.specs.declared.bit.Bit.{Bit}
use Rattle.model_receiver.specs.Decoding.{decided_in, check_holds}
use Rattle.half_iteration.proofs.Parts.{written}
use Rattle.half_iteration.proofs.Stopping.{before-none, before-iteration, left-by_iteration, decided-by_iteration, fail-more, check-is, decode-passed, decode-failed}
use Rattle.half_iteration.proofs.iterations.decode_halves.Goals as goal

pub loop-n-init : goal.loop-n-init
loop-n-init g c =
    let soft = g.H.HalfDecoder.streams c.args.decoder in let shape = c.args.shape.now in
    record {
      end = omega (arith, c.limit-n-end.ensures.value);
      some = omega arith;
      streams = refl;
      shape = c.requires.shape;
      stands = c.requires.opening ∙ sym (before-none soft shape);
      failed = λ m some lt. absurd (omega (arith, some, lt));
      room = search rules;
      last = λ lt. absurd (omega (arith, lt));
    }

pub loop-n-preserved : goal.loop-n-preserved
loop-n-preserved g c =
    let soft = g.H.HalfDecoder.streams c.args.decoder in let shape = c.args.shape.now in
    let l = c.loop-n in let inv = l.invariant in let it = c.iteration-decoder.ensures in
    let r = c.iteration-decoder.result in
    let stands = left-by_iteration (g.H.HalfDecoder.streams l.decoder) soft (g.H.HalfDecoder.shape l.decoder) shape l.n (g.H.HalfDecoder.before l.decoder) (g.H.HalfDecoder.before r)
    inv.streams inv.shape inv.some inv.stands it.before in
    let decided = decided-by_iteration soft (g.H.HalfDecoder.shape r) shape l.n (g.H.HalfDecoder.before r) c.decide.new.bits (it.shape ∙ inv.shape) stands c.decide.ensures in
    let long : length c.decide.new.bits ≡ length l.bits.items = c.decide.auto.bits ∙ ap length c.as_mut_slice.ensures.value in
    let wrote = written l.bits.len c.decide.new.bits l.bits.items (long ∙ sym l.bits.ok.0) in
    let fails : check_holds shape.kind (decided_in soft shape l.n) ≡ false =
    ap (λ k. check_holds k (decided_in soft shape l.n)) (sym c.kind.ensures.value)
    ∙ (ap (check_holds c.kind.result) (sym (c.as_slice.ensures.value ∙ (wrote ∙ decided)))
    ∙ (check-is c.holds.result c.kind.result c.as_slice.result.now c.holds.ensures ∙ c.if-holds.false)) in
    record {
      end = inv.end;
      some = omega arith;
      streams = it.streams ∙ inv.streams;
      shape = it.shape ∙ inv.shape;
      stands = stands ∙ before-iteration soft shape l.n inv.some;
      failed = fail-more soft shape l.n inv.failed fails;
      room = ap length wrote ∙ (long ∙ inv.room);
      last = λ _. wrote ∙ (decided ∙ ap (decided_in soft shape) (let e : l.n ≡ l.n + 1 - 1 = omega arith in e));
    }

pub returns-then-holds : goal.returns-then-holds
returns-then-holds g c =
    let soft = g.H.HalfDecoder.streams c.args.decoder in let shape = c.args.shape.now in
    let l = c.loop-n in let inv = l.invariant in let it = c.iteration-decoder.ensures in
    let r = c.iteration-decoder.result in
    let stands = left-by_iteration (g.H.HalfDecoder.streams l.decoder) soft (g.H.HalfDecoder.shape l.decoder) shape l.n (g.H.HalfDecoder.before l.decoder) (g.H.HalfDecoder.before r)
    inv.streams inv.shape inv.some inv.stands it.before in
    let decided = decided-by_iteration soft (g.H.HalfDecoder.shape r) shape l.n (g.H.HalfDecoder.before r) c.decide.new.bits (it.shape ∙ inv.shape) stands c.decide.ensures in
    let long : length c.decide.new.bits ≡ length l.bits.items = c.decide.auto.bits ∙ ap length c.as_mut_slice.ensures.value in
    let wrote = written l.bits.len c.decide.new.bits l.bits.items (long ∙ sym l.bits.ok.0) in
    let bits : List Bit = take l.bits.len (c.decide.new.bits ++ drop (length c.decide.new.bits) l.bits.items) in
    let passes : check_holds shape.kind bits ≡ true =
    ap (λ k. check_holds k bits) (sym c.kind.ensures.value)
    ∙ (ap (check_holds c.kind.result) (sym c.as_slice.ensures.value)
    ∙ (check-is c.holds.result c.kind.result c.as_slice.result.now c.holds.ensures ∙ c.if-holds.true)) in
    c.result_in.ensures
    ∙ decode-passed soft shape c.f-fill.result l.n bits c.f-fill.ensures.value inv.some (omega (arith, inv.end, c.loop-n-test.true, c.limit-n-end.ensures.value))
    (wrote ∙ decided) passes inv.failed

pub returns : goal.returns
returns g c =
    let soft = g.H.HalfDecoder.streams c.args.decoder in let shape = c.args.shape.now in
    let l = c.loop-n in let inv = l.invariant in
    let some = c.k.ensures.lawful.some_iterations in
    let past : l.n ≡ shape.limit + 1 = omega (arith, inv.end, c.loop-n-test.false, l.auto.n-end, some, c.limit-n-end.ensures.value) in
    c.result_in-2.ensures
    ∙ decode-failed soft shape c.f-fill.result c.limit.result l.bits.items c.f-fill.ensures.value (omega (arith, some, c.limit.ensures.value)) c.limit.ensures.value
    (inv.last (omega (arith, past, some)) ∙ ap (decided_in soft shape) (let e : l.n - 1 ≡ c.limit.result = omega (arith, past, c.limit.ensures.value) in e))
    (λ m least lt. inv.failed m least (omega (arith, past, lt, c.limit.ensures.value)))
