use Rattle.std.proofs.Common.{◌≡◌, Bool, true, false, [], ◌∷◌, ◌++◌, Some, None, IsTrue, if◌then◌else◌, ap, sym, ◌∙◌, arith}
use Rattle.rate_match.specs.declared.sends.Sending.{Sending}
use Rattle.command_words.specs.Transmissions.{transmission_at, transmissions, is_multiple}
use Rattle.command_words.proofs.TransmissionsAsked.{chosen, unchosen, not_all, before_more, all_before_more, same_limit, as_many}
use Rattle.command_words.proofs.transmissions.transmissions_given.Goals as goal

pub returns-in-None : goal.returns-in-None
returns-in-None c =
    let a = c.args.asked.now in
    let i = c.loop-i.i in
    let off = unchosen (is_multiple (transmission_at a i)) (transmission_at a i) c.in-None.ensures.value in
    ap (λ (b : Bool). if b then Some (transmissions a) else None) (sym (not_all a i (let lt = c.loop-i-test.true in omega (arith, lt, c.len-i-end.ensures)) off))

pub returns-then-not-add : goal.returns-then-not-add
returns-then-not-add c =
    let a = c.args.asked.now in
    let i = c.loop-i.i in
    let next = chosen (is_multiple (transmission_at a i)) (transmission_at a i) c.in-Some.next c.in-Some.ensures.value in
    let sent = c.loop-i.invariant in
    let few = c.requires.given.rv.few in
    let added : IsTrue c.add.result = c.add.ensures.taken.1 (
      c.in-Some.ensures.version,
      (let lt = c.loop-i-test.true in omega (arith, as_many a i c.loop-i.sends sent.0, lt, few, c.len-i-end.ensures)),
      ap (λ (s : Sending). s.m.limit) next.1 ∙ same_limit a i c.loop-i.sends sent.2 sent.0,
    ) in
    absurd (let h : false ≡ true = sym c.if-not-add.true ∙ added in cc)

pub loop-i-preserved : goal.loop-i-preserved
loop-i-preserved c =
    let a = c.args.asked.now in
    let i = c.loop-i.i in
    let next = chosen (is_multiple (transmission_at a i)) (transmission_at a i) c.in-Some.next c.in-Some.ensures.value in
    let sent = c.loop-i.invariant in
    let added = c.add.ensures.added c.if-not-add.false in (
      added ∙ ap (λ (s : Sending). c.loop-i.sends ++ s ∷ []) next.1 ∙ before_more a i c.loop-i.sends sent.0,
      all_before_more a i sent.1 next.0,
      omega arith,
    )
