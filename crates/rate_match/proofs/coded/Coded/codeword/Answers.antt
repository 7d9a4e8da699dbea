use Rattle.std.proofs.Common.{◌≡◌, ℕ, ◌≤◌, List, ◌++◌, length, flat_map, subst, sym, ap, ◌∙◌, arith}
use Rattle.std.specs.List.{range_with_len}
use Rattle.lte_bits.specs.declared.bit.Bit.{Bit}
use Rattle.lte_bits.specs.declared.block.Streams.{Streams}
use Rattle.model_sender.specs.Segmentation.{Plan, plan_of, size, fill}
use Rattle.model_sender.specs.CodeBlocks.{block}
use Rattle.model_sender.specs.CodedStreams.{streams}
use Rattle.model_sender.specs.CircularBuffer.{AreStreams, Fits}
use Rattle.model_sender.specs.Selection.{sent}
use Rattle.model_sender.specs.Codeword.{codeword}
use Rattle.model_sender.proofs.PlanLaws.{plan-sound}
use Rattle.rate_match.specs.Coded.{AreStreamsOf}
use Rattle.rate_match.proofs.Lengths.{codeword-long}
use Rattle.rate_match.proofs.BlockStreams.{flat_map-more}
use Rattle.rate_match.proofs.CodedPayload.{streams-at, streams-count}
use Rattle.rate_match.proofs.coded.Coded.codeword.Goals as goal

-- the loop goes over the streams of the payload, whose plan it has
record IsOver (p : Plan) (payload : List ℕ) (all : List Streams) : Type 0 where
  planned : p ≡ plan_of (length payload)
  of : AreStreamsOf payload all

is_over : (p : Plan) (payload view : List ℕ) (all lent : List Streams) → view ≡ payload → AreStreamsOf view all → lent ≡ all → p ≡ plan_of (length view) → IsOver p payload lent
is_over p payload view all lent is of lends planned =
    record {
      planned = planned ∙ ap (λ (xs : List ℕ). plan_of (length xs)) is;
      of = subst (λ (list : List Streams). AreStreamsOf payload list) (sym lends) (subst (λ (xs : List ℕ). AreStreamsOf xs all) is of);
    }

pub push_piece-requires-clause-block : goal.push_piece-requires-clause-block
push_piece-requires-clause-block c =
    let all = c.deref-streams-items.result.now in
    let over = is_over c.unwrap-plan.result c.args.self.now c.self.inside.payload.now c.self.inside.streams.items c.deref-streams-items.result.now
    c.self.view_is c.self.invariant c.deref-streams-items.ensures.value (rw c.unwrap-plan.ensures at c.plan.ensures.numbers) in
    omega (arith, ap (λ (q : Plan). q.c) over.planned, (streams-at c.args.self.now all c.loop-r.r c.streams-item.result over.of c.loop-r-test.true c.streams-item.is).below)

pub push_piece-requires-clause-streams : goal.push_piece-requires-clause-streams
push_piece-requires-clause-streams c =
    let all = c.deref-streams-items.result.now in
    let r : ℕ = c.loop-r.r in
    let over = is_over c.unwrap-plan.result c.args.self.now c.self.inside.payload.now c.self.inside.streams.items c.deref-streams-items.result.now
    c.self.view_is c.self.invariant c.deref-streams-items.ensures.value (rw c.unwrap-plan.ensures at c.plan.ensures.numbers) in
    subst (λ (q : Plan). AreStreams (size q r) (fill q r) c.streams-item.result) (sym over.planned)
    (streams-at c.args.self.now all r c.streams-item.result over.of c.loop-r-test.true c.streams-item.is).are

pub push_piece-requires-clause-fits : goal.push_piece-requires-clause-fits
push_piece-requires-clause-fits c =
    let over = is_over c.unwrap-plan.result c.args.self.now c.self.inside.payload.now c.self.inside.streams.items c.deref-streams-items.result.now
    c.self.view_is c.self.invariant c.deref-streams-items.ensures.value (rw c.unwrap-plan.ensures at c.plan.ensures.numbers) in
    subst (Fits c.args.m.now) (sym over.planned) c.requires.fits

pub loop-r-preserved : goal.loop-r-preserved
loop-r-preserved c =
    let payload = c.args.self.now in
    let all = c.deref-streams-items.result.now in
    let p : Plan = plan_of (length payload) in
    let m = c.args.m.now in
    let r : ℕ = c.loop-r.r in
    let over = is_over c.unwrap-plan.result c.args.self.now c.self.inside.payload.now c.self.inside.streams.items c.deref-streams-items.result.now
    c.self.view_is c.self.invariant c.deref-streams-items.ensures.value (rw c.unwrap-plan.ensures at c.plan.ensures.numbers) in
    let at = streams-at payload all r c.streams-item.result over.of c.loop-r-test.true c.streams-item.is in
    c.in_ok-push_piece.ensures
    ∙ ap (λ (q : Plan). c.loop-r.bits.items ++ sent q m c.streams-item.result r c.args.rv) over.planned
    ∙ ap (λ (s : Streams). c.loop-r.bits.items ++ sent p m s r c.args.rv) at.is
    ∙ ap (λ (bits : List Bit). bits ++ sent p m (streams (block p payload r)) r c.args.rv) c.loop-r.invariant
    ∙ sym (flat_map-more (λ i. sent p m (streams (block p payload i)) i c.args.rv) r)

pub returns-clause-codeword : goal.returns-clause-codeword
unfolding codeword
returns-clause-codeword c =
    let payload = c.args.self.now in
    let lent = c.deref-streams-items.result.now in
    let p : Plan = plan_of (length payload) in
    let over = is_over c.unwrap-plan.result c.args.self.now c.self.inside.payload.now c.self.inside.streams.items c.deref-streams-items.result.now
    c.self.view_is c.self.invariant c.deref-streams-items.ensures.value (rw c.unwrap-plan.ensures at c.plan.ensures.numbers) in
    let all : c.loop-r.r ≡ p.c = omega (arith, c.loop-r-test.false, c.loop-r.auto.r-end, streams-count payload lent over.of) in
    c.from_vec.ensures ∙ c.loop-r.invariant
    ∙ ap (λ (n : ℕ). flat_map (λ i. sent p c.args.m.now (streams (block p payload i)) i c.args.rv) (range_with_len 0 n)) all

pub returns-clause-long : goal.returns-clause-long
unfolding codeword
returns-clause-long c =
    let payload = c.args.self.now in
    let lent = c.self.inside.streams.items in
    let of : AreStreamsOf payload lent = subst (λ (xs : List ℕ). AreStreamsOf xs lent) c.self.view_is c.self.invariant in
    let some : 1 ≤ (plan_of (length payload)).c = (plan-sound (length payload) of.some of.few).some in
    ap (λ (bits : List Bit). length bits) (returns-clause-codeword c)
    ∙ codeword-long (plan_of (length payload)) payload c.args.m.now c.args.rv some c.g.ensures.lawful
