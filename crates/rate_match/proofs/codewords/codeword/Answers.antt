use Rattle.std.proofs.Common.{◌≡◌, ℕ, ◌<◌, ◌≤◌, List, ◌++◌, length, flat_map, subst, sym, ap, ◌∙◌, arith}
use Rattle.std.specs.List.{range_with_len}
use Rattle.lte_bits.specs.declared.bit.Bit.{Bit}
use Rattle.lte_bits.specs.declared.block.Streams.{Streams}
use Rattle.model_sender.specs.Segmentation.{Plan, plan_of, size, fill}
use Rattle.model_sender.specs.CodeBlocks.{block}
use Rattle.model_sender.specs.CodedStreams.{streams}
use Rattle.model_sender.specs.CircularBuffer.{AreStreams}
use Rattle.model_sender.specs.Selection.{sent}
use Rattle.model_sender.specs.Codeword.{codeword}
use Rattle.model_sender.proofs.PlanLaws.{plan-sound}
use Rattle.rate_match.proofs.Lengths.{codeword-long}
use Rattle.rate_match.proofs.BlockStreams.{flat_map-more}
use Rattle.rate_match.proofs.CutPayload.{coded_streams}
use Rattle.rate_match.proofs.codewords.codeword.Goals as goal

pub push_piece-requires-clause-streams : goal.push_piece-requires-clause-streams
push_piece-requires-clause-streams c =
    let payload = c.args.payload.now in
    let r : ℕ = c.loop-r.r in
    let p : Plan = plan_of (length payload) in
    let planned : c.plan-plan.result ≡ p = c.plan-plan.ensures ∙ ap (λ (xs : List ℕ). plan_of (length xs)) c.in_ok-blocks.ensures in
    let is : c.in_ok-streams.streams ≡ streams (block p payload r) =
    c.in_ok-streams.ensures.streams ∙ ap (λ (xs : List ℕ). streams (block (plan_of (length xs)) xs r)) c.loop-r.invariant.same in
    let below : r < p.c = omega (arith, c.loop-r-test.true, ap (λ (q : Plan). q.c) c.plan.view_is, ap (λ (q : Plan). q.c) planned) in
    subst (λ (q : Plan). AreStreams (size q r) (fill q r) c.in_ok-streams.streams) (sym planned)
    (subst (λ (s : Streams). AreStreams (size p r) (fill p r) s) (sym is) (coded_streams payload r c.requires.some c.requires.few below))

pub loop-r-preserved : goal.loop-r-preserved
loop-r-preserved c =
    let payload = c.args.payload.now in
    let q : Plan = c.plan-plan.result in
    let p : Plan = plan_of (length payload) in
    let m = c.args.m.now in
    let rv = c.args.rv in
    let r : ℕ = c.loop-r.r in
    let old : List Bit = c.loop-r.bits.items in
    let planned : q ≡ p = c.plan-plan.ensures ∙ ap (λ (xs : List ℕ). plan_of (length xs)) c.in_ok-blocks.ensures in
    let is : c.in_ok-streams.streams ≡ streams (block p payload r) =
    c.in_ok-streams.ensures.streams ∙ ap (λ (xs : List ℕ). streams (block (plan_of (length xs)) xs r)) c.loop-r.invariant.same in
    record {
      same = c.in_ok-streams.ensures.payload ∙ c.loop-r.invariant.same;
      all =
          c.in_ok-push_piece.ensures
          ∙ ap (λ (s : Streams). old ++ sent q m s r rv) is
          ∙ ap (λ (n : Plan). old ++ sent n m (streams (block p payload r)) r rv) planned
          ∙ ap (λ (bits : List Bit). bits ++ sent p m (streams (block p payload r)) r rv) c.loop-r.invariant.all
          ∙ sym (flat_map-more (λ i. sent p m (streams (block p payload i)) i rv) r);
    }

pub returns-clause-codeword : goal.returns-clause-codeword
unfolding codeword
returns-clause-codeword c =
    let payload = c.args.payload.now in
    let p : Plan = plan_of (length payload) in
    let planned : c.plan-plan.result ≡ p = c.plan-plan.ensures ∙ ap (λ (xs : List ℕ). plan_of (length xs)) c.in_ok-blocks.ensures in
    let all : c.loop-r.r ≡ p.c = omega (arith, c.loop-r-test.false, c.loop-r.auto.r-end, ap (λ (n : Plan). n.c) c.plan.view_is, ap (λ (n : Plan). n.c) planned) in
    c.from_vec.ensures ∙ c.loop-r.invariant.all
    ∙ ap (λ (n : ℕ). flat_map (λ i. sent p c.args.m.now (streams (block p payload i)) i c.args.rv) (range_with_len 0 n)) all

pub returns-clause-long : goal.returns-clause-long
unfolding codeword
returns-clause-long c =
    let payload = c.args.payload.now in
    let some : 1 ≤ (plan_of (length payload)).c = (plan-sound (length payload) c.requires.some c.requires.few).some in
    ap (λ (bits : List Bit). length bits) (returns-clause-codeword c)
    ∙ codeword-long (plan_of (length payload)) payload c.args.m.now c.args.rv some c.g.ensures.lawful
