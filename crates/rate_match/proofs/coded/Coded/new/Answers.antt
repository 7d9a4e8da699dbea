use Rattle.std.proofs.Common.{◌≡◌, ℕ, ◌+◌, ◌<◌, List, length, get_or, ◌++◌, ◌∷◌, [], map, take, refl, ap, sym, ◌∙◌, arith}
use Rattle.std.proofs.lemmas.List.{map_more, take_all}
use Rattle.std.proofs.lemmas.List.FromFn.{get_or-map-range_with_len}
use Rattle.lte_bits.specs.declared.block.Block.{Block}
use Rattle.lte_bits.specs.declared.block.Streams.{Streams}
use Rattle.model_sender.specs.Segmentation.{Plan, plan_of}
use Rattle.model_sender.specs.CodeBlocks.{block, blocks}
use Rattle.model_sender.specs.CodedStreams.{streams}
use Rattle.rate_match.proofs.BlockStreams.{blocks-count}
use Rattle.rate_match.proofs.coded.Coded.new.Goals as goal

-- the streams of one block more
streams_more : (payload : List ℕ) (i : ℕ) (s : Streams) (old new : List Streams) → i < (plan_of (length payload)).c → s ≡ streams (block (plan_of (length payload)) payload i)
    → old ≡ map streams (take i (blocks (plan_of (length payload)) payload)) → new ≡ old ++ s ∷ [] → new ≡ map streams (take (i + 1) (blocks (plan_of (length payload)) payload))
streams_more payload i s old new within made before push =
    let p : Plan = plan_of (length payload) in
    let bs : List Block = blocks p payload in
    let b : Block = block p payload i in
    let stands : b ≡ get_or bs i b = sym (get_or-map-range_with_len (block p payload) 0 p.c i i b within (let e : 0 + i ≡ i = omega arith in e)) in
    push
    ∙ ap (λ (xs : List Streams). xs ++ s ∷ []) before
    ∙ ap (λ (x : Streams). map streams (take i bs) ++ x ∷ []) (made ∙ ap streams stands)
    ∙ sym (map_more streams bs i b (let h : i < length bs = omega (arith, within, blocks-count p payload bs refl) in h))

pub loop-r-preserved : goal.loop-r-preserved
loop-r-preserved c =
    let payload = c.args.payload.now in
    let planned : c.plan.result ≡ plan_of (length payload) = c.plan.ensures ∙ ap (λ (xs : List ℕ). plan_of (length xs)) c.in_ok-blocks.ensures in
    record {
      same = c.in_ok-coded.ensures.payload ∙ c.loop-r.invariant.same;
      coded = streams_more payload c.loop-r.r c.in_ok-coded.coded c.loop-r.streams.items c.push.new.self.items
          (omega (arith, c.loop-r-test.true, ap (λ (q : Plan). q.c) c.count.view_is, ap (λ (q : Plan). q.c) planned))
          (c.in_ok-coded.ensures.streams ∙ ap (λ (xs : List ℕ). streams (block (plan_of (length xs)) xs c.loop-r.r)) c.loop-r.invariant.same)
          c.loop-r.invariant.coded c.in_ok-push.ensures.items;
    }

pub invariant_of-result : goal.invariant_of-result
invariant_of-result c =
    let payload = c.args.payload.now in
    let p : Plan = plan_of (length payload) in
    let planned : c.plan.result ≡ p = c.plan.ensures ∙ ap (λ (xs : List ℕ). plan_of (length xs)) c.in_ok-blocks.ensures in
    record {
      some = c.requires.some;
      few = c.requires.few;
      coded = c.loop-r.invariant.coded ∙ ap (map streams) (take_all c.loop-r.r (blocks p payload)
          (omega (arith, c.loop-r-test.false, blocks-count p payload (blocks p payload) refl, ap (λ (q : Plan). q.c) c.count.view_is, ap (λ (q : Plan). q.c) planned)));
    }
