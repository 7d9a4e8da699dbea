use Rattle.std.proofs.Common.{◌≡◌, ℕ, zero, suc, ◌+◌, ◌-◌, ◌<◌, List, [], ◌++◌, length, take, drop, replicate, append_assoc, refl, sym, ap, ◌∙◌, inl, inr, arith}
use Rattle.std.proofs.lemmas.Bool.{cases_lt}
use Rattle.lte_bits.specs.declared.bit.Bit.{Bit}
use Rattle.lte_bits.specs.declared.bit.Bit.TheVariants.{Zero}
use Rattle.lte_bits.specs.Packing.{unpacked}
use Rattle.model_sender.specs.CheckBits.{crc, crc24a}
use Rattle.model_sender.specs.Segmentation.{Plan, fill, plan_of}
use Rattle.model_sender.specs.CodeBlocks.{before, sequence, share}
use Rattle.segmentation.proofs.BlockShares.{carried, share-inside, share-last}
use Rattle.segmentation.proofs.OfPlans.{sound-plan}
use Rattle.segmentation.proofs.ToCut.{block_to_cut}
use Rattle.segmentation.proofs.transport.TransportBlock.share.Goals.{then-r-plan+in_ok-extend_from_slice, else-r-plan}
use Rattle.segmentation.proofs.transport.TransportBlock.share.Goals as goal

-- an empty list that is made longer
grown : (n len : ℕ) (old items : List Bit) → old ≡ [] → len ≡ 0 → items ≡ take n old ++ replicate (n - len) Zero → items ≡ replicate n Zero
grown n len old items none count is =
    is ∙ ap (λ (xs : List Bit). xs ++ replicate (n - len) Zero) (ap (take n) none ∙ nothing n)
    ∙ ap (λ (m : ℕ). replicate m Zero) (let e : n - len ≡ n = omega (arith, count) in e)
  where
    nothing : (n : ℕ) → take {A = Bit} n [] ≡ []
    nothing zero = refl
    nothing (suc n) = refl

not_last : (r n c : ℕ) → r < n → c ≡ n → (r + 1 ≡ c → ⊥) → r + 1 < n
not_last r n c below same none = elim (cases_lt (r + 1) n) [ inl h ↦ h | inr all ↦ absurd (none (omega (arith, all, below, same))) ]

pub overflow_add-r : goal.overflow_add-r
overflow_add-r c =
    let p : Plan = c.plan-plan.result in
    omega (arith, c.requires, ap (λ (x : Plan). x.c) c.plan-plan.ensures.value, (sound-plan p c.plan-plan.ensures.lawful).few)

pub returns : goal.returns
returns c =
    let view = c.args.self.now in
    let p : Plan = c.plan-plan.result in
    let planned = c.plan-plan.ensures.value in
    let count : c.plan.inside.c ≡ p.c = ap (λ (x : Plan). x.c) c.plan.view_is in
    let r : ℕ = c.args.r in
    let block = block_to_cut c.self.inside.plan p c.self.inside.payload.now view c.self.inside.check_bits r c.self.view_is c.self.invariant planned c.requires in
    let front : c.push_unpacked.new.bits.items ≡ replicate (fill p r) Zero ++ unpacked (carried p view r) =
    c.in_ok-push_unpacked.ensures
    ∙ (λ i. grown c.fill.result c.in_ok-bits.bits.len c.in_ok-bits.bits.items c.resize.new.self.items c.in_ok-bits.ensures.items c.in_ok-bits.ensures.len c.in_ok-resize.ensures.items i
    ++ unpacked (c.carried.ensures i))
    ∙ (λ i. replicate (c.fill.ensures i) Zero ++ unpacked (carried (sym planned i) view r)) in
    let back : take (share p r) (drop (before p r) (sequence p view)) ≡ take (share (plan_of (length view)) r) (drop (before (plan_of (length view)) r) (sequence (plan_of (length view)) view)) =
    ap (λ (x : Plan). take (share x r) (drop (before x r) (sequence x view))) planned in
    elim c.if-r-plan.branch [
      | then-r-plan+in_ok-extend_from_slice w ↦
          ap (λ v. v.items) w.bits-is
          ∙ w.in_ok-extend_from_slice.ensures.items
          ∙ (λ i. front i ++ block.check i)
          ∙ append_assoc (replicate (fill p r) Zero) (unpacked (carried p view r)) (crc crc24a (unpacked view))
          ∙ sym (share-last p view r block.lawful block.long (w.if-r-plan.true ∙ count))
          ∙ back
      | else-r-plan w ↦
          ap (λ v. v.items) w.bits-is
          ∙ front
          ∙ sym (share-inside p view r block.lawful block.long (not_last r p.c c.plan.inside.c block.below count w.if-r-plan.false))
          ∙ back
    ]
