-- What calls leave from transmission to transmission is what the definition has.
use Rattle.std.proofs.Common.{◌≡◌, ℕ, zero, suc, ◌+◌, ◌<◌, ◌≤◌, ℤ, pos, Bool, true, false, not, cond, ◌==◌, List, [], ◌∷◌, ◌++◌, length, map, take, drop, get_or, replicate, flat_map, fold, refl, sym, ap, ◌∙◌, arith}
use Rattle.std.specs.List.{range_with_len, sum, sum_by}
use Rattle.std.specs.Prelude.{Option, None, Some, unwrap_or}
use Rattle.std.proofs.Math.ListN as lists
use Rattle.std.proofs.Math.Seq.{drop-length}
use Rattle.std.proofs.lemmas.Int.{ints, clamps}
use Rattle.std.proofs.lemmas.List.{drop-map, get_or-map, get_or-drop, get_or-replicate, get_or-take, get_or_append_left, length-append, length-map, length-replicate, take-map, append-nil}
use Rattle.std.proofs.lemmas.List.Folds.{flat_map-map}
use Rattle.std.proofs.lemmas.List.FromFn.{fill_by_all, get_or-map-range_with_len}
use Rattle.std.proofs.lemmas.List.Sums.{sum-map}
use Rattle.lte_bits.specs.Bits.{bit_of, digit}
use Rattle.lte_bits.specs.Softs.{IsWithin, clamped}
use Rattle.lte_bits.specs.declared.bit.Bit.{Bit}
use Rattle.lte_bits.specs.declared.bit.Bit.TheVariants.{Zero, One}
use Rattle.model_sender.specs.Segmentation.{Plan, plan_of, size}
use Rattle.model_sender.specs.declared.spot.Spot.{Spot}
use Rattle.model_receiver.specs.SoftCells.{Reception, added, reception, soft_cell, values_for}
use Rattle.model_receiver.specs.declared.result.CodeResult.{CodeResult}
use Rattle.model_receiver.specs.declared.result.TbOutcome.{TbOutcome}
use Rattle.model_receiver.specs.declared.result.TbOutcome.TheVariants.{Delivered, Failed}
use Rattle.model_receiver.specs.Limits.{DecoderLimits}
use Rattle.model_receiver.specs.TransportBlocks.{Held, all_passed, block_result, delivers, held_after, if_passed, iterations_of, outcome, outcome_from, payload_of, tried, tried_block}
use Rattle.rate_match.specs.declared.sends.Sending.{Sending}
use Rattle.segmentation.specs.Shape.{AreBlocksOf}
use Rattle.segmentation.proofs.OfPlans.{is_plan}
use Rattle.soft_buffers.specs.Buffers.{Buffers, Hold, cell_index, cell_of, cells_of_block}
use Rattle.soft_buffers.specs.Parts.{before, part}
use Rattle.soft_buffers.specs.Flat.{by_block, cell_count, cells_in, combined}
use Rattle.soft_buffers.proofs.Adding.{index-below}
use Rattle.soft_buffers.proofs.Codewords.{hold-more}
use Rattle.soft_buffers.proofs.FlatCells.{by_block-at, combined-taken}
use Rattle.soft_buffers.proofs.PartLaws.{part-is}
use Rattle.rate_match.proofs.BlockNumbers.{block-numbers}
use Rattle.block_receive.specs.Receptions.{receptions}
use Rattle.block_receive.specs.Held.{IsShaped}
use Rattle.block_receive.proofs.BlockResults.{AreLawful, held-at, tried-at, tried-long, unpassed}
use Rattle.block_receive.proofs.ShapedBlocks.{AreShaped, blocks-count, blocks-shaped, from-received, from-shaped}
use Rattle.gomzelat_c.specs.Buffers.{with_front}
use Rattle.gomzelat_c.specs.Receiving.{received}
use Rattle.gomzelat_c.specs.Rounds.{State, by_calls, decoded, fresh, results_of, with_transmission}
use Rattle.gomzelat_c.specs.State.{bit_count, cells_of, digits_of, entry_of, kept, kept_result, no_entry}
use Rattle.gomzelat_c.specs.Steps.{came, limits_of}
use Rattle.gomzelat_c.specs.Transmissions.{limit_in, transmission_of, transmissions_of}
use Rattle.gomzelat_c.specs.declared.receiver.Receiver.{Receiver}
use Rattle.gomzelat_c.specs.declared.state.CodeBlock.{CodeBlock}
use Rattle.gomzelat_c.specs.declared.transmission.Transmission.{Transmission}
use Rattle.gomzelat_c.proofs.KeptBlocks.{digits-long, kept-shaped, result-is}

-- ---- cells that are read again

within-added : (c v : ℤ) → IsWithin 127 (added c v)
within-added c v = omega (arith, ints, clamps)

within-fold : (vs : List ℤ) (c : ℤ) → IsWithin 127 c → IsWithin 127 (fold added c vs)
within-fold [] c is = is
within-fold (v ∷ vs) c is = within-fold vs (added c v) (within-added c v)

clamped-same : (c : ℤ) → IsWithin 127 c → clamped 127 c ≡ c
clamped-same c is = omega (arith, ints, clamps, is.0, is.1)

soft-within : (plan : Plan) (xs : List Reception) (r : ℕ) (s : Spot) → clamped 127 (soft_cell plan xs r s) ≡ soft_cell plan xs r s
soft-within plan xs r s = clamped-same (soft_cell plan xs r s) (within-fold (values_for plan xs r s) (pos 0) (omega (arith, ints)))

part-map : {X Y : Type 0} (f : X → Y) (long : ℕ → ℕ) (xs : List X) (r : ℕ) → part long (map f xs) r ≡ map f (part long xs r)
part-map f long xs r = ap (take (long r)) (drop-map f (before long r) xs) ∙ take-map f (long r) (drop (before long r) xs)

cell-read : (plan : Plan) (cells : List ℤ) (r : ℕ) (s : Spot) → r < plan.c
    → cell_of (size plan r) (cells_of_block (cells_of plan cells) r) s ≡ clamped 127 (cell_of (size plan r) (cells_of_block (by_block plan cells) r) s)
cell-read plan cells r s below =
    let n : ℕ = cell_index (size plan r) s in
    ap (λ (cs : List ℤ). get_or cs n (pos 0)) (by_block-at plan (map (clamped 127) cells) r below ∙ part-map (clamped 127) (cells_in plan) cells r)
    ∙ lists.get_or-map (clamped 127) (part (cells_in plan) cells r) n (pos 0)
    ∙ ap (λ (cs : List ℤ). clamped 127 (get_or cs n (pos 0))) (sym (by_block-at plan cells r below))

-- cells as buffers
abbrev buffers : Plan → List ℤ → Buffers
buffers plan cells = record { plan = plan; limit = None; cells = cells_of plan cells }

hold-next : (plan : Plan) (cells tail : List ℤ) (xs : List Reception) (x : Reception) → Hold (buffers plan cells) xs
    → Hold (buffers plan (combined plan x (map (clamped 127) cells) ++ tail)) (xs ++ x ∷ [])
hold-next plan cells tail xs x hold r below s is =
    let old : List ℤ = map (clamped 127) cells in
    let new : List ℤ = combined plan x old ++ tail in
    let now : List Reception = xs ++ x ∷ [] in
    cell-read plan new r s below
    ∙ ap (clamped 127) (hold-more (buffers plan cells) (by_block plan new) xs x (combined-taken plan x old tail) hold r below s is)
    ∙ soft-within plan now r s

zero-read : (n i : ℕ) → get_or (replicate n (pos 0)) i (pos 0) ≡ pos 0
zero-read zero i = refl
zero-read (suc n) zero = refl
zero-read (suc n) (suc i) = zero-read n i

hold-fresh : (plan : Plan) → Hold (buffers plan (replicate (cell_count plan) (pos 0))) []
hold-fresh plan r below s is =
    let cells : List ℤ = replicate (cell_count plan) (pos 0) in
    let n : ℕ = cell_index (size plan r) s in
    let first : ℕ = before (cells_in plan) r in
    cell-read plan cells r s below
    ∙ ap (clamped 127)
    (ap (λ (cs : List ℤ). get_or cs n (pos 0)) (by_block-at plan cells r below)
    ∙ get_or-take (cells_in plan r) (drop first cells) n (pos 0) (index-below (size plan r) s is)
    ∙ get_or-drop first cells n (pos 0)
    ∙ zero-read (cell_count plan) (first + n))

-- ---- what is kept of results

bits-again : (bits : List Bit) → map bit_of (map digit bits) ≡ bits
bits-again [] = refl
bits-again (Zero ∷ bits) = ap (λ bs. Zero ∷ bs) (bits-again bits)
bits-again (One ∷ bits) = ap (λ bs. One ∷ bs) (bits-again bits)

passed-again : (b : Bool) → not (cond b 1 0 == 0) ≡ b
passed-again true = refl
passed-again false = refl

digits-part : (plan : Plan) (results : List CodeResult) (tail : List ℕ) (r : ℕ) → AreBlocksOf plan (map (λ x. x.block) results) → r < plan.c
    → part (size plan) (digits_of results ++ tail) r ≡ map digit (get_or results r unpassed).block.bits
digits-part plan results tail r are below =
    let g : ℕ → List ℕ = λ q. map digit (get_or results q unpassed).block.bits in
    let shaped : AreShaped plan results = blocks-shaped plan results are in
    let listed : results ≡ map (λ q. get_or results q unpassed) (range_with_len 0 plan.c) = fill_by_all
    (λ q. get_or results q unpassed) results plan.c unpassed (blocks-count plan results are) (λ q less. refl) in
    let flat : digits_of results ≡ flat_map g (range_with_len 0 plan.c) = ap digits_of listed ∙ flat_map-map (λ x. map digit x.block.bits) (λ q. get_or results q unpassed) (range_with_len 0 plan.c) in
    ap (λ (ds : List ℕ). part (size plan) (ds ++ tail) r) flat
    ∙ part-is (size plan) g plan.c tail (λ q less. length-map (get_or results q unpassed).block.bits digit ∙ (let h = shaped q less in h.long)) r below

entry-at : (results : List CodeResult) (tail : List CodeBlock) (r : ℕ) → r < length results → get_or (map entry_of results ++ tail) r no_entry ≡ entry_of (get_or results r unpassed)
entry-at results tail r inside =
    get_or_append_left (map entry_of results) tail no_entry r (omega (arith, inside, length-map results entry_of))
    ∙ get_or-map entry_of results r unpassed no_entry inside

pub kept-again : (plan : Plan) (results : List CodeResult) (blocks : List CodeBlock) (bits : List ℕ) → AreBlocksOf plan (map (λ x. x.block) results)
    → kept plan (map entry_of results ++ blocks) (digits_of results ++ bits) ≡ results
unfolding kept
kept-again plan results blocks bits are =
    sym (fill_by_all (kept_result plan (map entry_of results ++ blocks) (digits_of results ++ bits)) results plan.c unpassed (blocks-count plan results are)
    (λ r below.
    let x : CodeResult = get_or results r unpassed in
    let entry = entry-at results blocks r (omega (arith, below, blocks-count plan results are)) in
    let shaped : IsShaped plan r x = blocks-shaped plan results are r below in
    sym (result-is (sym shaped.fill)
    (ap (map bit_of) (digits-part plan results bits r are below) ∙ bits-again x.block.bits)
    (ap (λ (e : CodeBlock). e.iterations) entry)
    (ap (λ (e : CodeBlock). not (e.passed == 0)) entry ∙ passed-again x.passed))))

iterations-again : (xs : List CodeResult) → map (λ b. b.iterations) (map entry_of xs) ≡ map (λ x. x.iterations) xs
iterations-again [] = refl
iterations-again (x ∷ xs) = ap (λ ns. x.iterations ∷ ns) (iterations-again xs)

total-again : (xs : List CodeResult) → sum_by (λ b. b.iterations) (map entry_of xs) ≡ iterations_of xs
total-again xs = sym (sum-map (λ (b : CodeBlock). b.iterations) (map entry_of xs)) ∙ ap sum (iterations-again xs) ∙ sum-map (λ (x : CodeResult). x.iterations) xs

-- ---- what a caller has after some receptions, of which these results were the last

record IsReached (bytes : ℕ) (xs : List Reception) (last : List CodeResult) (s : State) : Type 0 where
  hold : Hold (buffers (plan_of bytes) s.cells) xs
  blocks_long : length s.blocks ≡ (plan_of bytes).c
  bits_long : bit_count (plan_of bytes) ≤ length s.bits
  held : (r : ℕ) → r < (plan_of bytes).c → get_or (held_after (kept (plan_of bytes) s.blocks s.bits)) r None ≡ get_or (held_after last) r None
  total : sum_by (λ b. b.iterations) s.blocks ≡ iterations_of last

none-kept : (plan : Plan) (bits : List ℕ) (r : ℕ) → r < plan.c → get_or (held_after (kept plan (replicate plan.c no_entry) bits)) r None ≡ None
unfolding kept
none-kept plan bits r below = by_test (all_passed results)
  where
    blocks : List CodeBlock
    blocks = replicate plan.c no_entry

    results : List CodeResult
    results = map (kept_result plan blocks bits) (range_with_len 0 plan.c)

    fails : not ((get_or blocks r no_entry).passed == 0) ≡ false
    fails = ap (λ (e : CodeBlock). not (e.passed == 0)) (get_or-replicate plan.c r no_entry no_entry below)

    by_test : (b : Bool) → get_or (cond b [] (map if_passed results)) r None ≡ None
    by_test true = refl
    by_test false =
        held-at results r
        ∙ ap if_passed (get_or-map-range_with_len (kept_result plan blocks bits) 0 plan.c r r unpassed below (omega arith))
        ∙ ap (λ (b : Bool). cond b (Some (kept_result plan blocks bits r)) None) fails

no-iterations : (n : ℕ) → sum_by (λ b. b.iterations) (replicate n no_entry) ≡ 0
no-iterations zero = refl
no-iterations (suc n) = no-iterations n

reached-first : (bytes : ℕ) → IsReached bytes [] [] (fresh bytes)
reached-first bytes =
    let plan : Plan = plan_of bytes in
    record {
      hold = hold-fresh plan;
      blocks_long = length-replicate plan.c no_entry;
      bits_long = omega (arith, length-replicate {A = ℕ} (bit_count plan) 0);
      held = λ r below. none-kept plan (replicate (bit_count plan) 0) r below;
      total = no-iterations plan.c;
    }

-- what a receiver may be told
record MayReceive (bytes : ℕ) (r : Receiver) : Type 0 where
  some : 1 ≤ bytes
  few : bytes ≤ 18722
  some_iterations : 1 ≤ r.limit
  few_iterations : r.limit ≤ 16

lawful-of : (bytes : ℕ) (r : Receiver) → MayReceive bytes r → AreLawful (plan_of bytes) (limits_of r)
lawful-of bytes r may = record {
  fills = λ q below. (let block = block-numbers (plan_of bytes) q (is_plan bytes may.some may.few) below in block.fills);
  some = may.some_iterations;
  few = may.few_iterations;
}

tried-same : (plan : Plan) (e : DecoderLimits) (xs : List Reception) (h g : Held) → ((r : ℕ) → r < plan.c → get_or h r None ≡ get_or g r None) → tried plan e xs h ≡ tried plan e xs g
tried-same plan e xs h g same =
    fill_by_all (tried_block plan e xs g) (tried plan e xs h) plan.c unpassed (tried-long plan e xs h)
    (λ r below. tried-at plan e xs h r below ∙ ap (λ (o : Option CodeResult). unwrap_or o (block_result plan e xs r)) (same r below))

-- one transmission more
hold-after : (bytes : ℕ) (rec : Receiver) (t : Transmission) (v : List ℤ) (xs : List Reception) (last : List CodeResult) (s : State) → IsReached bytes xs last s
    → Hold (buffers (plan_of bytes) (with_transmission bytes rec t v s).cells) (xs ++ came t rec.n_ir v ∷ [])
hold-after bytes rec t v xs last s is =
    let plan : Plan = plan_of bytes in
    let x : Reception = came t rec.n_ir v in
    let new : List ℤ = combined plan x (map (clamped 127) s.cells) in
    hold-next plan s.cells (drop (length new) s.cells) xs x is.hold

results-are : (bytes : ℕ) (rec : Receiver) (t : Transmission) (v : List ℤ) (xs : List Reception) (last : List CodeResult) (s : State) → IsReached bytes xs last s
    → results_of bytes rec (with_transmission bytes rec t v s) ≡ tried (plan_of bytes) (limits_of rec) (xs ++ came t rec.n_ir v ∷ []) (held_after last)
results-are bytes rec t v xs last s is =
    let plan : Plan = plan_of bytes in
    let now : List Reception = xs ++ came t rec.n_ir v ∷ [] in
    let held : Held = held_after (kept plan s.blocks s.bits) in
    from-received (buffers plan (with_transmission bytes rec t v s).cells) (limits_of rec) now held (hold-after bytes rec t v xs last s is)
    ∙ tried-same plan (limits_of rec) now held (held_after last) is.held

reached-next : (bytes : ℕ) (rec : Receiver) (t : Transmission) (v : List ℤ) (xs : List Reception) (last : List CodeResult) (s : State) → MayReceive bytes rec → IsReached bytes xs last s
    → IsReached bytes (xs ++ came t rec.n_ir v ∷ []) (results_of bytes rec (with_transmission bytes rec t v s)) (decoded bytes rec (with_transmission bytes rec t v s))
reached-next bytes rec t v xs last s may is =
    let plan : Plan = plan_of bytes in
    let s1 : State = with_transmission bytes rec t v s in
    let results : List CodeResult = results_of bytes rec s1 in
    let are : AreBlocksOf plan (map (λ x. x.block) results) =
    from-shaped plan (limits_of rec) (cells_of plan s1.cells) (kept plan s.blocks s.bits) (lawful-of bytes rec may) (kept-shaped plan s.blocks s.bits is.bits_long) in
    let entries : List CodeBlock = map entry_of results in
    let digits : List ℕ = digits_of results in
    let many : length entries ≡ plan.c = length-map results entry_of ∙ blocks-count plan results are in
    let none : drop (length entries) s.blocks ≡ [] = ap (λ (m : ℕ). drop m s.blocks) (many ∙ sym is.blocks_long) ∙ drop-length s.blocks in
    let all : with_front entries s.blocks ≡ entries = ap (λ (bs : List CodeBlock). entries ++ bs) none ∙ append-nil entries in
    record {
      hold = hold-after bytes rec t v xs last s is;
      blocks_long = ap length all ∙ many;
      bits_long = omega (arith, digits-long plan results are, length-append digits (drop (length digits) s.bits));
      held = λ r below. ap (λ (rs : List CodeResult). get_or (held_after rs) r None)
          (kept-again plan results (drop (length entries) s.blocks) (drop (length digits) s.bits) are);
      total = ap (sum_by (λ (b : CodeBlock). b.iterations)) all ∙ total-again results;
    }

-- the definition's outcome, from here on
abbrev left_of : (bytes : ℕ) → Receiver → List Reception → List CodeResult → List Transmission → List ℤ → TbOutcome
left_of bytes rec xs last ts values =
    outcome_from (plan_of bytes) (limits_of rec) xs last (receptions (transmissions_of (limit_in rec.n_ir) ts) (map (clamped 127) values))

one-more : (bytes : ℕ) (rec : Receiver) (t : Transmission) (ts : List Transmission) (values : List ℤ) (xs : List Reception) (last : List CodeResult) (s : State) (n : ℕ)
    → IsReached bytes xs last s → n ≡ length xs
    → (let s1 = with_transmission bytes rec t (take t.g values) s in
    by_calls bytes rec (decoded bytes rec s1) (suc n) ts (drop t.g values)
    ≡ left_of bytes rec (xs ++ came t rec.n_ir (take t.g values) ∷ []) (results_of bytes rec s1) ts (drop t.g values))
    → by_calls bytes rec s n (t ∷ ts) values ≡ left_of bytes rec xs last (t ∷ ts) values
one-more bytes rec t ts values xs last s n is count rest =
    let plan : Plan = plan_of bytes in
    let e : DecoderLimits = limits_of rec in
    let x : Reception = came t rec.n_ir (take t.g values) in
    let now : List Reception = xs ++ x ∷ [] in
    let new : List CodeResult = tried plan e now (held_after last) in
    let s1 : State = with_transmission bytes rec t (take t.g values) s in
    let results : results_of bytes rec s1 ≡ new = results-are bytes rec t (take t.g values) xs last s is in
    let later : TbOutcome = by_calls bytes rec (decoded bytes rec s1) (suc n) ts (drop t.g values) in
    let sends : List Sending = transmissions_of (limit_in rec.n_ir) ts in
    let left : List Reception = receptions sends (map (clamped 127) (drop t.g values)) in
    let longer : suc n ≡ length now = omega (arith, count, length-append xs (x ∷ [])) in
    let sent : Sending = transmission_of (limit_in rec.n_ir) t in
    ap (λ (rs : List CodeResult). cond (delivers plan rs) (Delivered (payload_of plan rs) (suc n) (iterations_of rs)) later) results
    ∙ ap (λ (m : ℕ). cond (delivers plan new) (Delivered (payload_of plan new) m (iterations_of new)) later) longer
    ∙ ap (λ (o : TbOutcome). cond (delivers plan new) (Delivered (payload_of plan new) (length now) (iterations_of new)) o)
    (rest ∙ ap (λ (rs : List CodeResult). outcome_from plan e now rs left) results)
    ∙ ap (λ (ys : List Reception). outcome_from plan e xs last (x ∷ ys)) (ap (receptions sends) (sym (drop-map (clamped 127) t.g values)))
    ∙ ap (λ (vs : List ℤ). outcome_from plan e xs last (reception sent.m sent.rv vs ∷ receptions sends (drop t.g (map (clamped 127) values)))) (sym (take-map (clamped 127) t.g values))

from-here : (bytes : ℕ) (rec : Receiver) → MayReceive bytes rec → (ts : List Transmission) (values : List ℤ) (xs : List Reception) (last : List CodeResult) (s : State) (n : ℕ)
    → IsReached bytes xs last s → n ≡ length xs → by_calls bytes rec s n ts values ≡ left_of bytes rec xs last ts values
from-here bytes rec may [] values xs last s n is count =
    ap (λ (m : ℕ). Failed m (sum_by (λ (b : CodeBlock). b.iterations) s.blocks)) count ∙ ap (Failed (length xs)) is.total
from-here bytes rec may (t ∷ ts) values xs last s n is count =
    let v : List ℤ = take t.g values in
    let x : Reception = came t rec.n_ir v in
    let s1 : State = with_transmission bytes rec t v s in
    one-more bytes rec t ts values xs last s n is count
    (from-here bytes rec may ts (drop t.g values) (xs ++ x ∷ []) (results_of bytes rec s1) (decoded bytes rec s1) (suc n)
    (reached-next bytes rec t v xs last s may is) (omega (arith, count, length-append xs (x ∷ []))))

pub calls-receive : (bytes : ℕ) (r : Receiver) (ts : List Transmission) (values : List ℤ) → 1 ≤ bytes → bytes ≤ 18722 → 1 ≤ r.limit → r.limit ≤ 16
    → by_calls bytes r (fresh bytes) 0 ts values ≡ received bytes ts r values
unfolding outcome
calls-receive bytes r ts values some few some_iterations few_iterations =
    from-here bytes r (record { some = some; few = few; some_iterations = some_iterations; few_iterations = few_iterations }) ts values [] [] (fresh bytes) 0 (reached-first bytes) refl
