-- The reception of a transport block: after each transmission all its code blocks are tried, and those that
-- passed are kept.
use Rattle.std.specs.Prelude.{ℕ, zero, suc, ◌*◌, ◌%◌, ◌==◌, ◌&&◌, nat_le, if◌then◌else◌, Bool, Option, None, Some, List, [], ◌∷◌, ◌++◌, length, map, filter, find, take, unwrap_or, slice_index_or, sum_by}
use Rattle.std.specs.List.{list_all, range_with_len}
use Rattle.lte_bits.specs.Packing.{packed}
use Rattle.lte_bits.specs.declared.bit.Bit.{Bit}
use Rattle.model_sender.specs.Bits.{greatest}
use Rattle.model_sender.specs.Segmentation.{Plan, size, fill}
use Rattle.model_sender.specs.CodeBlocks.{whole}
use Rattle.model_receiver.specs.declared.result.CheckKind.{CheckKind}
use Rattle.model_receiver.specs.declared.result.CheckKind.TheVariants.{A, B}
use Rattle.model_receiver.specs.declared.result.CodeResult.{CodeResult}
use Rattle.model_receiver.specs.declared.result.TbOutcome.{TbOutcome}
use Rattle.model_receiver.specs.declared.result.TbOutcome.TheVariants.{Delivered, Failed}
use Rattle.model_receiver.specs.HalfIteration.{Shape, shape_of}
use Rattle.model_receiver.specs.Decoding.{check_holds, code_result}
use Rattle.model_receiver.specs.Limits.{DecoderLimits}
use Rattle.model_receiver.specs.SoftCells.{Reception, soft_streams}

-- whether d windows of one width, at least 8, make up a block of k bits
abbrev pub divides_into : ℕ → ℕ → Bool
divides_into k d = (k % d == 0) && nat_le (8 * d) k

-- the greatest number of such windows that isn't above m
abbrev pub window_count : ℕ → ℕ → ℕ
window_count k m = greatest (filter (divides_into k) (range_with_len 1 m))

-- the check of each of c code blocks (36.212 5.1.2)
abbrev pub check_kind : ℕ → CheckKind
check_kind c = if c == 1 then A else B

-- how block r is decoded
abbrev pub block_shape : Plan → DecoderLimits → ℕ → Shape
block_shape plan limits r =
    shape_of (size plan r) (fill plan r) (check_kind plan.c) (window_count (size plan r) limits.windows) limits.limit

-- what its decoding gives, from the beginning, after these receptions
abbrev pub block_result : Plan → DecoderLimits → List Reception → ℕ → CodeResult
block_result plan limits xs r = code_result (soft_streams plan xs r) (block_shape plan limits r)

-- ---- One try.

-- the results that are held when a try begins, in order of blocks
abbrev pub Held : Type 0
Held = List (Option CodeResult)

-- the result of block r in a try after these receptions: the one that is held, or else it is decoded
abbrev pub tried_block : Plan → DecoderLimits → List Reception → Held → ℕ → CodeResult
tried_block plan limits xs held r = unwrap_or (slice_index_or held r None) (block_result plan limits xs r)

abbrev pub tried : Plan → DecoderLimits → List Reception → Held → List CodeResult
tried plan limits xs held = map (tried_block plan limits xs held) (range_with_len 0 plan.c)

-- whether the check of each code block holds
abbrev pub all_passed : List CodeResult → Bool
all_passed results = list_all (λ r. r.passed) results

-- the payload and its check bits, as decoded
abbrev pub whole_of : Plan → List CodeResult → List Bit
whole_of plan results = whole plan (map (λ r. r.block) results)

-- whether a try delivers: all code blocks passed, and the check of the transport block holds too
abbrev pub delivers : Plan → List CodeResult → Bool
delivers plan results = all_passed results && check_holds A (whole_of plan results)

abbrev pub payload_of : Plan → List CodeResult → List ℕ
payload_of plan results = packed (take (8 * plan.bytes) (whole_of plan results))

-- the iterations of all blocks, each counted in the try in which it was last decoded
abbrev pub iterations_of : List CodeResult → ℕ
iterations_of results = sum_by (λ r. r.iterations) results

-- ---- From try to try.

abbrev pub if_passed : CodeResult → Option CodeResult
if_passed r = if r.passed then Some r else None

-- what is held after a try that didn't deliver: the results that passed. But where all passed, the check of
-- the transport block failed, so that some of them are wrong, and none is held.
abbrev pub held_after : List CodeResult → Held
held_after results = if all_passed results then [] else map if_passed results

-- the outcome, from the receptions so far, the results of the last try, and the receptions still to come
abbrev pub outcome_from : Plan → DecoderLimits → List Reception → List CodeResult → List Reception → TbOutcome
outcome_from plan limits seen last [] = Failed (length seen) (iterations_of last)
outcome_from plan limits seen last (x ∷ xs) =
    let now = seen ++ x ∷ [] in
    let results = tried plan limits now (held_after last) in
    if delivers plan results
    then Delivered (payload_of plan results) (length now) (iterations_of results)
    else outcome_from plan limits now results xs

-- what the reception of a transport block gives; before the first try there are no results, so none is held
unfoldable pub outcome : Plan → DecoderLimits → List Reception → TbOutcome
outcome plan limits xs = outcome_from plan limits [] [] xs

-- ---- The same by numbers of tries, from 1, which a law ties to the recursion.

-- the results of try t
abbrev pub results_in : Plan → DecoderLimits → List Reception → ℕ → List CodeResult
results_in plan limits xs zero = []
results_in plan limits xs (suc t) = tried plan limits (take (suc t) xs) (held_after (results_in plan limits xs t))

-- the first try that delivers
abbrev pub delivering_try : Plan → DecoderLimits → List Reception → Option ℕ
delivering_try plan limits xs =
    find (λ t. delivers plan (results_in plan limits xs t)) (range_with_len 1 (length xs))

-- the outcome with the results of that try, or of the last
abbrev pub outcome_in : Plan → DecoderLimits → List Reception → Option ℕ → TbOutcome
outcome_in plan limits xs (Some t) =
    let results = results_in plan limits xs t in Delivered (payload_of plan results) t (iterations_of results)
outcome_in plan limits xs None = Failed (length xs) (iterations_of (results_in plan limits xs (length xs)))
