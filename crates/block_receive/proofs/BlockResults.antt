-- Results of a try, one by one.
use Rattle.std.proofs.Common.{◌≡◌, ℕ, ◌<◌, ◌≤◌, List, [], false, length, get_or, map, arith}
use Rattle.std.specs.Prelude.{None}
use Rattle.std.proofs.Math.ListN as lists
use Rattle.std.proofs.lemmas.List.FromFn.{get_or-map-range_with_len, length-map-range_with_len}
use Rattle.model_sender.specs.Segmentation.{Plan, size, fill}
use Rattle.segmentation.specs.Plans.{IsPlan}
use Rattle.rate_match.proofs.BlockNumbers.{block-numbers}
use Rattle.model_receiver.specs.declared.result.CodeResult.{CodeResult}
use Rattle.model_receiver.specs.Limits.{AreLimits, DecoderLimits}
use Rattle.model_receiver.specs.SoftCells.{Reception}
use Rattle.model_receiver.specs.TransportBlocks.{Held, if_passed, tried, tried_block}

-- what is asked of a plan and of limits
pub record AreLawful (plan : Plan) (e : DecoderLimits) : Type 0 where
  pub fills : (r : ℕ) → r < plan.c → fill plan r < size plan r
  pub some : 1 ≤ e.limit
  pub few : e.limit ≤ 16

pub lawful-in : (plan : Plan) (e : DecoderLimits) → IsPlan plan → AreLimits e → AreLawful plan e
lawful-in plan e is within = record {
  fills = λ r below. (let block = block-numbers plan r is below in block.fills);
  some = within.some_iterations;
  few = within.few_iterations;
}

-- what is read past the end of a list of results
abbrev pub unpassed : CodeResult
unpassed = record { block = record { fill = 0; bits = [] }; iterations = 0; passed = false }

pub tried-at : (plan : Plan) (e : DecoderLimits) (xs : List Reception) (held : Held) (r : ℕ) → r < plan.c → get_or (tried plan e xs held) r unpassed ≡ tried_block plan e xs held r
tried-at plan e xs held r below = get_or-map-range_with_len (tried_block plan e xs held) 0 plan.c r r unpassed below (omega arith)

pub tried-long : (plan : Plan) (e : DecoderLimits) (xs : List Reception) (held : Held) → length (tried plan e xs held) ≡ plan.c
tried-long plan e xs held = length-map-range_with_len (tried_block plan e xs held) 0 plan.c

-- the results that are held, one by one
pub held-at : (results : List CodeResult) (r : ℕ) → get_or (map if_passed results) r None ≡ if_passed (get_or results r unpassed)
held-at results r = lists.get_or-map if_passed results r unpassed
