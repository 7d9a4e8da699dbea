-- The answer to what a stream still says.
use Rattle.std.proofs.Common.{◌≡◌, ℕ, ◌+◌, ◌-◌, ◌<◌, refl, List, [], ◌∷◌, arith}
use Rattle.coded_stream.specs.Header.{Header}
use Rattle.coded_stream.specs.Blocks.{Block}
use Rattle.coded_stream.specs.Body.{Ending, whole, bad}
use Rattle.coded_stream.specs.Steps.{Reading, remaining, due_of, body_due}
use Rattle.coded_stream.specs.Stream.{most_blocks}
use Rattle.coded_stream.proofs.WordSteps.{step-due}
use Rattle.coded_stream.proofs.Remaining.{body-due}
use Rattle.run_loop.specs.Due.{IsDue, IsWithin}
use Rattle.run_loop.proofs.Within.{within_next}
use Rattle.stream_loop.specs.Handling.{Handling, blocks_answer, one_if}
use Rattle.stream_loop.specs.Rounds.{answer_ahead}

-- fewer bytes than the first thing of a stream wants leave it unknown
pub due_of_blocks : (w : Handling) (h : Header) (number failed : ℕ) (blocks : List Block) (ending : Ending) (n : ℕ) → n < due_of blocks ending →
    IsDue (blocks_answer w h number failed blocks ending).due (blocks_answer w h number failed blocks ending).parts n
due_of_blocks w h number failed [] whole n few = few
due_of_blocks w h number failed [] (bad refusal) n few = few
due_of_blocks w h number failed (b ∷ blocks) ending n few = few

pub due_ahead : (w : Handling) (r : Reading) (failed : ℕ) (input : List ℕ) (n : ℕ) → n < body_due (remaining r input) →
    IsDue (answer_ahead w r failed input).due (answer_ahead w r failed input).parts n
due_ahead w r failed input n few = due_of_blocks w r.header r.blocks failed (remaining r input).blocks (remaining r input).ending n few

-- before anything was read, something is due
pub some_due : (r : Reading) (input : List ℕ) → 0 < body_due (remaining r input)
some_due r input =
    let more = most_blocks - r.blocks in
    omega (arith, step-due r.header more r.place input 0 (omega arith) (omega arith), body-due r.header more r.place input)

-- one block is read before it is written
one_block_ahead : (w : Handling) (h : Header) (number failed : ℕ) (blocks : List Block) (ending : Ending) → (blocks_answer w h number failed blocks ending).ahead ≡ 1
one_block_ahead w h number failed [] whole = refl
one_block_ahead w h number failed [] (bad refusal) = refl
one_block_ahead w h number failed (b ∷ blocks) ending = one_block_ahead w h (number + 1) (failed + one_if (w.block h number b).failed) blocks ending

pub one_ahead : (w : Handling) (r : Reading) (failed : ℕ) (input : List ℕ) → (answer_ahead w r failed input).ahead ≡ 1
one_ahead w r failed input = one_block_ahead w r.header r.blocks failed (remaining r input).blocks (remaining r input).ending

pub some_due_without_parts : (w : Handling) (h : Header) (number failed : ℕ) (blocks : List Block) (ending : Ending) → 0 < due_of blocks ending →
    (blocks_answer w h number failed blocks ending).parts ≡ [] → 0 < (blocks_answer w h number failed blocks ending).due
some_due_without_parts w h number failed [] whole some none = some
some_due_without_parts w h number failed [] (bad refusal) some none = some
some_due_without_parts w h number failed (b ∷ blocks) ending some none = cc

pub within_ahead : (w : Handling) (r : Reading) (failed : ℕ) (input : List ℕ) → IsWithin (answer_ahead w r failed input) 0
within_ahead w r failed input =
    within_next (answer_ahead w r failed input) 0 (one_ahead w r failed input) (omega arith)
    (some_due_without_parts w r.header r.blocks failed (remaining r input).blocks (remaining r input).ending (some_due r input))
