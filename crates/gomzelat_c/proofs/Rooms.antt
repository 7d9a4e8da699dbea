-- A payload that is delivered has no more bytes than were told.
use Rattle.std.proofs.Common.{◌≡◌, ℕ, ◌*◌, ◌≤◌, Bool, true, false, if◌then◌else◌, List, [], ◌∷◌, ◌++◌, length, take, refl, arith}
use Rattle.std.proofs.lemmas.List.{length-take}
use Rattle.model_sender.specs.Segmentation.{Plan, plan_of}
use Rattle.model_receiver.specs.SoftCells.{Reception}
use Rattle.model_receiver.specs.Limits.{DecoderLimits}
use Rattle.model_receiver.specs.TransportBlocks.{delivers, held_after, iterations_of, outcome, outcome_from, payload_of, tried, whole_of}
use Rattle.model_receiver.specs.declared.result.CodeResult.{CodeResult}
use Rattle.model_receiver.specs.declared.result.TbOutcome.{TbOutcome}
use Rattle.model_receiver.specs.declared.result.TbOutcome.TheVariants.{Delivered, Failed}
use Rattle.gomzelat_c.specs.Receiving.{HasRoom}
use Rattle.gomzelat_c.proofs.PackedLength.{length_packed}

pub payload_few : (plan : Plan) (results : List CodeResult) → length (payload_of plan results) ≤ plan.bytes
payload_few plan results =
    let bits = take (8 * plan.bytes) (whole_of plan results) in
    omega (arith, length_packed bits, length-take (8 * plan.bytes) (whole_of plan results))

either : (b : Bool) (one other : TbOutcome) (room : ℕ) → HasRoom one room → HasRoom other room → HasRoom (if b then one else other) room
either true one other room h k = h
either false one other room h k = k

from_here : (plan : Plan) (e : DecoderLimits) (seen : List Reception) (last : List CodeResult) (xs : List Reception) → HasRoom (outcome_from plan e seen last xs) plan.bytes
from_here plan e seen last [] = tt
from_here plan e seen last (x ∷ xs) =
    let now = seen ++ x ∷ [] in
    let results = tried plan e now (held_after last) in
    either (delivers plan results) (Delivered (payload_of plan results) (length now) (iterations_of results)) (outcome_from plan e now results xs) plan.bytes
    (payload_few plan results) (from_here plan e now results xs)

pub has_room : (plan : Plan) (e : DecoderLimits) (xs : List Reception) → HasRoom (outcome plan e xs) plan.bytes
unfolding outcome
has_room plan e xs = from_here plan e [] [] xs

pub more_room : (o : TbOutcome) (room more : ℕ) → HasRoom o room → room ≤ more → HasRoom o more
more_room (Delivered bytes transmissions iterations) room more h le = omega (arith, h, le)
more_room (Failed transmissions iterations) room more h le = tt

pub plan_bytes : (bytes : ℕ) → (plan_of bytes).bytes ≡ bytes
unfolding plan_of
plan_bytes bytes = refl
