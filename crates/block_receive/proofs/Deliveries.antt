-- Whether a try delivers.
use Rattle.std.proofs.Common.{◌≡◌, Bool, List, ap, ◌∙◌}
use Rattle.std.specs.Prelude.{◌&&◌}
use Rattle.model_sender.specs.Segmentation.{Plan}
use Rattle.model_receiver.specs.declared.result.CheckKind.TheVariants.{A}
use Rattle.model_receiver.specs.declared.result.CodeResult.{CodeResult}
use Rattle.model_receiver.specs.Decoding.{check_holds}
use Rattle.model_receiver.specs.TransportBlocks.{all_passed, delivers, whole_of}

-- from the two tests
pub delivers-is : (plan : Plan) (results : List CodeResult) (passed holds : Bool) → all_passed results ≡ passed → check_holds A (whole_of plan results) ≡ holds
    → delivers plan results ≡ (passed && holds)
delivers-is plan results passed holds all whole =
    ap (λ (b : Bool). b && check_holds A (whole_of plan results)) all ∙ ap (λ (b : Bool). passed && b) whole
