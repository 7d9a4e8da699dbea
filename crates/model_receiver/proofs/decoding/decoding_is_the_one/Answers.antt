use Rattle.model_receiver.proofs.DecodedOnce.{decoded-is, decoded_once}
use Rattle.model_receiver.specs.Decoding.{code_result}
use Rattle.model_receiver.proofs.decoding.decoding_is_the_one.Goals as goal

pub returns-clause-is : goal.returns-clause-is
returns-clause-is c = decoded-is

pub returns-clause-only : goal.returns-clause-only
returns-clause-only c = λ soft shape r limit h. decoded_once soft shape r (code_result soft shape) h (decoded-is soft shape limit)
