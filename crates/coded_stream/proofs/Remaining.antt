-- What a stream still says, by its next step.
use Rattle.std.proofs.Common.{◌≡◌, ℕ, zero, suc, ◌-◌, ◌<◌, List, [], length, Err, refl, ap, ◌∙◌, arith}
use Rattle.std.specs.declared.option.Option.{Option}
use Rattle.coded_stream.specs.Header.{Header}
use Rattle.coded_stream.specs.Blocks.{Block}
use Rattle.coded_stream.specs.Units.{Refusal}
use Rattle.coded_stream.specs.Body.{Step, block, ended, refused, step, Body, whole, bad, no_more, onto, next_start, after_step, body}
use Rattle.coded_stream.specs.Steps.{body_due, GoesOn}
use Rattle.coded_stream.specs.Takes.{step_due, StopsStep}
use Rattle.coded_stream.specs.declared.stop.StreamStop.{StreamStop}
use Rattle.coded_stream.specs.declared.stop.StreamStop.TheVariants.{Bad, Fault, NoMemory}

pub body-block : (h : Header) (more start : ℕ) (left : List ℕ) (b : Block) (rest : List ℕ) → 0 < more → step h more start left ≡ block b rest
    → body h more start left ≡ onto b (body h (more - 1) (next_start start b) rest)
unfolding body
body-block h zero start left b rest some is = absurd (omega (arith, some))
body-block h (suc more) start left b rest some is =
    ap (after_step start (body h more)) is ∙ ap (λ (n : ℕ). onto b (body h n (next_start start b) rest)) (let e : more ≡ suc more - 1 = omega arith in e)

pub body-ended : (h : Header) (more start : ℕ) (left : List ℕ) → step h more start left ≡ ended → body h more start left ≡ no_more whole
unfolding body
body-ended h zero start left is = ap (after_step start (λ _ _. no_more whole)) is
body-ended h (suc more) start left is = ap (after_step start (body h more)) is

pub body-refused : (h : Header) (more start : ℕ) (left : List ℕ) (refusal : Refusal) → step h more start left ≡ refused refusal → body h more start left ≡ no_more (bad refusal)
unfolding body
body-refused h zero start left refusal is = ap (after_step start (λ _ _. no_more whole)) is
body-refused h (suc more) start left refusal is = ap (after_step start (body h more)) is

after-due : (start : ℕ) (after : ℕ → List ℕ → Body) (s : Step) → body_due (after_step start after s) ≡ step_due s
after-due start after (block b left) = refl
after-due start after ended = refl
after-due start after (refused refusal) = refl

pub body-due : (h : Header) (more start : ℕ) (left : List ℕ) → body_due (body h more start left) ≡ step_due (step h more start left)
unfolding body
body-due h zero start left = after-due start (λ _ _. no_more whole) (step h zero start left)
body-due h (suc more) start left = after-due start (body h more) (step h (suc more) start left)

-- a step that stops leaves nothing more
pub body-stops : (h : Header) (more start : ℕ) (left : List ℕ) (all : Body) (old new : Option (List ℕ)) (stop : StreamStop) → all ≡ body h more start left
    → StopsStep (step h more start left) old new stop → GoesOn all (λ _. all) [] old new (Err stop)
body-stops h more start left all old new (Bad number place) all_is (bytes, rest, due, old_is, new_is, is) =
    (bytes, rest, due, old_is, new_is, all_is ∙ body-refused h more start left (record { number = number; place = place; size = length bytes; due = due }) is)
body-stops h more start left all old new Fault all_is (bytes, took, few) = (bytes, took, omega (arith, few, ap body_due all_is, body-due h more start left))
body-stops h more start left all old new NoMemory all_is none = absurd none
