-- The step of a block, from its length word and what was read after it.
use Rattle.std.proofs.Common.{◌≡◌, ℕ, ◌+◌, ◌<◌, List, ◌++◌, length, Some, Ok, Err, refl, ap, sym, ◌∙◌, arith}
use Rattle.std.specs.declared.option.Option.{Option}
use Rattle.std.specs.declared.result.Result.{Result}
use Rattle.std.specs.Io.KnownBytes.{prepend_known}
use Rattle.std.proofs.lemmas.List.{length-append}
use Rattle.coded_stream.specs.Header.{Header, word}
use Rattle.coded_stream.specs.Body.{Step, block, refused, word_step, step}
use Rattle.coded_stream.specs.Takes.{StopsAfterWord, StopsStep, step_due, TakesWord, TakesStep}
use Rattle.coded_stream.specs.Words.{WordSays}
use Rattle.coded_stream.specs.declared.stop.StreamStop.{StreamStop}
use Rattle.coded_stream.specs.declared.stop.StreamStop.TheVariants.{Bad, Fault, NoMemory}
use Rattle.coded_stream.proofs.Stopping.{stops-later, stops-as, taken_both}
use Rattle.coded_stream.proofs.WordSteps.{step-word}

pub same_refusal : (number p q s t d e : ℕ) → p ≡ q → s ≡ t → d ≡ e
    → refused (record { number = number; place = p; size = s; due = d }) ≡ refused (record { number = number; place = q; size = t; due = e })
same_refusal number p q s t d e place size due i = refused (record { number = number; place = place i; size = size i; due = due i })

-- the word was read whole, and says what is next
pub word-told : (h : Header) (more start payload : ℕ) (unit left input : List ℕ) (old new : Option (List ℕ)) (r : Result (Option ℕ) StreamStop) → length unit ≡ 4 → payload ≡ word unit 0
    → old ≡ Some (unit ++ left) → new ≡ Some left → input ≡ unit ++ left → WordSays h more start payload r → TakesWord h more start input old new r
word-told h more start payload unit left input old new r long value old_is new_is input_is says = by_result r says
  where
    from_word : step h more start input ≡ word_step h more start payload left
    from_word = ap (step h more start) input_is ∙ step-word h more start unit left long ∙ ap (λ (n : ℕ). word_step h more start n left) (sym value)

    by_result : (r : Result (Option ℕ) StreamStop) → WordSays h more start payload r → TakesWord h more start input old new r
    by_result (Ok next) says = (unit, left, old_is, new_is, long, from_word ∙ says left)
    by_result (Err (Bad number place)) says = (unit, left, 4, old_is, new_is, from_word ∙ says left ∙ same_refusal number place place 4 (length unit) 4 4 refl (sym long) refl)
    by_result (Err Fault) says = absurd says
    by_result (Err NoMemory) says = absurd says

-- ---- after the word

inside : (mid : Option (List ℕ)) (left other : List ℕ) → mid ≡ Some left → mid ≡ Some other → left ≡ other
inside mid left other a b = cc

pub word-stops : (s t : Step) (unit left : List ℕ) (old mid new : Option (List ℕ)) (stop : StreamStop) → s ≡ t → length unit ≡ 4 → old ≡ Some (unit ++ left) → mid ≡ Some left →
    StopsAfterWord t mid new stop → StopsStep s old new stop
word-stops s t unit left old mid new stop same long old_is mid_is after =
    stops-later (λ r. s ≡ refused r) (λ (n : ℕ). n < step_due s) old mid new unit stop (old_is ∙ sym (ap (prepend_known unit) mid_is))
    (stops-as (λ r. t ≡ refused (record r { size = 4 + r.size })) (λ r. s ≡ refused (record r { size = length unit + r.size }))
    (λ (n : ℕ). 4 + n < step_due t) (λ (n : ℕ). length unit + n < step_due s) mid new stop
    (λ r is. same ∙ is ∙ ap (λ (n : ℕ). refused (record r { size = n + r.size })) (sym long))
    (λ n few. omega (arith, few, long, ap step_due same))
    after)

pub word-block_told : (s t : Step) (payload : ℕ) (into unit left rest : List ℕ) (old mid new : Option (List ℕ)) → s ≡ t → length unit ≡ 4 → old ≡ Some (unit ++ left) → mid ≡ Some left
    → mid ≡ Some (into ++ rest) → new ≡ Some rest → t ≡ block (record { payload = payload; bytes = into }) rest → TakesStep s into old new (Ok (Some payload))
word-block_told s t payload into unit left rest old mid new same long old_is mid_is split new_is is = (
  unit ++ into,
  rest,
  taken_both old unit left into rest old_is (inside mid left (into ++ rest) mid_is split),
  new_is,
  omega (arith, length-append unit into, long),
  same ∙ is,
)
