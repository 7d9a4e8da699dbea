-- A reader's answer whose stop is handed on as a status.
use Rattle.std.proofs.Common.{◌≡◌, MatchResult, Ok, Err, refl, ap, subst}
use Rattle.std.specs.Result.{IsErrAnd}
use Rattle.std.specs.declared.result.Result.{Result}
use Rattle.coded_stream.specs.declared.stop.StreamStop.{StreamStop}
use Rattle.run_loop.specs.declared.status.Status.{Status}
use Rattle.stream_loop.specs.Rounds.{status_of}

abbrev pub HandsOn : {T : Type 0} → Result T StreamStop → Result T Status → Type 0
HandsOn r m = MatchResult r (λ x. m ≡ Ok x) (λ stop. IsErrAnd m (λ s. s ≡ status_of stop))

pub stop_of : {T : Type 0} (r : Result T StreamStop) (m : Result T Status) (s : Status) → HandsOn r m → m ≡ Err s → (stop : StreamStop) × (r ≡ Err stop) × (s ≡ status_of stop)
stop_of (Ok x) m s on is = absurd (let no : ⊥ = cc in no)
stop_of (Err stop) m s on is = (stop, refl, subst (λ n. IsErrAnd n (λ t. t ≡ status_of stop)) is on)

pub value_of : {T : Type 0} (r : Result T StreamStop) (m : Result T Status) (x : T) → HandsOn r m → m ≡ Ok x → r ≡ Ok x
value_of (Ok y) m x on is = let same : y ≡ x = cc in ap Ok same
value_of (Err stop) m x on is = absurd (subst (λ n. IsErrAnd n (λ t. t ≡ status_of stop)) is on)
