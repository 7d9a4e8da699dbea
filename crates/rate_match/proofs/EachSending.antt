-- Each of several transmissions, and each payload that its soft buffer fits.
use Rattle.std.proofs.Common.{◌≡◌, ℕ, zero, suc, ◌+◌, ◌≤◌, true, List, [], ◌∷◌, drop, Some, All, ap, sym, subst, ◌∙◌, add-one, arith}
use Rattle.std.specs.List.{slice_get}
use Rattle.std.specs.declared.option.Option.{Option}
use Rattle.model_sender.specs.CircularBuffer.{Fits, FitsIn}
use Rattle.model_sender.specs.Segmentation.{plan_of}
use Rattle.rate_match.specs.Fitting.{fits_all}
use Rattle.rate_match.specs.Sendings.{AreSendings, common}
use Rattle.rate_match.specs.declared.sends.Sending.{Sending}
use Rattle.rate_match.proofs.FitTest.{fits_all-true}

each_at : (P : Sending → Type 0) (sends : List Sending) (i : ℕ) (s : Sending) → All P sends → slice_get sends i ≡ Some s → P s
each_at P [] i s all is = cc
each_at P (t ∷ sends) zero s all is = let same : t ≡ s = cc in subst P same (all zero t (omega arith))
each_at P (t ∷ sends) (suc i) s all is = each_at P sends i s (λ k d lt. all (suc k) d (omega (arith, lt))) is

pub fits_at : (sends : List Sending) (tb n i : ℕ) (s : Sending) → AreSendings sends → fits_all (common sends).limit tb ≡ true → slice_get sends i ≡ Some s → 1 ≤ n → n ≤ tb →
    Fits s.m (plan_of n)
fits_at sends tb n i s are fits is some few =
    let P : Option ℕ → Type 0 = λ limit. FitsIn limit (plan_of n).c (plan_of n).k_plus in
    subst P (sym (each_at (λ x. x.m.limit ≡ (common sends).limit) sends i s are.buffer is)) (fits_all-true (common sends).limit tb fits n some few)

pub version_at : (sends : List Sending) (i : ℕ) (s : Sending) → AreSendings sends → slice_get sends i ≡ Some s → s.rv ≤ 3
version_at sends i s are is = each_at (λ x. x.rv ≤ 3) sends i s are.versions is

drop_at : (sends : List Sending) (i : ℕ) (s : Sending) → slice_get sends i ≡ Some s → drop i sends ≡ s ∷ drop (suc i) sends
drop_at [] i s is = cc
drop_at (t ∷ sends) zero s is = let same : t ≡ s = cc in ap (λ x. x ∷ sends) same
drop_at (t ∷ sends) (suc i) s is = drop_at sends i s is

-- transmission i, in front of those after it
pub turn_at : (sends : List Sending) (i : ℕ) (s : Sending) → slice_get sends i ≡ Some s → drop i sends ≡ s ∷ drop (i + 1) sends
turn_at sends i s is = drop_at sends i s is ∙ ap (λ n. s ∷ drop n sends) (sym (add-one i))
