-- The text of a block's transmissions, one after the other.
use Rattle.std.proofs.Common.{◌≡◌, ℕ, zero, suc, ◌+◌, List, [], ◌∷◌, ◌++◌, take, flat_map, Some, ap, sym, ◌∙◌, append_assoc, add-one}
use Rattle.std.proofs.lemmas.List.{append-nil}
use Rattle.std.specs.List.{slice_get}
use Rattle.rate_match.specs.declared.sends.Sending.{Sending}

-- one more after those before it
more : (f : Sending → List ℕ) (sends : List Sending) (i : ℕ) (s : Sending) → slice_get sends i ≡ Some s →
    flat_map f (take (suc i) sends) ≡ flat_map f (take i sends) ++ f s
more f [] i s is = cc
more f (t ∷ sends) zero s is = let same : t ≡ s = cc in append-nil (f t) ∙ ap f same
more f (t ∷ sends) (suc i) s is =
    ap (λ (xs : List ℕ). f t ++ xs) (more f sends i s is) ∙ sym (append_assoc (f t) (flat_map f (take i sends)) (f s))

pub text_more : (f : Sending → List ℕ) (sends : List Sending) (i : ℕ) (s : Sending) → slice_get sends i ≡ Some s →
    flat_map f (take (i + 1) sends) ≡ flat_map f (take i sends) ++ f s
text_more f sends i s is = ap (λ n. flat_map f (take n sends)) (add-one i) ∙ more f sends i s is
