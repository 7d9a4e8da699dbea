-- What a `&` to a part shows: its pointer, and a `&` to each of its cells. Assumes `Logic`.
use Rattle.cell_shares.proofs.Names.{◌≡◌, ℕ, zero, suc, ◌+◌, ◌*◌, ◌^◌, List, [], ◌∷◌, refl, arith, Ura, ent, sep, never, Lft, flt, ‵, ◌⊛◌, ◌$◌, ◌∵◌, !, qed, by, done, keep, leave, split, rewrite, fsplit, use1, Logic, sem, RattleType, RawPtr, block_ptr, null_ptr, ◌+ₚ◌, hidden_shr, Struct, shape}
use base.Fml.{fhide}
use denote.Opens.{unhide}
use denote.Struct.Lending.{lent_out, lent_at}
use Rattle.core.specs.Mem.Slots.Ownership.{bytes_of}
use Rattle.cell_shares.specs.Ownership.{cells_lent}
use Rattle.cell_shares.specs.Parts.{IsCell}
use Rattle.cell_shares.specs.contracts.part.Part as C

module _ (R : RattleType) {M : Type 1} {𝓤 : Ura M} (𝓛 : Logic 𝓤) (κ : Lft) where
  abbrev Fields : RattleType
  Fields = Struct (shape (C.the_type R))

  pub shown : (d : (C.the_row R).Denot) (b o : ℕ) → ent 𝓤 (sem 𝓛 (hidden_shr (C.the_row R) κ d b o))
      (sep 𝓤 (sem 𝓛 (hidden_shr RawPtr κ d.ptr b (o + 0))) (sep 𝓤 (sem 𝓛 (flt (d.count * bytes_of R) (2 ^ 63))) (sem 𝓛 (cells_lent R d.ptr d.cells κ))))
  shown d b o =
      qed 𝓛 (‵ (hidden_shr (C.the_row R) κ d b o) ∷ []) ∵
      use1 𝓛 (‵ (hidden_shr Fields κ (d.ptr, tt) b o) ⊛ ‵ (fhide (C.the_lent R d d.ptr κ))) (lent_out 𝓛 (C.struct R) (C.the_codes R.Denot R.coded) (C.the_heap R) (C.the_lent R) κ d b o) $ split ! $
      unhide ! $ fsplit ! $ fsplit ! $ keep ! (0 ∷ 3 ∷ []) $ done !

  -- a cell can't be lent at null
  pub never_null : (cs : List (ℕ × R.Denot)) (j n : ℕ) (x : R.Denot) → IsCell cs j n x → ent 𝓤 (sem 𝓛 (cells_lent R null_ptr cs κ)) (never 𝓤)
  never_null [] j n x is = absurd is
  never_null (c ∷ cs) zero n x is = qed 𝓛 (‵ (lent_at R (null_ptr +ₚ (c.0 * bytes_of R)) c.1 κ) ∷ ‵ (cells_lent R null_ptr cs κ) ∷ []) ∵ fsplit ! $ keep ! (0 ∷ []) $ done !
  never_null (c ∷ cs) (suc j) n x is = qed 𝓛 (‵ (lent_at R (null_ptr +ₚ (c.0 * bytes_of R)) c.1 κ) ∷ ‵ (cells_lent R null_ptr cs κ) ∷ []) ∵ leave ! $ by ! (never_null cs j n x is)

  pub cell_lent : (b o : ℕ) (cs : List (ℕ × R.Denot)) (j n : ℕ) (x : R.Denot) → IsCell cs j n x
      → ent 𝓤 (sem 𝓛 (cells_lent R (block_ptr b o) cs κ)) (sem 𝓛 (hidden_shr R κ x b (n * bytes_of R + o)))
  cell_lent b o [] j n x is = absurd is
  cell_lent b o (c ∷ cs) zero n x is =
      let swap : o + n * bytes_of R ≡ n * bytes_of R + o = omega arith in
      qed 𝓛 (‵ (lent_at R (block_ptr b (o + c.0 * bytes_of R)) c.1 κ) ∷ ‵ (cells_lent R (block_ptr b o) cs κ) ∷ []) ∵
      rewrite ! 0 (λ (m : ℕ). ‵ (lent_at R (block_ptr b (o + m * bytes_of R)) c.1 κ)) is.0 refl $ rewrite ! 0 (λ (y : R.Denot). ‵ (lent_at R (block_ptr b (o + n * bytes_of R)) y κ)) is.1 refl $
      rewrite ! 0 (λ (k : ℕ). ‵ (lent_at R (block_ptr b k) x κ)) swap refl $ fsplit ! $ keep ! (1 ∷ []) $ done !
  cell_lent b o (c ∷ cs) (suc j) n x is =
      qed 𝓛 (‵ (lent_at R (block_ptr b (o + c.0 * bytes_of R)) c.1 κ) ∷ ‵ (cells_lent R (block_ptr b o) cs κ) ∷ []) ∵ leave ! $ by ! (cell_lent b o cs j n x is)
