-- Two parts that are held at once have no byte in common. Assumes `Logic`, and the heap's laws.
use Rattle.cell_shares.proofs.Names.{◌≡◌, ℕ, ◌+◌, ◌*◌, ◌<◌, List, [], ◌∷◌, sym, ap, subst, ◌∙◌, arith, Ura, ent, sep, never, froom, Logic, sem, Goal, Seq, Item, ‵, raw, ◌⊛◌, ◌$◌, ◌∵◌, !, qed, by, move, keep, split, use1, use2, Ptr, block_ptr}
use native.Mathlib.Decide.{ℕ_discrete}
use base.Logic.{never_e}
use denote.RawPtr.{block_of, count_of}
use prog.Memory.{size}
use prog.Model.{Model}
use Rattle.std.specs.Prelude.{◌≢◌}
use Rattle.core.proofs.mem.Param.{El, R, elτ}
use Rattle.core.specs.Mem.Slots.Ownership.{bytes_of}
use Rattle.cell_shares.specs.Ownership.{cells_at}
use Rattle.cell_shares.specs.Parts.{IsCell}
use Rattle.cell_shares.proofs.OneCell.{without, room_out}
use Rattle.cell_shares.proofs.Sites.{Site, lie}

module _ (E : El) {M : Type 1} {𝓤 : Ura M} (𝓛 : Logic 𝓤) (𝓜 : Model 𝓤 𝓛.H) (cs ds : List (ℕ × E.row.Denot)) (x y : E.row.Denot) (first : IsCell cs 0 0 x) (other : IsCell ds 0 0 y) where
  -- the first cell isn't held twice
  twice : (b o : ℕ) → 0 < size (elτ E) → ent 𝓤 (sep 𝓤 (sem 𝓛 (cells_at (R E) (block_ptr b o) cs)) (sem 𝓛 (cells_at (R E) (block_ptr b o) ds))) (never 𝓤)
  twice b o sized =
      let at : ℕ = 0 * bytes_of (R E) + o in
      qed 𝓛 (‵ (cells_at (R E) (block_ptr b o) cs) ∷ ‵ (cells_at (R E) (block_ptr b o) ds) ∷ []) ∵
      use1 𝓛 (‵ (froom (elτ E) b at) ⊛ ‵ (cells_at (R E) (block_ptr b o) (without cs 0))) (room_out E 𝓛 b o cs 0 0 x first) $ split ! $ move ! (2 ∷ []) $
      use1 𝓛 (‵ (froom (elτ E) b at) ⊛ ‵ (cells_at (R E) (block_ptr b o) (without ds 0))) (room_out E 𝓛 b o ds 0 0 y other) $ split ! $ keep ! (0 ∷ 2 ∷ []) $
      by ! (𝓜.room-room (elτ E) (elτ E) b at at at (omega arith, omega (arith, sized)) (omega arith, omega (arith, sized)))

  -- so they lie at two places
  pub apart : {K : Type 0} {Γ : List (Item 𝓤)} {G : Goal 𝓤 𝓛.H} {p q : Ptr} {n m : ℕ} → K → (s : Site (R E) p n) (z : Site (R E) q m)
      → ((0 < size (elτ E) → p ≢ q) → Seq K 𝓛 (‵ (lie (R E) s cs) ∷ ‵ (lie (R E) z ds) ∷ Γ) G) → Seq K 𝓛 (‵ (lie (R E) s cs) ∷ ‵ (lie (R E) z ds) ∷ Γ) G
  apart {K} {Γ} {G} {p} {q} t s z k = go (ℕ_discrete s.block z.block) (ℕ_discrete s.offset z.offset) (ℕ_discrete (size (elτ E)) 0)
    where
      met : p ≡ q → block_ptr s.block s.offset ≡ block_ptr z.block z.offset
      met e = sym s.here ∙ e ∙ z.here

      go : Dec (s.block ≡ z.block) → Dec (s.offset ≡ z.offset) → Dec (size (elτ E) ≡ 0) → Seq K 𝓛 (‵ (lie (R E) s cs) ∷ ‵ (lie (R E) z ds) ∷ Γ) G
      go (no differ) _ _ = k (λ _ e. differ (ap block_of (met e)))
      go (yes _) (no differ) _ = k (λ _ e. differ (ap count_of (met e)))
      go (yes _) (yes _) (yes none) = k (λ sized _. absurd (omega (arith, sized, none)))
      go (yes b) (yes o) (no some) =
          let same : block_ptr s.block s.offset ≡ block_ptr z.block z.offset = λ i. block_ptr (b i) (o i) in let sized : 0 < size (elτ E) = omega (arith, some) in
          use2 𝓛 (raw (never 𝓤)) (subst (λ (r : Ptr). ent 𝓤 (sep 𝓤 (sem 𝓛 (lie (R E) s cs)) (sem 𝓛 (cells_at (R E) r ds))) (never 𝓤)) same (twice s.block s.offset sized)) $
          keep t (0 ∷ []) $ by t (never_e 𝓤 _)
