-- Which cells a part owns: in any order, cut in two and glued, and as the places of a row. Assumes `Logic`.
use Rattle.cell_shares.proofs.Names.{◌≡◌, refl, sym, suc, ℕ, ◌+◌, ◌*◌, ◌<◌, List, [], ◌∷◌, ◌++◌, length, get_or, replicate, arith, Bool, true, false, Ura, full_share, SProp, ent, sep, id⊢, emp, emp∗, snd∗, Fml, fsep, Logic, sem, ‵, ◌⊛◌, ◌$◌, ◌∵◌, !, qed, by, move, use1, split, rewrite, fsplit, fjoin, frame, done, RattleType, Ptr, block_ptr, lies_at, ◌+ₚ◌}
use Rattle.core.specs.Mem.Slots.Ownership.{bytes_of, slot, slots}
use Rattle.cell_shares.specs.Ownership.{cells_at}
use Rattle.cell_shares.specs.Parts.{numbered, Shuffled, nothing_left, under, turned, then_on}

module _ (R : RattleType) {M : Type 1} {𝓤 : Ura M} (𝓛 : Logic 𝓤) (p : Ptr) where
  abbrev ◌⊢◌ : SProp 𝓤 → SProp 𝓤 → Type 1
  P ⊢ Q = ent 𝓤 P Q

  abbrev ⟦◌⟧ : Fml → SProp 𝓤
  ⟦ P ⟧ = sem 𝓛 P

  infix 26 ◌⊢◌
  abbrev Cell : Type 0
  Cell = ℕ × R.Denot

  abbrev one : Cell → Fml
  one c = lies_at R full_share (p +ₚ (c.0 * bytes_of R)) c.1

  abbrev all : List Cell → Fml
  all cs = cells_at R p cs

  pub shuffled : (cs ds : List Cell) → Shuffled cs ds → ⟦ all cs ⟧ ⊢ ⟦ all ds ⟧
  shuffled _ _ nothing_left = id⊢ 𝓤 (emp 𝓤)
  shuffled _ _ (under c cs ds s) = qed 𝓛 (‵ (one c) ∷ ‵ (all cs) ∷ []) ∵ frame ! $ by ! (shuffled cs ds s)
  shuffled _ _ (turned c d cs) = qed 𝓛 (‵ (one c) ∷ ‵ (fsep (one d) (all cs)) ∷ []) ∵ move ! (1 ∷ []) $ fsplit ! $ move ! (0 ∷ 2 ∷ 1 ∷ []) $ done !
  shuffled _ _ (then_on cs ds es s t) = qed 𝓛 (‵ (all cs) ∷ []) ∵ use1 𝓛 (‵ (all ds)) (shuffled cs ds s) $ by ! (shuffled ds es t)

  pub cut_cells : (cs ds : List Cell) → ⟦ all (cs ++ ds) ⟧ ⊢ sep 𝓤 ⟦ all cs ⟧ ⟦ all ds ⟧
  cut_cells [] ds = emp∗ 𝓤 ⟦ all ds ⟧
  cut_cells (c ∷ cs) ds =
      qed 𝓛 (‵ (one c) ∷ ‵ (all (cs ++ ds)) ∷ []) ∵ move ! (1 ∷ []) $ use1 𝓛 (‵ (all cs) ⊛ ‵ (all ds)) (cut_cells cs ds) $ split ! $ move ! (2 ∷ 0 ∷ []) $ fjoin ! $ done !

  pub glue_cells : (cs ds : List Cell) → sep 𝓤 ⟦ all cs ⟧ ⟦ all ds ⟧ ⊢ ⟦ all (cs ++ ds) ⟧
  glue_cells [] ds = snd∗ 𝓤 (emp 𝓤) ⟦ all ds ⟧
  glue_cells (c ∷ cs) ds = qed 𝓛 (‵ (all (c ∷ cs)) ∷ ‵ (all ds) ∷ []) ∵ fsplit ! $ frame ! $ by ! (glue_cells cs ds)

  -- where place k of the buffer lies
  abbrev from : ℕ → ℕ → ℕ → Ptr
  from b o k = block_ptr b (o + k * bytes_of R)

  -- the places of a full row, of which the first is place k of the buffer
  pub of_row : (b o k : ℕ) (xs : List R.Denot) (fs : List Bool) → p ≡ block_ptr b o → length fs ≡ length xs → ((i : ℕ) → i < length fs → get_or fs i false ≡ true)
      → ⟦ slots R (from b o k) xs fs ⟧ ⊢ ⟦ all (numbered k xs) ⟧
  of_row b o k [] fs is long full = id⊢ 𝓤 (emp 𝓤)
  of_row b o k (x ∷ xs) [] is long full = absurd (omega (arith, long))
  of_row b o k (x ∷ xs) (f ∷ fs) is long full =
      let next : (o + k * bytes_of R) + bytes_of R ≡ o + (k + 1) * bytes_of R = omega arith in
      let here : 0 < suc (length fs) = omega arith in
      qed 𝓛 (‵ (slot R f (from b o k) x) ∷ ‵ (slots R (block_ptr b ((o + k * bytes_of R) + bytes_of R)) xs fs) ∷ []) ∵
      rewrite ! 0 (λ (g : Bool). ‵ (slot R g (from b o k) x)) (full 0 here) refl $ rewrite ! 0 (λ (r : Ptr). ‵ (lies_at R full_share (r +ₚ (k * bytes_of R)) x)) (sym is) refl $
      rewrite ! 1 (λ (n : ℕ). ‵ (slots R (block_ptr b n) xs fs)) next refl $ frame ! $
      by ! (of_row b o (k + 1) xs fs is (omega (arith, long)) (λ i l. full (suc i) (let up : suc i < suc (length fs) = omega (arith, l) in up)))

  pub to_row : (b o k : ℕ) (xs : List R.Denot) → p ≡ block_ptr b o → ⟦ all (numbered k xs) ⟧ ⊢ ⟦ slots R (from b o k) xs (replicate (length xs) true) ⟧
  to_row b o k [] is = id⊢ 𝓤 (emp 𝓤)
  to_row b o k (x ∷ xs) is =
      let next : o + (k + 1) * bytes_of R ≡ (o + k * bytes_of R) + bytes_of R = omega arith in
      let trues : List Bool = replicate (length xs) true in
      qed 𝓛 (‵ (one (k, x)) ∷ ‵ (all (numbered (k + 1) xs)) ∷ []) ∵ move ! (1 ∷ []) $
      use1 𝓛 (‵ (slots R (from b o (k + 1)) xs trues)) (to_row b o (k + 1) xs is) $
      rewrite ! 0 (λ (n : ℕ). ‵ (slots R (block_ptr b n) xs trues)) next refl $ move ! (1 ∷ []) $
      rewrite ! 0 (λ (r : Ptr). ‵ (lies_at R full_share (r +ₚ (k * bytes_of R)) x)) is refl $ done !
