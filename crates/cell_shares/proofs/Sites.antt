-- A part as its cells: they lie at a site, and the pointer to that is all that the machine holds of the part. Assumes `Logic`.
use Rattle.cell_shares.proofs.Names.{◌≡◌, ℕ, ◌*◌, ◌^◌, ◌<◌, List, [], ◌∷◌, refl, sym, ap, ◌∙◌, Ura, never, id⊢, Fml, fsep, flt, Val, vptr, vstruct, vcons, vnil, Logic, Goal, Step, step, Seq, Item, ‵, ◌$◌, leave, rewrite, fsplit, fjoin, flt_l, flt_i, RattleType, Ptr, block_ptr, ptr_val, in_block, in_a_block, Struct, shape, Is, shows, pure_i}
use denote.Param.Laws.{Laws}
use denote.Steps.{peeks}
use Rattle.core.specs.Mem.Slots.Ownership.{bytes_of}
use Rattle.cell_shares.specs.Ownership.{cells_at}
use Rattle.cell_shares.specs.contracts.part.Part as part
use Rattle.cell_shares.proofs.part.Part.TheLaws.{lowers}

module _ (R : RattleType) where
  abbrev pub PartOf : RattleType
  PartOf = part.the_row R

  -- where a buffer of n places at p begins, and that its addresses are lawful
  pub record Site (p : Ptr) (n : ℕ) : Type 0 where
    pub block : ℕ
    pub offset : ℕ
    pub here : p ≡ block_ptr block offset
    pub lawful : n * bytes_of R < 2 ^ 63

  module _ {p : Ptr} {n : ℕ} (s : Site p n) where
    abbrev pub pointer : Val
    pointer = vptr s.block s.offset

    -- the machine value of each part of the buffer
    abbrev pub word : Val
    word = vstruct (vcons pointer vnil)

    abbrev pub lie : List (ℕ × R.Denot) → Fml
    lie cells = cells_at R (block_ptr s.block s.offset) cells

-- some cells of the buffer, as a part
abbrev pub part_of : (R : RattleType) → Ptr → ℕ → List (ℕ × R.Denot) → (PartOf R).Denot
part_of R p n cells = record { ptr = p; count = n; cells = cells }

module _ (R : RattleType) {M : Type 1} {𝓤 : Ura M} {𝓛 : Logic 𝓤} {K : Type 0} {Γ : List (Item 𝓤)} {G : Goal 𝓤 𝓛.H} where
  -- a part gives its cells
  pub opened : Laws R → K → (d : (PartOf R).Denot) (vs : List Val) → ((s : Site R d.ptr d.count) → vs ≡ word R s ∷ [] → Seq K 𝓛 (‵ (lie R s d.cells) ∷ Γ) G) →
      Seq K 𝓛 (‵ ((PartOf R).own_val d vs) ∷ Γ) G
  opened L t d vs k = peeks t (PartOf R) (Is (PartOf R)) (shows 𝓛 (PartOf R)) d vs (λ is.
      fsplit t $ leave t $ fsplit t $ flt_l t (λ lawful. in_a_block t d.ptr (λ p. in_block p (cells_at R p d.cells)) (id⊢ 𝓤 (never 𝓤)) (λ b o here.
      k (record { block = b; offset = o; here = here; lawful = lawful }) ((lowers R L).val_is d vs is ∙ ap (λ (p : Ptr). vstruct (vcons (ptr_val p) vnil) ∷ []) here))))

  -- cells at its site become a part
  pub closed : K → {p : Ptr} {n : ℕ} (s : Site R p n) (cells : List (ℕ × R.Denot)) → Step K 𝓛 (‵ ((PartOf R).own_val (part_of R p n cells) (word R s ∷ [])) ∷ Γ) G (‵ (lie R s cells) ∷ Γ) G
  closed t {p} {n} s cells = step (λ rest.
      let Word : Ptr → Fml = λ q. (Struct (shape (part.the_type R))).own_val (q, tt) (word R s ∷ []) in let start : Ptr = block_ptr s.block s.offset in
      flt_i t (n * bytes_of R) (2 ^ 63) s.lawful $ fjoin t $ pure_i t (Word start) (λ vss. (tt, (tt, tt))) ((pointer R s ∷ [], tt), (refl, (refl, tt))) $ fjoin t $
      rewrite t 0 (λ (q : Ptr). ‵ (fsep (Word q) (fsep (flt (n * bytes_of R) (2 ^ 63)) (in_block q (cells_at R q cells))))) (sym s.here) refl $ rest)
