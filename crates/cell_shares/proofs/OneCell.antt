-- One cell comes out of those that a part owns, and goes back with another value: each is a shuffle. Assumes `Logic`.
use Rattle.cell_shares.proofs.Names.{◌≡◌, ℕ, zero, suc, ◌+◌, ◌*◌, List, [], ◌∷◌, refl, sym, arith, Ura, full_share, ent, sep, Fml, fat, froom, Val, Logic, sem, ‵, ◌⊛◌, some, given, ◌$◌, ◌∵◌, !, qed, by, done, keep, split, pick, learn, rewrite, fsplit, fjoin, use1, use2, block_ptr, part_at}
use Rattle.core.proofs.mem.Param.{El, R, elτ, Good}
use Rattle.core.proofs.slice.Rows.{el_out, el_in}
use Rattle.core.specs.Mem.Slots.Ownership.{bytes_of}
use Rattle.cell_shares.specs.Ownership.{cells_at}
use Rattle.cell_shares.specs.Parts.{IsCell, changed, Shuffled, under, turned, then_on}
use Rattle.cell_shares.proofs.Owns.{shuffled}
use Rattle.cell_shares.proofs.Placed.{shuffled_same}

module _ {X : Type 0} where
  -- the cells but the j-th
  abbrev pub without : List (ℕ × X) → ℕ → List (ℕ × X)
  without [] j = []
  without (c ∷ cs) zero = cs
  without (c ∷ cs) (suc j) = c ∷ without cs j

  -- the j-th cell comes to the head
  pub to_head : (cs : List (ℕ × X)) (j n : ℕ) (x : X) → IsCell cs j n x → Shuffled cs ((n, x) ∷ without cs j)
  to_head [] j n x is = absurd is
  to_head (c ∷ cs) zero n x is = shuffled_same (c ∷ cs) ((n, x) ∷ cs) (λ i. (is.0 i, is.1 i) ∷ cs)
  to_head (c ∷ cs) (suc j) n x is =
      let rest = without cs j in then_on (c ∷ cs) (c ∷ (n, x) ∷ rest) ((n, x) ∷ c ∷ rest) (under c cs ((n, x) ∷ rest) (to_head cs j n x is)) (turned c (n, x) rest)

  -- and from there to its place, with another value
  pub from_head : (cs : List (ℕ × X)) (j n : ℕ) (x y : X) → IsCell cs j n x → Shuffled ((n, y) ∷ without cs j) (changed cs j y)
  from_head [] j n x y is = absurd is
  from_head (c ∷ cs) zero n x y is = shuffled_same ((n, y) ∷ cs) ((c.0, y) ∷ cs) (λ i. (sym is.0 i, y) ∷ cs)
  from_head (c ∷ cs) (suc j) n x y is =
      let rest = without cs j in then_on ((n, y) ∷ c ∷ rest) (c ∷ (n, y) ∷ rest) (c ∷ changed cs j y) (turned (n, y) c rest) (under c ((n, y) ∷ rest) (changed cs j y) (from_head cs j n x y is))

module _ (E : El) {M : Type 1} {𝓤 : Ura M} (𝓛 : Logic 𝓤) (b o : ℕ) (cs : List (ℕ × E.row.Denot)) (j n : ℕ) (x : E.row.Denot) (is : IsCell cs j n x) where
  abbrev lie : List (ℕ × E.row.Denot) → Fml
  lie cells = cells_at (R E) (block_ptr b o) cells

  -- how far its value lies from the block's start
  abbrev at : ℕ
  at = n * bytes_of (R E) + o

  swap : o + n * bytes_of (R E) ≡ at
  swap = omega arith

  -- the cell's value is let go, which leaves room
  pub room_out : ent 𝓤 (sem 𝓛 (lie cs)) (sep 𝓤 (sem 𝓛 (froom (elτ E) b at)) (sem 𝓛 (lie (without cs j))))
  room_out =
      qed 𝓛 (‵ (lie cs) ∷ []) ∵ use1 𝓛 (‵ (lie ((n, x) ∷ without cs j))) (shuffled (R E) 𝓛 (block_ptr b o) cs ((n, x) ∷ without cs j) (to_head cs j n x is)) $ fsplit ! $
      rewrite ! 0 (λ (k : ℕ). ‵ (part_at (R E) full_share x b k)) swap refl $
      use1 𝓛 (some (λ (v : Val). given (Good E v) (‵ (fat full_share (elτ E) b at v) ⊛ ‵ (E.row.own_val x (v ∷ []))))) (el_out E 𝓛 b x at) $ pick ! (λ v. learn ! (λ good. split ! $
      use1 𝓛 (‵ (froom (elτ E) b at)) (𝓛.laws.at_room (elτ E) b at v) $ keep ! (0 ∷ 2 ∷ []) $ done !))

  -- and another value fills it
  pub value_in : (y : E.row.Denot) (v : Val)
      → ent 𝓤 (sep 𝓤 (sem 𝓛 (fat full_share (elτ E) b at v)) (sep 𝓤 (sem 𝓛 (E.row.own_val y (v ∷ []))) (sem 𝓛 (lie (without cs j))))) (sem 𝓛 (lie (changed cs j y)))
  value_in y v =
      qed 𝓛 (‵ (fat full_share (elτ E) b at v) ∷ ‵ (E.row.own_val y (v ∷ [])) ∷ ‵ (lie (without cs j)) ∷ []) ∵
      use2 𝓛 (‵ (part_at (R E) full_share y b at)) (el_in E 𝓛 b y at v) $ rewrite ! 0 (λ (k : ℕ). ‵ (part_at (R E) full_share y b k)) (sym swap) refl $ fjoin ! $
      by ! (shuffled (R E) 𝓛 (block_ptr b o) ((n, y) ∷ without cs j) (changed cs j y) (from_head cs j n x y is))
