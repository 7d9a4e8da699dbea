-- What the `&` to the part holds of the cell is handed on.
use Rattle.cell_shares.proofs.Names.{ℕ, ◌+◌, ◌*◌, ◌^◌, ◌<◌, List, [], ◌∷◌, ◌++◌, refl, a_type, named, w64, inst_fn, Val, vptr, vint, SProp, ftrue, flt, flft, ‵, raw, ◌⊛◌, at_ret, ◌$◌, ◌∵◌, !, qed, done, move, keep, leave, split, split3, join, fsplit, fjoin, feq_i, flt_l, use1, suffices, enter, of_opd, addr, load, look, stop, fld, bin, size_lit, first, blocks, exec, returns, alloc_all, pass_all, free_all, look_at, get, through, sets, sets_last, env, ◌⊑◌, fact, WpFn, tables, RattleType, usize, RefOf, RawPtr, owns, hidden_shr, yes, param, layouts, in_a_block, plain, types_at, nothing, heard, Stays, walk_of, says, stay_dropped, Goes-dropped, ends_at}
use denote.Ref.{shr_Tells}
use Rattle.std.proofs.VecSteps.Shapes.{after}
use Rattle.std.proofs.raw_atomic.Walks.{proved_at}
use Rattle.core.proofs.slots.Lent.{pointer_in, pointer_out}
use Rattle.core.specs.Mem.Slots.Ownership.{bytes_of}
use Rattle.cell_shares.specs.Ownership.{cells_lent}
use Rattle.cell_shares.specs.Parts.{IsCell}
use Rattle.cell_shares.proofs.Alone.{respelled}
use Rattle.cell_shares.proofs.Lent.{shown, never_null, cell_lent}
use Rattle.cell_shares.proofs.Reach.{Reach, reach}
use Rattle.cell_shares.proofs.Sites.{PartOf}
use Rattle.cell_shares.specs.contracts.part.Part.get.{ended, clauses}
use Rattle.cell_shares.specs.contracts.part.Part.get.Key.{name as #self}
use Rattle.cell_shares.proofs.part.Part.get.Statement.{statement}
use Rattle.cell_shares.proofs.part.Part.get.Code as code

pub get_spec : {M : Type 1} → statement M
get_spec 𝓤 𝓛 𝓜 𝓡 wired T L =
    let 𝓣 = tables 𝓤 𝓛.H 𝓜 𝓡 𝓡.env in let R : RattleType = param 0 T in let E = ended T in let c = clauses T 𝓛 𝓜.mem 𝓡.returns in
    let types = layouts (a_type ∷ []) (T, tt) in let fn = inst_fn types code.function in
    let lent = RefOf (0 ∷ []) tt (plain (λ _. PartOf R)) (λ _. tt) in let number = Goes-dropped 𝓛 2 (plain (λ _. usize)) yes (λ κs n f. refl) in
    let spent : Stays E.signature.params E.kept = (stay_dropped lent yes, (stay_dropped (plain (λ _. usize)) yes, (stay_dropped (plain (λ _. usize)) yes, tt))) in
    proved_at 𝓛 E spent c 𝓜 𝓡 (Goes-dropped 𝓛 2 lent yes (λ κs x f. refl), (number, (number, tt))) (#self types) fn (code.unfolded 𝓤 𝓛.H 𝓜 𝓡 wired (T, tt)) (λ y are.
    let self = y.0.3.0 in let d : (PartOf R).Denot = self.now in let rb : ℕ = self.ref_ptr.0 in let ro : ℕ = self.ref_ptr.1 in let j : ℕ = y.0.3.1.0 in let n : ℕ = y.0.3.1.1.0 in
    let κ = y.0.0.0 in let us : List Val = vptr rb ro ∷ vint w64 j ∷ vint w64 n ∷ [] in let End : Val → SProp 𝓤 = (walk_of 𝓛 E spent c).post y in
    let Stands : Type 0 = (n < d.count) × ((x : T.Denot) × IsCell d.cells j n x) in
    qed 𝓛 (((‵ (flft κ y.0.1.0) ⊛ ‵ (flft y.0.0.1.0 y.0.1.1.0) ⊛ ‵ ftrue) ⊛ ‵ (owns (types_at E.signature.params y.0.0) y.0.3 y.0.4)) ∷ raw (fact 𝓤 (y.0.0.1.0 ⊑ T.lives)) ∷ raw (fact 𝓤 Stands) ∷ []) ∵
    suffices ! _ (respelled 𝓤 (λ (vs : List Val). WpFn 𝓤 𝓛.H 𝓣.C 𝓣.Λ fn vs End) us _ (λ i. shr_Tells (named 0) κ (PartOf R) self y.0.4.0 are.0 i ++ (are.1.0.0 i ++ (are.1.1.0.0 i ++ [])))) $
    enter ! 𝓣.C 𝓣.Λ fn us End $ alloc_all ! (λ l. pass_all ! refl ((tt, tt), ((tt, record { fits = are.1.0.1 }), ((tt, record { fits = are.1.1.0.1 }), tt))) $
    -- first what is lent: the pointer, the bound and the cells, of which the cell alone is wanted
    move ! (2 ∷ []) $ heard ! Stands (λ stands. split ! $ move ! (1 ∷ []) $ fsplit ! $ fsplit ! $ leave ! $
    use1 𝓛 (‵ (hidden_shr RawPtr κ d.ptr rb (ro + 0)) ⊛ ‵ (flt (d.count * bytes_of R) (2 ^ 63)) ⊛ ‵ (cells_lent R d.ptr d.cells κ)) (shown R 𝓛 κ d rb ro) $ split3 ! $
    move ! (2 ∷ []) $ in_a_block ! d.ptr (λ p. cells_lent R p d.cells κ) (never_null R 𝓛 κ d.cells j n stands.1.0 stands.1.1) (λ b o here. let at : ℕ = n * bytes_of R + o in
    use1 𝓛 (‵ (hidden_shr R κ stands.1.0 b at)) (cell_lent R 𝓛 κ b o d.cells j n stands.1.0 stands.1.1) $
    move ! (2 ∷ []) $ flt_l ! (λ lawful. let far : Reach n (bytes_of R) = reach n d.count (bytes_of R) stands.0 lawful in move ! (3 ∷ []) $ split ! $ move ! (3 ∷ 0 ∷ 1 ∷ 2 ∷ []) $
    -- [the `&` to the pointer, which is let go once read; its token; the other tokens; the `&` to the cell]
    first ! $ blocks ! $ pointer_in ! tt d.ptr b o here rb (ro + 0) (λ q.
    sets ! (of_opd ! (load ! (through ! refl (fld ! refl (stop !))) (look ! 0 refl))) refl (tt, tt) $ pointer_out ! tt d.ptr b o here rb (ro + 0) $
    sets ! (bin ! (get ! refl) (size_lit ! (record { fits = far.size })) (record { fits = far.offset })) refl (tt, record { fits = far.offset }) $
    sets ! (bin ! (get ! refl) (get ! refl) tt) refl (tt, tt) $ sets_last ! (addr ! (through ! refl (stop !))) refl (tt, tt) $
    exec ! 𝓣.C 𝓣.Λ (env fn.locals l) (after 1 fn.body) (at_ret (env fn.locals l) End) $ sets ! (of_opd ! (get ! refl)) refl (tt, tt) $ returns ! (look_at ! 0 refl) $ free_all ! refl $
    suffices ! _ (ends_at 𝓛 E spent c y (vptr b at) (record { ref_ptr = (b, at); now = stands.1.0 }) (tt, (tt, (tt, tt))) (tt, (tt, (tt, tt)))) $ says ! stands.1.1 $
    join ! $ move ! (1 ∷ []) $ feq_i ! (List Val) (vptr b at ∷ []) (vptr b at ∷ []) refl $ fjoin ! $
    nothing ! $ nothing ! $ fjoin ! $ nothing ! $ fjoin ! $ nothing ! $ fjoin ! $ keep ! (2 ∷ 0 ∷ 1 ∷ []) $ done !))))))
