-- The `&mut` is opened and the cell made room, which takes the new value.
use Rattle.cell_shares.proofs.Names.{ℕ, ◌+◌, ◌*◌, ◌<◌, List, [], ◌∷◌, ◌++◌, refl, a_type, named, w64, inst_fn, Val, vunit, vptr, vint, SProp, full_share, ftrue, froom, flft, ‵, raw, ◌⊛◌, at_ret, ◌$◌, ◌∵◌, !, qed, done, move, keep, split, join, fsplit, fsplit3, fjoin, fjoin3, feq_i, rewrite, use1, use3, suffices, sub, whole, look_in, enter, of_opd, load, init, stop, fld, bin, size_lit, unit_lit, assigns_last, first, blocks, exec, returns, alloc_all, pass_all, free_all, look_at, get, through, sets, env, ◌⊑◌, fact, WpFn, tables, RattleType, usize, owns, yes, no, param, layout, layouts, cell_at, plain, types_at, nothing, heard, opens, closes, Stays, walk_of, says, stay_dropped, stay_ref, Goes-dropped, Goes-ref, ends_at}
use denote.Param.Laws.{Laws, param_laws}
use denote.Ref.{mut_Tells}
use Rattle.std.proofs.VecSteps.Shapes.{after}
use Rattle.std.proofs.raw_atomic.Walks.{proved_at}
use Rattle.core.proofs.mem.Param.{El}
use Rattle.core.specs.Mem.Slots.Ownership.{bytes_of}
use Rattle.cell_shares.specs.Parts.{IsCell, changed}
use Rattle.cell_shares.proofs.Alone.{Alone, word_of, respelled}
use Rattle.cell_shares.proofs.OneCell.{without, room_out, value_in}
use Rattle.cell_shares.proofs.Reach.{Reach, reach}
use Rattle.cell_shares.proofs.Sites.{PartOf, word, lie, part_of, opened, closed}
use Rattle.cell_shares.specs.contracts.part.Part.set.{ended, clauses}
use Rattle.cell_shares.specs.contracts.part.Part.set.Key.{name as #self}
use Rattle.cell_shares.proofs.part.Part.set.Statement.{statement}
use Rattle.cell_shares.proofs.part.Part.set.Code as code

pub set_spec : {M : Type 1} → statement M
set_spec 𝓤 𝓛 𝓜 𝓡 wired T L =
    let 𝓣 = tables 𝓤 𝓛.H 𝓜 𝓡 𝓡.env in let R : RattleType = param 0 T in let laws : Laws R = param_laws 0 T L in
    let E = ended T in let c = clauses T 𝓛 𝓜.mem 𝓡.returns in let types = layouts (a_type ∷ []) (T, tt) in let fn = inst_fn types code.function in
    let kept : Stays E.signature.params E.kept =
    (stay_ref (0 ∷ []) tt (plain (λ _. PartOf R)), (stay_dropped (plain (λ _. usize)) yes, (stay_dropped (plain (λ _. usize)) yes, (stay_dropped (plain (λ _. R)) no, tt)))) in
    let number = Goes-dropped 𝓛 2 (plain (λ _. usize)) yes (λ κs n f. refl) in
    proved_at 𝓛 E kept c 𝓜 𝓡 (Goes-ref 𝓛 2 0 tt (plain (λ _. PartOf R)), (number, (number, (Goes-dropped 𝓛 2 (plain (λ _. R)) no (λ κs x f. refl), tt))))
    (#self types) fn (code.unfolded 𝓤 𝓛.H 𝓜 𝓡 wired (T, tt)) (λ y are.
    let self = y.0.3.0 in let d : (PartOf R).Denot = self.now in let rb : ℕ = self.ref_ptr.0 in let ro : ℕ = self.ref_ptr.1 in
    let j : ℕ = y.0.3.1.0 in let n : ℕ = y.0.3.1.1.0 in let x : T.Denot = y.0.3.1.1.1.0 in let new : (PartOf R).Denot = part_of R d.ptr d.count (changed d.cells j x) in
    let value : Alone (layout R) y.0.4.1.1.1.0 = word_of 𝓛 R laws x y.0.4.1.1.1.0 are.1.1.1.0 in
    let us : List Val = vptr rb ro ∷ vint w64 j ∷ vint w64 n ∷ value.word ∷ [] in let End : Val → SProp 𝓤 = (walk_of 𝓛 E kept c).post y in
    let self_is = mut_Tells (named 0) y.0.0.0 (PartOf R) self y.0.4.0 are.0 in let Stands : Type 0 = (n < d.count) × ((z : T.Denot) × IsCell d.cells j n z) in
    qed 𝓛 (((‵ (flft y.0.0.0 y.0.1.0) ⊛ ‵ (flft y.0.0.1.0 y.0.1.1.0) ⊛ ‵ ftrue) ⊛ ‵ (owns (types_at E.signature.params y.0.0) y.0.3 y.0.4)) ∷ raw (fact 𝓤 (y.0.0.1.0 ⊑ T.lives)) ∷ raw
    (fact 𝓤 Stands) ∷ []) ∵
    suffices ! _ (respelled 𝓤 (λ (vs : List Val). WpFn 𝓤 𝓛.H 𝓣.C 𝓣.Λ fn vs End) us _ (λ i. self_is i ++ (are.1.0.0 i ++ (are.1.1.0.0 i ++ (value.is i ++ []))))) $
    move ! (2 ∷ []) $ heard ! Stands (λ stands. split ! $ move ! (1 ∷ []) $ fsplit ! $ fsplit3 ! $ move ! (3 ∷ []) $ fsplit3 ! $ move ! (2 ∷ []) $ fsplit ! $
    rewrite ! 0 (λ (vs : List Val). ‵ (T.own_val x vs)) value.is refl $ move ! (7 ∷ []) $ split ! $ keep ! (7 ∷ 8 ∷ 0 ∷ 2 ∷ 1 ∷ []) $
    -- [what stands for the last value; the borrow; its token; what the new value owns; the other tokens]
    enter ! 𝓣.C 𝓣.Λ fn us End $ alloc_all ! (λ l. pass_all ! refl ((tt, tt), ((tt, record { fits = are.1.0.1 }), ((tt, record { fits = are.1.1.0.1 }), (value.fits, tt)))) $
    opens ! tt (PartOf R) {h = d} rb ro (λ vs. move ! (1 ∷ []) $ opened R laws ! d vs (λ s is. rewrite ! 1 (λ (ws : List Val). ‵ (cell_at full_share (PartOf R).mir ws rb ro)) is refl $
    let El : El = record { row = T; laws = L } in let far : Reach n (bytes_of R) = reach n d.count (bytes_of R) stands.0 s.lawful in let at : ℕ = n * bytes_of R + s.offset in
    use1 𝓛 (‵ (froom (layout T) s.block at) ⊛ ‵ (lie R s (without d.cells j))) (room_out El 𝓛 s.block s.offset d.cells j n stands.1.0 stands.1.1) $ split ! $
    -- [the room; the other cells; the part's word; the open borrow, in three entries; what the new value owns; the other tokens]
    first ! $ blocks ! $ sets ! (of_opd ! (load ! (through ! refl (fld ! refl (stop !))) (look_in ! 2 (sub ! 0 refl (whole !))))) refl (tt, tt) $
    sets ! (bin ! (get ! refl) (size_lit ! (record { fits = far.size })) (record { fits = far.offset })) refl (tt, record { fits = far.offset }) $
    sets ! (bin ! (get ! refl) (get ! refl) tt) refl (tt, tt) $ sets ! (of_opd ! (get ! refl)) refl value.fits $
    assigns_last ! (of_opd ! (get ! refl)) (through ! refl (stop !)) (init ! 0 refl value.fits) $
    exec ! 𝓣.C 𝓣.Λ (env fn.locals l) (after 1 fn.body) (at_ret (env fn.locals l) End) $ sets ! (of_opd ! (unit_lit !)) refl (tt, tt) $
    move ! (0 ∷ 6 ∷ []) $ use3 𝓛 (‵ (lie R s new.cells)) (value_in El 𝓛 s.block s.offset d.cells j n stands.1.0 stands.1.1 x value.word) $
    closed R ! s new.cells $ move ! (1 ∷ 0 ∷ []) $ closes ! tt (PartOf R) new (word R s ∷ []) rb ro $ returns ! (look_at ! 0 refl) $ free_all ! refl $
    -- [what stands for the last value; the borrow; its token; the other tokens]
    suffices ! _ (ends_at 𝓛 E kept c y vunit tt (new, (tt, (tt, (tt, tt)))) (tt, (tt, (tt, (tt, tt))))) $ says ! (refl, refl, refl) $
    feq_i ! (List Val) y.0.4.0 (vptr rb ro ∷ []) self_is $ fjoin3 ! $ move ! (1 ∷ 2 ∷ []) $ join ! $ feq_i ! (List Val) (vunit ∷ []) (vunit ∷ []) refl $ keep ! (1 ∷ 2 ∷ 0 ∷ []) $
    move ! (1 ∷ []) $ nothing ! $ nothing ! $ fjoin ! $ nothing ! $ fjoin ! $ nothing ! $ fjoin ! $ move ! (1 ∷ 0 ∷ []) $ fjoin ! $ move ! (1 ∷ 0 ∷ 2 ∷ []) $ done !)))))
