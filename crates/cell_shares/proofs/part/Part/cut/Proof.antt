-- The cells are cut in two: both parts have the same pointer.
use Rattle.cell_shares.proofs.Names.{ℕ, List, [], ◌∷◌, ◌++◌, take, drop, refl, sym, a_type, inst_fn, Val, vstruct, vcons, vnil, of_list, SProp, Lft, Share, ftrue, fsep, feq, flft, ‵, raw, ◌⊛◌, ◌$◌, ◌∵◌, !, qed, move, keep, split, join, fsplit, fjoin, fjoin3, fpack, feq_i, use1, rewrite, suffices, done, agg, sub, whole, enter, of_opd, stop, fld, no_more, and_then, returns, alloc_all, pass_all, free_all, look_at, get, get_in, sets, WpFn, tables, RattleType, Valss, owns, no, yes, usize, param, layouts, block_ptr, plain, types_at, nothing, Stays, walk_of, says, stay_dropped, Goes-dropped, ends_at}
use denote.Param.Laws.{param_laws}
use Rattle.std.proofs.lemmas.List.{take-append-drop}
use Rattle.cell_shares.proofs.Owns.{cut_cells}
use Rattle.cell_shares.proofs.Sites.{PartOf, word, lie, part_of, opened, closed}
use Rattle.cell_shares.proofs.Alone.{respelled}
use Rattle.std.proofs.raw_atomic.Walks.{proved_at}
use Rattle.cell_shares.specs.contracts.part.Part.cut.{ended, clauses}
use Rattle.cell_shares.specs.contracts.part.Part.cut.Key.{name as #self}
use Rattle.cell_shares.proofs.part.Part.cut.Statement.{statement}
use Rattle.cell_shares.proofs.part.Part.cut.Code as code

pub cut_spec : {M : Type 1} → statement M
cut_spec 𝓤 𝓛 𝓜 𝓡 wired T L =
    let 𝓣 = tables 𝓤 𝓛.H 𝓜 𝓡 𝓡.env in let R : RattleType = param 0 T in let E = ended T in let c = clauses T 𝓛 𝓜.mem 𝓡.returns in
    let inst = layouts (a_type ∷ []) (T, tt) in let fn = inst_fn inst code.function in
    let spent : Stays E.signature.params E.kept = (stay_dropped (plain (λ _. PartOf R)) no, (stay_dropped (plain (λ _. usize)) yes, tt)) in
    proved_at 𝓛 E spent c 𝓜 𝓡 (Goes-dropped 𝓛 1 (plain (λ _. PartOf R)) no (λ κs x f. refl), (Goes-dropped 𝓛 1 (plain (λ _. usize)) yes (λ κs x f. refl), tt))
    (#self inst) fn (code.unfolded 𝓤 𝓛.H 𝓜 𝓡 wired (T, tt)) (λ y are.
    let κ : Lft = y.0.0.0 in let q : Share = y.0.1.0 in let d : (PartOf R).Denot = y.0.3.0 in let w : ℕ = y.0.3.1.0 in let vss = y.0.4 in
    let End : Val → SProp 𝓤 = (walk_of 𝓛 E spent c).post y in let xs = take w d.cells in let zs = drop w d.cells in
    let front : (PartOf R).Denot = part_of R d.ptr d.count xs in let others : (PartOf R).Denot = part_of R d.ptr d.count zs in
    qed 𝓛 (((‵ (flft κ q) ⊛ ‵ ftrue) ⊛ ‵ (owns (types_at E.signature.params y.0.0) y.0.3 vss)) ∷ raw ((c y.0.0 y.0.3).requires y.1) ∷ []) ∵
    split ! $ split ! $ move ! (2 ∷ []) $ fsplit ! $ keep ! (0 ∷ 2 ∷ []) $
    opened R (param_laws 0 T L) ! d vss.0 (λ s is.
    let u : Val = word R s in let us : List Val = u ∷ mir.Val.vint mir.Syntax.w64 w ∷ [] in let pair : Val = vstruct (vcons u (vcons u vnil)) in
    suffices ! _ (respelled 𝓤 (λ (vs : List Val). WpFn 𝓤 𝓛.H 𝓣.C 𝓣.Λ fn vs End) us _ (λ i. is i ++ (are.1.0.0 i ++ []))) $
    rewrite ! 0 (λ (cs : List (ℕ × R.Denot)). ‵ (lie R s cs)) (sym (take-append-drop w d.cells)) refl $
    use1 𝓛 (‵ (lie R s xs) ⊛ ‵ (lie R s zs)) (cut_cells R 𝓛 (block_ptr s.block s.offset) xs zs) $ split ! $ closed R ! s xs $ move ! (1 ∷ []) $ closed R ! s zs $
    -- [the others; the first; the token] become the pair
    nothing ! $ move ! (2 ∷ 1 ∷ 0 ∷ []) $ fjoin3 ! $ feq_i ! (List Val) (pair ∷ []) (pair ∷ []) refl $ fjoin ! $
    fpack ! (Valss (PartOf R ∷ PartOf R ∷ []))
    (λ uss. fsep (feq (List Val) (pair ∷ []) (vstruct (of_list (uss.0 ++ (uss.1.0 ++ []))) ∷ [])) (owns (PartOf R ∷ PartOf R ∷ []) (front, (others, tt)) uss)) (u ∷ [], (u ∷ [], tt)) $
    enter ! 𝓣.C 𝓣.Λ fn us End $ alloc_all ! (λ l. pass_all ! refl ((tt, (tt, tt)), ((tt, record { fits = are.1.0.1 }), tt)) $
    sets ! (of_opd ! (get_in ! (fld ! refl (stop !)) (sub ! 0 refl (whole !)))) refl (tt, tt) $
    sets ! (agg ! (and_then ! (get ! refl) (no_more !))) refl (tt, (tt, tt)) $ sets ! (agg ! (and_then ! (get ! refl) (no_more !))) refl (tt, (tt, tt)) $
    sets ! (of_opd ! (get ! refl)) refl (tt, (tt, tt)) $ sets ! (of_opd ! (get ! refl)) refl (tt, (tt, tt)) $
    sets ! (agg ! (and_then ! (get ! refl) (and_then ! (get ! refl) (no_more !)))) refl (tt, ((tt, tt), ((tt, tt), tt))) $
    returns ! (look_at ! 0 refl) $ free_all ! refl $
    suffices ! _ (ends_at 𝓛 E spent c y pair (front, others) (tt, (tt, tt)) (tt, (tt, tt))) $ says ! ((refl, refl, refl), (refl, refl, refl)) $
    nothing ! $ nothing ! $ fjoin ! $ nothing ! $ fjoin ! $ nothing ! $ move ! (3 ∷ 0 ∷ []) $ join ! $ keep ! (0 ∷ 1 ∷ 2 ∷ []) $ done !)))
