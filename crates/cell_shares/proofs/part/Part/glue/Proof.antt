-- Two parts of one buffer become one: the pointer of either serves.
use denote.Param.Laws.{param_laws}
use Rattle.cell_shares.proofs.Names.{◌≡◌, List, [], ◌∷◌, ◌++◌, refl, sym, ◌∙◌, a_type, inst_fn, Val, SProp, Lft, Share, ftrue, flft, ‵, raw, ◌⊛◌, ◌$◌, ◌∵◌, !, qed, move, keep, split, join, fsplit, fjoin, use2, rewrite, suffices, done, agg, sub, whole, enter, of_opd, stop, fld, no_more, and_then, returns, alloc_all, pass_all, free_all, look_at, get, get_in, sets, ◌⊑◌, fact, WpFn, tables, RattleType, owns, no, param, layouts, Ptr, block_ptr, plain, types_at, nothing, heard, Stays, walk_of, says, stay_dropped, Goes-dropped, ends_at}
use Rattle.cell_shares.specs.Ownership.{cells_at}
use Rattle.cell_shares.proofs.Owns.{glue_cells}
use Rattle.cell_shares.proofs.Sites.{PartOf, word, lie, part_of, opened, closed}
use Rattle.cell_shares.proofs.Alone.{respelled}
use Rattle.std.proofs.raw_atomic.Walks.{proved_at}
use Rattle.cell_shares.specs.contracts.part.Part.glue.{ended, clauses}
use Rattle.cell_shares.specs.contracts.part.Part.glue.Key.{name as #self}
use Rattle.cell_shares.proofs.part.Part.glue.Statement.{statement}
use Rattle.cell_shares.proofs.part.Part.glue.Code as code

pub glue_spec : {M : Type 1} → statement M
glue_spec 𝓤 𝓛 𝓜 𝓡 wired T L =
    let 𝓣 = tables 𝓤 𝓛.H 𝓜 𝓡 𝓡.env in let R : RattleType = param 0 T in let E = ended T in let c = clauses T 𝓛 𝓜.mem 𝓡.returns in
    let inst = layouts (a_type ∷ []) (T, tt) in let fn = inst_fn inst code.function in let goes = Goes-dropped 𝓛 1 (plain (λ _. PartOf R)) no (λ κs x f. refl) in
    let spent : Stays E.signature.params E.kept = (stay_dropped (plain (λ _. PartOf R)) no, (stay_dropped (plain (λ _. PartOf R)) no, tt)) in
    proved_at 𝓛 E spent c 𝓜 𝓡 (goes, (goes, tt)) (#self inst) fn (code.unfolded 𝓤 𝓛.H 𝓜 𝓡 wired (T, tt)) (λ y are.
    let κ : Lft = y.0.0.0 in let q : Share = y.0.1.0 in let d : (PartOf R).Denot = y.0.3.0 in let f : (PartOf R).Denot = y.0.3.1.0 in let vss = y.0.4 in
    let End : Val → SProp 𝓤 = (walk_of 𝓛 E spent c).post y in
    let Same : Type 0 = (f.ptr ≡ d.ptr) × (f.count ≡ d.count) in let new : (PartOf R).Denot = part_of R d.ptr d.count (d.cells ++ f.cells) in
    qed 𝓛 (((‵ (flft κ q) ⊛ ‵ ftrue) ⊛ ‵ (owns (types_at E.signature.params y.0.0) y.0.3 vss)) ∷ raw (fact 𝓤 (κ ⊑ T.lives)) ∷ raw (fact 𝓤 Same) ∷ []) ∵
    move ! (2 ∷ []) $ heard ! Same (λ same. split ! $ split ! $ move ! (2 ∷ []) $ fsplit ! $ move ! (1 ∷ []) $ fsplit ! $ keep ! (2 ∷ 0 ∷ 3 ∷ []) $
    -- [the first part; the other; the token]
    opened R (param_laws 0 T L) ! d vss.0 (λ s is. move ! (1 ∷ []) $ opened R (param_laws 0 T L) ! f vss.1.0 (λ s' is'.
    let us : List Val = word R s ∷ word R s' ∷ [] in
    suffices ! _ (respelled 𝓤 (λ (vs : List Val). WpFn 𝓤 𝓛.H 𝓣.C 𝓣.Λ fn vs End) us _ (λ i. is i ++ (is' i ++ []))) $
    rewrite ! 0 (λ (p : Ptr). ‵ (cells_at R p f.cells)) (sym s'.here ∙ (same.0 ∙ s.here)) refl $ move ! (1 ∷ 0 ∷ []) $
    use2 𝓛 (‵ (lie R s (d.cells ++ f.cells))) (glue_cells R 𝓛 (block_ptr s.block s.offset) d.cells f.cells) $ closed R ! s new.cells $
    enter ! 𝓣.C 𝓣.Λ fn us End $ alloc_all ! (λ l. pass_all ! refl ((tt, (tt, tt)), ((tt, (tt, tt)), tt)) $
    sets ! (of_opd ! (get_in ! (fld ! refl (stop !)) (sub ! 0 refl (whole !)))) refl (tt, tt) $
    sets ! (agg ! (and_then ! (get ! refl) (no_more !))) refl (tt, (tt, tt)) $
    returns ! (look_at ! 0 refl) $ free_all ! refl $
    suffices ! _ (ends_at 𝓛 E spent c y (word R s) new (tt, (tt, tt)) (tt, (tt, tt))) $ says ! (refl, refl, refl) $
    nothing ! $ nothing ! $ fjoin ! $ nothing ! $ fjoin ! $ nothing ! $ move ! (3 ∷ 0 ∷ []) $ join ! $ keep ! (0 ∷ 1 ∷ 2 ∷ []) $ done !)))))
