-- The lease's word becomes the one field of a struct.
use Rattle.cell_shares.proofs.Names.{List, [], ◌∷◌, ◌++◌, refl, sym, subst, a_type, inst_fn, Val, vstruct, vcons, vnil, of_list, SProp, ent, id⊢, ftrue, flft, fsep, feq, ‵, raw, ◌⊛◌, ◌$◌, ◌∵◌, !, qed, done, move, keep, split, fjoin, fpack, feq_i, rewrite, fsplit, suffices, agg, enter, of_opd, no_more, and_then, returns, alloc_all, pass_all, free_all, look_at, get, sets, WpFn, tables, RattleType, Valss, owns, no, param, layout, layouts, plain, types_at, nothing, Stays, walk_of, says, stay_dropped, Goes-dropped, ends_at}
use denote.Param.Laws.{param_laws}
use Rattle.std.proofs.raw_atomic.Walks.{proved_at}
use Rattle.cell_shares.proofs.Alone.{Alone, word_of, wrapped}
use Rattle.cell_shares.proofs.Leases.{HeapLease, Right, lease-laws}
use Rattle.cell_shares.specs.contracts.right.FreeRight.new.{ended, clauses}
use Rattle.cell_shares.specs.contracts.right.FreeRight.new.Key.{name as #self}
use Rattle.cell_shares.proofs.right.FreeRight.new.Statement.{statement}
use Rattle.cell_shares.proofs.right.FreeRight.new.Code as code

pub new_spec : {M : Type 1} → statement M
new_spec 𝓤 𝓛 𝓜 𝓡 wired T L =
    let 𝓣 = tables 𝓤 𝓛.H 𝓜 𝓡 𝓡.env in let E = ended T in let c = clauses T 𝓛 𝓜.mem 𝓡.returns in
    let fn = inst_fn (layouts (a_type ∷ []) (T, tt)) code.function in let Lease : RattleType = HeapLease (param 0 T) in
    let spent : Stays E.signature.params E.kept = (stay_dropped (plain (λ _. Lease)) no, tt) in
    proved_at 𝓛 E spent c 𝓜 𝓡 (Goes-dropped 𝓛 1 (plain (λ _. Lease)) no (λ κs x f. refl), tt) (#self (layouts (a_type ∷ []) (T, tt))) fn (code.unfolded 𝓤 𝓛.H 𝓜 𝓡 wired (T, tt)) (λ y are.
    let x : Lease.Denot = y.0.3.0 in let vs : List Val = y.0.4.0 in
    let lone : Alone (layout Lease) vs = word_of 𝓛 Lease (lease-laws (param 0 T) (param_laws 0 T L)) x vs are.0 in
    let whole : Val = vstruct (vcons lone.word vnil) in let right : (Right (param 0 T)).Denot = record { lease = x } in
    let End : Val → SProp 𝓤 = (walk_of 𝓛 E spent c).post y in
    qed 𝓛 (((‵ (flft y.0.0.0 y.0.1.0) ⊛ ‵ ftrue) ⊛ ‵ (owns (types_at E.signature.params y.0.0) y.0.3 y.0.4)) ∷ raw ((c y.0.0 y.0.3).requires y.1) ∷ []) ∵
    suffices ! _ (subst (λ (us : List Val). ent 𝓤 (WpFn 𝓤 𝓛.H 𝓣.C 𝓣.Λ fn (lone.word ∷ []) End) (WpFn 𝓤 𝓛.H 𝓣.C 𝓣.Λ fn us End)) (sym (λ i. lone.is i ++ [])) (id⊢ 𝓤 _)) $
    enter ! 𝓣.C 𝓣.Λ fn (lone.word ∷ []) End $ alloc_all ! (λ l. pass_all ! refl (lone.fits, tt) $
    sets ! (of_opd ! (get ! refl)) refl lone.fits $ sets ! (agg ! (and_then ! (get ! refl) (no_more !))) refl (wrapped (layout Lease) lone.word lone.fits) $
    returns ! (look_at ! 0 refl) $ free_all ! refl $
    -- [the token with what the lease owns; the empty `requires`]
    split ! $ move ! (1 ∷ []) $ fsplit ! $ rewrite ! 0 (λ (us : List Val). ‵ (Lease.own_val x us)) lone.is refl $ nothing ! $ move ! (1 ∷ 0 ∷ []) $ fjoin ! $
    feq_i ! (List Val) (whole ∷ []) (whole ∷ []) refl $ fjoin ! $
    fpack ! (Valss (Lease ∷ [])) (λ uss. fsep (feq (List Val) (whole ∷ []) (vstruct (of_list (uss.0 ++ [])) ∷ [])) (owns (Lease ∷ []) (x, tt) uss)) (lone.word ∷ [], tt) $
    nothing ! $ move ! (1 ∷ 0 ∷ []) $ fjoin ! $
    suffices ! _ (ends_at 𝓛 E spent c y whole right (tt, tt) (tt, tt)) $ says ! refl $
    nothing ! $ nothing ! $ fjoin ! $ keep ! (3 ∷ 0 ∷ 1 ∷ []) $ done !))
