-- The struct is taken apart, and its one field is the lease's word.
use Rattle.cell_shares.proofs.Names.{◌≡◌, List, [], ◌∷◌, ◌++◌, refl, sym, ap, subst, ◌∙◌, a_type, inst_fn, Val, vstruct, vcons, vnil, of_list, SProp, ent, id⊢, ftrue, flft, ‵, raw, ◌⊛◌, ◌$◌, ◌∵◌, !, qed, done, move, keep, split, fjoin, fsplit, fpick, feq_l, rewrite, suffices, sub, whole, enter, of_opd, stop, fld, returns, alloc_all, pass_all, free_all, look_at, get, get_in, sets, WpFn, tables, RattleType, owns, Is, shows, no, param, layout, layouts, plain, types_at, nothing, Stays, walk_of, says, stay_dropped, ends_at}
use denote.Param.Laws.{param_laws}
use denote.Steps.{peeks}
use Rattle.std.proofs.raw_atomic.Walks.{proved_at}
use Rattle.core.proofs.alloc.Calls.{Goes-blank}
use Rattle.cell_shares.proofs.Alone.{Alone, word_of, wrapped}
use Rattle.cell_shares.proofs.Leases.{HeapLease, Right, lease-laws}
use Rattle.cell_shares.specs.contracts.right.FreeRight.into_lease.{ended, clauses}
use Rattle.cell_shares.specs.contracts.right.FreeRight.into_lease.Key.{name as #self}
use Rattle.cell_shares.proofs.right.FreeRight.into_lease.Statement.{statement}
use Rattle.cell_shares.proofs.right.FreeRight.into_lease.Code as code

pub into_lease_spec : {M : Type 1} → statement M
into_lease_spec 𝓤 𝓛 𝓜 𝓡 wired T L =
    let 𝓣 = tables 𝓤 𝓛.H 𝓜 𝓡 𝓡.env in let E = ended T in let c = clauses T 𝓛 𝓜.mem 𝓡.returns in
    let fn = inst_fn (layouts (a_type ∷ []) (T, tt)) code.function in let Lease : RattleType = HeapLease (param 0 T) in
    let spent : Stays E.signature.params E.kept = (stay_dropped (plain (λ _. Right (param 0 T))) no, tt) in
    proved_at 𝓛 E spent c 𝓜 𝓡 (Goes-blank 𝓛 1 (plain (λ _. Right (param 0 T))) no (λ κs x f. tt), tt) (#self (layouts (a_type ∷ []) (T, tt))) fn (code.unfolded 𝓤 𝓛.H 𝓜 𝓡 wired (T, tt)) (λ y are.
    let x : Lease.Denot = y.0.3.0.lease in let vs : List Val = y.0.4.0 in let End : Val → SProp 𝓤 = (walk_of 𝓛 E spent c).post y in
    qed 𝓛 (((‵ (flft y.0.0.0 y.0.1.0) ⊛ ‵ ftrue) ⊛ ‵ (owns (types_at E.signature.params y.0.0) y.0.3 y.0.4)) ∷ raw ((c y.0.0 y.0.3).requires y.1) ∷ []) ∵
    split ! $ move ! (1 ∷ []) $ fsplit ! $ fsplit ! $ fpick ! (λ uss. fsplit ! $ feq_l ! (λ struct. fsplit ! $ peeks ! Lease (Is Lease) (shows 𝓛 Lease) x uss.0 (λ is.
    let lone : Alone (layout Lease) uss.0 = word_of 𝓛 Lease (lease-laws (param 0 T) (param_laws 0 T L)) x uss.0 is in
    let struct_word : Val = vstruct (vcons lone.word vnil) in let same : vs ≡ struct_word ∷ [] = struct ∙ ap (λ (us : List Val). vstruct (of_list (us ++ [])) ∷ []) lone.is in
    suffices ! _ (subst (λ (us : List Val). ent 𝓤 (WpFn 𝓤 𝓛.H 𝓣.C 𝓣.Λ fn (struct_word ∷ []) End) (WpFn 𝓤 𝓛.H 𝓣.C 𝓣.Λ fn us End)) (sym (λ i. same i ++ [])) (id⊢ 𝓤 _)) $
    rewrite ! 0 (λ (us : List Val). ‵ (Lease.own_val x us)) lone.is refl $ keep ! (0 ∷ 4 ∷ []) $
    -- [what the lease owns; the token]
    enter ! 𝓣.C 𝓣.Λ fn (struct_word ∷ []) End $ alloc_all ! (λ l. pass_all ! refl (wrapped (layout Lease) lone.word lone.fits, tt) $
    sets ! (of_opd ! (get_in ! (fld ! refl (stop !)) (sub ! 0 refl (whole !)))) refl lone.fits $ sets ! (of_opd ! (get ! refl)) refl lone.fits $
    returns ! (look_at ! 0 refl) $ free_all ! refl $
    suffices ! _ (ends_at 𝓛 E spent c y lone.word x ((tt, tt), tt) (tt, tt)) $ says ! refl $
    nothing ! $ nothing ! $ fjoin ! $ move ! (2 ∷ []) $ keep ! (0 ∷ 1 ∷ 2 ∷ []) $ done !)))))
