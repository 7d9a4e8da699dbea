-- A full row is taken apart, and its places become cells.
use Rattle.cell_shares.proofs.Names.{◌≡◌, ℕ, ◌+◌, ◌*◌, List, [], ◌∷◌, ◌++◌, length, refl, sym, ◌∙◌, subst, arith, a_type, inst_fn, Val, SProp, id⊢, never, T as Holds, has_ty, WT, ftrue, fsep, flft, ‵, raw, ◌⊛◌, some, later, at_ret, ◌$◌, ◌∵◌, !, qed, done, move, keep, leave, split, join, fsplit, fjoin, flt_l, pick, await, rewrite, use1, suffices, agg, sub, whole, enter, of_opd, stop, fld, no_more, and_then, first, blocks, exec, returns, alloc_all, pass_all, free_all, look_at, get, get_in, sets, lands_last, is as equals, env, ◌⊑◌, fact, WpFn, tables, RattleType, owns, no, param, layout, layouts, block_ptr, in_block, in_a_block, plain, types_at, nothing, heard, triple_of, Is, shows, Bool, Stays, walk_of, says, stay_dropped, Goes-dropped, ends_at}
use denote.Param.Laws.{param_laws}
use denote.Steps.{peeks}
use denote.Triple.Call.{calls_at_last}
use denote.Triple.Table.{framed}
use Rattle.std.proofs.VecSteps.Shapes.{after}
use Rattle.std.proofs.raw_atomic.Walks.{proved_at}
use Rattle.core.specs.Mem.Slots.{slots_items, slots_filled, slots_ptr, slots_len, slots_counts, slots_small, IsFull}
use Rattle.core.specs.Mem.Slots.Ownership.{slots, bytes_of, owned}
use Rattle.core.specs.contracts.slots.Slots.into_raw_parts as apart
use Rattle.core.proofs.slots.Slots.into_raw_parts.Met as callee
use Rattle.cell_shares.specs.Parts.{numbered}
use Rattle.cell_shares.proofs.Alone.{Alone, word_of, respelled}
use Rattle.cell_shares.proofs.Owns.{of_row}
use Rattle.cell_shares.proofs.RawRows.{Row, RawParts, row-laws, pair_word, parts_word}
use Rattle.cell_shares.proofs.Sites.{Site, word, lie, part_of, closed}
use Rattle.cell_shares.specs.contracts.part.Part.of.{ended, clauses}
use Rattle.cell_shares.specs.contracts.part.Part.of.Key.{name as #self}
use Rattle.cell_shares.proofs.part.Part.of.Statement.{statement}
use Rattle.cell_shares.proofs.part.Part.of.Code as code

pub of_spec : {M : Type 1} → statement M
of_spec 𝓤 𝓛 𝓜 𝓡 wired T L =
    let 𝓣 = tables 𝓤 𝓛.H 𝓜 𝓡 𝓡.env in let R : RattleType = param 0 T in let E = ended T in let c = clauses T 𝓛 𝓜.mem 𝓡.returns in
    let types = layouts (a_type ∷ []) (T, tt) in let fn = inst_fn types code.function in let G = triple_of 𝓛 (apart.signature T) (apart.spec T 𝓛 𝓜.mem 𝓡.returns) in
    let spent : Stays E.signature.params E.kept = (stay_dropped (plain (λ _. Row R)) no, tt) in
    proved_at 𝓛 E spent c 𝓜 𝓡 (Goes-dropped 𝓛 1 (plain (λ _. Row R)) no (λ κs x f. refl), tt) (#self types) fn (code.unfolded 𝓤 𝓛.H 𝓜 𝓡 wired (T, tt)) (λ y are.
    let r : (Row R).Denot = y.0.3.0 in let n : ℕ = slots_len r in let xs : List T.Denot = slots_items r in let fs : List Bool = slots_filled r in
    let lone : Alone (layout (Row R)) y.0.4.0 = word_of 𝓛 (Row R) (row-laws R (param_laws 0 T L)) r y.0.4.0 are.0 in let End : Val → SProp 𝓤 = (walk_of 𝓛 E spent c).post y in
    let z : G.Ghost = (((y.0.0.0, tt), (y.0.1.0, tt), tt, (r, tt), (lone.word ∷ [], tt)), tt) in
    let Told = λ (d : RawParts.Denot). (d.0 ≡ slots_ptr r) × (d.1 ≡ n) in
    qed 𝓛 (((‵ (flft y.0.0.0 y.0.1.0) ⊛ ‵ ftrue) ⊛ ‵ (owns (types_at E.signature.params y.0.0) y.0.3 y.0.4)) ∷ raw (fact 𝓤 (y.0.0.0 ⊑ T.lives)) ∷ raw (fact 𝓤 (IsFull r)) ∷ []) ∵
    suffices ! _ (respelled 𝓤 (λ (vs : List Val). WpFn 𝓤 𝓛.H 𝓣.C 𝓣.Λ fn vs End) (lone.word ∷ []) _ (λ i. lone.is i ++ [])) $
    enter ! 𝓣.C 𝓣.Λ fn (lone.word ∷ []) End $ alloc_all ! (λ l. pass_all ! refl (lone.fits, tt) $ first ! $ blocks ! $ sets ! (of_opd ! (get ! refl)) refl lone.fits $
    move ! (2 ∷ []) $ heard ! (IsFull r) (λ full. split ! $ move ! (1 ∷ []) $ fsplit ! $ rewrite ! 0 (λ (vs : List Val). ‵ ((Row R).own_val r vs)) lone.is refl $ fjoin ! $
    move ! (1 ∷ 0 ∷ []) $ join ! $ nothing ! $ move ! (2 ∷ 0 ∷ []) $ join ! $ move ! (1 ∷ 0 ∷ []) $ join ! $ use1 𝓛 (raw (G.pre z)) (id⊢ 𝓤 _) $
    calls_at_last ! (framed 𝓤 𝓛.H 𝓜 𝓣) G (callee.met 𝓤 𝓛 𝓜 𝓡 (code.calls-core::slots::Slots::into_raw_parts 𝓡.env wired) T L) z (and_then ! (get ! refl) (no_more !)) (λ v.
    use1 𝓛 (later (some (λ (d : RawParts.Denot). ((‵ (flft y.0.0.0 y.0.1.0) ⊛ ‵ ftrue) ⊛ ‵ (RawParts.own_val d (v ∷ []))) ⊛ some (λ (ws : Unit {0} × Unit {0}). ‵ (fsep ftrue ftrue)
    ⊛ raw (fact 𝓤 (Told d)) ⊛ ‵ (owned R (slots_ptr r) n xs fs))))) (id⊢ 𝓤 _) $ await ! tt $ pick ! (λ d. split ! $ split ! $ move ! (2 ∷ []) $ pick ! (λ ws. split ! $ leave ! $ split ! $
    heard ! (Told d) (λ told. fsplit ! $ flt_l ! (λ lawful. in_a_block ! (slots_ptr r) (λ p. in_block p (slots R p xs fs)) (id⊢ 𝓤 (never 𝓤)) (λ b o here.
    -- [the places; the token; the two words]
    move ! (2 ∷ []) $ peeks ! RawParts (Is RawParts) (shows 𝓛 RawParts) d (v ∷ []) (λ is. leave ! $
    let s : Site R (slots_ptr r) n = record { block = b; offset = o; here = here; lawful = lawful } in let pair : Val = pair_word (block_ptr b o) n in
    let got : v ≡ pair = parts_word d v is ∙ (λ i. pair_word ((told.0 ∙ here) i) (told.1 i)) in let fits : WT pair = (tt, (record { fits = slots_small r }, tt)) in
    lands_last ! refl (subst (λ (u : Val). Holds (has_ty (layout RawParts) u) × WT u) (sym got) (tt, fits)) $ exec ! 𝓣.C 𝓣.Λ (env fn.locals l) (after 1 fn.body) (at_ret (env fn.locals l) End) $
    sets ! (equals ! (of_opd ! (get ! refl)) got) refl (tt, fits) $ sets ! (agg ! (and_then ! (get_in ! (fld ! refl (stop !)) (sub ! 0 refl (whole !))) (no_more !))) refl (tt, (tt, tt)) $
    returns ! (look_at ! 0 refl) $ free_all ! refl $
    let first_place : o ≡ o + 0 * bytes_of R = omega arith in rewrite ! 0 (λ (k : ℕ). ‵ (slots R (block_ptr b k) xs fs)) first_place refl $
    let counts = slots_counts r in let long : length fs ≡ length xs = sym counts.1 ∙ counts.0 in
    use1 𝓛 (‵ (lie R s (numbered 0 xs))) (of_row R 𝓛 (block_ptr b o) b o 0 xs fs refl long (λ j h. full j (omega arith) (let m : n ≡ length fs = counts.1 in omega (arith, h, m)))) $
    closed R ! s (numbered 0 xs) $
    suffices ! _ (ends_at 𝓛 E spent c y (word R s) (part_of R (slots_ptr r) n (numbered 0 xs)) (tt, tt) (tt, tt)) $ says ! (refl, refl, refl) $
    nothing ! $ nothing ! $ fjoin ! $ keep ! (2 ∷ 0 ∷ 1 ∷ []) $ done !))))))))))
