-- A part of all places becomes a full row: its cells are the row's places again.
use Rattle.cell_shares.proofs.Names.{◌≡◌, ℕ, ◌+◌, ◌*◌, ◌^◌, ◌<◌, List, [], ◌∷◌, ◌++◌, length, replicate, length-replicate, refl, sym, ◌∙◌, subst, arith, w64, a_type, inst_fn, Val, vint, SProp, emp, id⊢, T as Holds, has_ty, WT, ftrue, fsep, flft, ‵, raw, ◌⊛◌, some, later, at_ret, ◌$◌, ◌∵◌, !, qed, done, move, keep, leave, split, join, fsplit, fjoin, feq_i, flt_i, pick, await, rewrite, use0, use1, suffices, sub, whole, enter, of_opd, stop, fld, no_more, and_then, first, blocks, exec, returns, alloc_all, pass_all, free_all, look_at, get, get_in, sets, lands_last, env, ◌⊑◌, fact, fact_i, WpFn, tables, RattleType, usize, owns, no, yes, param, layout, layouts, block_ptr, plain, types_at, nothing, heard, triple_of, Is, shows, Bool, true, Stays, walk_of, says, stay_dropped, Goes-dropped, ends_at}
use denote.Param.Laws.{Laws, param_laws}
use denote.Steps.{peeks}
use denote.Triple.Call.{calls_at_last}
use denote.Triple.Table.{framed}
use Rattle.std.specs.List.{range_with_len}
use Rattle.std.proofs.VecSteps.Shapes.{after}
use Rattle.std.proofs.raw_atomic.Walks.{proved_at}
use Rattle.core.specs.Mem.Slots.{slots_items, slots_filled, slots_ptr, slots_len}
use Rattle.core.specs.Mem.Slots.Ownership.{slots, bytes_of}
use Rattle.core.specs.contracts.slots.Slots.from_raw_parts as whole_row
use Rattle.core.proofs.slots.Slots.from_raw_parts.Met as callee
use Rattle.cell_shares.specs.Parts.{places, values}
use Rattle.cell_shares.proofs.Alone.{respelled}
use Rattle.cell_shares.proofs.Numbers.{renumbered, values-long}
use Rattle.cell_shares.proofs.Owns.{to_row}
use Rattle.cell_shares.proofs.RawRows.{Row, row_word, pair_word}
use Rattle.cell_shares.proofs.Sites.{PartOf, word, pointer, lie, opened}
use Rattle.cell_shares.specs.contracts.part.Part.into_row.{ended, clauses}
use Rattle.cell_shares.specs.contracts.part.Part.into_row.Key.{name as #self}
use Rattle.cell_shares.proofs.part.Part.into_row.Statement.{statement}
use Rattle.cell_shares.proofs.part.Part.into_row.Code as code

pub into_row_spec : {M : Type 1} → statement M
into_row_spec 𝓤 𝓛 𝓜 𝓡 wired T L =
    let 𝓣 = tables 𝓤 𝓛.H 𝓜 𝓡 𝓡.env in let R : RattleType = param 0 T in let laws : Laws R = param_laws 0 T L in let E = ended T in let c = clauses T 𝓛 𝓜.mem 𝓡.returns in
    let types = layouts (a_type ∷ []) (T, tt) in let fn = inst_fn types code.function in let G = triple_of 𝓛 (whole_row.signature T) (whole_row.spec T 𝓛 𝓜.mem 𝓡.returns) in
    let spent : Stays E.signature.params E.kept = (stay_dropped (plain (λ _. PartOf R)) no, (stay_dropped (plain (λ _. usize)) yes, tt)) in
    proved_at 𝓛 E spent c 𝓜 𝓡 (Goes-dropped 𝓛 1 (plain (λ _. PartOf R)) no (λ κs x f. refl), (Goes-dropped 𝓛 1 (plain (λ _. usize)) yes (λ κs x f. refl), tt))
    (#self types) fn (code.unfolded 𝓤 𝓛.H 𝓜 𝓡 wired (T, tt)) (λ y are.
    let d : (PartOf R).Denot = y.0.3.0 in let n : ℕ = y.0.3.1.0 in let small : n < 2 ^ 64 = are.1.0.1 in let End : Val → SProp 𝓤 = (walk_of 𝓛 E spent c).post y in
    let xs : List T.Denot = values d.cells in let fs : List Bool = replicate (length xs) true in let All : Type 0 = (n ≡ d.count) × (places d.cells ≡ range_with_len 0 n) in
    qed 𝓛 (((‵ (flft y.0.0.0 y.0.1.0) ⊛ ‵ ftrue) ⊛ ‵ (owns (types_at E.signature.params y.0.0) y.0.3 y.0.4)) ∷ raw (fact 𝓤 (y.0.0.0 ⊑ T.lives)) ∷ raw (fact 𝓤 All) ∷ []) ∵
    move ! (2 ∷ []) $ heard ! All (λ all. split ! $ move ! (1 ∷ []) $ fsplit ! $ opened R laws ! d y.0.4.0 (λ s is.
    let us : List Val = word R s ∷ vint w64 n ∷ [] in
    let z : G.Ghost = (((y.0.0.0, tt), (y.0.1.0, tt), tt, (block_ptr s.block s.offset, (n, tt)), (pointer R s ∷ [], (vint w64 n ∷ [], tt))), (xs, fs)) in
    let Made = λ (r : (Row R).Denot). (slots_ptr r ≡ block_ptr s.block s.offset) × (slots_len r ≡ n) × (slots_items r ≡ xs) × (slots_filled r ≡ fs) in
    suffices ! _ (respelled 𝓤 (λ (vs : List Val). WpFn 𝓤 𝓛.H 𝓣.C 𝓣.Λ fn vs End) us _ (λ i. is i ++ (are.1.0.0 i ++ []))) $
    enter ! 𝓣.C 𝓣.Λ fn us End $ alloc_all ! (λ l. pass_all ! refl ((tt, (tt, tt)), ((tt, record { fits = small }), tt)) $
    sets ! (of_opd ! (get_in ! (fld ! refl (stop !)) (sub ! 0 refl (whole !)))) refl (tt, tt) $ first ! $ blocks ! $
    -- what the call asks: the token, the pointer and the number, that the values live, and the places
    let items : n ≡ length xs = values-long 0 n d.cells all.1 in let Long : Type 0 = (n ≡ length xs) × (n ≡ length fs) in
    rewrite ! 0 (λ (cs : List (ℕ × R.Denot)). ‵ (lie R s cs)) (renumbered 0 n d.cells all.1) refl $
    use1 𝓛 (‵ (slots R (block_ptr s.block (s.offset + 0 * bytes_of R)) xs fs)) (to_row R 𝓛 (block_ptr s.block s.offset) s.block s.offset 0 xs refl) $
    let first_place : s.offset + 0 * bytes_of R ≡ s.offset = omega arith in rewrite ! 0 (λ (k : ℕ). ‵ (slots R (block_ptr s.block k) xs fs)) first_place refl $
    flt_i ! (n * bytes_of R) (2 ^ 63) (subst (λ (k : ℕ). k * bytes_of R < 2 ^ 63) (sym all.0) s.lawful) $ fjoin ! $
    use0 𝓛 (raw (fact 𝓤 Long)) (fact_i 𝓤 Long (emp 𝓤) (items, items ∙ sym (length-replicate (length xs) true))) $ join ! $ move ! (3 ∷ 0 ∷ []) $ join ! $
    move ! (1 ∷ []) $ rewrite ! 0 (λ (vs : List Val). ‵ (fsep (usize.own_val n vs) ftrue)) are.1.0.0 refl $
    feq_i ! (List Val) (pointer R s ∷ []) (pointer R s ∷ []) refl $ fjoin ! $ move ! (2 ∷ 0 ∷ []) $ join ! $ join ! $ use1 𝓛 (raw (G.pre z)) (id⊢ 𝓤 _) $
    calls_at_last ! (framed 𝓤 𝓛.H 𝓜 𝓣) G (callee.met 𝓤 𝓛 𝓜 𝓡 (code.calls-core::slots::Slots::from_raw_parts 𝓡.env wired) T L) z (and_then ! (get ! refl) (and_then ! (get ! refl) (no_more !))) (λ v.
    use1 𝓛 (later (some (λ (r : (Row R).Denot). ((‵ (flft y.0.0.0 y.0.1.0) ⊛ ‵ ftrue) ⊛ ‵ ((Row R).own_val r (v ∷ []))) ⊛ some (λ (ws : Unit {0} × (Unit {0} × Unit {0})).
    ‵ (fsep ftrue (fsep ftrue ftrue)) ⊛ raw (fact 𝓤 (Made r)))))) (id⊢ 𝓤 _) $ await ! tt $ pick ! (λ r. split ! $ split ! $ move ! (2 ∷ []) $ pick ! (λ ws. split ! $ leave ! $
    heard ! (Made r) (λ made. move ! (1 ∷ []) $ peeks ! (Row R) (Is (Row R)) (shows 𝓛 (Row R)) r (v ∷ []) (λ seen.
    -- [the row; the token]
    let pair : Val = pair_word (block_ptr s.block s.offset) n in let got : v ≡ pair = row_word R laws r v seen ∙ (λ i. pair_word (made.0 i) (made.1 i)) in
    let fits : Holds (has_ty (layout (Row R)) v) × WT v = subst (λ (u : Val). Holds (has_ty (layout (Row R)) u) × WT u) (sym got) (tt, (tt, (record { fits = small }, tt))) in
    lands_last ! refl fits $ exec ! 𝓣.C 𝓣.Λ (env fn.locals l) (after 2 fn.body) (at_ret (env fn.locals l) End) $ sets ! (of_opd ! (get ! refl)) refl fits $ returns ! (look_at ! 0 refl) $
    free_all ! refl $
    suffices ! _ (ends_at 𝓛 E spent c y v r (tt, (tt, tt)) (tt, (tt, tt))) $ says ! (made.0 ∙ sym s.here, made.1) $
    nothing ! $ nothing ! $ fjoin ! $ nothing ! $ fjoin ! $ keep ! (2 ∷ 0 ∷ 1 ∷ []) $ done !)))))))))
