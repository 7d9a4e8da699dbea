-- The cells stay where they lie, and the ghost list has them in another order.
use denote.Param.Laws.{param_laws}
use Rattle.cell_shares.proofs.Names.{ℕ, List, [], ◌∷◌, ◌++◌, refl, a_type, named, inst_fn, Val, vptr, SProp, Lft, Share, ftrue, flft, ‵, raw, ◌⊛◌, ◌$◌, ◌∵◌, !, qed, move, keep, split, fsplit, fjoin, use1, suffices, done, agg, sub, whole, enter, of_opd, stop, fld, no_more, and_then, returns, alloc_all, pass_all, free_all, look_at, get, get_in, sets, ◌⊑◌, fact, WpFn, tables, RattleType, owns, RefOf, no, yes, param, layouts, block_ptr, plain, types_at, nothing, heard, Stays, walk_of, says, stay_dropped, Goes-dropped, ends_at}
use denote.Ref.{shr_Tells}
use Rattle.cell_shares.specs.Orders.{order_places}
use Rattle.cell_shares.specs.contracts.order.Order as order
use Rattle.cell_shares.specs.Parts.{places, Shuffled}
use Rattle.cell_shares.proofs.Owns.{shuffled}
use Rattle.cell_shares.proofs.Sites.{PartOf, word, lie, part_of, opened, closed}
use Rattle.cell_shares.proofs.Alone.{respelled}
use Rattle.cell_shares.proofs.Shuffles.{Carried, carried}
use Rattle.std.proofs.raw_atomic.Walks.{proved_at}
use Rattle.cell_shares.specs.contracts.part.Part.arrange.{ended, clauses}
use Rattle.cell_shares.specs.contracts.part.Part.arrange.Key.{name as #self}
use Rattle.cell_shares.proofs.part.Part.arrange.Statement.{statement}
use Rattle.cell_shares.proofs.part.Part.arrange.Code as code

pub arrange_spec : {M : Type 1} → statement M
arrange_spec 𝓤 𝓛 𝓜 𝓡 wired T L =
    let 𝓣 = tables 𝓤 𝓛.H 𝓜 𝓡 𝓡.env in let R : RattleType = param 0 T in let E = ended T in let c = clauses T 𝓛 𝓜.mem 𝓡.returns in
    let O : RattleType = order.the_row in let inst = layouts (a_type ∷ []) (T, tt) in let fn = inst_fn inst code.function in
    let spent : Stays E.signature.params E.kept = (stay_dropped (plain (λ _. PartOf R)) no, (stay_dropped (RefOf (0 ∷ []) tt (plain (λ _. O)) (λ _. tt)) yes, tt)) in
    proved_at 𝓛 E spent c 𝓜 𝓡 (Goes-dropped 𝓛 2 (plain (λ _. PartOf R)) no (λ κs x f. refl), (Goes-dropped 𝓛 2 (RefOf (0 ∷ []) tt (plain (λ _. O)) (λ _. tt)) yes (λ κs x f. refl), tt))
    (#self inst) fn (code.unfolded 𝓤 𝓛.H 𝓜 𝓡 wired (T, tt)) (λ y are.
    let κ : Lft = y.0.0.0 in let κ₁ : Lft = y.0.0.1.0 in let q : Share = y.0.1.0 in let q₁ : Share = y.0.1.1.0 in let d : (PartOf R).Denot = y.0.3.0 in let r = y.0.3.1.0 in
    let to : List ℕ = order_places r.now d.count in let vss = y.0.4 in
    let End : Val → SProp 𝓤 = (walk_of 𝓛 E spent c).post y in
    qed 𝓛 (((‵ (flft κ q) ⊛ ‵ (flft κ₁ q₁) ⊛ ‵ ftrue) ⊛ ‵ (owns (types_at E.signature.params y.0.0) y.0.3 vss)) ∷ raw (fact 𝓤 (κ₁ ⊑ T.lives)) ∷ raw (fact 𝓤 (Shuffled (places d.cells) to)) ∷ []) ∵
    move ! (2 ∷ []) $ heard ! (Shuffled (places d.cells) to) (λ mixed. split ! $ move ! (1 ∷ []) $ fsplit ! $ keep ! (0 ∷ 2 ∷ []) $
    opened R (param_laws 0 T L) ! d vss.0 (λ s is.
    let us : List Val = word R s ∷ vptr r.ref_ptr.0 r.ref_ptr.1 ∷ [] in let got : Carried d.cells to = carried (places d.cells) to d.cells mixed refl in
    let new : (PartOf R).Denot = part_of R d.ptr d.count got.cells in
    suffices ! _ (respelled 𝓤 (λ (vs : List Val). WpFn 𝓤 𝓛.H 𝓣.C 𝓣.Λ fn vs End) us _ (λ i. is i ++ (shr_Tells (named 0) κ O r vss.1.0 are.1.0 i ++ []))) $
    use1 𝓛 (‵ (lie R s got.cells)) (shuffled R 𝓛 (block_ptr s.block s.offset) d.cells got.cells got.shuffled) $ closed R ! s new.cells $
    -- [the new part; the tokens]
    enter ! 𝓣.C 𝓣.Λ fn us End $ alloc_all ! (λ l. pass_all ! refl ((tt, (tt, tt)), ((tt, tt), tt)) $
    sets ! (of_opd ! (get_in ! (fld ! refl (stop !)) (sub ! 0 refl (whole !)))) refl (tt, tt) $
    sets ! (agg ! (and_then ! (get ! refl) (no_more !))) refl (tt, (tt, tt)) $
    returns ! (look_at ! 0 refl) $ free_all ! refl $
    suffices ! _ (ends_at 𝓛 E spent c y (word R s) new (tt, (tt, tt)) (tt, (tt, tt))) $ says ! (refl, refl, got.shuffled, got.placed) $
    nothing ! $ nothing ! $ fjoin ! $ nothing ! $ fjoin ! $ keep ! (2 ∷ 0 ∷ 1 ∷ []) $ done !))))
