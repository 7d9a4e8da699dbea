-- Both `&mut` are opened: one buffer can't be held twice.
use Rattle.cell_shares.proofs.Names.{ℕ, List, [], ◌∷◌, ◌++◌, refl, a_type, named, inst_fn, Val, vunit, vptr, SProp, full_share, ftrue, flft, ‵, raw, ◌⊛◌, ◌$◌, ◌∵◌, !, qed, done, move, keep, split, join, fsplit, fsplit3, fjoin, fjoin3, feq_i, rewrite, suffices, enter, of_opd, unit_lit, returns, alloc_all, pass_all, free_all, look_at, sets, ◌⊑◌, fact, WpFn, tables, RattleType, owns, param, layouts, cell_at, plain, types_at, nothing, heard, opens, closes, Stays, walk_of, says, stay_ref, Goes-ref, ends_at}
use denote.Param.Laws.{Laws, param_laws}
use denote.Ref.{mut_Tells}
use Rattle.std.proofs.raw_atomic.Walks.{proved_at}
use Rattle.cell_shares.specs.Parts.{IsCell}
use Rattle.cell_shares.proofs.Alone.{respelled}
use Rattle.cell_shares.proofs.Apart.{apart}
use Rattle.cell_shares.proofs.Sites.{PartOf, word, opened, closed}
use Rattle.cell_shares.specs.contracts.part.Part.tell_apart.{ended, clauses}
use Rattle.cell_shares.specs.contracts.part.Part.tell_apart.Key.{name as #self}
use Rattle.cell_shares.proofs.part.Part.tell_apart.Statement.{statement}
use Rattle.cell_shares.proofs.part.Part.tell_apart.Code as code

pub tell_apart_spec : {M : Type 1} → statement M
tell_apart_spec 𝓤 𝓛 𝓜 𝓡 wired T L =
    let 𝓣 = tables 𝓤 𝓛.H 𝓜 𝓡 𝓡.env in let R : RattleType = param 0 T in let laws : Laws R = param_laws 0 T L in
    let E = ended T in let c = clauses T 𝓛 𝓜.mem 𝓡.returns in let types = layouts (a_type ∷ []) (T, tt) in let fn = inst_fn types code.function in
    let kept : Stays E.signature.params E.kept = (stay_ref (0 ∷ []) tt (plain (λ _. PartOf R)), (stay_ref (1 ∷ []) tt (plain (λ _. PartOf R)), tt)) in
    proved_at 𝓛 E kept c 𝓜 𝓡 (Goes-ref 𝓛 3 0 tt (plain (λ _. PartOf R)), (Goes-ref 𝓛 3 1 tt (plain (λ _. PartOf R)), tt))
    (#self types) fn (code.unfolded 𝓤 𝓛.H 𝓜 𝓡 wired (T, tt)) (λ y are.
    let self = y.0.3.0 in let d : (PartOf R).Denot = self.now in let rb : ℕ = self.ref_ptr.0 in let ro : ℕ = self.ref_ptr.1 in
    let other = y.0.3.1.0 in let f : (PartOf R).Denot = other.now in let sb : ℕ = other.ref_ptr.0 in let so : ℕ = other.ref_ptr.1 in
    let us : List Val = vptr rb ro ∷ vptr sb so ∷ [] in let End : Val → SProp 𝓤 = (walk_of 𝓛 E kept c).post y in
    let self_is = mut_Tells (named 0) y.0.0.0 (PartOf R) self y.0.4.0 are.0 in let other_is = mut_Tells (named 1) y.0.0.1.0 (PartOf R) other y.0.4.1.0 are.1.0 in
    let Both : Type 0 = ((x : T.Denot) × IsCell d.cells 0 0 x) × ((x : T.Denot) × IsCell f.cells 0 0 x) in
    qed 𝓛 (((‵ (flft y.0.0.0 y.0.1.0) ⊛ ‵ (flft y.0.0.1.0 y.0.1.1.0) ⊛ ‵ (flft y.0.0.1.1.0 y.0.1.1.1.0) ⊛ ‵ ftrue) ⊛ ‵ (owns (types_at E.signature.params y.0.0) y.0.3 y.0.4)) ∷ raw
    (fact 𝓤 (y.0.0.1.1.0 ⊑ T.lives)) ∷ raw (fact 𝓤 Both) ∷ []) ∵
    suffices ! _ (respelled 𝓤 (λ (vs : List Val). WpFn 𝓤 𝓛.H 𝓣.C 𝓣.Λ fn vs End) us _ (λ i. self_is i ++ (other_is i ++ []))) $
    move ! (2 ∷ []) $ heard ! Both (λ both. split ! $ move ! (1 ∷ []) $ fsplit ! $ fsplit3 ! $ move ! (3 ∷ []) $ fsplit ! $ fsplit3 ! $ move ! (7 ∷ []) $ split ! $ move ! (1 ∷ []) $ split ! $
    keep ! (8 ∷ 9 ∷ 2 ∷ 4 ∷ 5 ∷ 0 ∷ 1 ∷ []) $
    -- [of each part: what stands for its last value, the borrow, its token; the other tokens]
    enter ! 𝓣.C 𝓣.Λ fn us End $ alloc_all ! (λ l. pass_all ! refl ((tt, tt), ((tt, tt), tt)) $
    opens ! tt (PartOf R) {h = d} rb ro (λ vs. move ! (1 ∷ []) $ opened R laws ! d vs (λ s is. rewrite ! 1 (λ (ws : List Val). ‵ (cell_at full_share (PartOf R).mir ws rb ro)) is refl $
    move ! (5 ∷ 6 ∷ 7 ∷ []) $ opens ! tt (PartOf R) {h = f} sb so
    (λ ws. move ! (1 ∷ []) $ opened R laws ! f ws (λ z has. rewrite ! 1 (λ (vs : List Val). ‵ (cell_at full_share (PartOf R).mir vs sb so)) has refl $
    move ! (5 ∷ 0 ∷ []) $ apart (record { row = T; laws = L }) 𝓛 𝓜 d.cells f.cells both.0.0 both.1.0 both.0.1 both.1.1 ! s z (λ differ.
    closed R ! s d.cells $ move ! (6 ∷ 0 ∷ 7 ∷ 8 ∷ 9 ∷ []) $ closes ! tt (PartOf R) d (word R s ∷ []) rb ro $
    move ! (3 ∷ []) $ closed R ! z f.cells $ move ! (4 ∷ 0 ∷ 5 ∷ 6 ∷ 7 ∷ []) $ closes ! tt (PartOf R) f (word R z ∷ []) sb so $
    sets ! (of_opd ! (unit_lit !)) refl (tt, tt) $ returns ! (look_at ! 0 refl) $ free_all ! refl $
    suffices ! _ (ends_at 𝓛 E kept c y vunit tt (d, (f, tt)) (tt, (tt, tt))) $ says ! (refl, refl, differ) $
    feq_i ! (List Val) y.0.4.1.0 (vptr sb so ∷ []) other_is $ fjoin3 ! $ nothing ! $ move ! (1 ∷ 0 ∷ []) $ fjoin ! $
    move ! (2 ∷ 3 ∷ []) $ feq_i ! (List Val) y.0.4.0 (vptr rb ro ∷ []) self_is $ fjoin3 ! $ fjoin ! $
    move ! (1 ∷ 3 ∷ []) $ join ! $ move ! (2 ∷ 0 ∷ []) $ join ! $ feq_i ! (List Val) (vunit ∷ []) (vunit ∷ []) refl $ keep ! (1 ∷ 2 ∷ 0 ∷ []) $ done !))))))))
