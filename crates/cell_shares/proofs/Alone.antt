-- Types of one machine word, whatever the word is.
use Rattle.cell_shares.proofs.Names.{◌≡◌, List, [], ◌∷◌, T, refl, sym, subst, SProp, ent, id⊢, Bool, true, false, Ty, ty_struct, tcons, tnil, Val, vstruct, vcons, vnil, has_ty, WT, Logic, RattleType, Is, layout}
use mathlib.Core.Bool.{◌&&◌}
use seplogic.Ra.Ura.{Ura}
use denote.Laws.{Typed}
use denote.Param.Laws.{Laws}

-- some machine values are one word of a type
pub record Alone (τ : Ty) (vs : List Val) : Type 0 where
  pub word : Val
  pub is : vs ≡ word ∷ []
  pub fits : T (has_ty τ word) × WT word

alone : (τ : Ty) (vs : List Val) → Typed (τ ∷ []) vs → Alone τ vs
alone τ [] typed = absurd typed
alone τ (v ∷ []) typed = record { word = v; is = refl; fits = typed.0 }
alone τ (v ∷ u ∷ vs) typed = absurd typed.1

-- so are those of a value of a type that has its laws
pub word_of : {M : Type 1} {𝓤 : Ura M} (𝓛 : Logic 𝓤) (R : RattleType) → Laws R → (x : R.Denot) (vs : List Val) → Is R x vs → Alone (layout R) vs
word_of 𝓛 R L x vs is = alone (layout R) vs (subst (λ (τs : List Ty). Typed τs vs) L.one ((L.lawful 𝓛).typed x vs is))

-- and of a struct of one such field
pub wrapped : (τ : Ty) (v : Val) → T (has_ty τ v) × WT v → T (has_ty (ty_struct [] (tcons τ tnil)) (vstruct (vcons v vnil))) × WT (vstruct (vcons v vnil))
wrapped τ v fits = (both (has_ty τ v) fits.0, (fits.1, tt))
  where
    both : (b : Bool) → T b → T (b && true)
    both true t = tt
    both false t = t

-- a claim of machine values, of their other spelling
pub respelled : {M : Type 1} (𝓤 : Ura M) (F : List Val → SProp 𝓤) (us vs : List Val) → vs ≡ us → ent 𝓤 (F us) (F vs)
respelled 𝓤 F us vs e = subst (λ (ws : List Val). ent 𝓤 (F us) (F ws)) (sym e) (id⊢ 𝓤 (F us))
