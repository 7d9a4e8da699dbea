use Rattle.std.proofs.Common.{◌≡◌, ◌==◌, ℕ, List, [], ◌∷◌, ◌++◌, refl, nat_lt, cond, map, filter, find, reverse, Bool, false, Option, ap, ◌∙◌, sym}
use Rattle.std.proofs.lemmas.Bool.{ne_eqb}
use Rattle.std.proofs.lemmas.List.{map-append, reverse-append}
use Rattle.model_sender.specs.Bits.{greatest}
use Rattle.model_sender.specs.Interleaver.{sizes}
use Rattle.model_sender.specs.declared.rows.Row.{Row}
use Rattle.segmentation.proofs.Walk.{smaller-found, smaller-some, is_some}
use Rattle.segmentation.proofs.sizes.smaller_size.Goals as goal

map-reverse : {X Y : Type 0} (f : X → Y) (xs : List X) → map f (reverse xs) ≡ reverse (map f xs)
map-reverse f [] = refl
map-reverse {X} f (x ∷ xs) =
    ap (map f) (reverse-append (x ∷ []) xs)
    ∙ (map-append f (reverse xs) (x ∷ [])
    ∙ (ap (λ ys. ys ++ f x ∷ []) (map-reverse f xs) ∙ sym (reverse-append (f x ∷ []) (map f xs))))

-- what was found among the rows was found among the sizes
among_sizes : (rows : List Row) {found : Option ℕ} (limit : ℕ) → found ≡ find (λ size. nat_lt size limit) (map (λ (r : Row). r.0) (reverse rows)) → map (λ (r : Row). r.0) rows ≡ sizes
    → found ≡ find (λ size. nat_lt size limit) (reverse sizes)
among_sizes rows limit e r = e ∙ ap (λ (xs : List ℕ). find (λ size. nat_lt size limit) xs) (map-reverse (λ (r : Row). r.0) rows ∙ ap (λ (xs : List ℕ). reverse xs) r)

pub unwrap-requires : goal.unwrap-requires
unwrap-requires c =
    let e = among_sizes c.table.result.now c.args.k_plus c.last_below.ensures c.table.ensures.sizes in
    is_some c.last_below.result (λ none. smaller-some c.args.k_plus (c.requires c.if-c-eq1.false) (sym e ∙ none))

pub returns-else-c-eq1 : goal.returns-else-c-eq1
returns-else-c-eq1 c =
    let e = among_sizes c.table.result.now c.args.k_plus c.last_below.ensures c.table.ensures.sizes in
    let several : (c.args.c == 1) ≡ false = ne_eqb c.args.c 1 c.if-c-eq1.false in
    smaller-found c.args.k_plus c.unwrap.result (sym e ∙ c.unwrap.ensures)
    ∙ sym (ap (λ (t : Bool). cond t 0 (greatest (filter (λ k. nat_lt k c.args.k_plus) sizes))) several)
