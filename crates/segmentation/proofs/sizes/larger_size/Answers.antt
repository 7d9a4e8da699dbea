use Rattle.std.proofs.Common.{ℕ, List, nat_le, find, ap, ◌∙◌, sym, ◌≡◌, Option}
use Rattle.std.specs.Int.{div_ceil}
use Rattle.model_sender.specs.Interleaver.{sizes}
use Rattle.segmentation.proofs.Walk.{larger-found, larger-some, is_some}
use Rattle.segmentation.proofs.sizes.larger_size.Goals as goal

-- what was found among the rows was found among the sizes
among_sizes : {rows : List ℕ} {found : Option ℕ} (c n low : ℕ) → found ≡ find (λ size. nat_le low size) rows → low ≡ div_ceil n c → rows ≡ sizes
    → found ≡ find (λ size. nat_le (div_ceil n c) size) sizes
among_sizes {rows = rows} c n low e q r = e ∙ (ap (λ (k : ℕ). find (λ size. nat_le k size) rows) q ∙ ap (λ (xs : List ℕ). find (λ size. nat_le (div_ceil n c) size) xs) r)

pub unwrap-requires : goal.unwrap-requires
unwrap-requires c =
    let e = among_sizes c.args.c c.args.n _ c.first_from.ensures c.div_ceil.ensures c.table.ensures.sizes in
    is_some c.first_from.result (λ none. larger-some c.args.c c.args.n c.requires.some c.requires.room (sym e ∙ none))

pub returns : goal.returns
returns c =
    let e = among_sizes c.args.c c.args.n _ c.first_from.ensures c.div_ceil.ensures c.table.ensures.sizes in
    larger-found c.args.c c.args.n c.unwrap.result c.requires.some (sym e ∙ c.unwrap.ensures)
