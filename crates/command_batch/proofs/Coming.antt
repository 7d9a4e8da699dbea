-- Blocks that come one after the other.
use Rattle.std.proofs.Common.{◌≡◌, ℕ, ◌+◌, List, [], ◌∷◌, ◌++◌, length, Some, Ok, ap, sym, subst, refl, ◌∙◌, append_assoc, arith}
use Rattle.std.proofs.lemmas.List.{length-append}
use Rattle.std.proofs.lemmas.List.Sums.{sum_by_push}
use Rattle.std.specs.declared.option.Option.{Option}
use Rattle.edge_io.proofs.Known.{takes_none, takes_then}
use Rattle.coded_stream.specs.Blocks.{Block}
use Rattle.coded_stream.specs.Body.{Body}
use Rattle.coded_stream.specs.Steps.{Reading, remaining, GoesOn, Advances}
use Rattle.stream_loop.specs.Rounds.{block_of}
use Rattle.stream_loop.proofs.StreamSteps.{block_read, past, taken}
use Rattle.command_batch.specs.Reading.{Came, onto_all, size_of_blocks}

-- none came yet
pub came_none : (r : Reading) (input : List ℕ) (old : Option (List ℕ)) → old ≡ Some input → Came r r input input [] old old
came_none r input old told = record { bytes = []; took = takes_none old; mid_is = told; size = refl; says = refl }

-- one more came
pub came_more : (r s s' : Reading) (input left into : List ℕ) (n : ℕ) (blocks : List Block) (old mid new : Option (List ℕ)) → Came r s input left blocks old mid →
    GoesOn (remaining s left) (remaining s') into mid new (Ok (Some n)) → Advances s s' into (Ok (Some n)) →
    (rest : List ℕ) × Came r s' input rest (blocks ++ block_of n into ∷ []) old new
came_more r s s' input left into n blocks old mid new came on moved =
    let b = block_of n into in
    let read = block_read s s' left into n mid new on moved in
    let P : Reading → Type 0 = λ t. remaining r input ≡ onto_all (blocks ++ b ∷ []) (remaining t read.left) in
    let more : Body = remaining (past s b) read.left in
    let says : remaining r input ≡ onto_all (blocks ++ b ∷ []) more =
    came.says ∙ ap (onto_all blocks) read.says ∙ ap (λ (bs : List Block). record more { blocks = bs }) (symmetric blocks b more.blocks) in (
      read.left,
      record {
        bytes = came.bytes ++ read.bytes;
        took = takes_then old mid new came.bytes read.bytes came.took (taken mid new read.bytes read.left read.old_is read.new_is);
        mid_is = read.new_is;
        size = sized blocks b came.bytes read.bytes came.size read.size;
        says = subst P (sym moved.2) says;
      },
    )
  where
    symmetric : (blocks : List Block) (b : Block) (others : List Block) → blocks ++ (b ∷ others) ≡ (blocks ++ b ∷ []) ++ others
    symmetric blocks b others = sym (append_assoc blocks (b ∷ []) others)

    sized : (blocks : List Block) (b : Block) (xs ys : List ℕ) → length xs ≡ size_of_blocks blocks → length ys ≡ 4 + length b.bytes
        → length (xs ++ ys) ≡ size_of_blocks (blocks ++ b ∷ [])
    sized blocks b xs ys first second =
        omega (arith, first, second, length-append xs ys, sum_by_push (λ (x : Block). 4 + length x.bytes) blocks b)
