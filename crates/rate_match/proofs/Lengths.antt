-- How many bits are sent.
use Rattle.std.proofs.Common.{◌≡◌, ℕ, ◌%◌, ◌≤◌, List, length, slice_index, ap, ◌∙◌}
use Rattle.std.specs.List.{range_with_len, sum_by}
use Rattle.std.proofs.lemmas.List.{length-map}
use Rattle.std.proofs.lemmas.List.Concat.{length-flat_map}
use Rattle.std.proofs.lemmas.List.FromFn.{length-map-range_with_len}
use Rattle.lte_bits.specs.declared.block.Streams.{Streams}
use Rattle.model_sender.specs.Segmentation.{Plan, size, fill}
use Rattle.model_sender.specs.CodeBlocks.{block}
use Rattle.model_sender.specs.CodedStreams.{streams}
use Rattle.model_sender.specs.CircularBuffer.{Match, piece_length, w}
use Rattle.model_sender.specs.Selection.{bit_of_cell, repeated, places, sent}
use Rattle.model_sender.specs.Codeword.{codeword_of}
use Rattle.model_sender.proofs.Pieces.{pieces-sum}
use Rattle.rate_match.specs.Matching.{IsMatch}
use Rattle.rate_match.proofs.Matchings.{match-bounds}

pub repeated-long : (v : List ℕ) (e : ℕ) → length (repeated v e) ≡ e
repeated-long v e = length-map-range_with_len (λ i. slice_index v (i % length v)) 0 e

-- block r sends E_r bits
pub sent-long : (plan : Plan) (m : Match) (s : Streams) (r rv : ℕ) → length (sent plan m s r rv) ≡ piece_length m plan.c r
sent-long plan m s r rv =
    length-map (places plan m r rv) (λ n. bit_of_cell (w (size plan r) (fill plan r) s n))
    ∙ repeated-long _ (piece_length m plan.c r)

-- all blocks send G bits
pub codeword-long : (plan : Plan) (payload : List ℕ) (m : Match) (rv : ℕ) → 1 ≤ plan.c → IsMatch m → length (codeword_of plan payload m rv) ≡ m.g
codeword-long plan payload m rv some is =
    let bounds = match-bounds m is in
    length-flat_map (λ r. sent plan m (streams (block plan payload r)) r rv) (range_with_len 0 plan.c)
    ∙ ap (λ (f : ℕ → ℕ). sum_by f (range_with_len 0 plan.c)) (λ i r. sent-long plan m (streams (block plan payload r)) r rv i)
    ∙ pieces-sum m plan.c some bounds.unit bounds.divides
