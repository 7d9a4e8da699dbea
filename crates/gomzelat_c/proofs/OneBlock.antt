-- A code block of a payload, and the places of its circular buffer.
use Rattle.std.proofs.Common.{◌≡◌, ℕ, ◌+◌, ◌*◌, ◌<◌, ◌≤◌, List, [], ◌∷◌, ◌++◌, length, get_or, map, None, Some, Contains, subst, sym, ap, ◌∙◌, arith}
use Rattle.std.specs.Prelude.{IfSome}
use Rattle.std.specs.declared.option.Option.{Option}
use Rattle.std.proofs.lemmas.List.{length-append, length-map}
use Rattle.std.proofs.lemmas.List.FromFn.{get_or-map-range_with_len, length-map-range_with_len, map-range_with_len_more}
use Rattle.lte_bits.specs.declared.block.Block.{Block}
use Rattle.lte_bits.specs.declared.block.Streams.{Streams}
use Rattle.model_sender.specs.CircularBuffer.{AreStreams, spot}
use Rattle.model_sender.specs.CodeBlocks.{block, blocks}
use Rattle.model_sender.specs.CodedStreams.{streams}
use Rattle.model_sender.specs.Interleaver.{sizes}
use Rattle.model_sender.specs.Segmentation.{Plan, fill, plan_of, size}
use Rattle.model_sender.specs.declared.spot.Spot.{Spot}
use Rattle.model_sender.proofs.PlanLaws.{plan-bytes}
use Rattle.rate_match.proofs.BlockNumbers.{block-numbers}
use Rattle.rate_match.proofs.BlockStreams.{block-streams}
use Rattle.segmentation.specs.Plans.{IsPlan}
use Rattle.segmentation.proofs.CutBlocks.{blocks-shape, length-block}
use Rattle.segmentation.proofs.OfPlans.{is_plan}
use Rattle.gomzelat_c.specs.Stages.{cell_number, spot_number, spots_to}

-- ---- Spots.

pub spots_more : (k fill n : ℕ) → spots_to k fill (n + 1) ≡ spots_to k fill n ++ spot_number (spot k fill n) ∷ []
spots_more k fill n = map-range_with_len_more (λ i. spot_number (spot k fill i)) 0 n n (omega arith)

pub spots_count : (k fill places : ℕ) → length (spots_to k fill places) ≡ places
spots_count k fill places = length-map-range_with_len (λ i. spot_number (spot k fill i)) 0 places

pub spot_small : (k : ℕ) (s : Option Spot) → k ≤ 6144 → IfSome s (λ p. (p.stream ≤ 2) × (p.index < k + 4)) → spot_number s ≤ 4294967295
spot_small k None few h = omega arith
spot_small k (Some p) few h = omega (arith, few, h.0, h.1)

-- ---- A block by its place.

pub few_bits : (p : Plan) (r : ℕ) → IsPlan p → r < p.c → size p r ≤ 6144
few_bits p r is below = (block-numbers p r is below).most

-- block r of a payload, which can be coded, and its streams
pub record IsOne (payload : List ℕ) (p : Plan) (r : ℕ) (b : Block) : Type 0 where
  pub is : b ≡ block (plan_of (length payload)) payload r
  pub inside : Contains sizes (length b.bits)
  pub long : length b.bits ≡ size p r
  pub streams_are : AreStreams (size p r) (fill p r) (streams b)

pub one_block : (payload : List ℕ) (p : Plan) (r : ℕ) (b : Block) → p ≡ plan_of (length payload) → IsPlan p → r < p.c → b ≡ block (plan_of (length payload)) payload r → IsOne payload p r b
one_block payload p r b planned lawful below is =
    let q : Plan = plan_of (length payload) in
    let bytes : p.bytes ≡ length payload = ap (λ (x : Plan). x.bytes) planned ∙ plan-bytes (length payload) in
    let some : 1 ≤ length payload = omega (arith, lawful.some, bytes) in
    let few : length payload ≤ 18722 = omega (arith, lawful.few, bytes) in
    let inside : r < q.c = omega (arith, below, ap (λ (x : Plan). x.c) planned) in
    let numbers = block-numbers q r (is_plan (length payload) some few) inside in
    let long : length b.bits ≡ size q r = ap (λ (x : Block). length x.bits) is ∙ length-block payload r some few inside in
    let stands : b ≡ get_or (blocks q payload) r b = is ∙ sym (get_or-map-range_with_len (block q payload) 0 q.c r r b inside (omega arith)) in
    record {
      is = is;
      inside = subst (λ (k : ℕ). Contains sizes k) (sym long) numbers.inside;
      long = long ∙ ap (λ (x : Plan). size x r) (sym planned);
      streams_are = subst (λ (x : Plan). AreStreams (size x r) (fill x r) (streams b)) (sym planned)
          (block-streams q (blocks q payload) r b numbers (blocks-shape payload some few) inside stands);
    }

-- what is cut from a payload, as a contract sees it
pub cut_from : (payload view : List ℕ) (r : ℕ) (b : Block) → view ≡ payload → b ≡ block (plan_of (length view)) view r → b ≡ block (plan_of (length payload)) payload r
cut_from payload view r b seen is = is ∙ ap (λ (xs : List ℕ). block (plan_of (length xs)) xs r) seen

pub within_cut : (payload view : List ℕ) (p : Plan) (r : ℕ) → view ≡ payload → p ≡ plan_of (length payload) → r < p.c → r < (plan_of (length view)).c
within_cut payload view p r seen planned below = omega (arith, below, ap (λ (x : Plan). x.c) (planned ∙ ap (λ (xs : List ℕ). plan_of (length xs)) (sym seen)))

pub streams_long : (k f : ℕ) (s : Streams) → AreStreams k f s → length (map cell_number (s.d0 ++ s.d1 ++ s.d2)) ≡ 3 * (k + 4)
streams_long k f s are =
    omega (
      arith,
      length-map (s.d0 ++ s.d1 ++ s.d2) cell_number,
      length-append (s.d0 ++ s.d1) s.d2,
      length-append s.d0 s.d1,
      are.d0_long,
      are.d1_long,
      are.d2_long,
    )
