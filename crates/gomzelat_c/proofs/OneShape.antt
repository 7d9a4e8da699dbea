-- A code block that is decoded by itself: its shape, its streams, and its bits.
use Rattle.std.proofs.Common.{◌≡◌, ℕ, ◌<◌, ◌≤◌, ◌==◌, find, Option, None, Some, Contains, ℤ, List, length, refl, subst, sym, ap, ◌∙◌, arith}
use Rattle.std.specs.Prelude.{is_some, IsSome, ◌↔◌, true, false}
use Rattle.std.proofs.lemmas.Nat.Gcd.{dvd_of_mod-eq-zero}
use Rattle.lte_bits.specs.declared.block.SoftStreams.{SoftStreams}
use Rattle.model_sender.specs.Interleaver.{sizes}
use Rattle.model_sender.specs.declared.rows.Row.{Row}
use Rattle.model_sender.specs.declared.rows.TheConstants.{ROWS}
use Rattle.model_sender.proofs.RowLaws.{no_size-of_find, range-of_size, size-of_find}
use Rattle.model_receiver.specs.Decoding.{code_result}
use Rattle.model_receiver.specs.HalfIteration.{IsShape, Shape, shape_of}
use Rattle.model_receiver.specs.declared.result.CheckKind.{CheckKind}
use Rattle.model_receiver.specs.declared.result.CodeResult.{CodeResult}
use Rattle.model_receiver.proofs.DecodedOnce.{decoded-is}
use Rattle.half_iteration.specs.Views.{AreStreams}
use Rattle.soft_buffers.specs.Buffers.{streams_of_cells}
use Rattle.block_receive.proofs.LawfulShapes.{IsCount}
use Rattle.block_receive.proofs.StreamLengths.{bits-long, streams-long}
use Rattle.gomzelat_c.specs.Codes.{is_size}

never : false ≡ true → ⊥
never h = let no : ⊥ = cc in no

-- an option that is filled exactly at the sizes
size_by : {Q : Type 0} (k : ℕ) (o : Option Q) (f : Option Row) → find (λ r. r.0 == k) ROWS ≡ f → IsSome o ↔ Contains sizes k → is_some o ≡ is_some f
size_by k (Some q) (Some r) is same = refl
size_by k None None is same = refl
size_by k (Some q) None is same = absurd (no_size-of_find k is (same.0 refl))
size_by k None (Some r) is same = absurd (never (same.1 (size-of_find k r is)))

pub size_is : {Q : Type 0} (k : ℕ) (o : Option Q) → IsSome o ↔ Contains sizes k → is_some o ≡ is_size k
size_is k o same = size_by k o (find (λ r. r.0 == k) ROWS) refl same

pub few_of_size : (k : ℕ) → Contains sizes k → k ≤ 6144
few_of_size k size = (range-of_size k size).1

pub shape_lawful : (k f : ℕ) (kind : CheckKind) (windows limit d : ℕ) → Contains sizes k → f < k → 1 ≤ windows → windows ≤ 64 → 1 ≤ limit → limit ≤ 16 →
    IsCount k windows d → IsShape (shape_of k f kind d limit)
shape_lawful k f kind windows limit d size fills some few least most h =
    let range = range-of_size k size in
    record {
      size = size;
      filled = fills;
      some_windows = h.greatest 1 (dvd_of_mod-eq-zero 1 (omega arith)) (omega (arith, range.0)) some;
      few_windows = omega (arith, h.within, few);
      divided = h.divides;
      wide = h.wide;
      some_iterations = least;
      few_iterations = most;
    }

pub are_streams : (k f : ℕ) (soft : SoftStreams) (shape : Shape) (cells : List ℤ) → soft ≡ streams_of_cells k f cells → f < k → shape.f ≡ f → shape.k ≡ k → AreStreams soft shape
are_streams k f soft shape cells is fills f_is k_is =
    let long = streams-long k f cells fills in
    subst (λ (s : SoftStreams). AreStreams s shape) (sym is) (record {
      fill = long.fill ∙ sym f_is;
      d0 = omega (arith, long.d0, k_is);
      d1 = omega (arith, long.d1, k_is);
      d2 = omega (arith, long.d2, k_is);
    })

pub bits_count : (soft : SoftStreams) (shape : Shape) (r : CodeResult) → r ≡ code_result soft shape → 1 ≤ shape.limit → shape.f ≤ shape.k → length r.block.bits ≡ shape.k
bits_count soft shape r same some fills =
    let is = decoded-is soft shape some in
    ap (λ (x : CodeResult). length x.block.bits) same ∙ ap length is.bits ∙ bits-long soft shape (code_result soft shape).iterations fills
