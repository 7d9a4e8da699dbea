-- The shapes of a plan's blocks are lawful.
use Rattle.std.proofs.Common.{◌≡◌, ℕ, ◌*◌, ◌<◌, ◌≤◌, Contains, sym, ap, ◌∙◌, subst, arith}
use Prim.Native.Nat.{◌∣◌}
use Rattle.std.proofs.lemmas.Nat.Gcd.{dvd_of_mod-eq-zero}
use Rattle.model_sender.specs.Interleaver.{sizes}
use Rattle.model_sender.specs.Segmentation.{Plan, size, fill}
use Rattle.model_sender.proofs.RowLaws.{range-of_size}
use Rattle.segmentation.specs.Plans.{IsPlan}
use Rattle.rate_match.proofs.BlockNumbers.{block-numbers}
use Rattle.model_receiver.specs.declared.result.CheckKind.{CheckKind}
use Rattle.model_receiver.specs.HalfIteration.{IsShape, shape_of}
use Rattle.model_receiver.specs.Limits.{AreLimits, DecoderLimits}
use Rattle.model_receiver.specs.TransportBlocks.{block_shape, check_kind, window_count}
use Rattle.model_receiver.proofs.WindowCounts.{count-is}

-- what a count of windows is told to be
pub record IsCount (k m d : ℕ) : Type 0 where
  pub divides : d ∣ k
  pub wide : 8 * d ≤ k
  pub within : d ≤ m
  pub greatest : (n : ℕ) → n ∣ k → 8 * n ≤ k → n ≤ m → n ≤ d

some-windows : (k m d : ℕ) → Contains sizes k → 1 ≤ m → IsCount k m d → 1 ≤ d
some-windows k m d size some h = let range = range-of_size k size in h.greatest 1 (dvd_of_mod-eq-zero 1 (omega arith)) (omega (arith, range.0)) some

pub windows-are : (k m d : ℕ) → Contains sizes k → 1 ≤ m → IsCount k m d → window_count k m ≡ d
windows-are k m d size some h = count-is k m d (some-windows k m d size some h) h.divides h.wide h.within h.greatest

pub lawful : (p : Plan) (e : DecoderLimits) (r k f d : ℕ) (kind : CheckKind) → IsPlan p → AreLimits e → r < p.c → k ≡ size p r → f ≡ fill p r
    → IsCount k e.windows d → IsShape (shape_of k f kind d e.limit)
lawful p e r k f d kind is within below size_is fill_is h =
    let block = block-numbers p r is below in
    let inside : Contains sizes k = subst (λ (n : ℕ). Contains sizes n) (sym size_is) block.inside in
    record {
      size = inside;
      filled = omega (arith, size_is, fill_is, block.fills);
      some_windows = some-windows k e.windows d inside within.some_windows h;
      few_windows = omega (arith, h.within, within.few_windows);
      divided = h.divides;
      wide = h.wide;
      some_iterations = within.some_iterations;
      few_iterations = within.few_iterations;
    }

pub shape-is : (p : Plan) (e : DecoderLimits) (r k f c d : ℕ) → IsPlan p → AreLimits e → r < p.c → k ≡ size p r → f ≡ fill p r → c ≡ p.c
    → IsCount k e.windows d → shape_of k f (check_kind c) d e.limit ≡ block_shape p e r
shape-is p e r k f c d is within below size_is fill_is count_is h =
    let block = block-numbers p r is below in
    let inside : Contains sizes k = subst (λ (n : ℕ). Contains sizes n) (sym size_is) block.inside in
    ap (λ (n : ℕ). shape_of k f (check_kind c) n e.limit) (sym (windows-are k e.windows d inside within.some_windows h))
    ∙ ap (λ (n : ℕ). shape_of n f (check_kind c) (window_count n e.windows) e.limit) size_is
    ∙ ap (λ (n : ℕ). shape_of (size p r) n (check_kind c) (window_count (size p r) e.windows) e.limit) fill_is
    ∙ ap (λ (n : ℕ). shape_of (size p r) (fill p r) (check_kind n) (window_count (size p r) e.windows) e.limit) count_is
