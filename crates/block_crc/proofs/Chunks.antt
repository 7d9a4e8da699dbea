-- Bits, and bytes, divided chunk by chunk.
use Rattle.std.proofs.Common.{◌≡◌, ℕ, ◌+◌, ◌*◌, ◌/◌, ◌<◌, List, [], ◌∷◌, ◌++◌, length, take, drop, get_or, append_assoc, refl, sym, ap, ◌∙◌, arith}
use Rattle.std.specs.Simd.{first_chunks}
use Rattle.std.proofs.lemmas.List.{get_or-take, get_or-drop, length-take, length-drop, take-append-drop, drop-drop, append-nil}
use Rattle.lte_bits.proofs.Chunks.{chunk-at}
use Rattle.lte_bits.specs.Bits.{digit}
use Rattle.lte_bits.specs.Packing.{bits_of, unpacked}
use Rattle.lte_bits.specs.declared.bit.Bit.{Bit}
use Rattle.model_sender.specs.CheckBits.{reduced, remainder}

pub remainder-append : (g : ℕ) (xs ys : List Bit) (r : ℕ) → remainder g r (xs ++ ys) ≡ remainder g (remainder g r xs) ys
remainder-append g [] ys r = refl
remainder-append g (x ∷ xs) ys r = remainder-append g xs ys (reduced g (2 * r + digit x))

-- a chunk more is divided
pub chunk_more : (g n k i r s : ℕ) (xs d : List Bit) (chunks : List (List Bit)) → i < k → chunks ≡ first_chunks n k xs → s ≡ remainder g r (get_or chunks i d)
    → remainder g s (drop ((i + 1) * n) xs) ≡ remainder g r (drop (i * n) xs)
chunk_more g n k i r s xs d chunks h are is =
    let e : get_or chunks i d ≡ take n (drop (i * n) xs) = ap (λ cs. get_or cs i d) are ∙ chunk-at n k i xs d h in
    ap (λ t. remainder g t (drop ((i + 1) * n) xs)) (is ∙ ap (remainder g r) e)
    ∙ ap (λ (ys : List Bit). remainder g (remainder g r (take n (drop (i * n) xs))) ys) (ap (λ m. drop m xs) (let f : (i + 1) * n ≡ i * n + n = omega arith in f) ∙ sym (drop-drop n (i * n) xs))
    ∙ sym (remainder-append g (take n (drop (i * n) xs)) (drop n (drop (i * n) xs)) r)
    ∙ ap (remainder g r) (take-append-drop n (drop (i * n) xs))

-- ---- bytes by twos

single : (xs : List ℕ) → length xs ≡ 1 → xs ≡ get_or xs 0 0 ∷ []
single (x ∷ []) long = refl
single [] long = absurd (omega (arith, long))
single (x ∷ y ∷ xs) long = absurd (omega (arith, long))

pair : (xs : List ℕ) → length xs ≡ 2 → xs ≡ get_or xs 0 0 ∷ get_or xs 1 0 ∷ []
pair (x ∷ y ∷ []) long = refl
pair [] long = absurd (omega (arith, long))
pair (x ∷ []) long = absurd (omega (arith, long))
pair (x ∷ y ∷ z ∷ xs) long = absurd (omega (arith, long))

-- a byte of two is one of all
pub byte_of_two : (n i j : ℕ) (bytes d : List ℕ) (chunks : List (List ℕ)) → i < n → j < 2 → chunks ≡ first_chunks 2 n bytes → get_or (get_or chunks i d) j 0 ≡ get_or bytes (i * 2 + j) 0
byte_of_two n i j bytes d chunks h own are =
    ap (λ (xs : List ℕ). get_or xs j 0) (ap (λ cs. get_or cs i d) are ∙ chunk-at 2 n i bytes d h)
    ∙ get_or-take 2 (drop (i * 2) bytes) j 0 own
    ∙ get_or-drop (i * 2) bytes j 0

-- two bytes more are divided
pub two_more : (g n i r s : ℕ) (bytes d : List ℕ) (chunks : List (List ℕ)) → i < n → n ≡ length bytes / 2 → chunks ≡ first_chunks 2 n bytes
    → s ≡ remainder g r (bits_of (get_or (get_or chunks i d) 0 0) ++ bits_of (get_or (get_or chunks i d) 1 0))
    → remainder g s (unpacked (drop ((i + 1) * 2) bytes)) ≡ remainder g r (unpacked (drop (i * 2) bytes))
two_more g n i r s bytes d chunks h many are is =
    let two : List ℕ = get_or chunks i d in
    let x : ℕ = get_or two 0 0 in
    let y : ℕ = get_or two 1 0 in
    let rest : List ℕ = drop ((i + 1) * 2) bytes in
    let e : two ≡ take 2 (drop (i * 2) bytes) = ap (λ cs. get_or cs i d) are ∙ chunk-at 2 n i bytes d h in
    let long : length two ≡ 2 = ap length e ∙ omega (arith, length-take 2 (drop (i * 2) bytes), length-drop (i * 2) bytes, many, h) in
    let all : x ∷ y ∷ rest ≡ drop (i * 2) bytes =
    ap (λ (xs : List ℕ). xs ++ rest) (sym (pair two long) ∙ e)
    ∙ ap (λ (xs : List ℕ). take 2 (drop (i * 2) bytes) ++ xs) (ap (λ m. drop m bytes) (let f : (i + 1) * 2 ≡ i * 2 + 2 = omega arith in f) ∙ sym (drop-drop 2 (i * 2) bytes))
    ∙ take-append-drop 2 (drop (i * 2) bytes) in
    ap (λ t. remainder g t (unpacked rest)) is
    ∙ sym (remainder-append g (bits_of x ++ bits_of y) (unpacked rest) r)
    ∙ ap (remainder g r) (append_assoc (bits_of x) (bits_of y) (unpacked rest))
    ∙ ap (λ (xs : List ℕ). remainder g r (unpacked xs)) all

-- and the last byte, where they are odd
pub last_byte : (g r s : ℕ) (last bytes : List ℕ) → length last ≡ 1 → last ≡ drop (length bytes / 2 * 2) bytes
    → s ≡ remainder g r (bits_of (get_or last 0 0)) → s ≡ remainder g r (unpacked (drop (length bytes / 2 * 2) bytes))
last_byte g r s last bytes long rest is =
    is ∙ ap (remainder g r) (sym (append-nil (bits_of (get_or last 0 0))))
    ∙ ap (λ (xs : List ℕ). remainder g r (unpacked xs)) (sym (single last long) ∙ rest)
