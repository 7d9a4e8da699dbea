-- The transmissions of a block, one after the other.
use Rattle.std.proofs.Common.{◌≡◌, ℕ, ◌+◌, ◌≤◌, List, [], ◌∷◌, ◌++◌, length, map, take, drop, ap, sym, subst, ◌∙◌, append_assoc, arith}
use Rattle.std.proofs.lemmas.Grind.{common_steps}
use Rattle.std.proofs.lemmas.List.{length-append, append-nil, take-append-drop}
use Rattle.rate_match.specs.declared.sends.Sending.{Sending}
use Rattle.coded_stream.specs.Header.{Header}
use Rattle.coded_stream.specs.Blocks.{AreTransmissions, IsTransmission, transmission_size}
use Rattle.coded_stream.specs.declared.kind.Kind.{Kind}
use Rattle.command_relay.specs.Conversions.{Conversion, made_from}
use Rattle.command_relay.specs.Upgrade.{as_read}

-- the bytes of a transmission, and those after it
pub record Split (kind : Kind) (s : Sending) (sends : List Sending) (bytes : List ℕ) : Type 0 where
  pub room : transmission_size kind s.m.g ≤ length bytes
  pub own : IsTransmission kind s.m.g (take (transmission_size kind s.m.g) bytes)
  pub others : AreTransmissions kind (map (λ x. x.m.g) sends) (drop (transmission_size kind s.m.g) bytes)

pub split_place : (kind : Kind) (s : Sending) (sends : List Sending) (bytes : List ℕ) → AreTransmissions kind (map (λ x. x.m.g) (s ∷ sends)) bytes → Split kind s sends bytes
split_place kind s sends bytes (first, rest, is, one, others) =
    let size = one.size in
    let front : take (length first) (first ++ rest) ≡ first = grind (arith, common_steps) in
    let back : drop (length first) (first ++ rest) ≡ rest = grind (arith, common_steps) in
    let P : List ℕ → Type 0 = λ xs. IsTransmission kind s.m.g xs in
    let Q : List ℕ → Type 0 = λ xs. AreTransmissions kind (map (λ x. x.m.g) sends) xs in
    let taken : take (transmission_size kind s.m.g) bytes ≡ first = ap (λ n. take n bytes) (sym size) ∙ ap (take (length first)) is ∙ front in
    let dropped : drop (transmission_size kind s.m.g) bytes ≡ rest = ap (λ n. drop n bytes) (sym size) ∙ ap (drop (length first)) is ∙ back in
    record { room = omega (arith, size, ap length is, length-append first rest); own = subst P (sym taken) one; others = subst Q (sym dropped) others }

-- the text goes on by what is made of a transmission
pub made_on : (w : Conversion) (h : Header) (block number : ℕ) (s : Sending) (sends : List Sending) (text all bytes sent : List ℕ) →
    text ++ made_from w h block number (s ∷ sends) bytes ≡ all → sent ≡ w.made h block number s.m (take (transmission_size h.kind s.m.g) bytes) →
    (text ++ sent) ++ made_from w h block (number + 1) sends (drop (transmission_size h.kind s.m.g) bytes) ≡ all
made_on w h block number s sends text all bytes sent before is =
    let size = transmission_size h.kind s.m.g in
    let after = made_from w h block (number + 1) sends (drop size bytes) in
    append_assoc text sent after ∙ ap (λ (xs : List ℕ). text ++ (xs ++ after)) is ∙ before

pub none_left : (w : Conversion) (h : Header) (block number : ℕ) (sends : List Sending) (text bytes : List ℕ) → sends ≡ [] → text ++ made_from w h block number sends bytes ≡ text
none_left w h block number sends text bytes none =
    ap (λ (ss : List Sending). text ++ made_from w h block number ss bytes) none ∙ append-nil text

-- sent as they were read, they are the bytes of the block
pub all_as_read : (h : Header) (block number : ℕ) (sends : List Sending) (bytes : List ℕ) → AreTransmissions h.kind (map (λ x. x.m.g) sends) bytes →
    made_from as_read h block number sends bytes ≡ bytes
all_as_read h block number [] bytes none = sym none
all_as_read h block number (s ∷ sends) bytes sent =
    let size = transmission_size h.kind s.m.g in
    let split = split_place h.kind s sends bytes sent in
    ap (λ (xs : List ℕ). take size bytes ++ xs) (all_as_read h block (number + 1) sends (drop size bytes) split.others) ∙ take-append-drop size bytes
