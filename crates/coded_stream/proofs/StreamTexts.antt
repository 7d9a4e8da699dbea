-- The text of a stream is read as this stream, and so says one alone.
use Rattle.std.proofs.Common.{◌≡◌, ℕ, true, List, ◌++◌, length, refl, ap, sym, subst, ◌∙◌}
use Rattle.coded_stream.specs.Header.{Header, header_text, kind_code}
use Rattle.coded_stream.specs.Blocks.{Block}
use Rattle.coded_stream.specs.Text.{body_text, stream_text}
use Rattle.coded_stream.specs.Opening.{Opening, opens, refuses, is_wanted, opening}
use Rattle.coded_stream.specs.Body.{Ending, whole, bad, Body, body}
use Rattle.coded_stream.specs.Stream.{accepted, most_blocks, ended_as, opened_as, stream_of, IsStream, AreBytes}
use Rattle.coded_stream.specs.declared.kind.Want.{Want}
use Rattle.coded_stream.specs.declared.kind.Want.TheVariants.{Any}
use Rattle.coded_stream.proofs.Passed.{any-kind}
use Rattle.coded_stream.proofs.BodyTexts.{body-read}
use Rattle.coded_stream.proofs.HeaderTexts.{header-read}
use Rattle.coded_stream.proofs.BodySpelled.{bytes-suffix, body-spelled}
use Rattle.coded_stream.proofs.HeaderSpelled.{opening-spelled}

pub stream-read : (want : Want) (h : Header) (blocks : List Block) → is_wanted want (kind_code h.kind) ≡ true → IsStream h blocks → stream_of want (stream_text h blocks) ≡ accepted h blocks
stream-read want h blocks wanted is =
    ap opened_as (header-read want h (body_text blocks) wanted is.header)
    ∙ ap (λ (b : Body). ended_as h b.blocks b.ending) (body-read h most_blocks (length (header_text h)) blocks is.header.few is.few is.each)

pub record AreSame (h i : Header) (a b : List Block) : Type 0 where
  pub header : h ≡ i
  pub blocks : a ≡ b

pub one-spelling : (h i : Header) (a b : List Block) → IsStream h a → IsStream i b → stream_text h a ≡ stream_text i b → AreSame h i a b
one-spelling h i a b first second same =
    let e : accepted h a ≡ accepted i b = sym (stream-read Any h a (any-kind h.kind) first) ∙ (ap (stream_of Any) same ∙ stream-read Any i b (any-kind i.kind) second) in
    record { header = cc; blocks = cc }

-- ---- and what is read as a stream is its text

pub record IsTextOf (want : Want) (input : List ℕ) (h : Header) (blocks : List Block) : Type 0 where
  pub stream : IsStream h blocks
  pub wanted : is_wanted want (kind_code h.kind) ≡ true
  pub text : input ≡ stream_text h blocks

pub stream-spelled : (want : Want) (input : List ℕ) (h : Header) (blocks : List Block) → AreBytes input → stream_of want input ≡ accepted h blocks → IsTextOf want input h blocks
stream-spelled want input h blocks are is = by_opening (opening want input) refl is
  where
    by_opening : (o : Opening) → opening want input ≡ o → opened_as o ≡ accepted h blocks → IsTextOf want input h blocks
    by_opening (refuses refusal) e is = absurd (let no : ⊥ = cc in no)
    by_opening (opens i left) e is = by_body (body i most_blocks (length (header_text i)) left) refl is
      where
        by_body : (b : Body) → body i most_blocks (length (header_text i)) left ≡ b → ended_as i b.blocks b.ending ≡ accepted h blocks → IsTextOf want input h blocks
        by_body b f is = by_ending b.ending refl is
          where
            by_ending : (n : Ending) → b.ending ≡ n → ended_as i b.blocks n ≡ accepted h blocks → IsTextOf want input h blocks
            by_ending (bad refusal) n is = absurd (let no : ⊥ = cc in no)
            by_ending whole n is =
                let same : i ≡ h = cc in
                let blocks_are : b.blocks ≡ blocks = cc in
                let o = opening-spelled want input i left are e in
                let B : List ℕ → Type 0 = λ xs. AreBytes xs in
                let left_bytes : AreBytes left = bytes-suffix (header_text i) left (subst B o.input_is are) in
                let s = body-spelled i most_blocks (length (header_text i)) left b.blocks left_bytes (f ∙ (λ j. record { blocks = b.blocks; ending = n j })) in
                let P : Header → Type 0 = λ k. IsTextOf want input k blocks in
                let Q : List Block → Type 0 = λ bs. IsTextOf want input i bs in
                subst P same (subst Q blocks_are (record {
                  stream = record { header = o.header; few = s.few; each = s.each };
                  wanted = o.wanted;
                  text = o.input_is ∙ ap (λ (xs : List ℕ). header_text i ++ xs) s.left_is;
                }))
