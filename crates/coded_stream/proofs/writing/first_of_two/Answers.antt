use Rattle.std.proofs.Common.{◌≡◌, ℕ, List, [], ◌∷◌, length, slice_index, ap, ◌∙◌}
use Rattle.std.specs.Int.{w16, w32, to_be_bytes}
use Rattle.rate_match.specs.Sendings.{common}
use Rattle.coded_stream.specs.Header.{Header, kind_code, limit_code, word_text, half_word_text, first_text}
use Rattle.coded_stream.specs.Shown.{header_of}
use Rattle.coded_stream.specs.declared.version.Version.TheVariants.{Two}
use Rattle.coded_stream.proofs.writing.first_of_two.Goals as goal

-- the bytes, field by field
from_fields : (h : Header) (code count : ℕ) (tb nir : List ℕ) → code ≡ kind_code h.kind → count ≡ length h.sends
    → tb ≡ to_be_bytes w16 h.tb → nir ≡ to_be_bytes w32 (limit_code (common h.sends).limit)
    → (76 ∷ 84 ∷ 67 ∷ 50 ∷ code ∷ count ∷ slice_index tb 0 ∷ slice_index tb 1
    ∷ slice_index nir 0 ∷ slice_index nir 1 ∷ slice_index nir 2 ∷ slice_index nir 3 ∷ []) ≡ first_text Two h
unfolding first_text word_text half_word_text
from_fields h code count tb nir ec en et er i =
    76 ∷ 84 ∷ 67 ∷ 50 ∷ ec i ∷ en i ∷ slice_index (et i) 0 ∷ slice_index (et i) 1
    ∷ slice_index (er i) 0 ∷ slice_index (er i) 1 ∷ slice_index (er i) 2 ∷ slice_index (er i) 3 ∷ []

pub returns : goal.returns
returns c =
    from_fields (header_of c.args.header.now) c.code.result c.len.result c.to_be_bytes-tb.result c.to_be_bytes-nir.result
    c.code.ensures
    c.len.ensures.value
    c.to_be_bytes-tb.ensures
    (c.to_be_bytes-nir.ensures ∙ ap (to_be_bytes w32) c.limit_code.ensures)
