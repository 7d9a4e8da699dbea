use Rattle.std.proofs.Common.{◌≡◌, ℕ, List, [], ◌∷◌, length, slice_index, sym, ap, ◌∙◌}
use Rattle.std.specs.Int.{w16, w32, to_be_bytes}
use Rattle.rate_match.specs.Sendings.{common}
use Rattle.coded_stream.specs.Header.{Header, kind_code, limit_code, word_text, half_word_text, first_text}
use Rattle.coded_stream.specs.Shown.{header_of}
use Rattle.coded_stream.specs.declared.version.Version.TheVariants.{One}
use Rattle.coded_stream.proofs.Written.{common-at}
use Rattle.coded_stream.proofs.writing.first_of_one.Goals as goal

-- the bytes, field by field
from_fields : (h : Header) (code qm nl count : ℕ) (tb g nir : List ℕ) → code ≡ kind_code h.kind → qm ≡ (common h.sends).qm → nl ≡ (common h.sends).nl → count ≡ length h.sends
    → tb ≡ to_be_bytes w16 h.tb → g ≡ to_be_bytes w32 (common h.sends).g → nir ≡ to_be_bytes w32 (limit_code (common h.sends).limit)
    → (76 ∷ 84 ∷ 67 ∷ 49 ∷ code ∷ qm ∷ nl ∷ count ∷ slice_index tb 0 ∷ slice_index tb 1 ∷ slice_index g 0 ∷ slice_index g 1 ∷ slice_index g 2 ∷ slice_index g 3
    ∷ slice_index nir 0 ∷ slice_index nir 1 ∷ slice_index nir 2 ∷ slice_index nir 3 ∷ []) ≡ first_text One h
unfolding first_text word_text half_word_text
from_fields h code qm nl count tb g nir ec eq el en et eg er i =
    76 ∷ 84 ∷ 67 ∷ 49 ∷ ec i ∷ eq i ∷ el i ∷ en i ∷ slice_index (et i) 0 ∷ slice_index (et i) 1 ∷ slice_index (eg i) 0 ∷ slice_index (eg i) 1 ∷ slice_index (eg i) 2 ∷ slice_index (eg i) 3
    ∷ slice_index (er i) 0 ∷ slice_index (er i) 1 ∷ slice_index (er i) 2 ∷ slice_index (er i) 3 ∷ []

pub returns : goal.returns
returns c =
    let h = c.args.header.now in
    let is = common-at h.sends _ c.at-m.ensures.value in
    from_fields (header_of h) c.code.result c.qm.result c.nl.result c.len.result c.to_be_bytes-tb.result c.to_be_bytes-g.result c.to_be_bytes-nir.result
    c.code.ensures
    (c.qm.ensures.value ∙ sym (ap (λ m. m.qm) is))
    (c.nl.ensures.value ∙ sym (ap (λ m. m.nl) is))
    c.len.ensures.value
    c.to_be_bytes-tb.ensures
    (c.to_be_bytes-g.ensures ∙ ap (to_be_bytes w32) (c.g.ensures.value ∙ sym (ap (λ m. m.g) is)))
    (c.to_be_bytes-nir.ensures ∙ ap (to_be_bytes w32) c.limit_code.ensures)
