-- Parts written one after the other.
use Rattle.std.proofs.Common.{◌≡◌, ℕ, ◌+◌, ◌<◌, List, [], ◌∷◌, ◌++◌, length, take, drop, get_or, Err, ap, sym, ◌∙◌, append_assoc, arith}
use Rattle.std.proofs.Math.ListN.{get_or-map}
use Rattle.std.proofs.lemmas.Grind.{common_steps, flat_map-append}
use Rattle.std.proofs.lemmas.List.{append-nil, take_more, take-append-drop, length-map}
use Rattle.std.specs.declared.option.Option.{Option}
use Rattle.edge_io.specs.Edge.{Adds}
use Rattle.edge_io.proofs.Known.{adds_then}
use Rattle.run_loop.specs.Answer.{Part, texts, lines, size_of}
use Rattle.run_loop.specs.Puts.{Puts, PutsEach}
use Rattle.run_loop.specs.Step.{part_of, parts_of}
use Rattle.run_loop.specs.declared.work.Part as rust
use Rattle.run_loop.specs.declared.status.SinkName.{SinkName}
use Rattle.run_loop.specs.declared.status.SinkName.TheVariants.{Out, Report}

pub texts_then : (front parts : List Part) → texts (front ++ parts) ≡ texts front ++ texts parts
texts_then front parts = flat_map-append (λ (q : Part). q.text) front parts

pub lines_then : (front parts : List Part) → lines (front ++ parts) ≡ lines front ++ lines parts
lines_then front parts = flat_map-append (λ (q : Part). q.line) front parts

pub size_then : (front parts : List Part) → size_of (front ++ parts) ≡ size_of front + size_of parts
size_then front parts = grind (arith, common_steps)

-- one part more
part_more : (parts : List rust.Part) (i : ℕ) (part : rust.Part) → i < length parts → part ≡ get_or parts i part →
    take (i + 1) (parts_of parts) ≡ take i (parts_of parts) ++ part_of part ∷ []
part_more parts i part in_parts is =
    take_more (parts_of parts) i (part_of part) (omega (arith, in_parts, length-map parts part_of))
    ∙ ap (λ (p : Part). take i (parts_of parts) ++ p ∷ []) (get_or-map part_of parts i part ∙ ap part_of (sym is))

pub texts_more : (parts : List rust.Part) (i : ℕ) (part : rust.Part) → i < length parts → part ≡ get_or parts i part →
    texts (take (i + 1) (parts_of parts)) ≡ texts (take i (parts_of parts)) ++ part.text.items
texts_more parts i part in_parts is =
    ap texts (part_more parts i part in_parts is) ∙ texts_then (take i (parts_of parts)) (part_of part ∷ [])
    ∙ ap (λ (t : List ℕ). texts (take i (parts_of parts)) ++ t) (append-nil part.text.items)

pub lines_more : (parts : List rust.Part) (i : ℕ) (part : rust.Part) → i < length parts → part ≡ get_or parts i part →
    lines (take (i + 1) (parts_of parts)) ≡ lines (take i (parts_of parts)) ++ part.line.items
lines_more parts i part in_parts is =
    ap lines (part_more parts i part in_parts is) ∙ lines_then (take i (parts_of parts)) (part_of part ∷ [])
    ∙ ap (λ (t : List ℕ). lines (take i (parts_of parts)) ++ t) (append-nil part.line.items)

parts_split : (parts : List rust.Part) (i : ℕ) (part : rust.Part) → i < length parts → part ≡ get_or parts i part →
    parts_of parts ≡ take i (parts_of parts) ++ part_of part ∷ drop (i + 1) (parts_of parts)
parts_split parts i part in_parts is =
    let after = drop (i + 1) (parts_of parts) in
    sym (take-append-drop (i + 1) (parts_of parts)) ∙ ap (λ (ps : List Part). ps ++ after) (part_more parts i part in_parts is)
    ∙ append_assoc (take i (parts_of parts)) (part_of part ∷ []) after

-- a part that couldn't be written whole
pub stopped_at : (out0 mid_out out report0 mid_report report : Option (List ℕ)) (parts : List rust.Part) (i : ℕ) (part : rust.Part) (sink : SinkName) →
    i < length parts → part ≡ get_or parts i part →
    Adds out0 mid_out (texts (take i (parts_of parts))) → Adds report0 mid_report (lines (take i (parts_of parts))) →
    Puts {T = Unit {0}} mid_out out mid_report report part.text.items part.line.items (Err sink) →
    PutsEach {T = Unit {0}} out0 out report0 report (parts_of parts) (Err sink)
stopped_at out0 mid_out out report0 mid_report report parts i part Out in_parts is added told put = (
  take i (parts_of parts),
  drop (i + 1) (parts_of parts),
  part_of part,
  put.0.0,
  parts_split parts i part in_parts is,
  adds_then out0 mid_out out (texts (take i (parts_of parts))) (take put.0.0 part.text.items) added put.0.1,
  put.1 ∙ told,
  put.2,
)
stopped_at out0 mid_out out report0 mid_report report parts i part Report in_parts is added told put = (
  take i (parts_of parts),
  drop (i + 1) (parts_of parts),
  part_of part,
  put.1.0,
  parts_split parts i part in_parts is,
  adds_then out0 mid_out out (texts (take i (parts_of parts))) part.text.items added put.0,
  adds_then report0 mid_report report (lines (take i (parts_of parts))) (take put.1.0 part.line.items) told put.1.1,
  put.2,
)
