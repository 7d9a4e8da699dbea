-- What writing parts, or the closing, leaves in `out` and the report.
use Rattle.std.specs.Prelude.{◌≡◌, ℕ, ◌<◌, ◌≤◌, List, ◌∷◌, ◌++◌, length, take, Ok, Err}
use Rattle.std.specs.declared.option.Option.{Option}
use Rattle.std.specs.declared.result.Result.{Result}
use Rattle.edge_io.specs.Edge.{Adds, Rose}
use Rattle.run_loop.specs.Answer.{Part, texts, lines}
use Rattle.run_loop.specs.declared.status.SinkName.{SinkName}
use Rattle.run_loop.specs.declared.status.SinkName.TheVariants.{Out, Report}

-- a text added to `out` and then a line to the report, or as much of them as was written before a write
-- failed, which comes only where there is something to write
abbrev pub Puts : {T : Type 0} → (out0 out1 report0 report1 : Option (List ℕ)) → (text line : List ℕ)
    → Result T SinkName → Type 0
Puts out0 out1 report0 report1 text line (Ok _) = Adds out0 out1 text × Adds report0 report1 line
Puts out0 out1 report0 report1 text line (Err Out) = ((n : ℕ) × Adds out0 out1 (take n text))
    × (report1 ≡ report0) × (0 < length text)
Puts out0 out1 report0 report1 text line (Err Report) = Adds out0 out1 text
    × ((n : ℕ) × Adds report0 report1 (take n line)) × (0 < length line)

-- the same for parts, each written before the next
abbrev pub PutsEach : {T : Type 0} → (out0 out1 report0 report1 : Option (List ℕ)) → List Part
    → Result T SinkName → Type 0
PutsEach out0 out1 report0 report1 parts (Ok _) = Adds out0 out1 (texts parts)
    × Adds report0 report1 (lines parts)
PutsEach out0 out1 report0 report1 parts (Err Out) = (front after : List Part) × (p : Part) × (n : ℕ)
    × (parts ≡ front ++ p ∷ after) × Adds out0 out1 (texts front ++ take n p.text)
    × Adds report0 report1 (lines front) × (0 < length p.text)
PutsEach out0 out1 report0 report1 parts (Err Report) = (front after : List Part) × (p : Part) × (n : ℕ)
    × (parts ≡ front ++ p ∷ after) × Adds out0 out1 (texts front ++ p.text)
    × Adds report0 report1 (lines front ++ take n p.line) × (0 < length p.line)

-- a sink that failed counted it, and no count fell
pub record HasSinkCause {T : Type 0} (outs0 outs1 reports0 reports1 : ℕ) (result : Result T SinkName) : Type 0 where
  pub out : result ≡ Err Out → Rose outs0 outs1
  pub report : result ≡ Err Report → Rose reports0 reports1
  pub out_later : outs0 ≤ outs1
  pub report_later : reports0 ≤ reports1
