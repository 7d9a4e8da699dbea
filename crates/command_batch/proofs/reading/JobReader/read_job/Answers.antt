use Rattle.std.proofs.Common.{◌≡◌, ℕ, true, Ok, refl, ap, sym, subst, ◌∙◌}
use Rattle.std.specs.declared.option.Option.{Option}
use Rattle.std.specs.declared.result.Result.{Result}
use Rattle.coded_stream.specs.Header.{Header, kind_code}
use Rattle.coded_stream.specs.Blocks.{IsBlock}
use Rattle.coded_stream.specs.Opening.{is_wanted}
use Rattle.coded_stream.specs.Shown.{header_of}
use Rattle.coded_stream.specs.Steps.{Advances}
use Rattle.coded_stream.specs.declared.kind.Kind.{Kind}
use Rattle.coded_stream.specs.declared.kind.Kind.TheVariants as kind
use Rattle.coded_stream.specs.declared.kind.Want.TheVariants as want
use Rattle.coded_stream.specs.declared.stop.StreamStop.{StreamStop}
use Rattle.stream_loop.specs.Rounds.{block_of}
use Rattle.command_decode.proofs.Values.{bytes_of_values}
use Rattle.command_batch.proofs.reading.JobReader.read_job.Goals as goal

is_soft : (k : Kind) → is_wanted want.Soft (kind_code k) ≡ true → k ≡ kind.Soft
is_soft kind.Hard e = absurd (let never : ⊥ = cc in never)
is_soft kind.Soft e = refl

pub invariant_of-result : goal.invariant_of-result
invariant_of-result g c =
    let r = c.args.self.now.reader in
    let payload = c.in-Ok-Some.payload in
    let bytes = c.next_block.new.into in
    let Moved : Result (Option ℕ) StreamStop → Type 0 = λ o. Advances r c.next_block.new.self bytes o in
    let moved = subst Moved (c.in-Ok-Some.is ∙ ap Ok c.in-Ok-Some.field-0-is) c.next_block.ensures.advances in
    let same : header_of c.header.result.now ≡ r.header = c.header.ensures ∙ ap (λ s. s.header) moved.2 in
    let P : Header → Type 0 = λ h. IsBlock h (block_of payload bytes) in
    let is = subst P (sym same) moved.1 in
    let K : Header → Type 0 = λ h. is_wanted want.Soft (kind_code h.kind) ≡ true in
    let soft = subst K (sym same) c.requires.soft in
    record {
      some = is.some;
      few = is.few;
      values = bytes_of_values c.header.result.now.kind c.header.result.now.sends bytes (is_soft c.header.result.now.kind soft) is.sent;
    }
