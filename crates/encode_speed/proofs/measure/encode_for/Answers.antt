use Rattle.std.proofs.Common.{ℕ, Contains, ap, sym, subst, ◌∙◌}
use Rattle.lte_bits.specs.declared.block.Block.{Block}
use Rattle.model_sender.specs.CodedStreams.{streams}
use Rattle.model_sender.specs.Interleaver.{sizes}
use Rattle.model_sender.proofs.SizeTable.{size_6144}
use Rattle.encode_speed.proofs.measure.encode_for.Goals as goal

pub encode-requires : goal.encode-requires
encode-requires c = subst (λ (k : ℕ). Contains sizes k) (sym c.in_ok-block.ensures.size) size_6144

pub returns-then-ge : goal.returns-then-ge
returns-then-ge c = c.in_ok-streams.ensures ∙ ap (λ (b : Block). streams b) c.in_ok-block.ensures.block
