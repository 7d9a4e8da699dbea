-- What contracts see of `HarqBuffers`, and what it keeps.
use Rattle.std.specs.Prelude.{◌≡◌, length}
use Rattle.model_sender.specs.CircularBuffer.{FitsIn}
use Rattle.rate_match.specs.Matching.{limit_of}
use Rattle.soft_buffers.specs.declared.buffers.HarqBuffers.TheInside.{Inside}
use Rattle.soft_buffers.specs.Buffers.{AreLong, Buffers}

abbrev pub shown : Inside → Buffers
shown b = record { plan = b.plan; limit = limit_of b.buffer; cells = b.blocks.items }

pub record IsKept (b : Inside) : Type 0 where
  pub fits : FitsIn (limit_of b.buffer) b.plan.c b.plan.k_plus
  pub count : length b.blocks.items ≡ b.plan.c
  pub long : AreLong b.plan b.blocks.items
