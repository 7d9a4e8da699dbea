-- What `decode` makes of a stream of soft values.
use Rattle.std.specs.Prelude.{ℕ, ◌-◌, true, false, None, List, [], ◌++◌, length, codes, decimal}
use Rattle.model_sender.specs.Segmentation.{plan_of}
use Rattle.model_receiver.specs.SoftCells.{Reception}
use Rattle.model_receiver.specs.Limits.{DecoderLimits}
use Rattle.model_receiver.specs.TransportBlocks.{outcome}
use Rattle.model_receiver.specs.declared.result.TbOutcome.{TbOutcome}
use Rattle.model_receiver.specs.declared.result.TbOutcome.TheVariants.{Delivered, Failed}
use Rattle.block_receive.specs.Receptions.{receptions}
use Rattle.coded_stream.specs.Header.{Header}
use Rattle.coded_stream.specs.Blocks.{Block}
use Rattle.coded_stream.specs.declared.kind.Want.TheVariants.{Soft}
use Rattle.run_loop.specs.Lines.{line_end}
use Rattle.stream_loop.specs.Handling.{Handled, Handling}
use Rattle.stream_loop.specs.SoftBytes.{softs_of}

-- what came of the transmissions of a block
abbrev pub received : Header → Block → List Reception
received h b = receptions h.sends (softs_of b.bytes)

-- what its reception comes to
abbrev pub decoded : DecoderLimits → Header → Block → TbOutcome
decoded limits h b = outcome (plan_of b.payload) limits (received h b)

-- ---- the lines

-- a line with ` transmissions T iterations I` after it
abbrev pub with_counts : (line : List ℕ) → (transmissions iterations : ℕ) → List ℕ
with_counts line transmissions iterations =
    line ++ codes " transmissions " ++ decimal transmissions ++ codes " iterations " ++ decimal iterations
    ++ line_end

-- `block N delivered bytes L transmissions T iterations I`, or `block N failed transmissions T iterations I`
abbrev pub block_line : (number : ℕ) → TbOutcome → List ℕ
block_line number (Delivered bytes transmissions iterations) =
    with_counts (codes "block " ++ decimal number ++ codes " delivered bytes " ++ decimal (length bytes))
    transmissions iterations
block_line number (Failed transmissions iterations) =
    with_counts (codes "block " ++ decimal number ++ codes " failed") transmissions iterations

-- `end blocks N delivered D failed F`
abbrev pub last_line : (blocks failed : ℕ) → List ℕ
last_line blocks failed =
    codes "end blocks " ++ decimal blocks ++ codes " delivered " ++ decimal (blocks - failed)
    ++ codes " failed " ++ decimal failed ++ line_end

-- ---- the command

-- a delivered block adds the bytes of its payload to `out`, a failed one nothing
abbrev pub handled : (number : ℕ) → TbOutcome → Handled
handled number (Delivered bytes transmissions iterations) = record {
  text = bytes;
  line = block_line number (Delivered bytes transmissions iterations);
  failed = false;
}
handled number (Failed transmissions iterations) = record {
  text = [];
  line = block_line number (Failed transmissions iterations);
  failed = true;
}

abbrev pub decoding : DecoderLimits → Handling
decoding limits = record {
  want = Soft;
  header = λ _. None;
  block = λ h number b. handled number (decoded limits h b);
  last = last_line;
}
