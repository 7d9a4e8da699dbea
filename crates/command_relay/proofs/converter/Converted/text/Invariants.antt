use Rattle.std.proofs.Common.{◌≡◌, ◌++◌, map, drop}
use Rattle.coded_stream.specs.Blocks.{AreTransmissions}
use Rattle.coded_stream.specs.Header.{word_text}
use Rattle.coded_stream.specs.Shown.{header_of}
use Rattle.command_relay.specs.Conversions.{made_from}
use Rattle.command_relay.proofs.converter.Converted.text.Given as goal

abbrev pub invariant-loop-number : goal.invariant-loop-number
invariant-loop-number g l = let w = g.C.Converter.conversion l.self.0 in let h = header_of l.header in record {
  left : AreTransmissions h.kind (map (λ s. s.m.g) (drop l.number h.sends)) l.rest;
  text : l.text.items ++ made_from w h l.block l.number (drop l.number h.sends) l.rest ≡ word_text l.payload ++ made_from w h l.block 0 h.sends l.bytes;
}
