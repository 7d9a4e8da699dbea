-- What the next half of a decoding starts from.
use Rattle.model_receiver.specs.HalfIteration.{Before}
use Rattle.serial_decode.specs.declared.decoder.SerialDecoder.{SerialDecoder}

abbrev pub before_of : SerialDecoder → Before
before_of d = record { cells = d.cells.items; left = d.left.items; left_before_last = d.left_before_last.items }
