use Rattle.std.proofs.Common.{arith}
use Rattle.model_sender.proofs.RowLaws.{range-of_size}
use Rattle.qpp_table.proofs.SizesByRange.{from_40, from_232, from_424, from_720, from_1184, from_1952, from_3392, from_4928}
use Rattle.qpp_table.proofs.table.addresses.Goals as goal

pub fill_40_to_224-requires-clause-size : goal.fill_40_to_224-requires-clause-size
fill_40_to_224-requires-clause-size c = from_40 c.args.k c.requires.size (omega arith) (omega arith)

pub fill_232_to_416-requires-clause-size : goal.fill_232_to_416-requires-clause-size
fill_232_to_416-requires-clause-size c = from_232 c.args.k c.requires.size (omega arith) (omega arith)

pub fill_424_to_704-requires-clause-size : goal.fill_424_to_704-requires-clause-size
fill_424_to_704-requires-clause-size c = from_424 c.args.k c.requires.size (omega arith) (omega arith)

pub fill_720_to_1152-requires-clause-size : goal.fill_720_to_1152-requires-clause-size
fill_720_to_1152-requires-clause-size c = from_720 c.args.k c.requires.size (omega arith) (omega arith)

pub fill_1184_to_1920-requires-clause-size : goal.fill_1184_to_1920-requires-clause-size
fill_1184_to_1920-requires-clause-size c = from_1184 c.args.k c.requires.size (omega arith) (omega arith)

pub fill_1952_to_3328-requires-clause-size : goal.fill_1952_to_3328-requires-clause-size
fill_1952_to_3328-requires-clause-size c = from_1952 c.args.k c.requires.size (omega arith) (omega arith)

pub fill_3392_to_4864-requires-clause-size : goal.fill_3392_to_4864-requires-clause-size
fill_3392_to_4864-requires-clause-size c = from_3392 c.args.k c.requires.size (omega arith) (omega arith)

pub fill_4928_to_6144-requires-clause-size : goal.fill_4928_to_6144-requires-clause-size
fill_4928_to_6144-requires-clause-size c = from_4928 c.args.k c.requires.size (omega arith) (range-of_size c.args.k c.requires.size).1
