use Rattle.std.proofs.Common.{arith}
use Rattle.layout.proofs.Bits.{bit_test}
use Rattle.layout.proofs.marks.has_bit.Goals as goal

pub returns : goal.returns
returns c = bit_test c.args.byte c.args.bit (omega arith) c.requires
