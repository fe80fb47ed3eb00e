use Rattle.std.proofs.Common.{arith}
use Rattle.layout.proofs.Bits.{bit-set, bit-clear}
use Rattle.layout.proofs.marks.with_bit.Goals as goal

pub returns-then-on : goal.returns-then-on
returns-then-on c = λ j h. let b = bit-set c.args.byte c.args.bit j (omega arith) c.requires h in (cc)

pub returns-else-on : goal.returns-else-on
returns-else-on c = λ j h. let b = bit-clear c.args.byte c.args.bit j (omega arith) c.requires h in (cc)
