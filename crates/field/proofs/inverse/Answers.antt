use Rattle.std.proofs.Common.{rules}
use Rattle.field.specs.Field.{reciprocal}
use Rattle.field.proofs.inverse.Goals as goal

pub returns : goal.returns
unfolding reciprocal
returns c = search rules
