use Rattle.std.proofs.Common.{rules}
use Rattle.codes.specs.Double.{divided}
use Rattle.codes.proofs.double.over.Goals as goal

pub returns : goal.returns
unfolding divided
returns c = search rules
