use Rattle.std.proofs.Common.{◌<◌}
use Rattle.std.proofs.ByRecursion.{All-from_get_or}
use Rattle.backplane.proofs.bytes.sector.Goals as goal

pub returns : goal.returns
returns c = λ l. (l, All-from_get_or (λ x. x < 256) c.args.bytes.now 0 c.below_256.ensures)
