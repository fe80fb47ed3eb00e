use mathlib.Core.Path.{ap, ◌∙◌}
use lib.ListN.{get_or}
use Rattle.samples.proofs.Computed.{row-solved}
use Rattle.samples.proofs.solved_pair.Goals as goal

pub returns : goal.returns
returns c = ap (λ r. (get_or r 0 0, get_or r 1 0)) (c.solve.ensures.solved.1 ∙ row-solved 0 0)
