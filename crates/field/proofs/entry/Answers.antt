use Rattle.field.proofs.Rules.{exps, exp-at}
use Rattle.field.proofs.entry.Goals as goal

pub returns : goal.returns
unfolding exps
returns c = exp-at c.args.i c.requires
