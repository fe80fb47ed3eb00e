use Rattle.model.proofs.promise_stands.Goals as goal
use Rattle.model.proofs.Whole.{promise}

pub returns : goal.returns
returns c = promise
