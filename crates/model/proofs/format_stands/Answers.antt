use Rattle.model.proofs.format_stands.Goals as goal
use Rattle.model.proofs.Format.{format-right}

pub returns : goal.returns
returns c = format-right
