use Rattle.layout.proofs.Rotation.{slot_of-column_on}
use Rattle.layout.proofs.stripes.held_column.Goals as goal

pub returns-clause-back : goal.returns-clause-back
returns-clause-back c = slot_of-column_on c.args.n c.args.stripe c.args.slot
