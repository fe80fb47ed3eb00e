use Rattle.layout.proofs.Rotation.{column_on-slot_of, slot_of-next}
use Rattle.layout.proofs.stripes.slot_of.Goals as goal

pub returns-clause-back : goal.returns-clause-back
returns-clause-back c = column_on-slot_of c.args.n c.args.stripe c.args.column

pub returns-clause-next : goal.returns-clause-next
returns-clause-next c = slot_of-next c.args.n c.args.stripe c.args.column
