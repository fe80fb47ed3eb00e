use Rattle.layout.specs.Head.{head_cell}
use Rattle.layout.proofs.head.cell_of.Goals as goal

pub returns : goal.returns
unfolding head_cell
returns c = c.put_number.ensures
