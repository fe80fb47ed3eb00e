use Rattle.std.proofs.Common.{rules}
use Rattle.memory.specs.Held.{held_by}
use Rattle.memory.proofs.Meant.{pull-meant}
use Rattle.memory.proofs.MemoryBackplane.pull.Goals as goal

pub returns-clause-meaning : goal.returns-clause-meaning
returns-clause-meaning c = pull-meant c.args.slot (held_by c.args.self.now) (held_by c.pull_disk.new.self) (search rules) c.pull_disk.ensures
