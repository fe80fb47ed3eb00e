use Rattle.std.proofs.Common.{rules}
use Rattle.memory.specs.Held.{held_by}
use Rattle.memory.proofs.Meant.{fit-meant}
use Rattle.memory.proofs.MemoryBackplane.fit.Goals as goal

pub returns-clause-meaning : goal.returns-clause-meaning
returns-clause-meaning c = fit-meant c.args.slot (held_by c.args.self.now) (held_by c.fit_disk.new.self) c.fit_disk.result (search rules) c.fit_disk.ensures
