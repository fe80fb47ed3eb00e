use Rattle.memory.specs.Held.{held_by}
use Rattle.memory.proofs.Meant.{sound}
use Rattle.memory.proofs.MemoryBackplane.slots.Goals as goal

pub returns-clause-sound : goal.returns-clause-sound
returns-clause-sound c = sound (held_by c.args.self.now) c.below_256.ensures
