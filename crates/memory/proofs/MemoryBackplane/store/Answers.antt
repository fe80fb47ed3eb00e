use Rattle.backplane.specs.Stores.{to_place}
use Rattle.memory.specs.Held.{held_by}
use Rattle.memory.proofs.Meant.{store-meant}
use Rattle.memory.proofs.MemoryBackplane.store.Goals as goal

pub returns-clause-meaning : goal.returns-clause-meaning
returns-clause-meaning c = store-meant (to_place c.args.at c.args.bytes.now) (held_by c.args.self.now) (held_by c.put.new.self) c.put.result c.put.ensures
