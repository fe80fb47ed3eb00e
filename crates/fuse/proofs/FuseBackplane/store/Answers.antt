use Rattle.backplane.specs.Stores.{to_place}
use Rattle.fuse.specs.Fused.{fusing}
use Rattle.fuse.proofs.Meant.{store-meant}
use Rattle.fuse.proofs.FuseBackplane.store.Goals as goal

pub returns-clause-meaning : goal.returns-clause-meaning
returns-clause-meaning g c =
    let view = g.B.Backplane.view in
    store-meant (to_place c.args.at c.args.bytes.now) (fusing view c.args.self.now) (fusing view c.put.new.self) c.put.result c.put.ensures
