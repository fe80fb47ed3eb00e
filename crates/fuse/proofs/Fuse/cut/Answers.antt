use Rattle.std.proofs.Common.{◌≡◌, List, ℕ, ◌++◌, drop, length, replicate, rules}
use Rattle.fuse.proofs.Meant.{place-is, cut-done}
use Rattle.fuse.proofs.Fuse.cut.Goals as goal

pub returns : goal.returns
returns g c =
    let view = g.B.Backplane.view in
    let below = c.args.self.now.below in
    let sent : List ℕ = c.copy_from_slice.new.self ++ drop c.new_at-n.result c.read.new.into in
    let l : length c.args.bytes.now ≡ 512 = search rules in
    let d = cut-done c.args.kept c.args.at c.args.bytes.now (replicate 512 0) c.read.new.into sent (view below) (view c.read.new.self) (view c.spend.new.self.below)
    c.store.result (search rules) l (search rules) (search rules) (search rules) (search rules) (rw c.spend.ensures.below c.store.ensures) in
    (d.0, place-is c.args.at c.args.bytes.now, c.spend.ensures.setting, c.spend.ensures.on, d.1, d.2)
