use Rattle.std.proofs.Common.{rules}
use Rattle.layout.specs.Header.{good_in, goods_in}
use Rattle.layout.proofs.Filling.{filled}
use Rattle.layout.proofs.header.goods_in.Goals as goal

pub returns : goal.returns
unfolding goods_in
returns c = filled _ _ (good_in c.args.cell.now) 16 (λ i y q h k. search rules) c.from_fn.result c.from_fn.ensures.items
