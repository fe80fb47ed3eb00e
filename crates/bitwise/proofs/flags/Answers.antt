use Rattle.std.proofs.Common.{false, rules}
use Rattle.bitwise.specs.Bitwise.{bit}
use Rattle.bitwise.proofs.Products.{bit-past}
use Rattle.bitwise.proofs.Filling.{filled}
use Rattle.bitwise.proofs.flags.Goals as goal

pub returns : goal.returns
returns g c = filled _ _ (bit c.args.mask) g.row.N (λ i y q h k. (search rules, search (rules, bit-past))) c.from_fn.result false c.from_fn.ensures.items
