use Rattle.std.proofs.Common.{◌≡◌, take, ◌∙◌, arith, rules}
use Rattle.std.specs.List.{fold}
use lib.Bits.{bit_xor}
use Rattle.codes.proofs.Filling.{total-fold}
use Rattle.codes.proofs.row.sum_of.Goals as goal

pub returns : goal.returns
returns c =
    let e : c.fold.result ≡ fold (λ s b. bit_xor s b) 0 (take c.min-n.result c.args.bytes.now) = search rules in
    e ∙ total-fold c.min-n.result c.args.bytes.now (omega (arith, c.min-n.ensures)) (λ i h l. omega (arith, c.min-n.ensures))
