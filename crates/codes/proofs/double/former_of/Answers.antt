use Rattle.std.proofs.Common.{ap, ◌∙◌}
use lib.Bits.{bit_xor}
use Rattle.field.specs.Field.{exp, times}
use Rattle.field.proofs.Rules.{exp-mod}
use Rattle.codes.specs.Double.{divided}
use Rattle.codes.proofs.double.former_of.Goals as goal

pub returns : goal.returns
returns c =
    let i = c.args.i in
    let j = c.args.j in
    let top = c.scaled.ensures ∙ ap (λ e. times e c.args.p) (exp-mod j) in
    c.over.ensures ∙ ap (λ t. divided (bit_xor c.args.q t) (bit_xor c.power.result c.power-2.result)) top
    ∙ ap (λ e. divided (bit_xor c.args.q (times (exp j) c.args.p)) (bit_xor e c.power-2.result)) (c.power.ensures ∙ exp-mod i)
    ∙ ap (λ e. divided (bit_xor c.args.q (times (exp j) c.args.p)) (bit_xor (exp i) e)) (c.power-2.ensures ∙ exp-mod j)
