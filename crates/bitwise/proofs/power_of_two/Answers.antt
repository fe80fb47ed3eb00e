use Rattle.std.proofs.Common.{ap, sym, ◌∙◌, refl, arith}
use Rattle.bitwise.specs.Bitwise.{times_x, power}
use Rattle.bitwise.proofs.Products.{power-more}
use Rattle.bitwise.proofs.power_of_two.Goals as goal

pub loop-init : goal.loop-init
unfolding power
loop-init c = refl

pub loop-preserved : goal.loop-preserved
loop-preserved c = c.times_x-p.ensures ∙ ap times_x c.loop.invariant ∙ sym (power-more c.loop.counter)

pub returns : goal.returns
returns c = c.loop.invariant ∙ ap power (omega (arith, c.loop-test.false))
