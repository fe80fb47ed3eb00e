use Rattle.std.proofs.Common.{◌≡◌, ◌==◌, ◌%◌, ◌/◌, ◌+◌, ◌-◌, cond, sym, ap, ◌∙◌, arith, rules}
use Rattle.std.specs.Int.Bits.{bit_xor, xor_zero_l, xor_zero_r}
use Rattle.bitwise.specs.Bitwise.{product}
use Rattle.bitwise.proofs.Products.{product-none, product-step}
use Rattle.bitwise.proofs.times.Goals as goal
use Rattle.bitwise.proofs.times.Goals.{then-rest-eq1, else-rest-eq1}

pub loop-init : goal.loop-init
loop-init c = xor_zero_l (product 8 c.args.a c.args.b)

pub loop-preserved : goal.loop-preserved
loop-preserved c =
    let l = c.loop in
    let sum : c.if-rest-eq1.sum ≡ bit_xor l.sum (cond (l.rest % 2 == 1) l.shifted 0) =
    elim c.if-rest-eq1.branch [
      | then-rest-eq1 w ↦ search (rules, xor_zero_r)
      | else-rest-eq1 w ↦ search (rules, xor_zero_r)
    ] in
    ap (λ s. bit_xor s (product (8 - (l.counter + 1)) c.times_x-shifted.result (l.rest / 2))) sum
    ∙ ap (λ x. bit_xor (bit_xor l.sum (cond (l.rest % 2 == 1) l.shifted 0)) (product (8 - (l.counter + 1)) x (l.rest / 2))) c.times_x-shifted.ensures
    ∙ sym (product-step l.counter l.sum l.shifted l.rest c.loop-test.true) ∙ l.invariant

pub returns : goal.returns
returns c =
    let l = c.loop in
    let none : product (8 - l.counter) l.shifted l.rest ≡ 0 = product-none (8 - l.counter) l.shifted l.rest (omega (arith, c.loop-test.false)) in
    sym (xor_zero_r l.sum) ∙ ap (bit_xor l.sum) (sym none) ∙ l.invariant
