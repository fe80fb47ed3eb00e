-- 0 by the tables' rule, or the power at the sum of the exponents; and either is the product of polynomials.
use Rattle.std.proofs.Common.{◌≡◌, sym, ◌∙◌, rules}
use Rattle.field.specs.Field.{times}
use Rattle.field.proofs.Laws.{times-zero-l, times-zero-r}
use Rattle.field.proofs.Products.{polynomial-is}
use Rattle.field.proofs.product.Goals as goal

pub returns-in-Some-Some : goal.returns-in-Some-Some
unfolding times
returns-in-Some-Some c =
    let is : c.entry.result ≡ times c.args.a c.args.b = search rules in
    record { value = is; polynomial = is ∙ sym (polynomial-is 8 c.args.a c.args.b (search rules) (search rules) (search rules)) }

pub returns-in_default : goal.returns-in_default
returns-in_default c =
    let is : 0 ≡ times c.args.a c.args.b = search (rules, times-zero-r) in
    record { value = is; polynomial = is ∙ sym (polynomial-is 8 c.args.a c.args.b (search rules) (search rules) (search rules)) }

pub returns-in_default-2 : goal.returns-in_default-2
returns-in_default-2 c =
    let is : 0 ≡ times c.args.a c.args.b = search (rules, times-zero-l) in
    record { value = is; polynomial = is ∙ sym (polynomial-is 8 c.args.a c.args.b (search rules) (search rules) (search rules)) }
