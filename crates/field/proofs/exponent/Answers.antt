use Rattle.std.proofs.Common.{◌<◌, rules, arith}
use Rattle.field.proofs.Rules.{logs, log-at}
use Rattle.field.proofs.exponent.Goals as goal

pub returns : goal.returns
unfolding logs
returns c =
    let above : 0 < c.args.b = search (rules, arith) in
    let t = log-at c.args.b above (search rules) in
    record { value = t.0; bound = t.1; above = above; zero = tt }
