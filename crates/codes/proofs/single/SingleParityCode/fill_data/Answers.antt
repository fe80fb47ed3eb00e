use Rattle.codes.proofs.Filling.{one-lost, one-none}
use Rattle.codes.proofs.single.SingleParityCode.fill_data.Goals as goal

pub returns-in-Some : goal.returns-in-Some
returns-in-Some c =
    one-lost c.args.bytes.now c.args.checks.now c.args.lost.now c.clear_lost.new.bytes c.clear_lost.ensures c.in-Some.i c.in-Some.ensures.place c.in-Some.ensures.below
    c.check_at.result c.sum_of.result c.check_at.ensures c.sum_of.ensures

pub returns-in_default : goal.returns-in_default
returns-in_default c = one-none c.args.bytes.now c.args.checks.now c.args.lost.now c.clear_lost.new.bytes c.clear_lost.ensures c.in_default.ensures.none
