use Rattle.std.proofs.Common.{◌≡◌, sym, ap, ◌∙◌}
use lib.Bits.{bit_xor}
use Rattle.codes.specs.Double.{unless}
use Rattle.codes.proofs.Filling.{two-none, two-one, two-both}
use Rattle.codes.proofs.double.DoubleParityCode.fill_data.Goals as goal
use Rattle.codes.proofs.double.DoubleParityCode.fill_data.Goals.{then-is_lost, else-is_lost}

pub returns-in_default : goal.returns-in_default
returns-in_default c = two-none c.args.bytes.now c.args.checks.now c.args.lost.now c.clear_lost.new.bytes c.clear_lost.ensures c.in_default.ensures.none

pub returns-in-Some-next_lost : goal.returns-in-Some-next_lost
returns-in-Some-next_lost c =
    two-both c.args.bytes.now c.args.checks.now c.args.lost.now c.clear_lost.new.bytes c.clear_lost.ensures c.in-Some.i c.in-Some.ensures.place c.in-Some.ensures.below
    c.check_at.result c.sum_of.result c.check_at-2.result c.weighted_of.result c.check_at.ensures c.sum_of.ensures c.check_at-2.ensures c.weighted_of.ensures
    c.in-Some-next_lost.j c.in-Some-next_lost.ensures.place c.in-Some-next_lost.ensures.below c.former_of-x.result c.former_of-x.ensures

pub returns-after-is_lost : goal.returns-after-is_lost
returns-after-is_lost c =
    let kept : c.if-is_lost.kept ≡ unless c.is_lost.result (bit_xor c.check_at.result c.sum_of.result) = elim c.if-is_lost.branch [
      | then-is_lost w ↦ w.kept-is ∙ ap (λ t. unless t (bit_xor c.check_at.result c.sum_of.result)) (sym w.if-is_lost.true)
      | else-is_lost w ↦ w.kept-is ∙ ap (λ t. unless t (bit_xor c.check_at.result c.sum_of.result)) (sym w.if-is_lost.false)
    ] in
    two-one c.args.bytes.now c.args.checks.now c.args.lost.now c.clear_lost.new.bytes c.clear_lost.ensures c.in-Some.i c.in-Some.ensures.place c.in-Some.ensures.below
    c.check_at.result c.sum_of.result c.check_at-2.result c.weighted_of.result c.check_at.ensures c.sum_of.ensures c.check_at-2.ensures c.weighted_of.ensures
    c.in_default-next_lost.ensures.none c.is_lost.result c.is_lost.ensures c.if-is_lost.kept kept c.lone_of.result c.lone_of.ensures
