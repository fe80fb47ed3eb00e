use Rattle.std.proofs.Common.{◌≡◌, ◌-◌, min, take, drop, length, ap, ◌∙◌, arith, rules}
use Rattle.std.specs.List.{count_by}
use Rattle.std.proofs.lemmas.List.{take_rest, drop_min}
use Rattle.codes.specs.Code.{lost_count}
use Rattle.codes.proofs.Filling.{lost_count-chain}
use Rattle.codes.proofs.row.lost_places.Goals as goal

pub returns : goal.returns
returns c =
    let lost = c.args.lost.now in
    let m = c.min-from.result in
    let part = take (length lost - m) (drop m lost) in
    let e : c.count.result ≡ count_by (λ b. b) part = search rules in
    let least : m ≡ min c.args.from (length lost) = omega (arith, c.min-from.ensures) in
    e ∙ lost_count-chain part ∙ ap lost_count (take_rest lost m ∙ ap (λ n. drop n lost) least ∙ drop_min c.args.from lost)
