use Rattle.std.proofs.Common.{◌≡◌, ℕ, ◌<◌, ◌≤◌, ◌-◌, Bool, true, false, Option, Some, None, List, IfSome, IfNone, MatchOption, rules}
use Rattle.std.proofs.lemmas.Iterator.{first_from_Range}
use Rattle.codes.specs.Code.{lost_at}
use Rattle.codes.specs.Solving.{next_lost}
use Rattle.codes.proofs.Filling.{next-found, next-none}
use Rattle.codes.proofs.row.next_lost.Goals as goal

-- the clauses, of what the search found
found : (lost : List Bool) (from to : ℕ) (r : Option ℕ)
    → MatchOption r ((k : ℕ) → from ≤ k → k < to → lost_at lost k ≡ false) (λ i. (from ≤ i) × (i < to) × (lost_at lost i ≡ true) × ((k : ℕ) → from ≤ k → k < i → lost_at lost k ≡ false))
    → IfSome r (λ i. i ≡ next_lost lost from (to - from)) × (IfSome r (λ i. i < to) × IfNone r (to ≤ next_lost lost from (to - from)))
found lost from to (Some i) d = (next-found lost from to i d.0 d.1 d.2 d.3, (d.1, tt))
found lost from to None d = (tt, (tt, next-none lost from to d))

pub returns : goal.returns
returns c =
    let d = found c.args.lost.now c.args.from c.args.to c.find.result
    (first_from_Range _ _ _ _ (λ i. lost_at c.args.lost.now i ≡ true) (λ i. lost_at c.args.lost.now i ≡ false) c.find.ensures.ran (λ x q k. search rules) (λ x q k. (search rules, search rules))) in
    record { place = d.0; below = d.1.0; none = d.1.1 }
