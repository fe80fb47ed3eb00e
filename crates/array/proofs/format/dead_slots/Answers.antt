use Rattle.std.proofs.Common.{◌≡◌, ℕ, ◌+◌, Bool, true, false, not, refl, ap, ◌∙◌, sym, rules, arith}
use borrow.Author.Tests.{tests}
use Rattle.std.specs.List.{range_with_len}
use Rattle.std.proofs.lemmas.Iterator.{YieldsList-from_range}
use Rattle.std.proofs.lemmas.Iterator.Consumers.{count_from_yields_List, YieldsList-from_filter}
use Rattle.std.proofs.lemmas.List.Sums.{length-filter}
use Rattle.layout.proofs.Counting.{count-range, count_same}
use Rattle.model.proofs.Counts.{count_none}
use Rattle.array.proofs.format.dead_slots.Goals as goal

not-dead : (b : Bool) → not b ≡ false → b ≡ true
not-dead true e = refl
not-dead false e = cc

pub returns : goal.returns
returns g c =
    let p = g.B.Backplane.view c.args.backplane.now in
    let f : ℕ → Bool = λ d. not (p.live d) in
    let n = p.slots in
    let value = count_from_yields_List c.filter.result _ c.count.ensures.ran (YieldsList-from_filter _ f (YieldsList-from_range 0 n n (cc) (omega arith)) c.filter.ensures.closure (λ x b q k. search (rules, tests)))
    ∙ length-filter f (range_with_len 0 n) ∙ count-range n 0 f ∙ count_same n (λ k. f (0 + k)) f (λ t h. ap f (omega arith)) in
    record {
      value = value;
      live = λ none d l. not-dead (p.live d) (count_none n f (sym value ∙ none) d l);
    }
