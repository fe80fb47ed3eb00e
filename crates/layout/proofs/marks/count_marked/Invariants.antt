use Rattle.std.proofs.Common.{◌≡◌, ◌≤◌}
use Rattle.layout.specs.Counts.{count}
use Rattle.layout.specs.Marks.{marked}
use Rattle.layout.proofs.marks.count_marked.Given as goal

abbrev pub invariant-loop-s : goal.invariant-loop-s
invariant-loop-s l = (l.n ≡ count l.s (marked l.map)) × (l.n ≤ l.s)
