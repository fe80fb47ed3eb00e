-- What an exercise of a backplane counts, and what it leaves as it was.
use Rattle.std.specs.Prelude.{◌≡◌, ℕ, ◌+◌, Ok, Err, Result}
use Rattle.backplane.specs.declared.fault.BackplaneFault.{BackplaneFault}
use Rattle.backplane.specs.declared.fault.BackplaneFault.TheVariants.{Off, NoPlace, Dead, Live, Cut}
use Rattle.backplane.specs.Meaning.{Bytes}
use Rattle.plane_exercise.specs.declared.Tally.{Tally}

abbrev pub total : Tally → ℕ
total t = t.done + t.off + t.no_place + t.dead + t.live + t.cut

-- one answer more
abbrev pub noted : Result (Unit {0}) BackplaneFault → Tally → Tally
noted (Ok _) t = record { done = t.done + 1; off = t.off; no_place = t.no_place; dead = t.dead; live = t.live; cut = t.cut }
noted (Err Off) t = record { done = t.done; off = t.off + 1; no_place = t.no_place; dead = t.dead; live = t.live; cut = t.cut }
noted (Err NoPlace) t = record { done = t.done; off = t.off; no_place = t.no_place + 1; dead = t.dead; live = t.live; cut = t.cut }
noted (Err Dead) t = record { done = t.done; off = t.off; no_place = t.no_place; dead = t.dead + 1; live = t.live; cut = t.cut }
noted (Err Live) t = record { done = t.done; off = t.off; no_place = t.no_place; dead = t.dead; live = t.live + 1; cut = t.cut }
noted (Err (Cut _)) t = record { done = t.done; off = t.off; no_place = t.no_place; dead = t.dead; live = t.live; cut = t.cut + 1 }

-- q has the sizes of p
abbrev pub SameSizes : Bytes → Bytes → Type 0
SameSizes p q = (q.slots ≡ p.slots) × (q.blocks ≡ p.blocks) × (q.cells ≡ p.cells)

-- so many operations more were tried, and the sizes stayed
abbrev pub Tried : ℕ → Tally → Tally → Bytes → Bytes → Type 0
Tried n t u p q = (total u ≡ total t + n) × SameSizes p q
