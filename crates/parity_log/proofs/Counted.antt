-- The pending records of a stripe as what a walk counts.
use Rattle.std.proofs.Common.{◌≡◌, ℕ, ◌+◌, cond, refl, zero-add}
use Rattle.backplane.specs.Plane.{Plane}
use Rattle.layout.specs.declared.head.Head.{Head}
use Rattle.model.specs.Coding.{Coding}
use Rattle.model.specs.Log.{walk, pending}
use Rattle.parity_log.specs.Pending.{is_write_of}
use Rattle.parity_log.specs.Walks.{rest, last_parity, resume_at}
use Rattle.parity_log.proofs.Walking.{gathered-is}

-- one more record counts if it is a write record of stripe s
abbrev pub count_step : ℕ → ℕ → Head → ℕ → ℕ
count_step s i h n = cond (is_write_of s h) 1 0 + n

pub pending-is : {B : Type 0} (K : Coding B) (p : Plane B) (u s : ℕ) → pending K s (walk K p u).log ≡ rest K (count_step s) p u (resume_at K (last_parity K p u s)) 0
pending-is K p u s = gathered-is K p u s 0 (pending K s) (count_step s) refl (λ i t c l. refl) (λ i t l. refl) (λ i t n. zero-add n)
