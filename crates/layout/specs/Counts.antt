-- Counting by a test.
use Rattle.std.specs.Prelude.{ℕ, zero, suc, ◌+◌, Bool, cond, Some, None, Option, nat_lt}

-- how many numbers below n pass the test
abbrev pub count : ℕ → (ℕ → Bool) → ℕ
count zero f = 0
count (suc n) f = cond (f n) 1 0 + count n f

-- the first of the n numbers from i on that passes the test; i + n if none does
abbrev pub lowest : ℕ → (ℕ → Bool) → ℕ → ℕ
lowest zero f i = i
lowest (suc n) f i = cond (f i) i (lowest n f (suc i))

-- the first number below n that passes the test, if any does
abbrev pub first_of : ℕ → (ℕ → Bool) → Option ℕ
first_of n f = cond (nat_lt 0 (count n f)) (Some (lowest n f 0)) None
