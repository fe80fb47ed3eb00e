-- Where a block number lies: its stripe and column, and their slot. The columns are rotated by one slot from stripe to stripe.
use Rattle.std.specs.Prelude.{ℕ, ◌+◌, ◌-◌, ◌/◌, ◌%◌, cond, ◌==◌}

-- of a block number, with k data columns
abbrev pub stripe_of : ℕ → ℕ → ℕ
stripe_of k l = l / k

abbrev pub column_of : ℕ → ℕ → ℕ
column_of k l = l % k

-- the slot of a column, with n slots; its block there has the stripe's number
abbrev pub slot_of : ℕ → ℕ → ℕ → ℕ
slot_of n s c = (c + s) % n

-- the column of a stripe that a slot holds
abbrev pub column_on : ℕ → ℕ → ℕ → ℕ
column_on n s d = (d + (n - s % n)) % n

-- the stripe and the column of a block number; where there are no columns, the first of each
abbrev pub located : ℕ → ℕ → ℕ × ℕ
located k l = cond (k == 0) (0, 0) (stripe_of k l, column_of k l)

-- the slot and the block there of a column of a stripe; where there are no slots, the first
abbrev pub placed : ℕ → ℕ → ℕ → ℕ × ℕ
placed n s c = (cond (n == 0) 0 (slot_of n s c), s)
