-- What a setting is refused by.
use Rattle.std.specs.Prelude.{ℕ, cond, Ok, Err, Result, nat_le}
use Rattle.fuse.specs.declared.FuseFault.{FuseFault}
use Rattle.fuse.specs.declared.FuseFault.TheVariants.{PastBlock}

-- a fault of the layer `backplane`, with the details 0 and 0
abbrev pub number : FuseFault → ℕ
number PastBlock = 7

abbrev pub settable : ℕ → Result (Unit {0}) FuseFault
settable t = cond (nat_le t 512) (Ok tt) (Err PastBlock)
