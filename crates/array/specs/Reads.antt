-- How a column of a stripe is read.
use Rattle.std.specs.Prelude.{◌≡◌, ℕ, ◌<◌, ◌≤◌, true, false, ◌⊎◌, List, Ok, Err, Result}
use Rattle.backplane.specs.Meaning.{Bytes}
use Rattle.layout.specs.Stripes.{slot_of}
use Rattle.layout.specs.declared.header.Header.{Header}
use Rattle.model.specs.Coding.{Coding, width}
use Rattle.model.specs.Rules.{is_good, lost_in, row_of}
use Rattle.faults.specs.declared.fault.ArrayFault.{ArrayFault}
use Rattle.faults.specs.declared.fault.ArrayFault.TheVariants.{OfStripe}
use Rattle.faults.specs.declared.fault.StripeFault.TheVariants.{PastRepair}

-- column c of stripe s: from its disk if it is good, else from the row; a stripe with more lost columns than checks is refused,
-- and the bytes given stay as they are
abbrev pub ColumnRead : Coding (List ℕ) → Bytes → Header → ℕ → ℕ → List ℕ → Result (Unit {0}) ArrayFault → List ℕ → Type 0
ColumnRead K p h s c given (Ok _) now =
    ((is_good K p h s c ≡ true) × (now ≡ p.block (slot_of (width K) s c) s))
    ⊎ ((is_good K p h s c ≡ false) × (lost_in K p h s ≤ K.m) × (now ≡ row_of K p h s c))
ColumnRead K p h s c given (Err f) now =
    (is_good K p h s c ≡ false) × (K.m < lost_in K p h s) × (f ≡ OfStripe (PastRepair s (lost_in K p h s))) × (now ≡ given)
