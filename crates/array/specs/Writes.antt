-- Whether a started array takes a record, before anything is stored.
use Rattle.std.specs.Prelude.{◌≡◌, ℕ, ◌+◌, ◌-◌, ◌<◌, ◌≤◌, true, false, ◌⊎◌, List, ◌∷◌, Ok, Err, Result}
use Rattle.backplane.specs.Meaning.{Bytes}
use Rattle.layout.specs.declared.header.Header.{Header}
use Rattle.model.specs.Coding.{Coding}
use Rattle.model.specs.Log.{write}
use Rattle.model.specs.Rules.{lost_in, log_of, too_full}
use Rattle.faults.specs.declared.fault.ArrayFault.{ArrayFault}
use Rattle.faults.specs.declared.fault.ArrayFault.TheVariants.{OfLog, OfStripe}
use Rattle.faults.specs.declared.fault.LogFault.TheVariants.{Full}
use Rattle.faults.specs.declared.fault.StripeFault.TheVariants.{PastRepair}

-- one more write record of stripe s: refused if more columns are lost than there are checks, or if the log has no room for it
-- and for a parity record of each stripe that then has pending records
abbrev pub WriteJudged : Coding (List ℕ) → Bytes → Header → ℕ → Result (Unit {0}) ArrayFault → Type 0
WriteJudged K p h s (Ok _) =
    (lost_in K p h s ≤ K.m) × (h.used + 3 < p.cells) × ((c : ℕ) (x y : List ℕ) → too_full K p h 3 (write s c x y ∷ log_of K p h) ≡ false)
WriteJudged K p h s (Err f) =
    ((K.m < lost_in K p h s) × (f ≡ OfStripe (PastRepair s (lost_in K p h s))))
    ⊎ ((lost_in K p h s ≤ K.m) × ((c : ℕ) (x y : List ℕ) → too_full K p h 3 (write s c x y ∷ log_of K p h) ≡ true)
    × (f ≡ OfLog (Full (p.cells - 1 - h.used))))
