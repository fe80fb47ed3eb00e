-- Whether a started array takes a parity record, before anything is stored.
use Rattle.std.specs.Prelude.{◌≡◌, ℕ, ◌+◌, ◌-◌, ◌<◌, ◌≤◌, true, false, ◌&&◌, ◌⊎◌, List, Ok, Err, Result, nat_lt}
use Rattle.backplane.specs.Meaning.{Bytes}
use Rattle.layout.specs.declared.header.Header.{Header}
use Rattle.model.specs.Coding.{Coding}
use Rattle.model.specs.Log.{pending, owing}
use Rattle.model.specs.Rules.{lost_in, log_of}
use Rattle.faults.specs.declared.fault.ArrayFault.{ArrayFault}
use Rattle.faults.specs.declared.fault.ArrayFault.TheVariants.{NotStarted, OfStripe}
use Rattle.faults.specs.declared.fault.StripeFault.TheVariants.{PastRepair}

-- a parity record of stripe s: refused if the stripe has pending records and the log has no room for it, or if more columns are lost
-- than there are checks; answers how many records are pending
abbrev pub FoldJudged : Coding (List ℕ) → Bytes → Header → ℕ → Result ℕ ArrayFault → Type 0
FoldJudged K p h s (Ok x) =
    (x ≡ pending K s (log_of K p h)) × ((owing K (log_of K p h) s && nat_lt (p.cells - 1) (h.used + (1 + K.m))) ≡ false) × (lost_in K p h s ≤ K.m)
    × (0 < x → h.used + (1 + K.m) < p.cells)
FoldJudged K p h s (Err f) =
    (((owing K (log_of K p h) s && nat_lt (p.cells - 1) (h.used + (1 + K.m))) ≡ true) × (f ≡ NotStarted))
    ⊎ (((owing K (log_of K p h) s && nat_lt (p.cells - 1) (h.used + (1 + K.m))) ≡ false) × (K.m < lost_in K p h s)
    × (f ≡ OfStripe (PastRepair s (lost_in K p h s))))
