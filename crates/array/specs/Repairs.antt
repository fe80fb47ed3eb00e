-- Whether a stripe can be repaired, which stripe of a slot is rebuilt next, and what that stores.
use Rattle.std.specs.Prelude.{◌≡◌, ℕ, ◌+◌, ◌<◌, ◌≤◌, true, false, ◌⊎◌, List, [], ◌∷◌, Ok, Err, Result, ◌≢◌}
use Rattle.backplane.specs.Plane.{Store, to_block}
use Rattle.backplane.specs.Meaning.{Bytes}
use Rattle.backplane.specs.declared.fault.BackplaneFault.TheVariants.{Dead}
use Rattle.layout.specs.Header.{with_good}
use Rattle.layout.specs.declared.header.Header.{Header}
use Rattle.model.specs.Coding.{Coding}
use Rattle.model.specs.Rules.{good_of, lost_in, to_header, rebuilt}
use Rattle.faults.specs.declared.fault.ArrayFault.{ArrayFault}
use Rattle.faults.specs.declared.fault.ArrayFault.TheVariants.{OfBackplane, OfStripe, Rebuilt}
use Rattle.faults.specs.declared.fault.StripeFault.{StripeFault}
use Rattle.faults.specs.declared.fault.StripeFault.TheVariants.{PastRepair}

-- stripe s is refused if it has more lost columns than there are checks
abbrev pub Repairable : Coding (List ℕ) → Bytes → Header → ℕ → Result (Unit {0}) StripeFault → Type 0
Repairable K p h s (Ok _) = lost_in K p h s ≤ K.m
Repairable K p h s (Err f) = (K.m < lost_in K p h s) × (f ≡ PastRepair s (lost_in K p h s))

-- the first stripe of slot d that is not good: refused if the slot is dead, has every stripe, or the stripe has more lost columns than checks
abbrev pub NextStripe : Coding (List ℕ) → Bytes → Header → ℕ → Result ℕ ArrayFault → Type 0
NextStripe K p h d (Ok s) = (s ≡ good_of h d) × (p.live d ≡ true) × (s ≢ p.blocks) × (lost_in K p h s ≤ K.m)
NextStripe K p h d (Err f) =
    ((p.live d ≡ false) × (f ≡ OfBackplane Dead))
    ⊎ (((p.live d ≡ true) × (good_of h d ≡ p.blocks) × (f ≡ Rebuilt))
    ⊎ ((p.live d ≡ true) × (good_of h d ≢ p.blocks) × (K.m < lost_in K p h (good_of h d))
    × (f ≡ OfStripe (PastRepair (good_of h d) (lost_in K p h (good_of h d))))))

-- the block of stripe s in slot d, then cell 0 with one good stripe more
abbrev pub repairs : Coding (List ℕ) → Bytes → Header → ℕ → ℕ → List (Store (List ℕ))
repairs K p h d s = to_block d s (rebuilt K p h d s) ∷ (to_header K p (with_good h d (s + 1)) ∷ [])
