-- What a call of the array answers and leaves, by the rules.
use Rattle.std.specs.Prelude.{◌≡◌, ℕ, Bool, cond, ◌⊎◌, List, [], ◌∷◌, map, length, replicate, Some, None, Ok, Err, Option, Result}
use Rattle.std.specs.List.{range_with_len, flat_map}
use Rattle.backplane.specs.Plane.{Sector, Store, to_block}
use Rattle.backplane.specs.Meaning.{Bytes}
use Rattle.backplane.specs.Stores.{stored_all, Cutting}
use Rattle.backplane.specs.declared.fault.Place.{Place}
use Rattle.backplane.specs.declared.fault.Place.TheVariants.{OfBlock, OfCell}
use Rattle.backplane.specs.declared.fault.BackplaneFault.{BackplaneFault}
use Rattle.backplane.specs.declared.fault.BackplaneFault.TheVariants.{Off, NoPlace, Dead, Live, Cut}
use Rattle.backplane.specs.declared.Backplane.{Ghosts as PlaneGhosts}
use Rattle.codes.specs.declared.code.Code.{Ghosts as CodeGhosts}
use Rattle.layout.specs.declared.shape.Shape.{Shape}
use Rattle.layout.specs.Limits.{within_limits}
use Rattle.layout.specs.declared.header.Header.{Header}
use Rattle.array.specs.declared.array.Array.{Array}
use Rattle.model.specs.Coding.{Coding}
use Rattle.parity_log.specs.Codes.{coding_on}
use Rattle.model.specs.Verdict.{cut_at, Answer, done, Reply, answered, refused, Verdict, Ends}
use Rattle.model.specs.Rules.{Call, short_work, shape_of, opened, verdict}
use Rattle.faults.specs.declared.fault.LogFault.{LogFault}
use Rattle.faults.specs.declared.fault.LogFault.TheVariants.{Full, Pending, Damaged, Overfull, AtCell}
use Rattle.faults.specs.declared.fault.StripeFault.{StripeFault}
use Rattle.faults.specs.declared.fault.StripeFault.TheVariants.{NoBlock, NoStripe, PastRepair, AtBlock}
use Rattle.faults.specs.declared.fault.ArrayFault.{ArrayFault}
use Rattle.faults.specs.declared.fault.ArrayFault.TheVariants.{BlockLength, ShortWork, NoSlot, Sizes, NotStarted, Rebuilt, NotLaidOut, OfBackplane, OfLog, OfStripe}
use Rattle.faults.specs.Refusals.{array_refusal}

-- the answer of a call that has none but that it is done
abbrev pub acked : Unit {0} → Answer (List ℕ)
acked _ = done

-- the reply of the rules that a result stands for
abbrev pub reply_of : {T : Type 0} → (T → Answer (List ℕ)) → Result T ArrayFault → Reply (List ℕ)
reply_of f (Ok x) = answered (f x)
reply_of f (Err e) = refused (array_refusal e)

-- the work area after a call: all zeros; one that is too short is as it was
abbrev pub wiped : List ℕ → List ℕ
wiped w = cond (short_work (length w)) w (replicate (length w) 0)

-- the place of the cut inside a fault
abbrev pub cut_in : BackplaneFault → Place
cut_in Off = OfCell 0
cut_in NoPlace = OfCell 0
cut_in Dead = OfCell 0
cut_in Live = OfCell 0
cut_in (Cut at) = at

abbrev pub cut_in_log : LogFault → Place
cut_in_log (Full _) = OfCell 0
cut_in_log (Pending _) = OfCell 0
cut_in_log (Damaged _) = OfCell 0
cut_in_log Overfull = OfCell 0
cut_in_log (AtCell f) = cut_in f

abbrev pub cut_in_stripe : StripeFault → Place
cut_in_stripe NoBlock = OfCell 0
cut_in_stripe NoStripe = OfCell 0
cut_in_stripe (PastRepair _ _) = OfCell 0
cut_in_stripe (AtBlock f) = cut_in f

abbrev pub cut_place : ArrayFault → Place
cut_place BlockLength = OfCell 0
cut_place ShortWork = OfCell 0
cut_place NoSlot = OfCell 0
cut_place Sizes = OfCell 0
cut_place NotStarted = OfCell 0
cut_place Rebuilt = OfCell 0
cut_place NotLaidOut = OfCell 0
cut_place (OfBackplane f) = cut_in f
cut_place (OfLog f) = cut_in_log f
cut_place (OfStripe f) = cut_in_stripe f

-- the fault that tells of a cut at a place
abbrev pub fault_at : Place → ArrayFault
fault_at (OfBlock d b) = OfStripe (AtBlock (Cut (OfBlock d b)))
fault_at (OfCell c) = OfLog (AtCell (Cut (OfCell c)))

-- the stores were done in order, or one was cut and none after it done
abbrev pub Performed : List (Store (List ℕ)) → Bytes → Result (Unit {0}) ArrayFault → Bytes → Type 0
Performed ss p (Ok _) q = q ≡ stored_all ss p
Performed ss p (Err f) q = (array_refusal f ≡ cut_at (cut_place f)) × Cutting Sector ss p q (cut_place f)

-- the same of phases, each a list of stores
abbrev pub stored_in : List (List (Store (List ℕ))) → Bytes → Bytes
stored_in [] p = p
stored_in (ss ∷ rest) p = stored_in rest (stored_all ss p)

abbrev pub CuttingIn : List (List (Store (List ℕ))) → Bytes → Bytes → Place → Type 0
CuttingIn [] p q at = ⊥
CuttingIn (ss ∷ rest) p q at = Cutting Sector ss p q at ⊎ CuttingIn rest (stored_all ss p) q at

abbrev pub PerformedIn : List (List (Store (List ℕ))) → Bytes → Result (Unit {0}) ArrayFault → Bytes → Type 0
PerformedIn phases p (Ok _) q = q ≡ stored_in phases p
PerformedIn phases p (Err f) q = (array_refusal f ≡ cut_at (cut_place f)) × CuttingIn phases p q (cut_place f)

-- the phases were done and then the last, with the answer v and the header h then held; or a store was cut, and no header is held
abbrev pub Made : {T : Type 0} → List (List (Store (List ℕ))) → (Bytes → Bytes → Type 0) → T → Option Header → Bytes → Result T ArrayFault → Bytes → Option Header → Type 0
Made phases L v h p (Ok x) q u = (x ≡ v) × L (stored_in phases p) q × (u ≡ h)
Made phases L v h p (Err f) q u = (array_refusal f ≡ cut_at (cut_place f)) × CuttingIn phases p q (cut_place f) × (u ≡ None)

-- nothing follows the stores
abbrev pub Same : Bytes → Bytes → Type 0
Same p q = q ≡ p

-- the header held after stores: the new one, and none after a cut
abbrev pub held_after : Header → Result (Unit {0}) ArrayFault → Option Header
held_after h (Ok _) = Some h
held_after h (Err _) = None

-- zeros, or other bytes, in all blocks, by slot and block: so many blocks of slot d from block b on, and of so many slots from slot d on
abbrev pub fill_disk : List ℕ → ℕ → ℕ → ℕ → List (Store (List ℕ))
fill_disk x d n b = map (λ i. to_block d i x) (range_with_len b n)

abbrev pub fill_disks : List ℕ → ℕ → ℕ → ℕ → List (Store (List ℕ))
fill_disks x blocks n d = flat_map (λ i. fill_disk x i blocks 0) (range_with_len d n)

-- over a backplane and a code by what their bounds say of them
module _ {B C : Type 0} (plane : PlaneGhosts B) (code : CodeGhosts C) where
  -- the backplane of an array
  abbrev pub view_of : Array B C → Bytes
  view_of a = plane.view a.backplane

  abbrev pub coding_of : Array B C → Coding (List ℕ)
  coding_of a = coding_on code (view_of a)

  -- what cell 0 says of the code and the backplane, and whether it is within the limits
  abbrev pub shape_for : Array B C → Shape
  shape_for a = shape_of (coding_of a) (view_of a)

  abbrev pub limited : Array B C → Bool
  limited a = within_limits code.ROWS (shape_for a)

  -- the header held, if the array is started
  abbrev pub opened_of : Array B C → Option Header
  opened_of a = opened (coding_of a) (view_of a) a.header

  -- an array with this verdict gets the reply r, and is left as z
  abbrev pub Ended : Verdict (List ℕ) → Array B C → Reply (List ℕ) → Array B C → Type 0
  Ended v a r z = Ends Sector [] v (view_of a) a.header r (view_of z) z.header

  -- the call c follows the rules
  abbrev pub Follows : Call (List ℕ) → Array B C → Reply (List ℕ) → Array B C → Type 0
  Follows c a r z = Ended (verdict (coding_of a) (view_of a) a.header c) a r z
