-- Stripes with pending records, as marks.
use Rattle.std.specs.Prelude.{◌≡◌, ℕ, ◌*◌, ◌<◌, Bool, true, false, cond, List, [], ◌∷◌, length, Some, None, Option, ◌==◌, nat_lt}
use Rattle.backplane.specs.Plane.{to_cell}
use Rattle.backplane.specs.Meaning.{Bytes, fault_of}
use Rattle.backplane.specs.declared.fault.BackplaneFault.{BackplaneFault}
use Rattle.backplane.specs.declared.fault.BackplaneFault.TheVariants.{NoPlace}
use Rattle.layout.specs.Counts.{count, lowest, first_of}
use Rattle.layout.specs.Marks.{marked}
use Rattle.layout.specs.declared.head.Head.{Head}
use Rattle.layout.specs.declared.head.Head.TheVariants.{OfWrite, OfParity}
use Rattle.model.specs.Coding.{Coding}
use Rattle.model.specs.Log.{Rec, write, owing, owed}

-- whether stripe t has pending records after one more record, b saying whether it had before
abbrev pub owing_after : Head → ℕ → Bool → Bool
owing_after (OfWrite s c) t b = cond (t == s) true b
owing_after (OfParity s) t b = cond (t == s) false b

-- the fault of reading the log, and else one where so many bytes of marks have no room for every stripe
abbrev pub room_fault : Option BackplaneFault → ℕ → ℕ → Option BackplaneFault
room_fault (Some f) bytes stripes = Some f
room_fault None bytes stripes = cond (nat_lt (8 * bytes) stripes) (Some NoPlace) None

-- the fault of marking, by these bytes, the stripes of a log in cells 1 to u, with x for a cell
abbrev pub marks_fault : ℕ → List ℕ → List ℕ → Bytes → Option BackplaneFault
marks_fault u map x p = room_fault (fault_of (to_cell u x) p) (length map) p.blocks

-- the lowest of so many stripes that has pending records, if one has
abbrev pub lowest_owing : {B : Type 0} → Coding B → ℕ → List (Rec B) → Option ℕ
lowest_owing K stripes l = cond (nat_lt 0 (owed K stripes l)) (Some (lowest stripes (owing K l) 0)) None

-- the log with one more write record, of this stripe
abbrev pub with_write : Option ℕ → List (Rec (List ℕ)) → List (Rec (List ℕ))
with_write None l = l
with_write (Some s) l = write s 0 [] [] ∷ l

-- the marks are those of the stripes with pending records
pub record MarksOwing {B : Type 0} (K : Coding B) (stripes : ℕ) (l : List (Rec B)) (map : List ℕ) : Type 0 where
  pub each : (t : ℕ) → t < stripes → marked map t ≡ owing K l t
  pub number : count stripes (marked map) ≡ owed K stripes l
  pub first : first_of stripes (marked map) ≡ lowest_owing K stripes l

-- whether a head is that of a write record of stripe s
abbrev pub is_write_of : ℕ → Head → Bool
is_write_of s (OfWrite t c) = s == t
is_write_of s (OfParity t) = false
