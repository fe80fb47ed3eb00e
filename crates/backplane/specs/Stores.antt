-- A list of stores, done in order or cut at one of them.
use Rattle.std.specs.Prelude.{◌≡◌, false, ◌⊎◌, List, [], ◌∷◌, Some, None, Option}
use Rattle.backplane.specs.Plane.{Plane, Store, to_block, to_cell, put, stored, switched}
use Rattle.backplane.specs.declared.fault.Place.{Place}
use Rattle.backplane.specs.declared.fault.Place.TheVariants.{OfBlock, OfCell}

module _ {B : Type 0} where
  abbrev pub place_of : Store B → Place
  place_of (to_block d b _) = OfBlock d b
  place_of (to_cell c _) = OfCell c

  abbrev pub to_place : Place → B → Store B
  to_place (OfBlock d b) x = to_block d b x
  to_place (OfCell c) x = to_cell c x

  -- every store of the list is done, in order
  abbrev pub stored_all : List (Store B) → Plane B → Plane B
  stored_all [] p = p
  stored_all (s ∷ ss) p = stored_all ss (stored s p)

module _ {B : Type 0} (Whole : B → Type 0) where
  -- what a cut store may leave at its place: a block may hold anything whole, a cell its old or its new content
  abbrev pub Leaves : Store B → Plane B → B → Type 0
  Leaves (to_block d b x) p y = Whole y
  Leaves (to_cell c x) p y = (y ≡ p.cell c) ⊎ (y ≡ x)

  -- the power failed at the store s
  pub record CutBy (s : Store B) (p q : Plane B) : Type 0 where
    pub left : B
    pub may : Leaves s p left
    pub after : q ≡ switched false (put s left p)

  -- one of the stores was cut, at this place: those before it are done, and none after it
  abbrev pub Cutting : List (Store B) → Plane B → Plane B → Place → Type 0
  Cutting [] p q at = ⊥
  Cutting (s ∷ ss) p q at = ((at ≡ place_of s) × CutBy s p q) ⊎ Cutting ss (stored s p) q at

  -- how a list of stores ends: every one is done, or one was cut, at this place
  abbrev pub Performed : List (Store B) → Plane B → Plane B → Option Place → Type 0
  Performed ss p q None = q ≡ stored_all ss p
  Performed ss p q (Some at) = Cutting ss p q at
