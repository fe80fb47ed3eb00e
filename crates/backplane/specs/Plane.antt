-- What a backplane holds. `B` is what stands in one block or one cell: in a contract its bytes.
use Rattle.std.specs.Prelude.{◌≡◌, ℕ, ◌<◌, Bool, false, cond, ◌&&◌, List, length, ◌==◌, nat_lt}
use Rattle.std.specs.List.{AllByRecursion}

pub record Plane (B : Type 0) : Type 0 where
  -- how many slots there are, blocks on each disk, and log cells
  pub slots : ℕ
  pub blocks : ℕ
  pub cells : ℕ
  -- the power
  pub on : Bool
  -- whether a slot's disk is live
  pub live : ℕ → Bool
  -- by slot and block, and by cell
  pub block : ℕ → ℕ → B
  pub cell : ℕ → B

-- 512 bytes
abbrev pub Sector : List ℕ → Type 0
Sector xs = (length xs ≡ 512) × AllByRecursion (λ x. x < 256) xs

-- a store: what one block or one cell is to hold
pub data Store (B : Type 0) : Type 0 where
  to_block : ℕ → ℕ → B → Store B
  to_cell : ℕ → B → Store B

abbrev pub with_life : ℕ → Bool → (ℕ → Bool) → ℕ → Bool
with_life d v f i = cond (i == d) v (f i)

module _ {B : Type 0} where
  abbrev pub with_block : ℕ → ℕ → B → (ℕ → ℕ → B) → ℕ → ℕ → B
  with_block d b x f i j = cond (i == d && j == b) x (f i j)

  abbrev pub with_cell : ℕ → B → (ℕ → B) → ℕ → B
  with_cell c x f i = cond (i == c) x (f i)

  -- the place of the store holds x
  abbrev pub put : Store B → B → Plane B → Plane B
  put (to_block d b _) x p = record { slots = p.slots; blocks = p.blocks; cells = p.cells; on = p.on; live = p.live; block = with_block d b x p.block; cell = p.cell }
  put (to_cell c _) x p = record { slots = p.slots; blocks = p.blocks; cells = p.cells; on = p.on; live = p.live; block = p.block; cell = with_cell c x p.cell }

  abbrev pub content : Store B → B
  content (to_block _ _ x) = x
  content (to_cell _ x) = x

  -- what stands at the place of a store
  abbrev pub placed : Store B → Plane B → B
  placed (to_block d b _) p = p.block d b
  placed (to_cell c _) p = p.cell c

  -- the store is done
  abbrev pub stored : Store B → Plane B → Plane B
  stored s p = put s (content s) p

  -- the power on or off, and nothing else changed
  abbrev pub switched : Bool → Plane B → Plane B
  switched v p = record { slots = p.slots; blocks = p.blocks; cells = p.cells; on = v; live = p.live; block = p.block; cell = p.cell }

  -- slot d live or dead, with the blocks x
  abbrev pub fitted : ℕ → Bool → (ℕ → B) → Plane B → Plane B
  fitted d v x p = record { slots = p.slots; blocks = p.blocks; cells = p.cells; on = p.on; live = with_life d v p.live; block = (λ i j. cond (i == d) (x j) (p.block i j)); cell = p.cell }

  -- a pulled slot is dead and its bytes are gone; a slot that is not there changes nothing
  abbrev pub pulled : B → ℕ → Plane B → Plane B
  pulled gone d p = cond (nat_lt d p.slots) (fitted d false (λ _. gone) p) p
