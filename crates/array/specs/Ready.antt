-- What is known of a started array.
use Rattle.std.specs.Prelude.{◌≡◌, ℕ, ◌+◌, ◌<◌, ◌≤◌, true, List}
use Rattle.backplane.specs.Meaning.{Bytes}
use Rattle.layout.specs.declared.header.Header.{Header}
use Rattle.model.specs.Coding.{Coding, width}
use Rattle.model.specs.Rules.{shape_of}
use Rattle.rows.specs.Rows.{is_open}
use Rattle.array.specs.declared.started.Started.{Started}

-- the sizes are within the limits, with so many check rows
pub record Sized (rows : ℕ) (p : Bytes) : Type 0 where
  pub least : rows + 2 ≤ p.slots
  pub most : p.slots ≤ rows + 12
  pub few : p.slots ≤ 16
  pub blocks : 1 ≤ p.blocks
  pub disks : p.blocks ≤ 65536
  pub log : 8 ≤ p.cells
  pub cells : p.cells ≤ 4096

-- the power is on, and the header held fits
pub record Ready (rows : ℕ) (p : Bytes) (h : Header) : Type 0 where
  pub on : p.on ≡ true
  pub sized : Sized rows p
  pub used : h.used < p.cells

-- the power is on, and the slots and cells are those that a started array goes by
pub record Fits (p : Bytes) (s : Started) : Type 0 where
  pub on : p.on ≡ true
  pub slots : s.shape.slots ≡ p.slots
  pub cells : s.shape.cells ≡ p.cells
  pub some : 0 < s.shape.slots
  pub few : s.shape.slots ≤ 16
  pub log : s.shape.cells ≤ 4096
  pub used : s.header.used < s.shape.cells
  pub columns : s.shape.columns ≤ s.shape.slots

-- what an array that is started goes by
pub record Opens (K : Coding (List ℕ)) (p : Bytes) (s : Started) : Type 0 where
  pub started : is_open K p s.header ≡ true
  pub shape : s.shape ≡ shape_of K p
  pub ready : Ready K.m p s.header
  pub fits : Fits p s
  pub width : s.shape.slots ≡ width K
  pub columns : s.shape.columns ≡ K.k

-- the sizes, the power and the lives are as before
pub record Kept (p q : Bytes) : Type 0 where
  pub slots : q.slots ≡ p.slots
  pub blocks : q.blocks ≡ p.blocks
  pub cells : q.cells ≡ p.cells
  pub on : q.on ≡ p.on
  pub live : q.live ≡ p.live
