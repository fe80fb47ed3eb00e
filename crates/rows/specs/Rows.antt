-- The row of a stripe in the work area.
use Rattle.std.specs.Prelude.{◌≡◌, ℕ, ◌+◌, ◌-◌, ◌<◌, ◌≤◌, Bool, true, cond, not, ◌&&◌, List, Some, None, Option, ◌==◌, nat_le, nat_lt}
use Rattle.backplane.specs.Meaning.{Bytes}
use Rattle.layout.specs.declared.shape.Shape.{Shape}
use Rattle.layout.specs.declared.header.Header.{Header}
use Rattle.layout.specs.Limits.{within_limits}
use Rattle.layout.specs.Header.{header_fits}
use Rattle.model.specs.Coding.{Coding, width}
use Rattle.model.specs.Row.{settled_with}
use Rattle.model.specs.Rules.{shape_of, past_repair, row_of, log_of}
use Rattle.parity_log.specs.declared.log.Log.{Log}
use Rattle.rows.specs.Columns.{column_in}

-- so many bytes hold a row, and so many a cell
abbrev pub has_room : ℕ → ℕ → Bool
has_room bytes cell = nat_le 8192 bytes && cell == 512

-- what is known of an open array with this shape
pub record OpenFits (rows : ℕ) (p : Bytes) (h : Header) (sh : Shape) : Type 0 where
  pub power : p.on ≡ true
  pub slots : p.slots ≡ sh.slots
  pub blocks : p.blocks ≡ sh.blocks
  pub width : sh.slots ≡ sh.columns + rows
  pub columns : sh.columns ≡ p.slots - rows
  pub low : 2 ≤ sh.columns
  pub high : sh.columns ≤ 12
  pub cells : h.used < p.cells
  pub used : h.used < 4096

-- what is known of stripe s of an open array with n columns
pub record StripeFits (p : Bytes) (n s : ℕ) : Type 0 where
  pub power : p.on ≡ true
  pub slots : p.slots ≡ n
  pub few : n ≤ 16
  pub within : s < p.blocks

-- what is known of the log of an open array
pub record LogFits (p : Bytes) (log : Log) : Type 0 where
  pub power : p.on ≡ true
  pub cells : log.used < p.cells
  pub few : log.columns ≤ 12

module _ (K : Coding (List ℕ)) where
  -- the power is on, the sizes are within the limits, and the header fits them
  abbrev pub is_open : Bytes → Header → Bool
  is_open p h = p.on && (within_limits K.m (shape_of K p) && header_fits (shape_of K p) h)

  -- the shape of an open array
  abbrev pub open_shape : Bytes → Header → Option Shape
  open_shape p h = cond (is_open p h) (Some (shape_of K p)) None

  -- there is such a stripe, the bytes have room, and no more columns are lost than there are checks
  abbrev pub has_row : Bytes → Header → ℕ → ℕ → ℕ → Bool
  has_row p h s bytes cell = is_open p h && (nat_lt s p.blocks && (has_room bytes cell && not (past_repair K p h s)))

  -- the row of stripe s stands in the bytes
  abbrev pub HoldsRow : Bytes → Header → ℕ → List ℕ → Type 0
  HoldsRow p h s bytes = (c : ℕ) → c < width K → column_in bytes c ≡ row_of K p h s c

  -- the shares of the pending deltas can be added to a column
  abbrev pub has_debt : Bytes → Header → ℕ → ℕ → Bool
  has_debt p h bytes cell = is_open p h && has_room bytes cell

  -- column j with the shares of the pending deltas of stripe s, where it is a check column, and the others as they were
  abbrev pub Settled : Bytes → Header → ℕ → ℕ → List ℕ → List ℕ → Type 0
  Settled p h s j bytes later = (c : ℕ) → c < width K → column_in later c ≡ cond (c == j) (settled_with K (log_of K p h) s c (column_in bytes c)) (column_in bytes c)
