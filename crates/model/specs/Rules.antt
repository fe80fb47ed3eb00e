-- The rules: what each call refuses, lowest number first, what it stores, in order, and what it answers.
use Rattle.std.specs.Prelude.{ℕ, zero, suc, ◌+◌, ◌-◌, ◌*◌, Bool, true, false, cond, not, ◌&&◌, List, [], ◌∷◌, ◌++◌, map, length, Some, None, Option, ◌==◌, nat_lt, slice_index}
use Rattle.std.specs.List.{range_with_len, flat_map}
use Rattle.backplane.specs.Plane.{Plane, Store, to_block, to_cell}
use Rattle.layout.specs.declared.shape.Shape.{Shape}
use Rattle.layout.specs.declared.header.Header.{Header}
use Rattle.layout.specs.Limits.{within_limits}
use Rattle.layout.specs.Header.{header_bytes, header_in, header_fits, is_laid_out, with_used, with_good}
use Rattle.layout.specs.Stripes.{stripe_of, column_of, slot_of, column_on}
use Rattle.layout.specs.Counts.{count, lowest}
use Rattle.model.specs.Coding.{Coding, width, check_rows}
use Rattle.model.specs.Log.{Rec, write, parity, or_else, cells_of, cells_for, walk, pending, owing, owed}
use Rattle.model.specs.Row.{good_at, lost_at, missing, settled_with, row}
use Rattle.model.specs.Verdict.{Refusal, refusal, done, of_block, of_number, nothing, fits, pulls, Verdict, refuse, guard, power_up, make}

-- the calls that a formatted array takes, with their arguments; the last number is the length of the work area
pub data Call (B : Type 0) : Type 0 where
  -- a block number and the block
  Write : ℕ → B → ℕ → Call B
  -- a block number and the length of the block given for the answer
  Read : ℕ → ℕ → ℕ → Call B
  -- a stripe
  Fold : ℕ → ℕ → Call B
  Clear : ℕ → Call B
  -- a slot
  Pull : ℕ → Call B
  Fit : ℕ → ℕ → Call B
  Rebuild : ℕ → ℕ → Call B
  Start : ℕ → Call B

-- the work area is too short
abbrev pub short_work : ℕ → Bool
short_work w = nat_lt w 10240

-- the good stripes of slot d by a header
abbrev pub good_of : Header → ℕ → ℕ
good_of h d = slice_index h.good d

-- the header of an array just formatted: an empty log, and every stripe good in each of n slots
abbrev pub first_header : ℕ → ℕ → Header
first_header n stripes = record { used = 0; good = map (λ d. cond (nat_lt d n) stripes 0) (range_with_len 0 16) }

-- stores of cells, from cell i on
abbrev pub to_cells : {B : Type 0} → ℕ → List B → List (Store B)
to_cells i [] = []
to_cells i (x ∷ xs) = to_cell i x ∷ to_cells (suc i) xs

abbrev pub is_there : {A : Type 0} → Option A → Bool
is_there None = false
is_there (Some x) = true

module _ {B : Type 0} (K : Coding B) where
  -- what cell 0 says of the code and the backplane
  abbrev pub shape_of : Plane B → Shape
  shape_of p = record { code = K.number; columns = K.k; slots = p.slots; blocks = p.blocks; cells = p.cells }

  -- the store of a header in cell 0
  abbrev pub to_header : Plane B → Header → Store B
  to_header p h = to_cell 0 (K.pack (header_bytes (shape_of p) h))

  -- the header held, if the power is on, the sizes are within the limits, and the header fits them; else the array is not started
  abbrev pub opened : Plane B → Option Header → Option Header
  opened p None = None
  opened p (Some h) = cond (p.on && (within_limits K.m (shape_of p) && header_fits (shape_of p) h)) (Some h) None

  -- 11, or go on with the header
  abbrev pub if_open : Option Header → (Header → Verdict B) → Verdict B
  if_open None f = refuse (refusal 11 0 0)
  if_open (Some h) f = f h

  -- the check blocks f of stripe s where their columns are good, n check rows from row r on
  abbrev pub to_checks : (ℕ → Bool) → ℕ → (ℕ → B) → ℕ → ℕ → List (Store B)
  to_checks good s f zero r = []
  to_checks good s f (suc n) r =
      cond (good (K.k + r)) (to_block (slot_of (width K) s (K.k + r)) s (f r) ∷ to_checks good s f n (suc r)) (to_checks good s f n (suc r))

  -- finish a record: store its image, or its check blocks, rows ascending, where the column is good
  abbrev pub finish : (ℕ → ℕ → Bool) → Rec B → List (Store B)
  finish good (write s c x y) = cond (good s c) (to_block (slot_of (width K) s c) s y ∷ []) []
  finish good (parity s f) = to_checks (good s) s f K.m 0

  -- finish the last record of a log, if it has one
  abbrev pub finish_last : (ℕ → ℕ → Bool) → List (Rec B) → List (Store B)
  finish_last good [] = []
  finish_last good (r ∷ l) = finish good r

  -- a backplane with the header held, or in start the header in cell 0
  module _ (p : Plane B) (h : Header) where
    abbrev pub log_of : List (Rec B)
    log_of = (walk K p h.used).log

    abbrev pub is_good : ℕ → ℕ → Bool
    is_good = good_at (width K) p.live (good_of h)

    abbrev pub is_lost : ℕ → ℕ → Bool
    is_lost = lost_at (width K) p.live (good_of h)

    abbrev pub lost_in : ℕ → ℕ
    lost_in = missing (width K) p.live (good_of h)

    -- a stripe with more lost columns than checks
    abbrev pub past_repair : ℕ → Bool
    past_repair s = nat_lt K.m (lost_in s)

    abbrev pub row_of : ℕ → ℕ → B
    row_of = row K is_lost log_of p.block

    abbrev pub lost_refusal : ℕ → Refusal
    lost_refusal s = refusal 15 s (lost_in s)

    -- the header once the record is in the log
    abbrev pub grown : Rec B → Header
    grown r = with_used h (h.used + cells_of K r)

    -- append a record: its cells, head first, then cell 0 with the new count; then finish it
    abbrev pub append : Rec B → List (Store B)
    append r = to_cells (suc h.used) (cells_for K r) ++ (to_header p (grown r) ∷ finish is_good r)

    -- the log has no room: used + cells + (1 + m) × (stripes then pending) is above C - 1
    abbrev pub too_full : ℕ → List (Rec B) → Bool
    too_full cells l = nat_lt (p.cells - 1) (h.used + cells + (1 + K.m) * owed K p.blocks l)

    -- the record of a write of x to column c of stripe s: the delta is the old block, found in the row, plus the new one
    abbrev pub written : ℕ → ℕ → B → Rec B
    written s c x = write s c (K.add (row_of s c) x) x

    abbrev pub write_open : ℕ → ℕ → B → Verdict B
    write_open s c x =
        guard (past_repair s) (lost_refusal s)
        (guard (too_full 3 (written s c x ∷ log_of)) (refusal 16 (p.cells - 1 - h.used) 0)
        (make (append (written s c x)) nothing done (Some (grown (written s c x)))))

    abbrev pub read_open : ℕ → ℕ → Verdict B
    read_open s c =
        guard (is_lost s c && past_repair s) (lost_refusal s)
        (make [] nothing (of_block (cond (is_good s c) (p.block (slot_of (width K) s c) s) (row_of s c))) (Some h))

    -- the parity record of stripe s: all check blocks of its row
    abbrev pub folded : ℕ → Rec B
    folded s = parity s (check_rows K (λ r. row_of s (K.k + r)))

    -- first, for a log with no room for the record: no run leads there, since a write leaves room for the folds of all pending stripes,
    -- and such an array counts as not started
    abbrev pub fold_open : ℕ → Verdict B
    fold_open s =
        guard (owing K log_of s && nat_lt (p.cells - 1) (h.used + (1 + K.m))) (refusal 11 0 0)
        (guard (past_repair s) (lost_refusal s)
        (make (cond (owing K log_of s) (append (folded s)) []) nothing (of_number (pending K s log_of))
        (Some (cond (owing K log_of s) (grown (folded s)) h))))

    abbrev pub clear_open : Verdict B
    clear_open =
        guard (nat_lt 0 (owed K p.blocks log_of)) (refusal 17 (lowest p.blocks (owing K log_of) 0) 0)
        (make (to_header p (with_used h 0) ∷ []) nothing done (Some (with_used h 0)))

    abbrev pub fit_open : ℕ → Verdict B
    fit_open d =
        guard (p.live d) (refusal 12 0 0)
        (make (to_header p (with_good h d 0) ∷ []) (fits d) done (Some (with_good h d 0)))

    -- what slot d is to hold of stripe s: from the row, a check block plus the shares of the pending deltas
    abbrev pub rebuilt : ℕ → ℕ → B
    rebuilt d s = settled_with K log_of s (column_on (width K) s d) (row_of s (column_on (width K) s d))

    abbrev pub rebuild_open : ℕ → Verdict B
    rebuild_open d =
        guard (not (p.live d)) (refusal 13 0 0)
        (guard (good_of h d == p.blocks) (refusal 14 0 0)
        (guard (past_repair (good_of h d)) (lost_refusal (good_of h d))
        (make (to_block d (good_of h d) (rebuilt d (good_of h d)) ∷ (to_header p (with_good h d (good_of h d + 1)) ∷ [])) nothing
        (of_number (good_of h d + 1)) (Some (with_good h d (good_of h d + 1))))))

    -- start, with cell 0 as laid out: a damaged log is refused, and one with no room for its folds; then the last record is finished
    abbrev pub start_open : Verdict B
    start_open =
        guard (is_there (walk K p h.used).damage) (refusal 19 (or_else (walk K p h.used).damage 0 (λ i. i)) 0)
        (guard (too_full 0 log_of) (refusal 19 0 0)
        (make (finish_last is_good log_of) nothing done (Some h)))

  -- the verdict on a call, with the backplane p and the header held o
  abbrev pub verdict : Plane B → Option Header → Call B → Verdict B
  verdict p o (Write l x w) =
      guard (not (length (K.bytes x) == 512)) (refusal 1 0 0)
      (guard (short_work w) (refusal 2 0 0)
      (guard (not (nat_lt l (p.blocks * K.k))) (refusal 3 0 0)
      (if_open (opened p o) (λ h. write_open p h (stripe_of K.k l) (column_of K.k l) x))))
  verdict p o (Read l given w) =
      guard (not (given == 512)) (refusal 1 0 0)
      (guard (short_work w) (refusal 2 0 0)
      (guard (not (nat_lt l (p.blocks * K.k))) (refusal 3 0 0)
      (if_open (opened p o) (λ h. read_open p h (stripe_of K.k l) (column_of K.k l)))))
  verdict p o (Fold s w) =
      guard (short_work w) (refusal 2 0 0)
      (guard (not (nat_lt s p.blocks)) (refusal 4 0 0)
      (if_open (opened p o) (λ h. fold_open p h s)))
  verdict p o (Clear w) =
      guard (short_work w) (refusal 2 0 0)
      (if_open (opened p o) (λ h. clear_open p h))
  verdict p o (Pull d) =
      guard (not (nat_lt d p.slots)) (refusal 5 0 0)
      (make [] (pulls d) done o)
  verdict p o (Fit d w) =
      guard (short_work w) (refusal 2 0 0)
      (guard (not (nat_lt d p.slots)) (refusal 5 0 0)
      (if_open (opened p o) (λ h. fit_open p h d)))
  verdict p o (Rebuild d w) =
      guard (short_work w) (refusal 2 0 0)
      (guard (not (nat_lt d p.slots)) (refusal 5 0 0)
      (if_open (opened p o) (λ h. rebuild_open p h d)))
  verdict p o (Start w) =
      guard (short_work w) (refusal 2 0 0)
      (power_up
      (guard (not (is_laid_out K.m (shape_of p) (K.bytes (p.cell 0)))) (refusal 18 0 0)
      (start_open p (header_in (K.bytes (p.cell 0))))))

  -- zeros in all blocks, by slot and block
  abbrev pub to_zeros : ℕ → ℕ → List (Store B)
  to_zeros n stripes = flat_map (λ d. map (λ b. to_block d b K.nil) (range_with_len 0 stripes)) (range_with_len 0 n)

  -- the verdict on a format, with a work area of length w
  abbrev pub formatting : Plane B → ℕ → Verdict B
  formatting p w =
      guard (short_work w) (refusal 2 0 0)
      (guard (not (within_limits K.m (shape_of p))) (refusal 6 0 0)
      (guard (nat_lt 0 (count p.slots (λ d. not (p.live d)))) (refusal 13 0 0)
      (power_up
      (make (to_cell 0 K.nil ∷ (to_zeros p.slots p.blocks ++ (to_header p (first_header p.slots p.blocks) ∷ []))) nothing done
      (Some (first_header p.slots p.blocks))))))
