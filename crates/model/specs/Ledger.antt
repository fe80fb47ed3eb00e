-- The ledger: a reference history of the array, from the calls and their replies, and after a cut at cell 0 whether that is then new.
use Rattle.std.specs.Prelude.{ℕ, ◌+◌, Bool, true, false, cond, ◌&&◌, ◌==◌, nat_le, nat_lt}
use Rattle.model.specs.Verdict.{Refusal, Reply, answered, refused}
use Rattle.model.specs.Rules.{Call, Write, Read, Fold, Clear, Pull, Fit, Rebuild, Start}

pub record Ledger (B : Type 0) : Type 0 where
  -- by block number
  pub blocks : ℕ → B
  -- by slot: its life, and its good stripes
  pub live : ℕ → Bool
  pub good : ℕ → ℕ
  -- whether the log is empty, and the array started
  pub empty : Bool
  pub started : Bool

-- v at place d
abbrev pub with_at : {A : Type 0} → ℕ → A → (ℕ → A) → ℕ → A
with_at d v f e = cond (e == d) v (f e)

-- 18 to 20 leave the array not started
abbrev pub stops : Refusal → Bool
stops f = nat_le 18 f.number && nat_le f.number 20

module _ {B : Type 0} where
  -- format leaves all blocks zeros, all slots live with all stripes good, the log empty, started
  abbrev pub opening : B → ℕ → ℕ → Ledger B
  opening nil slots stripes = record
      { blocks = λ i. nil; live = λ d. nat_lt d slots; good = λ d. cond (nat_lt d slots) stripes 0; empty = true; started = true }

  -- what a call does that counts: a write is kept and sets its block, and the log is not empty; clear empties it;
  -- fit sets 0 good stripes for its slot, rebuild adds one
  abbrev pub counted : Ledger B → Call B → Ledger B
  counted l (Write i x w) = record { blocks = with_at i x l.blocks; live = l.live; good = l.good; empty = false; started = l.started }
  counted l (Read i n w) = l
  counted l (Fold s w) = l
  counted l (Clear w) = record { blocks = l.blocks; live = l.live; good = l.good; empty = true; started = l.started }
  counted l (Pull d) = l
  counted l (Fit d w) = record { blocks = l.blocks; live = l.live; good = with_at d 0 l.good; empty = l.empty; started = l.started }
  counted l (Rebuild d w) = record { blocks = l.blocks; live = l.live; good = with_at d (l.good d + 1) l.good; empty = l.empty; started = l.started }
  counted l (Start w) = l

  -- what a done call does besides: fit makes its slot live, pull dead, start the array started
  abbrev pub ended : Ledger B → Call B → Ledger B
  ended l (Write i x w) = l
  ended l (Read i n w) = l
  ended l (Fold s w) = l
  ended l (Clear w) = l
  ended l (Pull d) = record { blocks = l.blocks; live = with_at d false l.live; good = l.good; empty = l.empty; started = l.started }
  ended l (Fit d w) = record { blocks = l.blocks; live = with_at d true l.live; good = l.good; empty = l.empty; started = l.started }
  ended l (Rebuild d w) = l
  ended l (Start w) = record { blocks = l.blocks; live = l.live; good = l.good; empty = l.empty; started = true }

  abbrev pub stopped : Ledger B → Ledger B
  stopped l = record { blocks = l.blocks; live = l.live; good = l.good; empty = l.empty; started = false }

  abbrev pub is_write : Call B → Bool
  is_write (Write i x w) = true
  is_write (Read i n w) = false
  is_write (Fold s w) = false
  is_write (Clear w) = false
  is_write (Pull d) = false
  is_write (Fit d w) = false
  is_write (Rebuild d w) = false
  is_write (Start w) = false

  -- a refused call counts when cut at cell 0 that is then new; a write also when cut at its block
  abbrev pub counts : Call B → Refusal → Bool → Bool
  counts c f new = f.number == 20 && cond (f.a == 255) (f.b == 0 && new) (is_write c)

  -- the ledger after a call with this reply; `new` tells, after a cut at cell 0, whether that is then new
  abbrev pub feed : Ledger B → Call B → Reply B → Bool → Ledger B
  feed l c (answered a) new = ended (counted l c) c
  feed l c (refused f) new = cond (stops f) (stopped (cond (counts c f new) (counted l c) l)) l
