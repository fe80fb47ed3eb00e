-- Runs: calls made one after the other on an array and its backplane, each ended in one of its ways.
use Rattle.std.specs.Prelude.{◌≡◌, ℕ, ◌+◌, ◌*◌, ◌<◌, ◌≤◌, Bool, true, false, not, ◌⊎◌, List, [], ◌∷◌, Option}
use Rattle.std.specs.Str.{bytes_eq}
use Rattle.backplane.specs.Plane.{Plane}
use Rattle.layout.specs.declared.header.Header.{Header}
use Rattle.layout.specs.Stripes.{stripe_of, column_of, slot_of}
use Rattle.codes.specs.Code.{Bytes}
use Rattle.model.specs.Coding.{Coding, width}
use Rattle.model.specs.Row.{good_at, missing}
use Rattle.model.specs.Verdict.{Refusal, refusal, Answer, of_block, Reply, answered, refused, Ends}
use Rattle.model.specs.Rules.{Call, Write, Read, Fold, Clear, Pull, Fit, Rebuild, Start, verdict}
use Rattle.model.specs.Ledger.{Ledger, feed}

-- a backplane, and the header that the array on it holds
pub record Device (B : Type 0) : Type 0 where
  pub plane : Plane B
  pub held : Option Header

-- what the ledger is told of a call
pub record Event (B : Type 0) : Type 0 where
  pub call : Call B
  pub reply : Reply B
  -- cell 0 is then new
  pub new : Bool

abbrev pub fed_all : {B : Type 0} → Ledger B → List (Event B) → Ledger B
fed_all l [] = l
fed_all l (e ∷ es) = fed_all (feed l e.call e.reply e.new) es

module _ {B : Type 0} (K : Coding B) (Whole : B → Type 0) where
  -- what is given to a write is bytes
  abbrev pub Given : Call B → Type 0
  Given (Write i x w) = Bytes (K.bytes x)
  Given (Read i n w) = Unit {0}
  Given (Fold s w) = Unit {0}
  Given (Clear w) = Unit {0}
  Given (Pull d) = Unit {0}
  Given (Fit d w) = Unit {0}
  Given (Rebuild d w) = Unit {0}
  Given (Start w) = Unit {0}

  -- cell 0 holds other bytes than before; where the new bytes equal the old ones (clear of an empty log, fit of a slot with 0 good stripes)
  -- the ledger is the same whether the call counts or not
  abbrev pub is_new : Device B → Device B → Bool
  is_new u v = not (bytes_eq (K.bytes (u.plane.cell 0)) (K.bytes (v.plane.cell 0)))

  -- one call, from u to v
  pub record Called (u : Device B) (e : Event B) (v : Device B) : Type 0 where
    pub given : Given e.call
    pub ends : Ends Whole (K.pack []) (verdict K u.plane u.held e.call) u.plane u.held e.reply v.plane v.held
    pub told : e.new ≡ is_new u v

  -- the calls were made one after the other, from u to v
  abbrev pub Ran : List (Event B) → Device B → Device B → Type 0
  Ran [] u v = v ≡ u
  Ran (e ∷ es) u v = (w : Device B) × Called u e w × Ran es w v

-- the number of stripes of the array
module _ {B : Type 0} (K : Coding B) (stripes : ℕ) where
  -- by the ledger
  abbrev pub good_in : Ledger B → ℕ → ℕ → Bool
  good_in l = good_at (width K) l.live l.good

  abbrev pub missing_in : Ledger B → ℕ → ℕ
  missing_in l = missing (width K) l.live l.good

  -- an answered read gives the block of the last kept write to its number, or zeros; in a started array a read that none of the numbers
  -- 1 to 3 refuses gets 15 if its column is lost and its stripe has more lost columns than checks, and is answered otherwise
  abbrev pub ReadRight : Ledger B → ℕ → ℕ → ℕ → Reply B → Type 0
  ReadRight l i given w r =
      ((a : Answer B) → r ≡ answered a → a ≡ of_block (l.blocks i))
      × (l.started ≡ true → given ≡ 512 → 10240 ≤ w → i < stripes * K.k →
      (good_in l (stripe_of K.k i) (column_of K.k i) ≡ false → K.m < missing_in l (stripe_of K.k i)
      → r ≡ refused (refusal 15 (stripe_of K.k i) (missing_in l (stripe_of K.k i))))
      × ((good_in l (stripe_of K.k i) (column_of K.k i) ≡ true) ⊎ (missing_in l (stripe_of K.k i) ≤ K.m)
      → (x : B) × (r ≡ answered (of_block x))))

  -- start answers neither 18 nor 19
  abbrev pub StartRight : Reply B → Type 0
  StartRight r = (f : Refusal) → r ≡ refused f → (f.number ≡ 18) ⊎ (f.number ≡ 19) → ⊥

  -- the reply to a call is right by the ledger before it
  abbrev pub ReplyRight : Ledger B → Call B → Reply B → Type 0
  ReplyRight l (Write i x w) r = Unit {0}
  ReplyRight l (Read i given w) r = ReadRight l i given w r
  ReplyRight l (Fold s w) r = Unit {0}
  ReplyRight l (Clear w) r = Unit {0}
  ReplyRight l (Pull d) r = Unit {0}
  ReplyRight l (Fit d w) r = Unit {0}
  ReplyRight l (Rebuild d w) r = Unit {0}
  ReplyRight l (Start w) r = StartRight r

  -- each reply of a run is right by the ledger before it
  abbrev pub RepliesRight : Ledger B → List (Event B) → Type 0
  RepliesRight l [] = Unit {0}
  RepliesRight l (e ∷ es) = ReplyRight l e.call e.reply × RepliesRight (feed l e.call e.reply e.new) es

  -- in a started array with an empty log every good data block on disk is the ledger's,
  -- and every good check block is the check of its stripe's blocks in the ledger
  abbrev pub DisksRight : Ledger B → Plane B → Type 0
  DisksRight l p = l.started ≡ true → l.empty ≡ true → (s : ℕ) → s < stripes →
      ((c : ℕ) → c < K.k → good_in l s c ≡ true → p.block (slot_of (width K) s c) s ≡ l.blocks (s * K.k + c))
      × ((r : ℕ) → r < K.m → good_in l s (K.k + r) ≡ true → p.block (slot_of (width K) s (K.k + r)) s ≡ K.check r (λ c. l.blocks (s * K.k + c)))
