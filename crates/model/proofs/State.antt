-- The array's state as the log names it, what a plan of stores may leave of it, and the invariant between calls.
use Rattle.std.proofs.Common.{◌≡◌, ℕ, ◌+◌, ◌-◌, ◌*◌, ◌<◌, ◌≤◌, Bool, true, false, cond, not, ◌&&◌, eqb, ltb, List, [], ◌∷◌}
use Rattle.layout.specs.declared.header.Header.{Header}
use Rattle.layout.specs.Stripes.{slot_of}
use Rattle.model.specs.Coding.{Coding, width, check_rows}
use Rattle.model.specs.Log.{Rec, write, parity, cells_of, owed}
use Rattle.model.specs.Row.{good_at, lost_at, missing, settled_with, row}
use Rattle.model.proofs.Lawful.{word}

abbrev pub upd : {A : Type 0} → (ℕ → A) → ℕ → A → ℕ → A
upd f d v e = cond (eqb e d) v (f e)

abbrev pub upd2 : {A : Type 0} → (ℕ → ℕ → A) → ℕ → ℕ → A → ℕ → ℕ → A
upd2 f d i v e j = cond (eqb e d && eqb j i) v (f e j)

pub record State (B : Type 0) : Type 0 where
  pub live : ℕ → Bool
  pub good : ℕ → ℕ
  pub log : List (Rec B)
  pub blk : ℕ → ℕ → B

-- a store of a block, of a free cell, or of cell 0 with the records and good stripes that count from then on
pub data Op (B : Type 0) : Type 0 where
  put : ℕ → ℕ → B → Op B
  note : ℕ → List ℕ → Op B
  seal : List (Rec B) → (ℕ → ℕ) → Header → Op B

-- how a plan ended: done; cut at a block; cut at a cell with nothing changed; cut at cell 0, which is then new
pub data Out : Type 0 where
  all_done : Out
  torn : ℕ → ℕ → Out
  stale : ℕ → Out
  fresh : Out

module _ {B : Type 0} where
  abbrev pub stored : State B → ℕ → ℕ → B → State B
  stored a d i x = record { live = a.live; good = a.good; log = a.log; blk = upd2 a.blk d i x }

  abbrev pub sealed : State B → List (Rec B) → (ℕ → ℕ) → State B
  sealed a l g = record { live = a.live; good = g; log = l; blk = a.blk }

  -- a claim holds however the plan ends
  abbrev pub Always : List (Op B) → State B → (Out → State B → Type 0) → Type 0
  Always [] a Q = Q all_done a
  Always (put d i x ∷ ops) a Q = Always ops (stored a d i x) Q × ((y : B) → Q (torn d i) (stored a d i y))
  Always (note i x ∷ ops) a Q = Always ops a Q × Q (stale i) a
  Always (seal l g h ∷ ops) a Q = Always ops (sealed a l g) Q × Q (stale 0) a × Q fresh (sealed a l g)

-- the ledger by stripe and column
pub record Book (B : Type 0) : Type 0 where
  pub dat : ℕ → ℕ → B
  pub live : ℕ → Bool
  pub good : ℕ → ℕ
  pub empty : Bool
  pub started : Bool

pub record Array (B : Type 0) : Type 0 where
  pub state : State B
  pub started : Bool

module _ {B : Type 0} (K : Coding B) where
  abbrev pub slot : ℕ → ℕ → ℕ
  slot s c = slot_of (width K) s c

  abbrev pub is_good : State B → ℕ → ℕ → Bool
  is_good a = good_at (width K) a.live a.good

  abbrev pub is_lost : State B → ℕ → ℕ → Bool
  is_lost a = lost_at (width K) a.live a.good

  abbrev pub lost_in : State B → ℕ → ℕ
  lost_in a = missing (width K) a.live a.good

  abbrev pub row_of : State B → ℕ → ℕ → B
  row_of a = row K (is_lost a) a.log a.blk

  abbrev pub used : List (Rec B) → ℕ
  used [] = 0
  used (r ∷ l) = cells_of K r + used l

  -- what a good block holds
  abbrev pub want : List (Rec B) → (ℕ → ℕ → B) → ℕ → ℕ → B
  want l dat s c = settled_with K l s c (word K (dat s) c)

  -- the blocks that the newest record stores
  abbrev pub in_head : List (Rec B) → ℕ → ℕ → Bool
  in_head [] s c = false
  in_head (write t e x y ∷ l) s c = eqb s t && eqb c e
  in_head (parity t f ∷ l) s c = eqb s t && not (ltb c K.k)

  -- the blocks of which nothing is said: none in a started array, else those that the newest record stores
  abbrev pub exempt : Bool → List (Rec B) → ℕ → ℕ → Bool
  exempt true l s c = false
  exempt false l s c = in_head l s c

  abbrev pub HeadRight : List (Rec B) → (ℕ → ℕ → B) → Type 0
  HeadRight [] dat = Unit {0}
  HeadRight (write s c x y ∷ l) dat = dat s c ≡ y
  HeadRight (parity s f ∷ l) dat = (r : ℕ) → r < K.m → f r ≡ K.check r (dat s)

  abbrev pub is_empty : List (Rec B) → Bool
  is_empty [] = true
  is_empty (r ∷ l) = false

module _ {B : Type 0} (K : Coding B) (S : ℕ) where
  abbrev pub RecFits : Rec B → Type 0
  RecFits (write s c x y) = (s < S) × (c < K.k)
  RecFits (parity s f) = (s < S) × (f ≡ check_rows K f)

  abbrev pub LogFits : List (Rec B) → Type 0
  LogFits [] = Unit {0}
  LogFits (r ∷ l) = RecFits r × LogFits l

  -- each good block outside ex holds what it should
  abbrev pub Holds : (ℕ → ℕ → Bool) → (ℕ → ℕ → Bool) → List (Rec B) → (ℕ → ℕ → B) → (ℕ → ℕ → B) → Type 0
  Holds ex g l x dat = (s c : ℕ) → s < S → c < width K → g s c ≡ true → ex s c ≡ false → x (slot K s c) s ≡ want K l dat s c

  abbrev pub Blocks : (ℕ → ℕ → Bool) → State B → (ℕ → ℕ → B) → Type 0
  Blocks ex a dat = Holds ex (is_good K a) a.log a.blk dat

module _ {B : Type 0} (K : Coding B) (S C : ℕ) where
  pub record Inv (b : Array B) (l : Book B) : Type 0 where
    pub started : l.started ≡ b.started
    pub live : l.live ≡ b.state.live
    pub good : l.good ≡ b.state.good
    pub empty : l.empty ≡ is_empty K b.state.log
    pub blocks : Blocks K S (exempt K b.started b.state.log) b.state l.dat
    pub head : HeadRight K b.state.log l.dat
    pub fits : LogFits K S b.state.log
    pub room : used K b.state.log + (1 + K.m) * owed K S b.state.log ≤ C - 1
    pub within : (d : ℕ) → (b.state.good d ≤ S) × (width K ≤ d → b.state.good d ≡ 0)
