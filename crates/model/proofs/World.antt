-- What is true of the array, its backplane and the ledger between calls, and what follows for the rules.
use Rattle.std.proofs.Common.{◌≡◌, ℕ, zero, suc, ◌+◌, ◌-◌, ◌*◌, ◌/◌, ◌%◌, ◌<◌, ◌≤◌, Bool, true, false, cond, ◌&&◌, eqb, ltb, leb, ◌⊎◌, List, [], ◌∷◌, ◌++◌, length, get_or, Some, None, Option, sym, refl, ap, ◌∙◌, subst, ap₂, inl, inr, mod-lt, mul_comm, mul-le-mul_left, mul-suc, arith}
use mathlib.Core.Path.{fun_ext}
use native.Mathlib.Nat.{div-add-mod}
use Rattle.std.proofs.lemmas.Bool.{eqb-true, eqb-false, ne_eqb, eq-eqb, cases_order, true≢false, le-leb, ltb-false, and_parts, and_from, not-false}
use Rattle.backplane.specs.Plane.{Plane, Sector, Store, to_block, to_cell, with_cell}
use Rattle.backplane.specs.Plane.{stored as stored_at}
use Rattle.backplane.specs.Stores.{stored_all, Cutting}
use Rattle.backplane.specs.declared.fault.Place.{Place}
use Rattle.backplane.specs.declared.fault.Place.TheVariants.{OfBlock, OfCell}
use Rattle.layout.specs.declared.shape.Shape.{Shape}
use Rattle.layout.specs.declared.header.Header.{Header}
use Rattle.layout.specs.Limits.{within_limits}
use Rattle.layout.specs.Header.{header_in, header_fits, goods_fit, is_laid_out}
use Rattle.layout.specs.Stripes.{slot_of}
use Rattle.layout.proofs.Headers.{Limits, limits_of, encoded-back}
use Rattle.model.specs.Coding.{Coding}
use Rattle.model.proofs.Laws.{CodeLaws}
use Rattle.model.specs.Log.{Rec, write, parity, Walked, walk, cells_for}
use Rattle.model.specs.Row.{good_at, lost_at, missing, row}
use Rattle.model.specs.Verdict.{Refusal, Reply, answered, refused, Answer, cut_at, make, nothing, Ends}
use Rattle.model.specs.Rules.{Call, good_of, opened, shape_of, to_cells}
use Rattle.model.specs.Rules.{log_of as log_r, is_good as is_good_r, is_lost as is_lost_r, lost_in as lost_in_r, row_of as row_r, to_checks as to_checks_r, finish_last as finish_last_r}
use Rattle.model.specs.Ledger.{Ledger, counted, stopped, is_write, feed, stops}
use Rattle.model.specs.Runs.{Device}
use Rattle.model.proofs.State.{State, Op, put, seal, Out, all_done, torn, stale, fresh, Always, Book, slot, is_good, is_lost, lost_in, row_of, used, LogFits, Inv}
use Rattle.model.proofs.Block.{Block}
use Rattle.model.proofs.Bytes.{KB, Kb, rec_bytes, log_bytes, row_same, fits-same, used-same}
use Rattle.model.proofs.Cells.{CellsAt, Encoded, walk_is, keep}
use Rattle.model.proofs.Finish.{finish, checks_from}
use Rattle.model.proofs.Keeps.{Ended, array, notes, append}
use Rattle.model.proofs.Follow.{stores, Repr, Ready, head_after, OutIs, is_other, follow-done, follow-cut}

-- quotient and rest are unique
pub split-unique : (k q r q' r' : ℕ) → r < k → r' < k → k * q + r ≡ k * q' + r' → (q ≡ q') × (r ≡ r')
split-unique k q r q' r' hr hr' e = go (cases_order q q')
  where
    go : (q ≡ q') ⊎ ((q < q') ⊎ (q' < q)) → (q ≡ q') × (r ≡ r')
    go (inl h) = (h, let z = ap (λ t. k * t) h in omega arith)
    go (inr (inl h)) = absurd (let z : k * suc q ≤ k * q' = mul-le-mul_left k h in omega (arith, mul-suc k q))
    go (inr (inr h)) = absurd (let z : k * suc q' ≤ k * q = mul-le-mul_left k h in omega (arith, mul-suc k q'))

-- a block number is another's by stripe and column
pub same_number : (k s c i : ℕ) → c < k → eqb (s * k + c) i ≡ (eqb s (i / k) && eqb c (i % k))
same_number k s c i hc = go (eqb (s * k + c) i) refl
  where
    whole : k * (i / k) + i % k ≡ i
    whole = div-add-mod i k

    rest : i % k < k
    rest = mod-lt i (omega arith)

    turn : s * k ≡ k * s
    turn = mul_comm s k

    go : (t : Bool) → eqb (s * k + c) i ≡ t → t ≡ (eqb s (i / k) && eqb c (i % k))
    go true e =
        let z : k * s + c ≡ k * (i / k) + i % k = omega (arith, eqb-true (s * k + c) i e, whole, turn) in
        let w = split-unique k s c (i / k) (i % k) hc rest z in
        sym (and_from (eqb s (i / k)) (eqb c (i % k)) (eq-eqb s (i / k) w.0) (eq-eqb c (i % k) w.1))
    go false e = sym (other (eqb s (i / k)) (eqb c (i % k)) refl refl)
      where
        other : (a b : Bool) → eqb s (i / k) ≡ a → eqb c (i % k) ≡ b → (a && b) ≡ false
        other false b x y = refl
        other true false x y = refl
        other true true x y =
            let z : k * s ≡ k * (i / k) = ap (λ t. k * t) (eqb-true s (i / k) x) in
            absurd (eqb-false (s * k + c) i e (omega (arith, whole, turn, eqb-true c (i % k) y)))

fit_all : (slots blocks n : ℕ) (good : List ℕ) → ((d : ℕ) → get_or good d 0 ≤ cond (ltb d slots) blocks 0) → goods_fit slots blocks n good ≡ true
unfolding goods_fit
fit_all slots blocks zero good h = refl
fit_all slots blocks (suc n) good h = and_from (leb (get_or good n 0) (cond (ltb n slots) blocks 0)) (goods_fit slots blocks n good) (le-leb (get_or good n 0) (cond (ltb n slots) blocks 0) (h n)) (fit_all slots blocks n good h)

pub on-kept : (ss : List (Store (List ℕ))) (p : Plane (List ℕ)) → (stored_all ss p).on ≡ p.on
on-kept [] p = refl
on-kept (to_block d b x ∷ ss) p = on-kept ss (stored_at (to_block d b x) p)
on-kept (to_cell c x ∷ ss) p = on-kept ss (stored_at (to_cell c x) p)

module _ (number rows : ℕ) (check : ℕ → List ℕ → ℕ) (solved : ℕ → List ℕ → List Bool → List ℕ) (W : CodeLaws number rows check solved)
    (k : ℕ) (h2 : 2 ≤ k) (h12 : k ≤ 12) (S C : ℕ) where
  -- the code over blocks and over bytes, and the shape of the array
  abbrev pub KA : Coding Block
  KA = KB number rows check solved W k h2 h12

  abbrev pub KL : Coding (List ℕ)
  KL = Kb number rows check solved W k h2 h12

  abbrev pub sh : Shape
  sh = record { code = number; columns = k; slots = k + rows; blocks = S; cells = C }

  -- the ledger is the book, in bytes and by block number
  pub record Same (l : Ledger (List ℕ)) (b : Book Block) : Type 0 where
    pub blocks : (s c : ℕ) → c < k → l.blocks (s * k + c) ≡ (b.dat s c).0
    pub live : l.live ≡ b.live
    pub good : l.good ≡ b.good
    pub empty : l.empty ≡ b.empty
    pub started : l.started ≡ b.started

  pub record World (u : Device (List ℕ)) (l : Ledger (List ℕ)) : Type 0 where
    pub state : State Block
    pub header : Header
    pub book : Book Block
    pub started : Bool
    pub repr : Repr KL sh u.plane state header
    pub held : u.held ≡ cond started (Some header) None
    pub on : started ≡ true → u.plane.on ≡ true
    pub inv : Inv KA S C (array state started) book
    pub same : Same l book

  pub unmoved : (u v : Device (List ℕ)) (l : Ledger (List ℕ)) → World u l → v.plane ≡ u.plane → v.held ≡ u.held → World v l
  unmoved u v l w e f = subst (λ z. World z l) (sym moved) w
    where
      moved : v ≡ u
      moved = λ i. record { plane = e i; held = f i }

  -- a refusal that does not stop the array
  pub refused-still : (u v : Device (List ℕ)) (l : Ledger (List ℕ)) (c : Call (List ℕ)) (r : Reply (List ℕ)) (f : Refusal) (new : Bool) → World u l
      → stops f ≡ false → r ≡ refused f → v.plane ≡ u.plane → v.held ≡ u.held → World v (feed l c r new)
  refused-still u v l c r f new w a e p o = rw e (rw a (unmoved u v l w p o))

  module _ (lim : within_limits rows sh ≡ true) (p : Plane (List ℕ)) (a : State Block) (h : Header) (t : Bool) (b : Book Block)
      (R : Repr KL sh p a h) (I : Inv KA S C (array a t) b) where
    L : Limits rows sh
    L = limits_of rows sh lim

    pub shape_is : shape_of KL p ≡ sh
    shape_is = λ i. record { code = number; columns = k; slots = R.slots i; blocks = R.blocks i; cells = R.cells i }

    pub used-is : h.used ≡ used KA a.log
    used-is = R.count ∙ used-same number rows check solved W k h2 h12 a.log

    pub good-is : good_of h ≡ a.good
    good-is = fun_ext R.good

    pub header-fits : header_fits sh h ≡ true
    header-fits = and_from (leb h.used (C - 1)) (goods_fit (k + rows) S 16 h.good)
        (le-leb h.used (C - 1) (let z = I.room in let y = used-is in omega arith))
        (fit_all (k + rows) S 16 h.good (λ d. subst (λ z. z ≤ cond (ltb d (k + rows)) S 0) (sym (R.good d)) (go d (ltb d (k + rows)) refl)))
      where
        go : (d : ℕ) (u : Bool) → ltb d (k + rows) ≡ u → a.good d ≤ cond u S 0
        go d true e = (I.within d).0
        go d false e = let z = (I.within d).1 (ltb-false d (k + rows) e) in omega arith

    pub laid_out : (is_laid_out rows sh (p.cell 0) ≡ true) × (header_in (p.cell 0) ≡ h)
    laid_out = encoded-back rows sh h R.long lim header-fits (p.cell 0) R.zeroth

    pub opened-is : p.on ≡ true → opened KL p (Some h) ≡ Some h
    opened-is on = ap (λ z. cond (p.on && (within_limits rows z && header_fits z h)) (Some h) None) shape_is
        ∙ ap (λ z. cond z (Some h) None) (and_from p.on (within_limits rows sh && header_fits sh h) on (and_from (within_limits rows sh) (header_fits sh h) lim header-fits))

    pub walked : walk KL p h.used ≡ record { log = log_bytes a.log; damage = None }
    walked = walk_is k number rows check solved p (let z = L.blocks in let y = R.blocks in omega arith) (log_bytes a.log) h.used R.log
        (subst (λ z. LogFits KL z (log_bytes a.log)) (sym R.blocks) (fits-same number rows check solved W k h2 h12 S a.log I.fits)) R.count

    pub log_is : log_r KL p h ≡ log_bytes a.log
    log_is = ap (λ (z : Walked (List ℕ)). z.log) walked

    pub lost-is : is_lost_r KL p h ≡ is_lost KA a
    lost-is = ap₂ (λ (u : ℕ → Bool) (g : ℕ → ℕ). lost_at (k + rows) u g) (sym R.live) good-is

    pub goods-is : is_good_r KL p h ≡ is_good KA a
    goods-is = ap₂ (λ (u : ℕ → Bool) (g : ℕ → ℕ). good_at (k + rows) u g) (sym R.live) good-is

    pub missing-is : lost_in_r KL p h ≡ lost_in KA a
    missing-is = ap₂ (λ (u : ℕ → Bool) (g : ℕ → ℕ). missing (k + rows) u g) (sym R.live) good-is

    -- a good block in bytes
    pub block-is : (s c : ℕ) → s < S → is_good KA a s c ≡ true → p.block (slot_of (k + rows) s c) s ≡ (a.blk (slot_of (k + rows) s c) s).0
    block-is s c hs g = R.blk (slot_of (k + rows) s c) s (mod-lt (c + s) (omega arith)) hs
        (ap (λ (z : ℕ → Bool). z (slot_of (k + rows) s c)) (sym R.live) ∙ (and_parts (a.live (slot_of (k + rows) s c)) (ltb s (a.good (slot_of (k + rows) s c))) g).0)

    pub row_is : (s c : ℕ) → s < S → lost_in KA a s ≤ rows → row_r KL p h s c ≡ (row_of KA a s c).0
    row_is s c hs few =
        ap₂ (λ (z : ℕ → ℕ → Bool) (l : List (Rec (List ℕ))). row KL z l p.block s c) lost-is log_is
        ∙ row_same number rows check solved W k h2 h12 (is_lost KA a) a.log p.block a.blk s c few (λ c hc g. block-is s c hs (not-false (is_good KA a s c) g))

  -- the stores of a finished record, and of a record appended
  checks-stores : (g : ℕ → Bool) (s : ℕ) (f : ℕ → Block) (n r : ℕ) → stores KL sh (checks_from KA g s f n r) ≡ to_checks_r KL g s (λ i. (f i).0) n r
  checks-stores g s f zero r = refl
  checks-stores g s f (suc n) r = go (g (k + r)) (checks-stores g s f n (suc r))
    where
      go : (t : Bool) → stores KL sh (checks_from KA g s f n (suc r)) ≡ to_checks_r KL g s (λ i. (f i).0) n (suc r)
          → stores KL sh (cond t (put (slot KA s (k + r)) s (f r) ∷ checks_from KA g s f n (suc r)) (checks_from KA g s f n (suc r)))
          ≡ cond t (to_block (slot_of (k + rows) s (k + r)) s (f r).0 ∷ to_checks_r KL g s (λ i. (f i).0) n (suc r)) (to_checks_r KL g s (λ i. (f i).0) n (suc r))
      go true e = ap (λ (z : List (Store (List ℕ))). to_block (slot_of (k + rows) s (k + r)) s (f r).0 ∷ z) e
      go false e = e

  pub finish-stores : (g : ℕ → ℕ → Bool) (l : List (Rec Block)) → stores KL sh (finish KA g l) ≡ finish_last_r KL g (log_bytes l)
  finish-stores g [] = refl
  finish-stores g (write s c x y ∷ l) = go (g s c)
    where
      go : (t : Bool) → stores KL sh (cond t (put (slot KA s c) s y ∷ []) []) ≡ cond t (to_block (slot_of (k + rows) s c) s y.0 ∷ []) []
      go true = refl
      go false = refl
  finish-stores g (parity s f ∷ l) = checks-stores (g s) s f rows 0

  pub notes-stores : (i : ℕ) (xs : List (List ℕ)) (ops : List (Op Block)) → stores KL sh (notes i xs ops) ≡ to_cells i xs ++ stores KL sh ops
  notes-stores i [] ops = refl
  notes-stores i (x ∷ xs) ops = ap (λ (z : List (Store (List ℕ))). to_cell i x ∷ z) (notes-stores (suc i) xs ops)

  -- plans of block stores alone are ready
  pub finish-ready : (few : rows ≤ 4) (t : Bool) (g : ℕ → ℕ → Bool) (l l' : List (Rec Block)) (cell : ℕ → List ℕ) → Ready KL sh t (finish KA g l) l' cell
  finish-ready few t g [] l' cell = tt
  finish-ready few t g (write s c x y ∷ l) l' cell = go (g s c)
    where
      low : slot_of (k + rows) s c < 255
      low = let z : (c + s) % (k + rows) < k + rows = mod-lt (c + s) (omega arith) in omega arith

      go : (b : Bool) → Ready KL sh t (cond b (put (slot KA s c) s y ∷ []) []) l' cell
      go true = (low, tt)
      go false = tt
  finish-ready few t g (parity s f ∷ l) l' cell = go rows 0
    where
      low : (r : ℕ) → slot_of (k + rows) s (k + r) < 255
      low r = let z : (k + r + s) % (k + rows) < k + rows = mod-lt (k + r + s) (omega arith) in omega arith

      pick : (b : Bool) (r : ℕ) (ops : List (Op Block)) → Ready KL sh t ops l' cell → Ready KL sh t (cond b (put (slot KA s (k + r)) s (f r) ∷ ops) ops) l' cell
      pick true r ops h = (low r, h)
      pick false r ops h = h

      go : (n r : ℕ) → Ready KL sh t (checks_from KA (g s) s f n r) l' cell
      go zero r = tt
      go (suc n) r = pick (g s (k + r)) r (checks_from KA (g s) s f n (suc r)) (go n (suc r))

  -- the cells after the notes
  abbrev note_all : (ℕ → List ℕ) → ℕ → List (List ℕ) → ℕ → List ℕ
  note_all cell i [] = cell
  note_all cell i (x ∷ xs) = note_all (with_cell i x cell) (suc i) xs

  notes-ready : (t : Bool) (i : ℕ) (xs : List (List ℕ)) (ops : List (Op Block)) (l : List (Rec Block)) (cell : ℕ → List ℕ) → used KL (log_bytes l) < i
      → Ready KL sh t ops l (note_all cell i xs) → Ready KL sh t (notes i xs ops) l cell
  notes-ready t i [] ops l cell h e = e
  notes-ready t i (x ∷ xs) ops l cell h e = (h, notes-ready t (suc i) xs ops l (with_cell i x cell) (omega arith) e)

  noted-before : (i : ℕ) (xs : List (List ℕ)) (cell : ℕ → List ℕ) (j : ℕ) → j < i → note_all cell i xs j ≡ cell j
  noted-before i [] cell j h = refl
  noted-before i (x ∷ xs) cell j h = noted-before (suc i) xs (with_cell i x cell) j (omega arith) ∙ rw (ne_eqb j i (λ e. omega arith))

  noted-cells : (i : ℕ) (xs : List (List ℕ)) (cell : ℕ → List ℕ) → CellsAt (note_all cell i xs) i xs
  noted-cells i [] cell = tt
  noted-cells i (x ∷ xs) cell = (noted-before (suc i) xs (with_cell i x cell) i (omega arith) ∙ rw (eq-eqb i i refl), noted-cells (suc i) xs (with_cell i x cell))

  noted-log : (i : ℕ) (xs : List (List ℕ)) (cell : ℕ → List ℕ) (l : List (Rec (List ℕ))) → used KL l < i → Encoded KL cell l → Encoded KL (note_all cell i xs) l
  noted-log i [] cell l h e = e
  noted-log i (x ∷ xs) cell l h e = noted-log (suc i) xs (with_cell i x cell) l (omega arith) (keep KL cell i x l (inr h) e)

  pub append-ready : (few : rows ≤ 4) (a : State Block) (r : Rec Block) (h' : Header) (cell : ℕ → List ℕ) → Encoded KL cell (log_bytes a.log)
      → h'.used ≡ used KL (log_bytes (r ∷ a.log)) → length h'.good ≡ 16 → ((d : ℕ) → good_of h' d ≡ a.good d)
      → Ready KL sh true (append KA a r (cells_for KL (rec_bytes r)) h') a.log cell
  append-ready few a r h' cell e u n g =
      subst (λ z. Ready KL sh true (notes (suc z) xs ops) a.log cell) (used-same number rows check solved W k h2 h12 a.log)
      (notes-ready true (suc (used KL (log_bytes a.log))) xs ops a.log cell (omega arith) (
        refl,
        (noted-cells (suc (used KL (log_bytes a.log))) xs cell, noted-log (suc (used KL (log_bytes a.log))) xs cell (log_bytes a.log) (omega arith) e),
        u,
        n,
        g,
        finish-ready few false (is_good KA a) (r ∷ a.log) (r ∷ a.log) _,
      ))
    where
      xs : List (List ℕ)
      xs = cells_for KL (rec_bytes r)

      ops : List (Op Block)
      ops = seal (r ∷ a.log) a.good h' ∷ finish KA (is_good KA a) (r ∷ a.log)

  -- the book after a cut
  abbrev pub book_at : Book Block → Book Block → Book Block → Out → Book Block
  book_at lt ls lf all_done = ls
  book_at lt ls lf (torn d i) = lt
  book_at lt ls lf (stale i) = ls
  book_at lt ls lf fresh = lf

  cut-book : (l : Ledger (List ℕ)) (c : Call (List ℕ)) (lt ls lf : Book Block) (o : Out) (at : Place) (new : Bool) → OutIs o at new
      → Same (stopped (cond (is_write c) (counted l c) l)) lt → Same (stopped l) ls → Same (stopped (counted l c)) lf
      → Same (feed l c (refused (cut_at at)) new) (book_at lt ls lf o)
  cut-book l c lt ls lf o (OfBlock d b) new e st ss sf = rw (e.0, ne_eqb d 255 (λ z. let y = e.1 in omega arith)) st
  cut-book l c lt ls lf o (OfCell i) new e st ss sf = rw e (go (eqb i 0) new)
    where
      go : (t new : Bool) → Same (stopped (cond (t && new) (counted l c) l)) (book_at lt ls lf (cond t (cond new fresh (stale 0)) (stale i)))
      go true true = sf
      go true false = ss
      go false new = ss

  cut-inv : (ld lt ls lf : Book Block) (o : Out) (at : Place) (new : Bool) (a : State Block) → OutIs o at new → Ended KA S C ld lt ls lf o a → Inv KA S C (array a false) (book_at lt ls lf o)
  cut-inv ld lt ls lf all_done (OfBlock d b) new a e w = absurd (let z : ◌≡◌ {A = ℕ} 0 1 = not_done e.0 in omega arith)
    where
      not_done : {d b : ℕ} → all_done ≡ torn d b → ◌≡◌ {A = ℕ} 0 1
      not_done e = cc
  cut-inv ld lt ls lf all_done (OfCell i) new a e w = absurd (go (eqb i 0) new e)
    where
      go : (t new : Bool) → all_done ≡ cond t (cond new fresh (stale 0)) (stale i) → ⊥
      go true true e = let z : ◌≡◌ {A = ℕ} 0 1 = cc in omega arith
      go true false e = let z : ◌≡◌ {A = ℕ} 0 1 = cc in omega arith
      go false new e = let z : ◌≡◌ {A = ℕ} 0 1 = cc in omega arith
  cut-inv ld lt ls lf (torn d i) at new a e w = w
  cut-inv ld lt ls lf (stale i) at new a e w = w
  cut-inv ld lt ls lf fresh at new a e w = w

  -- a call whose stores were cut
  pub made-cut : (v : Device (List ℕ)) (l : Ledger (List ℕ)) (c : Call (List ℕ)) (p₀ p : Plane (List ℕ)) (a : State Block) (h : Header)
      (ops : List (Op Block)) (ss : List (Store (List ℕ))) (r : Reply (List ℕ)) (ld lt ls lf : Book Block)
      → p₀.cell 0 ≡ p.cell 0 → Repr KL sh p a h → stores KL sh ops ≡ ss → Ready KL sh true ops a.log p.cell → Always ops a (Ended KA S C ld lt ls lf)
      → Same (stopped (cond (is_write c) (counted l c) l)) lt → Same (stopped l) ls → Same (stopped (counted l c)) lf
      → (at : Place) × (r ≡ refused (cut_at at)) × Cutting Sector ss p v.plane at × (v.held ≡ None)
      → World v (feed l c r (is_other (p₀.cell 0) (v.plane.cell 0)))
  made-cut v l c p₀ p a h ops ss r ld lt ls lf tie R es ready always st s0 sf e =
      let z = follow-cut KL sh true ops p₀ p v.plane a h (Ended KA S C ld lt ls lf) e.0 (λ _. tie) R ready always (subst (λ x. Cutting Sector x p v.plane e.0) (sym es) e.2) in
      record {
        state = z.1;
        header = z.2;
        book = book_at lt ls lf z.0;
        started = false;
        repr = z.5;
        held = e.3;
        on = λ x. absurd (true≢false (sym x));
        inv = cut-inv ld lt ls lf z.0 e.0 (is_other (p₀.cell 0) (v.plane.cell 0)) z.1 z.3 z.4;
        same = rw e.1 (cut-book l c lt ls lf z.0 e.0 (is_other (p₀.cell 0) (v.plane.cell 0)) z.3 st s0 sf);
      }

  -- a call that makes its stores, done or cut
  pub made : (v : Device (List ℕ)) (l : Ledger (List ℕ)) (c : Call (List ℕ)) (p₀ p : Plane (List ℕ)) (o : Option Header) (a : State Block) (h h' : Header)
      (ops : List (Op Block)) (ss : List (Store (List ℕ))) (ans : Answer (List ℕ)) (r : Reply (List ℕ)) (ld lt ls lf : Book Block)
      → p₀.cell 0 ≡ p.cell 0 → p.on ≡ true → Repr KL sh p a h → stores KL sh ops ≡ ss → Ready KL sh true ops a.log p.cell → Always ops a (Ended KA S C ld lt ls lf)
      → head_after KL sh ops h ≡ h'
      → Same (feed l c (answered ans) (is_other (p₀.cell 0) (v.plane.cell 0))) ld → Same (stopped (cond (is_write c) (counted l c) l)) lt → Same (stopped l) ls → Same (stopped (counted l c)) lf
      → Ends Sector [] (make ss nothing ans (Some h')) p o r v.plane v.held
      → World v (feed l c r (is_other (p₀.cell 0) (v.plane.cell 0)))
  made v l c p₀ p o a h h' ops ss ans r ld lt ls lf tie on R es ready always eh sd st s0 sf (inl e) =
      let z = follow-done KL sh true ops p a h (Ended KA S C ld lt ls lf) R ready always in
      let plane-is : v.plane ≡ stored_all (stores KL sh ops) p = e.1 ∙ ap (λ x. stored_all x p) (sym es) in
      record {
        state = z.0;
        header = h';
        book = ld;
        started = true;
        repr = subst (λ x. Repr KL sh x z.0 h') (sym plane-is) (subst (λ x. Repr KL sh (stored_all (stores KL sh ops) p) z.0 x) eh z.2);
        held = e.2;
        on = λ _. ap (λ (x : Plane (List ℕ)). x.on) plane-is ∙ (on-kept (stores KL sh ops) p ∙ on);
        inv = z.1;
        same = rw e.0 sd;
      }
  made v l c p₀ p o a h h' ops ss ans r ld lt ls lf tie on R es ready always eh sd st s0 sf (inr e) =
      made-cut v l c p₀ p a h ops ss r ld lt ls lf tie R es ready always st s0 sf e
