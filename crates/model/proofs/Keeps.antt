-- Each call's stores keep the invariant, done or cut.
use Rattle.std.proofs.Common.{◌≡◌, ℕ, suc, ◌+◌, ◌-◌, ◌*◌, ◌%◌, ◌<◌, ◌≤◌, Bool, true, false, cond, ◌&&◌, eqb, ltb, List, [], ◌∷◌, sym, refl, ap, ◌∙◌, subst, mod-lt, arith}
use mathlib.Core.Path.{fun_ext}
use Rattle.std.proofs.lemmas.Bool.{eqb-true, eqb-false, ne_eqb, eq-eqb, true≢false, lt-ltb, le-ltb, ltb-false, ltb-true, and_parts, and_right, and_from}
use Rattle.layout.specs.declared.header.Header.{Header}
use Rattle.layout.specs.Stripes.{column_on}
use Rattle.model.specs.Coding.{Coding, width, check_rows}
use Rattle.model.specs.Log.{Rec, write, parity, pending, owing, owed}
use Rattle.model.specs.Row.{settled_with}
use Rattle.model.proofs.Lawful.{Lawful, word}
use Rattle.model.proofs.State.{upd, upd2, State, Op, put, note, seal, Out, all_done, torn, stale, fresh, stored, sealed, Always, Book, Array, slot, is_good, lost_in, row_of, used, want, in_head, exempt, HeadRight, is_empty, LogFits, Holds, Blocks, Inv}
use Rattle.model.proofs.Rows.{want-write, want-parity, row-right, word-data, word-check, want-paid}
use Rattle.model.proofs.Places.{column-slot, same, put-lost, same_rest}
use Rattle.model.proofs.Counts.{count_none, count_less, count-false}
use Rattle.model.proofs.Finish.{finish, finish-always, none, with_blocks}

module _ {B : Type 0} where
  -- the book after what a call does
  abbrev pub stopped_b : Book B → Book B
  stopped_b l = record { dat = l.dat; live = l.live; good = l.good; empty = l.empty; started = false }

  abbrev pub started_b : Book B → Book B
  started_b l = record { dat = l.dat; live = l.live; good = l.good; empty = l.empty; started = true }

  abbrev pub wrote_b : Book B → ℕ → ℕ → B → Book B
  wrote_b l s c y = record { dat = upd2 l.dat s c y; live = l.live; good = l.good; empty = false; started = l.started }

  abbrev pub cleared_b : Book B → Book B
  cleared_b l = record { dat = l.dat; live = l.live; good = l.good; empty = true; started = l.started }

  abbrev pub good_b : Book B → ℕ → ℕ → Book B
  good_b l d g = record { dat = l.dat; live = l.live; good = upd l.good d g; empty = l.empty; started = l.started }

  abbrev pub live_b : Book B → ℕ → Bool → Book B
  live_b l d v = record { dat = l.dat; live = upd l.live d v; good = l.good; empty = l.empty; started = l.started }

  abbrev pub array : State B → Bool → Array B
  array a t = record { state = a; started = t }

  abbrev pub slotted : State B → ℕ → Bool → (ℕ → B) → State B
  slotted a d v x = record { live = upd a.live d v; good = a.good; log = a.log; blk = upd a.blk d x }

  abbrev pub notes : ℕ → List (List ℕ) → List (Op B) → List (Op B)
  notes i [] ops = ops
  notes i (x ∷ xs) ops = note i x ∷ notes (suc i) xs ops

module _ {B : Type 0} (K : Coding B) where
  -- the cells of the record, then cell 0 with the new count, then the blocks
  abbrev pub append : State B → Rec B → List (List ℕ) → Header → List (Op B)
  append a r cells h = notes (suc (used K a.log)) cells (seal (r ∷ a.log) a.good h ∷ finish K (is_good K a) (r ∷ a.log))

module _ {B : Type 0} (K : Coding B) (S C : ℕ) where
  -- the claim after a plan, by the books after it: done, cut at a block, cut with nothing changed, cut at cell 0 that is then new
  abbrev pub Ended : Book B → Book B → Book B → Book B → Out → State B → Type 0
  Ended ld lt ls lf all_done a = Inv K S C (array a true) ld
  Ended ld lt ls lf (torn d i) a = Inv K S C (array a false) lt
  Ended ld lt ls lf (stale i) a = Inv K S C (array a false) ls
  Ended ld lt ls lf fresh a = Inv K S C (array a false) lf

module _ {B : Type 0} (K : Coding B) (L : Lawful K) (S C : ℕ) where
  notes-by : (i : ℕ) (xs : List (List ℕ)) (ops : List (Op B)) (p : State B) (Q : Out → State B → Type 0) → ((j : ℕ) → Q (stale j) p) → Always ops p Q → Always (notes i xs ops) p Q
  notes-by i [] ops p Q a b = b
  notes-by i (x ∷ xs) ops p Q a b = (notes-by (suc i) xs ops p Q a b, a i)

  -- in a started array nothing is exempt
  pub plain : (a : State B) (l : Book B) → Inv K S C (array a true) l → Blocks K S none a l.dat
  plain a l I s c hs hc g _ = I.blocks s c hs hc g refl

  pub row_is : (a : State B) (l : Book B) → Inv K S C (array a true) l → (s : ℕ) → s < S → lost_in K a s ≤ K.m → (c : ℕ) → c < width K → row_of K a s c ≡ word K (l.dat s) c
  row_is a l I s hs few = row-right K L a l.dat s (λ c hc g. plain a l I s c hs hc g refl) few

  -- after a cut that changed nothing
  pub still : (a : State B) (l : Book B) → Inv K S C (array a true) l → Inv K S C (array a false) (stopped_b l)
  still a l I = record {
    started = refl;
    live = I.live;
    good = I.good;
    empty = I.empty;
    blocks = λ s c hs hc g _. plain a l I s c hs hc g refl;
    head = I.head;
    fits = I.fits;
    room = I.room;
    within = I.within;
  }

  -- a record is appended and finished
  append-always : (p : State B) (r : Rec B) (cells : List (List ℕ)) (h : Header) (dat : ℕ → ℕ → B) (Q : Out → State B → Type 0)
      → ((j : ℕ) → Q (stale j) p)
      → HeadRight K (r ∷ p.log) dat → LogFits K S (r ∷ p.log)
      → Holds K S (in_head K (r ∷ p.log)) (is_good K p) (r ∷ p.log) p.blk dat
      → ((x : ℕ → ℕ → B) → Holds K S none (is_good K p) (r ∷ p.log) x dat → Q all_done (with_blocks (sealed p (r ∷ p.log) p.good) x))
      → ((x : ℕ → ℕ → B) → Holds K S (in_head K (r ∷ p.log)) (is_good K p) (r ∷ p.log) x dat
      → Q fresh (with_blocks (sealed p (r ∷ p.log) p.good) x) × ((d i : ℕ) → Q (torn d i) (with_blocks (sealed p (r ∷ p.log) p.good) x)))
      → Always (append K p r cells h) p Q
  append-always p r cells h dat Q old head fits held all cut =
      notes-by (suc (used K p.log)) cells (seal (r ∷ p.log) p.good h ∷ finish K (is_good K p) (r ∷ p.log)) p Q old (
        finish-always K L S (r ∷ p.log) dat Q (sealed p (r ∷ p.log) p.good) head fits held all (λ d i x h. (cut x h).1 d i),
        old 0,
        (cut p.blk held).0,
      )

  -- the invariant with one record more
  grown : (a : State B) (l : Book B) (dat : ℕ → ℕ → B) (r : Rec B) → Inv K S C (array a true) l
      → HeadRight K (r ∷ a.log) dat → LogFits K S (r ∷ a.log)
      → used K (r ∷ a.log) + (1 + K.m) * owed K S (r ∷ a.log) ≤ C - 1
      → (t e : Bool) → e ≡ false → (x : ℕ → ℕ → B)
      → Holds K S (exempt K t (r ∷ a.log)) (is_good K a) (r ∷ a.log) x dat
      → Inv K S C (array (record { live = a.live; good = a.good; log = r ∷ a.log; blk = x }) t)
      (record { dat = dat; live = l.live; good = l.good; empty = e; started = t })
  grown a l dat r I head fits room t e em x held = record
      { started = refl; live = I.live; good = I.good; empty = em; blocks = held; head = head; fits = fits; room = room; within = I.within }

  pub write_keeps : (a : State B) (l : Book B) (s c : ℕ) (y : B) (cells : List (List ℕ)) (h : Header) → Inv K S C (array a true) l
      → s < S → c < K.k → lost_in K a s ≤ K.m
      → used K a.log + 3 + (1 + K.m) * owed K S (write s c (K.add (row_of K a s c) y) y ∷ a.log) ≤ C - 1
      → Always (append K a (write s c (K.add (row_of K a s c) y) y) cells h) a (Ended K S C (wrote_b l s c y) (stopped_b (wrote_b l s c y)) (stopped_b l) (stopped_b (wrote_b l s c y)))
  write_keeps a l s c y cells h I hs hc few room =
      append-always a r cells h dat _ (λ j. still a l I) head fits held
      (λ x g. subst (λ t. Inv K S C (array (record { live = a.live; good = a.good; log = r ∷ a.log; blk = x }) true) (record { dat = dat; live = l.live; good = l.good; empty = false; started = t })) (sym I.started)
      (grown a l dat r I head fits full true false refl x (λ s' c' a₁ a₂ a₃ _. g s' c' a₁ a₂ a₃ refl)))
      (λ x g. (cuts x g, λ d i. cuts x g))
    where
      dat : ℕ → ℕ → B
      dat = upd2 l.dat s c y

      r : Rec B
      r = write s c (K.add (row_of K a s c) y) y

      base : Blocks K S none a l.dat
      base = plain a l I

      e : row_of K a s c ≡ l.dat s c
      e = row_is a l I s hs few c (omega arith) ∙ word-data K L (l.dat s) c hc

      head : HeadRight K (r ∷ a.log) dat
      head = same K l.dat s c y

      fits : LogFits K S (r ∷ a.log)
      fits = ((hs, hc), I.fits)

      full : used K (r ∷ a.log) + (1 + K.m) * owed K S (r ∷ a.log) ≤ C - 1
      full = omega arith

      held : Holds K S (in_head K (r ∷ a.log)) (is_good K a) (r ∷ a.log) a.blk dat
      held s' c' a₁ a₂ a₃ h = base s' c' a₁ a₂ a₃ refl
          ∙ sym (subst (λ z. want K (write s c (K.add z y) y ∷ a.log) dat s' c' ≡ want K a.log l.dat s' c') (sym e) (want-write K L a.log l.dat s c y s' c' h))

      cuts : (x : ℕ → ℕ → B) → Holds K S (in_head K (r ∷ a.log)) (is_good K a) (r ∷ a.log) x dat
          → Inv K S C (array (with_blocks (sealed a (r ∷ a.log) a.good) x) false) (stopped_b (wrote_b l s c y))
      cuts x g = grown a l dat r I head fits full false false refl x g

  owing-some : (l : List (Rec B)) (s : ℕ) → owing K l s ≡ true → is_empty K l ≡ false
  owing-some [] s h = absurd (true≢false (sym h))
  owing-some (r ∷ l) s h = refl

  pub fold-keeps : (a : State B) (l : Book B) (s : ℕ) (cells : List (List ℕ)) (h : Header) → Inv K S C (array a true) l
      → s < S → lost_in K a s ≤ K.m → owing K a.log s ≡ true
      → Always (append K a (parity s (check_rows K (λ i. row_of K a s (K.k + i)))) cells h) a (Ended K S C l (stopped_b l) (stopped_b l) (stopped_b l))
  fold-keeps a l s cells h I hs few ow =
      append-always a r cells h l.dat _ (λ j. still a l I) head fits held
      (λ x g. subst (λ t. Inv K S C (array (record { live = a.live; good = a.good; log = r ∷ a.log; blk = x }) true) (record { dat = l.dat; live = l.live; good = l.good; empty = l.empty; started = t })) (sym I.started)
      (grown a l l.dat r I head fits full true l.empty em x (λ s' c' a₁ a₂ a₃ _. g s' c' a₁ a₂ a₃ refl)))
      (λ x g. (cuts x g, λ d i. cuts x g))
    where
      r : Rec B
      r = parity s (check_rows K (λ i. row_of K a s (K.k + i)))

      base : Blocks K S none a l.dat
      base = plain a l I

      em : l.empty ≡ false
      em = I.empty ∙ owing-some a.log s ow

      head : HeadRight K (r ∷ a.log) l.dat
      head i hi = rw (lt-ltb i K.m hi) (row_is a l I s hs few (K.k + i) (omega arith) ∙ word-check K L (l.dat s) i)

      up-twice : (i : ℕ) (t : Bool) → cond t (row_of K a s (K.k + i)) K.nil ≡ cond t (cond t (row_of K a s (K.k + i)) K.nil) K.nil
      up-twice i true = refl
      up-twice i false = refl

      fits : LogFits K S (r ∷ a.log)
      fits = ((hs, fun_ext (λ i. up-twice i (ltb i K.m))), I.fits)

      less : owed K S a.log ≡ 1 + owed K S (r ∷ a.log)
      less = count_less S (owing K a.log) (owing K (r ∷ a.log)) s hs ow (rw (eq-eqb s s refl)) (λ i ne. rw (ne_eqb i s ne))

      full : used K (r ∷ a.log) + (1 + K.m) * owed K S (r ∷ a.log) ≤ C - 1
      full = let z = rw less at I.room in omega arith

      held : Holds K S (in_head K (r ∷ a.log)) (is_good K a) (r ∷ a.log) a.blk l.dat
      held s' c' a₁ a₂ a₃ h = base s' c' a₁ a₂ a₃ refl ∙ sym (want-parity K L a.log l.dat s (check_rows K (λ i. row_of K a s (K.k + i))) s' c' h)

      cuts : (x : ℕ → ℕ → B) → Holds K S (in_head K (r ∷ a.log)) (is_good K a) (r ∷ a.log) x l.dat
          → Inv K S C (array (with_blocks (sealed a (r ∷ a.log) a.good) x) false) (stopped_b l)
      cuts x g = grown a l l.dat r I head fits full false l.empty em x g

  pub start-keeps : (a : State B) (t : Bool) (l : Book B) → Inv K S C (array a t) l
      → Always (finish K (is_good K a) a.log) a (Ended K S C (started_b l) (stopped_b l) (stopped_b l) (stopped_b l))
  start-keeps a t l I =
      finish-always K L S a.log l.dat _ a I.head I.fits
      (λ s c hs hc g h. I.blocks s c hs hc g (free t s c h))
      (λ x h. same_log true x (λ s c hs hc g _. h s c hs hc g refl))
      (λ d i x h. same_log false x h)
    where
      free : (t : Bool) (s c : ℕ) → in_head K a.log s c ≡ false → exempt K t a.log s c ≡ false
      free true s c h = refl
      free false s c h = h

      same_log : (t : Bool) (x : ℕ → ℕ → B)
          → Holds K S (exempt K t a.log) (is_good K a) a.log x l.dat
          → Inv K S C (array (record { live = a.live; good = a.good; log = a.log; blk = x }) t)
          (record { dat = l.dat; live = l.live; good = l.good; empty = l.empty; started = t })
      same_log t x held = record
          { started = refl; live = I.live; good = I.good; empty = I.empty; blocks = held; head = I.head; fits = I.fits; room = I.room; within = I.within }

  -- the invariant of the same log with other blocks, life and good stripes
  changed : (a : State B) (t₀ : Bool) (l : Book B) → Inv K S C (array a t₀) l → (t u : Bool) (lv lv' : ℕ → Bool) (gd gd' : ℕ → ℕ) (x : ℕ → ℕ → B)
      → u ≡ t → lv' ≡ lv → gd' ≡ gd → ((d : ℕ) → (gd d ≤ S) × (width K ≤ d → gd d ≡ 0))
      → Holds K S (exempt K t a.log) (λ s c. lv (slot K s c) && ltb s (gd (slot K s c))) a.log x l.dat
      → Inv K S C (array (record { live = lv; good = gd; log = a.log; blk = x }) t)
      (record { dat = l.dat; live = lv'; good = gd'; empty = l.empty; started = u })
  changed a t₀ l I t u lv lv' gd gd' x st el eg wi held = record
      { started = st; live = el; good = eg; empty = I.empty; blocks = held; head = I.head; fits = I.fits; room = I.room; within = wi }

  pub pull-keeps : (a : State B) (t : Bool) (l : Book B) (d : ℕ) (x : ℕ → B) → Inv K S C (array a t) l → Inv K S C (array (slotted a d false x) t) (live_b l d false)
  pull-keeps a t l d x I =
      changed a t l I t l.started (upd a.live d false) (upd l.live d false) a.good l.good (upd a.blk d x)
      I.started (ap (λ v. upd v d false) I.live) I.good I.within
      (λ s c hs hc g h. go x s (eqb (slot K s c) d) (a.live (slot K s c)) (ltb s (a.good (slot K s c))) (a.blk (slot K s c)) _ g (λ y. I.blocks s c hs hc y h))
    where
      go : (x : ℕ → B) (s : ℕ) (t u v : Bool) (f : ℕ → B) (w : B) → (cond t false u && v) ≡ true → ((u && v) ≡ true → f s ≡ w) → cond t x f s ≡ w
      go x s true u v f w h e = absurd (true≢false (sym h))
      go x s false u v f w h e = e h

  -- a stripe below the good stripes of a slot that is not d
  away : (good : ℕ → ℕ) (d s e : ℕ) (t v : Bool) → eqb e d ≡ t → (v && ltb s (cond t 0 (good e))) ≡ true → eqb e d ≡ false
  away good d s e false v k h = k
  away good d s e true v k h = absurd (omega (arith, ltb-true s 0 (and_parts v (ltb s 0) h).1))

  -- cell 0 says that slot d has no good stripes
  pub fit-keeps : (a : State B) (l : Book B) (d : ℕ) (h : Header) → Inv K S C (array a true) l
      → Always (seal a.log (upd a.good d 0) h ∷ []) a (Ended K S C (good_b l d 0) (stopped_b l) (stopped_b l) (stopped_b (good_b l d 0)))
  fit-keeps a l d h I = (lowered true l.started I.started, still a l I, lowered false false refl)
    where
      wi : (e : ℕ) (t : Bool) → (cond t 0 (a.good e) ≤ S) × (width K ≤ e → cond t 0 (a.good e) ≡ 0)
      wi e true = (omega arith, λ _. refl)
      wi e false = I.within e

      lowered : (t u : Bool) → u ≡ t → Inv K S C (array (sealed a a.log (upd a.good d 0)) t) (record { dat = l.dat; live = l.live; good = upd l.good d 0; empty = l.empty; started = u })
      lowered t u e = changed a true l I t u a.live l.live (upd a.good d 0) (upd l.good d 0) a.blk e I.live (ap (λ v. upd v d 0) I.good) (λ e. wi e (eqb e d))
          (λ s c hs hc g _. plain a l I s c hs hc (rw (away a.good d s (slot K s c) (eqb (slot K s c) d) (a.live (slot K s c)) refl g) at g) refl)

  -- a slot without good stripes gets a disk
  pub plug-keeps : (a : State B) (l : Book B) (d : ℕ) (x : ℕ → B) → Inv K S C (array (sealed a a.log (upd a.good d 0)) true) l
      → Inv K S C (array (slotted (sealed a a.log (upd a.good d 0)) d true x) true) (live_b l d true)
  plug-keeps a l d x I =
      changed (sealed a a.log (upd a.good d 0)) true l I true l.started (upd a.live d true) (upd l.live d true) (upd a.good d 0) l.good (upd a.blk d x)
      I.started (ap (λ v. upd v d true) I.live) I.good I.within
      (λ s c hs hc g _. let n = away a.good d s (slot K s c) (eqb (slot K s c) d) (upd a.live d true (slot K s c)) refl g in
      rw n (I.blocks s c hs hc (rw n (rw n at g)) refl))

  pub clear-keeps : (a : State B) (l : Book B) (h : Header) → Inv K S C (array a true) l → owed K S a.log ≤ 0
      → Always (seal [] a.good h ∷ []) a (Ended K S C (cleared_b l) (stopped_b l) (stopped_b l) (stopped_b (cleared_b l)))
  clear-keeps a l h I none-owed = (cleared true l.started I.started, still a l I, cleared false false refl)
    where
      paid : (s : ℕ) → s < S → pending K s a.log ≡ 0
      paid s hs = let z = ltb-false 0 (pending K s a.log) (count_none S (owing K a.log) (omega arith) s hs) in omega arith

      cleared : (t u : Bool) → u ≡ t
          → Inv K S C (array (record { live = a.live; good = a.good; log = []; blk = a.blk }) t)
          (record { dat = l.dat; live = l.live; good = l.good; empty = true; started = u })
      cleared t u e = record {
        started = e;
        live = I.live;
        good = I.good;
        empty = refl;
        blocks = λ s c hs hc g _. plain a l I s c hs hc g refl ∙ want-paid K L a.log l.dat s c (paid s hs);
        head = tt;
        fits = tt;
        room = rw (count-false S) (omega arith);
        within = I.within;
      }

  pub rebuild-keeps : (a : State B) (l : Book B) (d : ℕ) (v : B) (h : Header) → Inv K S C (array a true) l
      → d < width K → a.live d ≡ true → (a.good d ≡ S → ⊥) → lost_in K a (a.good d) ≤ K.m
      → v ≡ settled_with K a.log (a.good d) (column_on (width K) (a.good d) d) (row_of K a (a.good d) (column_on (width K) (a.good d) d))
      → Always (put d (a.good d) v ∷ (seal a.log (upd a.good d (a.good d + 1)) h ∷ [])) a
      (Ended K S C (good_b l d (l.good d + 1)) (stopped_b l) (stopped_b l) (stopped_b (good_b l d (l.good d + 1))))
  rebuild-keeps a l d v h I hd lv ns few v-is = (
    (
      changed a true l I true l.started a.live l.live gd (upd l.good d (l.good d + 1)) (upd2 a.blk d s v)
          I.started I.live eg (λ e. wi e (eqb e d) refl) (λ s' c' a₁ a₂ g _. new s' c' a₁ a₂ g),
      lose v,
      changed a true l I false false a.live l.live gd (upd l.good d (l.good d + 1)) (upd2 a.blk d s v)
          refl I.live eg (λ e. wi e (eqb e d) refl) (λ s' c' a₁ a₂ g _. new s' c' a₁ a₂ g),
    ),
    lose,
  )
    where
      s : ℕ
      s = a.good d

      c : ℕ
      c = column_on (width K) s d

      gd : ℕ → ℕ
      gd = upd a.good d (s + 1)

      base : Blocks K S none a l.dat
      base = plain a l I

      hs : s < S
      hs = let z = (I.within d).0 in omega arith

      hc : c < width K
      hc = mod-lt (d + (width K - s % width K)) (omega arith)

      at-d : slot K s c ≡ d
      at-d = column-slot (width K) s d hd

      eg : upd l.good d (l.good d + 1) ≡ gd
      eg = ap (λ z. upd z d (z d + 1)) I.good

      wi : (e : ℕ) (t : Bool) → eqb e d ≡ t → (cond t (s + 1) (a.good e) ≤ S) × (width K ≤ e → cond t (s + 1) (a.good e) ≡ 0)
      wi e true h = (let z : s < S = hs in omega arith, λ w. absurd (omega (arith, eqb-true e d h)))
      wi e false h = I.within e

      was_lost : is_good K a s c ≡ false
      was_lost = rw at-d (and_right (a.live d) (ltb s s) (le-ltb s s (omega arith)))

      right : v ≡ want K a.log l.dat s c
      right = v-is ∙ ap (settled_with K a.log s c) (row_is a l I s hs few c hc)

      kept : (y : B) → Holds K S none (is_good K a) a.log (upd2 a.blk d s y) l.dat
      kept y = subst (λ z. Holds K S none (is_good K a) a.log (upd2 a.blk z s y) l.dat) at-d
          (put-lost K S none (is_good K a) a.log a.blk l.dat s c y hc was_lost base)

      lose : (y : B) → Inv K S C (array (stored a d s y) false) (stopped_b l)
      lose y = changed a true l I false false a.live l.live a.good l.good (upd2 a.blk d s y) refl I.live I.good I.within
          (λ s' c' a₁ a₂ g _. kept y s' c' a₁ a₂ g refl)

      new : (s' c' : ℕ) → s' < S → c' < width K → (a.live (slot K s' c') && ltb s' (gd (slot K s' c'))) ≡ true
          → upd2 a.blk d s v (slot K s' c') s' ≡ want K a.log l.dat s' c'
      new s' c' a₁ a₂ g = go' (eqb (slot K s' c') d) (eqb s' s) refl refl g
        where
          go' : (t u : Bool) → eqb (slot K s' c') d ≡ t → eqb s' s ≡ u → (a.live (slot K s' c') && ltb s' (cond t (s + 1) (a.good (slot K s' c')))) ≡ true
              → cond (t && u) v (a.blk (slot K s' c') s') ≡ want K a.log l.dat s' c'
          go' true true h k g' =
              let e₁ : s' ≡ s = eqb-true s' s k in
              let e₂ : c' ≡ c = same_rest (width K) s c' c a₂ hc (ap (λ z. slot K z c') (sym e₁) ∙ (eqb-true (slot K s' c') d h ∙ sym at-d)) in
              right ∙ (ap (λ z. want K a.log l.dat z c) (sym e₁) ∙ ap (λ z. want K a.log l.dat s' z) (sym e₂))
          go' true false h k g' =
              let q = and_parts (a.live (slot K s' c')) (ltb s' (s + 1)) g' in
              let e₁ : a.good (slot K s' c') ≡ s = ap a.good (eqb-true (slot K s' c') d h) in
              let w : s' < a.good (slot K s' c') = omega (arith, ltb-true s' (s + 1) q.1, eqb-false s' s k) in
              base s' c' a₁ a₂ (and_from (a.live (slot K s' c')) (ltb s' (a.good (slot K s' c'))) q.0 (lt-ltb s' (a.good (slot K s' c')) w)) refl
          go' false u h k g' = base s' c' a₁ a₂ g' refl
