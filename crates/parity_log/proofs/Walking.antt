-- The walk over the log, one record on.
use Rattle.std.proofs.Common.{◌≡◌, ℕ, zero, suc, ◌+◌, ◌-◌, ◌<◌, ◌≤◌, Bool, true, false, cond, ◌&&◌, eqb, ltb, leb, List, [], ◌∷◌, length, Some, None, IfSome, Ok, Err, Option, sym, refl, ap, ◌∙◌, subst, inl, inr, arith}
use Rattle.std.proofs.lemmas.Bool.{lt-ltb, le-ltb, leb-true, ltb-true, ltb-false}
use Rattle.backplane.specs.Plane.{Plane, to_cell}
use Rattle.backplane.specs.Meaning.{Bytes, fault_of}
use Rattle.backplane.specs.declared.fault.BackplaneFault.TheVariants.{Off, NoPlace, Dead}
use Rattle.layout.specs.declared.head.Head.{Head}
use Rattle.layout.specs.declared.head.Head.TheVariants.{OfWrite, OfParity}
use Rattle.layout.specs.Head.{head_in, record_cells}
use Rattle.model.specs.Coding.{Coding}
use Rattle.model.specs.Log.{Rec, Walked, or_else, head_of, cells_of, record_from, record_at, walk_from, walk}
use Rattle.codes.specs.declared.code.Code.{Ghosts as CodeGhosts}
use Rattle.parity_log.specs.declared.log.Log.{Log}
use Rattle.parity_log.specs.Codes.{coding}
use Rattle.parity_log.specs.Walks.{head_at, fold_from, rest, parity_at, LastAt, last_head, last_parity, resume_at, walk_end, Over, Next}
use Rattle.faults.specs.declared.fault.LogFault.TheVariants.{Damaged}

pub cells-some : (rows : ℕ) (h : Head) → 1 ≤ record_cells rows h
cells-some rows (OfWrite s c) = omega arith
cells-some rows (OfParity s) = omega arith

two-cells : (rows : ℕ) (h : Head) → 1 ≤ rows → 2 ≤ record_cells rows h
two-cells rows (OfWrite s c) e = omega arith
two-cells rows (OfParity s) e = omega arith

pub or_else-none : {A R : Type 0} (o : Option A) (z : R) (f : A → R) → o ≡ None → or_else o z f ≡ z
or_else-none o z f e = rw e

pub or_else-some : {A R : Type 0} (o : Option A) (z : R) (f : A → R) (x : A) → o ≡ Some x → or_else o z f ≡ f x
or_else-some o z f x e = rw e

or_else-same : {A R : Type 0} (o : Option A) (z : R) (f g : A → R) → ((x : A) → f x ≡ g x) → or_else o z f ≡ or_else o z g
or_else-same None z f g e = refl
or_else-same (Some x) z f g e = e x

cond_same : {R : Type 0} (b : Bool) (x y z : R) → (b ≡ false → y ≡ z) → cond b x y ≡ cond b x z
cond_same true x y z e = refl
cond_same false x y z e = e refl

module _ {B : Type 0} (K : Coding B) (p : Plane B) (u : ℕ) where
  -- the record by its head
  pub head_of-record_from : (i : ℕ) (h : Head) → head_of K (record_from K p i h) ≡ h
  head_of-record_from i (OfWrite s c) = refl
  head_of-record_from i (OfParity s) = refl

  record-by : (i : ℕ) (o : Option Head) → or_else o None (λ h. cond (leb (i + record_cells K.m h) (u + 1)) (Some (record_from K p i h)) None)
      ≡ or_else (or_else o None (λ h. cond (leb (i + record_cells K.m h) (u + 1)) (Some h) None)) None (λ h. Some (record_from K p i h))
  record-by i None = refl
  record-by i (Some h) = elim (leb (i + record_cells K.m h) (u + 1))
      as (λ (b : Bool). cond b (Some (record_from K p i h)) None ≡ or_else (cond b (Some h) None) None (λ (h : Head). Some (record_from K p i h))) [ true ↦ refl | false ↦ refl ]

  pub record_at-by : (i : ℕ) → record_at K p u i ≡ or_else (head_at K p u i) None (λ h. Some (record_from K p i h))
  record_at-by i = record-by i (head_in K.k p.blocks (K.bytes (p.cell i)))

  pub record_at-none : (i : ℕ) → head_at K p u i ≡ None → record_at K p u i ≡ None
  record_at-none i e = record_at-by i ∙ or_else-none (head_at K p u i) None _ e

  pub record_at-some : (i : ℕ) (h : Head) → head_at K p u i ≡ Some h → record_at K p u i ≡ Some (record_from K p i h)
  record_at-some i h e = record_at-by i ∙ or_else-some (head_at K p u i) None _ h e

  -- a record that is there ends within the cells in use
  within_by : (i : ℕ) (o : Option Head) (h : Head) → or_else o None (λ h. cond (leb (i + record_cells K.m h) (u + 1)) (Some h) None) ≡ Some h → i + record_cells K.m h ≤ u + 1
  within_by i None h e = absurd (let z : ◌≡◌ {A = ℕ} 0 1 = cc in omega arith)
  within_by i (Some g) h e = go (leb (i + record_cells K.m g) (u + 1)) refl e
    where
      go : (b : Bool) → leb (i + record_cells K.m g) (u + 1) ≡ b → cond b (Some g) None ≡ Some h → i + record_cells K.m h ≤ u + 1
      go true t e =
          let s : g ≡ h = cc in
          let f : ℕ = i + record_cells K.m g in
          rw s at (leb-true (i + record_cells K.m g) (u + 1) t)
      go false t e = absurd (let z : ◌≡◌ {A = ℕ} 0 1 = cc in omega arith)

  pub head-within : (i : ℕ) (h : Head) → head_at K p u i ≡ Some h → i + record_cells K.m h ≤ u + 1
  head-within i h e = within_by i (head_in K.k p.blocks (K.bytes (p.cell i))) h e

  cells_of-from : (i : ℕ) (h : Head) → cells_of K (record_from K p i h) ≡ record_cells K.m h
  cells_of-from i h = ap (record_cells K.m) (head_of-record_from i h)

  abbrev ended : List (Rec B) → Option ℕ → Walked B
  ended l d = record { log = l; damage = d }

  abbrev next : ℕ → ℕ → List (Rec B) → Walked B
  next n i l = or_else (record_at K p u i) (ended l (Some i)) (λ r. walk_from K n p u (i + cells_of K r) (r ∷ l))

  walk-past : (n i : ℕ) (l : List (Rec B)) → u < i → walk_from K n p u i l ≡ ended l None
  walk-past zero i l h = refl
  walk-past (suc n) i l h = rw (lt-ltb u i h)

  walk_step : (n i : ℕ) (l : List (Rec B)) → i ≤ u → walk_from K (suc n) p u i l ≡ next n i l
  walk_step n i l h = rw (le-ltb u i h)

  cells_of-some : (r : Rec B) → 1 ≤ cells_of K r
  cells_of-some r = cells-some K.m (head_of K r)

  -- more fuel than cells makes no difference
  walk-enough : (n m i : ℕ) (l : List (Rec B)) → u < i + n → u < i + m → walk_from K n p u i l ≡ walk_from K m p u i l
  walk-enough zero m i l hn hm = sym (walk-past m i l (omega arith))
  walk-enough (suc n) zero i l hn hm = walk-past (suc n) i l (omega arith)
  walk-enough (suc n) (suc m) i l hn hm =
      cond_same (ltb u i) (ended l None) (next n i l) (next m i l) (λ e.
      or_else-same (record_at K p u i) (ended l (Some i)) _ _ (λ r. let s = cells_of-some r in walk-enough n m (i + cells_of K r) (r ∷ l) (omega arith) (omega arith)))

  -- the walk stands at cell i, with the records l before it
  abbrev pub Stands : ℕ → List (Rec B) → Type 0
  Stands i l = walk_from K (u + 1 - i) p u i l ≡ walk K p u

  pub stands-first : Stands 1 []
  stands-first = let e : u + 1 - 1 ≡ u = omega arith in ap (λ (n : ℕ). walk_from K n p u 1 []) e

  pub stands-past : (i : ℕ) (l : List (Rec B)) → u < i → Stands i l → walk K p u ≡ ended l None
  stands-past i l h s = sym s ∙ walk-past (u + 1 - i) i l h

  one_less : (i : ℕ) → i ≤ u → u + 1 - i ≡ suc (u - i)
  one_less i h = omega arith

  pub stands-damaged : (i : ℕ) (l : List (Rec B)) → i ≤ u → head_at K p u i ≡ None → Stands i l → walk K p u ≡ ended l (Some i)
  stands-damaged i l h e s =
      sym s ∙ ap (λ (n : ℕ). walk_from K n p u i l) (one_less i h) ∙ walk_step (u - i) i l h
      ∙ or_else-none (record_at K p u i) (ended l (Some i)) _ (record_at-none i e)

  pub stands-next : (i : ℕ) (l : List (Rec B)) (h : Head) → i ≤ u → head_at K p u i ≡ Some h → Stands i l → Stands (i + record_cells K.m h) (record_from K p i h ∷ l)
  stands-next i l h le e s =
      let r = record_from K p i h in
      let c = cells-some K.m h in
      let w : walk_from K (u - i) p u (i + cells_of K r) (r ∷ l) ≡ walk K p u =
      sym (sym s ∙ ap (λ (n : ℕ). walk_from K n p u i l) (one_less i le) ∙ walk_step (u - i) i l le
      ∙ or_else-some (record_at K p u i) (ended l (Some i)) _ r (record_at-some i h e)) in
      walk-enough (u + 1 - (i + record_cells K.m h)) (u - i) (i + record_cells K.m h) (r ∷ l) (omega arith) (omega arith)
      ∙ ap (λ (n : ℕ). walk_from K (u - i) p u (i + n) (r ∷ l)) (sym (cells_of-from i h)) ∙ w

  -- the same for what comes of x along the walk
  module _ {X : Type 0} (step : ℕ → Head → X → X) where
    abbrev fold_next : ℕ → ℕ → X → X
    fold_next n i x = or_else (head_at K p u i) x (λ h. fold_from K step n p u (i + record_cells K.m h) (step i h x))

    fold-past : (n i : ℕ) (x : X) → u < i → fold_from K step n p u i x ≡ x
    fold-past zero i x h = refl
    fold-past (suc n) i x h = rw (lt-ltb u i h)

    fold_step : (n i : ℕ) (x : X) → i ≤ u → fold_from K step (suc n) p u i x ≡ fold_next n i x
    fold_step n i x h = rw (le-ltb u i h)

    fold-enough : (n m i : ℕ) (x : X) → u < i + n → u < i + m → fold_from K step n p u i x ≡ fold_from K step m p u i x
    fold-enough zero m i x hn hm = sym (fold-past m i x (omega arith))
    fold-enough (suc n) zero i x hn hm = fold-past (suc n) i x (omega arith)
    fold-enough (suc n) (suc m) i x hn hm =
        cond_same (ltb u i) x (fold_next n i x) (fold_next m i x) (λ e.
        or_else-same (head_at K p u i) x _ _ (λ h. let s = cells-some K.m h in fold-enough n m (i + record_cells K.m h) (step i h x) (omega arith) (omega arith)))

    pub rest-first : (x : X) → rest K step p u 1 x ≡ fold_from K step u p u 1 x
    unfolding rest
    rest-first x = let e : u + 1 - 1 ≡ u = omega arith in ap (λ (n : ℕ). fold_from K step n p u 1 x) e

    pub rest-done : (i : ℕ) (x : X) → u < i → rest K step p u i x ≡ x
    unfolding rest
    rest-done i x h = fold-past (u + 1 - i) i x h

    pub rest-stop : (i : ℕ) (x : X) → i ≤ u → head_at K p u i ≡ None → rest K step p u i x ≡ x
    unfolding rest
    rest-stop i x h e = ap (λ (n : ℕ). fold_from K step n p u i x) (one_less i h) ∙ fold_step (u - i) i x h ∙ or_else-none (head_at K p u i) x _ e

    pub rest-step : (i : ℕ) (x : X) (h : Head) → i ≤ u → head_at K p u i ≡ Some h → rest K step p u i x ≡ rest K step p u (i + record_cells K.m h) (step i h x)
    unfolding rest
    rest-step i x h le e =
        let s = cells-some K.m h in
        ap (λ (n : ℕ). fold_from K step n p u i x) (one_less i le) ∙ fold_step (u - i) i x le ∙ or_else-some (head_at K p u i) x _ h e
        ∙ fold-enough (u - i) (u + 1 - (i + record_cells K.m h)) (i + record_cells K.m h) (step i h x) (omega arith) (omega arith)

  -- two walks side by side
  module _ {X Y : Type 0} (f : ℕ → Head → X → X) (g : ℕ → Head → Y → Y) (R : X → Y → Type 0) (both : (i : ℕ) (h : Head) (x : X) (y : Y) → R x y → R (f i h x) (g i h y)) where
    beside : (n i : ℕ) (x : X) (y : Y) → R x y → R (fold_from K f n p u i x) (fold_from K g n p u i y)
    beside zero i x y r = r
    beside (suc n) i x y r = go (ltb u i) (head_at K p u i) (λ h. beside n (i + record_cells K.m h) (f i h x) (g i h y) (both i h x y r))
      where
        go : (t : Bool) (o : Option Head) → ((h : Head) → R (fold_from K f n p u (i + record_cells K.m h) (f i h x)) (fold_from K g n p u (i + record_cells K.m h) (g i h y)))
            → R (cond t x (or_else o x (λ h. fold_from K f n p u (i + record_cells K.m h) (f i h x)))) (cond t y (or_else o y (λ h. fold_from K g n p u (i + record_cells K.m h) (g i h y))))
        go true o more = r
        go false None more = r
        go false (Some h) more = more h

    pub rest-beside : (i : ℕ) (x : X) (y : Y) → R x y → R (rest K f p u i x) (rest K g p u i y)
    unfolding rest
    rest-beside i x y r = beside (u + 1 - i) i x y r

  -- the log is what a walk gathers, newest first
  abbrev pub keep : ℕ → Head → List (Rec B) → List (Rec B)
  keep i h l = record_from K p i h ∷ l

  walk-next : (t : Bool) (o : Option Head) (i : ℕ) (l : List (Rec B)) (more : ℕ → List (Rec B) → Walked B) (after : ℕ → List (Rec B) → List (Rec B))
      → ((j : ℕ) (k : List (Rec B)) → (more j k).log ≡ after j k)
      → (cond t (ended l None) (or_else (or_else o None (λ h. Some (record_from K p i h))) (ended l (Some i)) (λ r. more (i + cells_of K r) (r ∷ l)))).log
      ≡ cond t l (or_else o l (λ h. after (i + record_cells K.m h) (record_from K p i h ∷ l)))
  walk-next true o i l more after e = refl
  walk-next false None i l more after e = refl
  walk-next false (Some h) i l more after e = e (i + cells_of K (record_from K p i h)) (record_from K p i h ∷ l) ∙ ap (λ (m : ℕ). after (i + m) (record_from K p i h ∷ l)) (cells_of-from i h)

  walk-over : (n i : ℕ) (l : List (Rec B)) → (walk_from K n p u i l).log ≡ fold_from K keep n p u i l
  walk-over zero i l = refl
  walk-over (suc n) i l =
      ap (λ (o : Option (Rec B)). (cond (ltb u i) (ended l None) (or_else o (ended l (Some i)) (λ r. walk_from K n p u (i + cells_of K r) (r ∷ l)))).log) (record_at-by i)
      ∙ walk-next (ltb u i) (head_at K p u i) i l (λ j k. walk_from K n p u j k) (λ j k. fold_from K keep n p u j k) (walk-over n)

  pub walk-is : rest K keep p u 1 [] ≡ (walk K p u).log
  walk-is = rest-first keep [] ∙ sym (walk-over u 1 [])

  -- the ends of a walk
  pub end-past : (i : ℕ) (last : Option ℕ) (l : List (Rec B)) → u < i → Stands i l → rest K (λ i h last. Some i) p u i last ≡ last_head K p u → Ok last ≡ walk_end K p u
  end-past i last l h s t =
      ap Ok (sym (rest-done (λ i h last. Some i) i last h) ∙ t) ∙ sym (or_else-none (walk K p u).damage (Ok (last_head K p u)) (λ i. Err (Damaged i)) (ap (λ (w : Walked B). w.damage) (stands-past i l h s)))

  pub end-damaged : (i : ℕ) (l : List (Rec B)) → i ≤ u → head_at K p u i ≡ None → Stands i l → Err (Damaged i) ≡ walk_end K p u
  end-damaged i l h e s =
      sym (or_else-some (walk K p u).damage (Ok (last_head K p u)) (λ i. Err (Damaged i)) i (ap (λ (w : Walked B). w.damage) (stands-damaged i l h e s)))

  -- the record that was last met is the log's last
  pub last-at : (i : ℕ) (h : Head) (l : List (Rec B)) → head_at K p u i ≡ Some h → LastAt K p u (Some i) (record_from K p i h ∷ l)
  last-at i h l e = (record_from K p i h, l, refl, record_at-some i h e)

  pub log-damaged : (i : ℕ) (l : List (Rec B)) → i ≤ u → head_at K p u i ≡ None → Stands i l → l ≡ (walk K p u).log
  log-damaged i l h e s = sym (ap (λ (w : Walked B). w.log) (stands-damaged i l h e s))

  pub log-past : (i : ℕ) (l : List (Rec B)) → u < i → Stands i l → l ≡ (walk K p u).log
  log-past i l h s = sym (ap (λ (w : Walked B). w.log) (stands-past i l h s))

  -- what a part of the log comes to, over all records of stripe s after its last parity record: by a step for each write record,
  -- where a parity record of s leaves nothing
  module _ {X : Type 0} (s : ℕ) (nil : X) (of : List (Rec B) → X) (step : ℕ → Head → X → X) (first : of [] ≡ nil)
      (wrote : (i t c : ℕ) (l : List (Rec B)) → of (record_from K p i (OfWrite t c) ∷ l) ≡ step i (OfWrite t c) (of l))
      (folded : (i t : ℕ) (l : List (Rec B)) → of (record_from K p i (OfParity t) ∷ l) ≡ cond (eqb s t) nil (of l))
      (skips : (i t : ℕ) (x : X) → step i (OfParity t) x ≡ x) where
    -- the last one found, or the one found before
    abbrev later : Option ℕ → Option ℕ → Option ℕ
    later None b = b
    later (Some i) b = Some i

    later-step : (b : Option ℕ) (i : ℕ) (h : Head) (x y : Option ℕ) → x ≡ later y b → parity_at s i h x ≡ later (parity_at s i h y) b
    later-step b i (OfWrite t c) x y e = e
    later-step b i (OfParity t) x y e = go (eqb s t)
      where
        go : (v : Bool) → cond v (Some i) x ≡ later (cond v (Some i) y) b
        go true = refl
        go false = e

    rest-later : (i : ℕ) (b : Option ℕ) → rest K (parity_at s) p u i b ≡ later (rest K (parity_at s) p u i None) b
    rest-later i b = rest-beside (parity_at s) (parity_at s) (λ x y. x ≡ later y b) (later-step b) i b None refl

    -- what is gathered from cell i on, with x from before: all of it, or what follows the last parity record
    abbrev gathered : ℕ → Option ℕ → X → X
    gathered i o x = or_else o (rest K step p u i x) (λ j. rest K step p u (j + (1 + K.m)) nil)

    Gathers : ℕ → List (Rec B) → Type 0
    Gathers i l = of (rest K keep p u i l) ≡ gathered i (rest K (parity_at s) p u i None) (of l)

    past-parity : (v : Bool) (i : ℕ) (x : X) (z : List (Rec B))
        → of z ≡ gathered (i + (1 + K.m)) (rest K (parity_at s) p u (i + (1 + K.m)) None) (cond v nil x)
        → of z ≡ gathered (i + (1 + K.m)) (rest K (parity_at s) p u (i + (1 + K.m)) (cond v (Some i) None)) x
    past-parity false i x z e = e
    past-parity true i x z e =
        e ∙ go (rest K (parity_at s) p u (i + (1 + K.m)) None)
        ∙ sym (ap (λ (o : Option ℕ). gathered (i + (1 + K.m)) o x) (rest-later (i + (1 + K.m)) (Some i)))
      where
        go : (o : Option ℕ) → gathered (i + (1 + K.m)) o nil ≡ gathered (i + (1 + K.m)) (later o (Some i)) x
        go None = refl
        go (Some j) = refl

    -- where nothing more is walked
    at-end : (i : ℕ) (l : List (Rec B)) → rest K keep p u i l ≡ l → rest K (parity_at s) p u i None ≡ None → rest K step p u i (of l) ≡ of l → Gathers i l
    unfolding Gathers
    at-end i l e f h = ap of e ∙ sym h ∙ sym (ap (λ (o : Option ℕ). gathered i o (of l)) f)

    at_head : (i : ℕ) (l : List (Rec B)) (h : Head) → i ≤ u → head_at K p u i ≡ Some h → Gathers (i + record_cells K.m h) (keep i h l) → Gathers i l
    unfolding Gathers
    at_head i l (OfWrite t c) low e ih =
        let last = rest K (parity_at s) p u (i + 3) None in
        ap of (rest-step keep i l (OfWrite t c) low e) ∙ ih ∙ ap (gathered (i + 3) last) (wrote i t c l)
        ∙ sym (ap (λ (o : Option ℕ). gathered i o (of l)) (rest-step (parity_at s) i None (OfWrite t c) low e)
        ∙ ap (λ (x : X). or_else last x (λ j. rest K step p u (j + (1 + K.m)) nil)) (rest-step step i (of l) (OfWrite t c) low e))
    at_head i l (OfParity t) low e ih =
        let on = i + (1 + K.m) in
        let last = rest K (parity_at s) p u on (cond (eqb s t) (Some i) None) in
        ap of (rest-step keep i l (OfParity t) low e)
        ∙ past-parity (eqb s t) i (of l) (rest K keep p u on (record_from K p i (OfParity t) ∷ l)) (ih ∙ ap (gathered on (rest K (parity_at s) p u on None)) (folded i t l))
        ∙ sym (ap (λ (o : Option ℕ). gathered i o (of l)) (rest-step (parity_at s) i None (OfParity t) low e)
        ∙ ap (λ (x : X). or_else last x (λ j. rest K step p u (j + (1 + K.m)) nil)) (rest-step step i (of l) (OfParity t) low e ∙ ap (rest K step p u on) (skips i t (of l))))

    past : (i : ℕ) (l : List (Rec B)) → u < i → Gathers i l
    past i l h = at-end i l (rest-done keep i l h) (rest-done (parity_at s) i None h) (rest-done step i (of l) h)

    gathers : (n i : ℕ) (l : List (Rec B)) → u < n + i → Gathers i l
    gathers zero i l h = past i l (omega arith)
    gathers (suc n) i l h = go (ltb u i) refl (head_at K p u i) refl (λ a. let c = cells-some K.m a in gathers n (i + record_cells K.m a) (keep i a l) (omega arith))
      where
        go : (t : Bool) → ltb u i ≡ t → (o : Option Head) → head_at K p u i ≡ o → ((a : Head) → Gathers (i + record_cells K.m a) (keep i a l)) → Gathers i l
        go true e o f more = past i l (ltb-true u i e)
        go false e None f more =
            let low : i ≤ u = ltb-false u i e in
            at-end i l (rest-stop keep i l low f) (rest-stop (parity_at s) i None low f) (rest-stop step i (of l) low f)
        go false e (Some a) f more = at_head i l a (ltb-false u i e) f (more a)

    pub gathered-is : of (walk K p u).log ≡ rest K step p u (resume_at K (last_parity K p u s)) nil
    unfolding Gathers
    gathered-is =
        ap of (sym walk-is) ∙ gathers u 1 [] (omega arith) ∙ ap (gathered 1 (rest K (parity_at s) p u 1 None)) first
        ∙ ap (λ (o : Option ℕ). gathered 1 o nil) (rest-first (parity_at s) None) ∙ go (last_parity K p u s)
      where
        go : (o : Option ℕ) → gathered 1 o nil ≡ rest K step p u (resume_at K o) nil
        go None = refl
        go (Some j) = refl

-- a cell that is there can be read where the power is on
by-tests : (a b c : Bool) → a ≡ true → b ≡ true → c ≡ true → cond a (cond (b && c) None (Some NoPlace)) (Some Off) ≡ None
by-tests a b c p q r = rw (p, q, r) refl

then-tests : (a b c : Bool) → cond a (cond (b && c) None (Some NoPlace)) (Some Off) ≡ None → (a ≡ true) × (b ≡ true) × (c ≡ true)
then-tests true true true e = (refl, refl, refl)
then-tests true true false e = absurd (let z : ◌≡◌ {A = ℕ} 0 1 = cc in omega arith)
then-tests true false c e = absurd (let z : ◌≡◌ {A = ℕ} 0 1 = cc in omega arith)
then-tests false b c e = absurd (let z : ◌≡◌ {A = ℕ} 0 1 = cc in omega arith)

-- a read into as many bytes has the same fault
pub fault-same : (u : ℕ) (x y : List ℕ) (p : Bytes) → length x ≡ length y → fault_of (to_cell u x) p ≡ fault_of (to_cell u y) p
fault-same u x y p e = ap (λ (n : ℕ). cond p.on (cond (ltb u p.cells && eqb n 512) (cond true None (Some Dead)) (Some NoPlace)) (Some Off)) e

pub fault-kept : (u : ℕ) (x y : List ℕ) (p q : Bytes) → length x ≡ length y → q ≡ p → fault_of (to_cell u y) p ≡ None → fault_of (to_cell u x) q ≡ None
fault-kept u x y p q e k n = fault-same u x y q e ∙ ap (fault_of (to_cell u y)) k ∙ n

-- what is said of a value that is there
pub of_some : {A : Type 0} (P : A → Type 0) (o : Option A) (x : A) → IfSome o P → o ≡ Some x → P x
of_some P None x h e = absurd (let z : ◌≡◌ {A = ℕ} 0 1 = cc in omega arith)
of_some P (Some y) x h e = let same : y ≡ x = cc in subst P same h

-- the cell of a stripe's last parity record stays below a bound
pub last_within : (s i : ℕ) (h : Head) (o : Option ℕ) → IfSome o (λ j. j < 4096) → i < 4096 → IfSome (parity_at s i h o) (λ j. j < 4096)
last_within s i (OfWrite t c) o e low = e
last_within s i (OfParity t) o e low = go (eqb s t)
  where
    go : (v : Bool) → IfSome (cond v (Some i) o) (λ j. j < 4096)
    go true = low
    go false = e

pub readable : (u : ℕ) (x : List ℕ) (p : Bytes) → p.on ≡ true → u < p.cells → length x ≡ 512 → fault_of (to_cell u x) p ≡ None
readable u x p on there size = by-tests p.on (ltb u p.cells) (eqb (length x) 512) on (lt-ltb u p.cells there) (ap (λ (n : ℕ). eqb n 512) size)

-- a log whose last cell can be read has none that cannot
pub can-read : (u i : ℕ) (x y : List ℕ) (p q : Bytes) → fault_of (to_cell u x) p ≡ None → q ≡ p → length y ≡ length x → i ≤ u → fault_of (to_cell i y) q ≡ None
can-read u i x y p q n k e le =
    let w = then-tests p.on (ltb u p.cells) (eqb (length x) 512) n in
    let there : i < p.cells = omega (arith, ltb-true u p.cells w.1) in
    ap (fault_of (to_cell i y)) k ∙ by-tests p.on (ltb i p.cells) (eqb (length y) 512) w.0 (lt-ltb i p.cells there) (ap (λ (n : ℕ). eqb n 512) e ∙ w.2)

-- the record that begins in cell i: its cell and head, and the cell j after it
pub record Met (K : Coding (List ℕ)) (v : Bytes) (u i at : ℕ) (h : Head) (j : ℕ) : Type 0 where
  pub here : at ≡ i
  pub low : i ≤ u
  pub head : head_at K v u i ≡ Some h
  pub on : j ≡ i + record_cells K.m h
  pub within : j ≤ u + 1
  pub more : i < j
  pub two : 1 ≤ K.m → i + 2 ≤ j

-- a look for the next record, over a backplane and a log that are still as they were
module _ {C : Type 0} (code : CodeGhosts C) (q v : Bytes) (l log : Log) (i : ℕ) (x : List ℕ) (j : ℕ) (kept : q ≡ v) (same : l ≡ log) where
  moved : (o : Option (ℕ × Head)) → Next (coding code l.columns) q l.used i x (Ok o) j → Next (coding code log.columns) v log.used i x (Ok o) j
  moved o h =
      subst (λ (m : Log). Next (coding code m.columns) v m.used i x (Ok o) j) same
      (subst (λ (p : Bytes). Next (coding code l.columns) p l.used i x (Ok o) j) kept h)

  pub next-some : (o : Option (ℕ × Head)) (r : ℕ × Head) → Next (coding code l.columns) q l.used i x (Ok o) j → o ≡ Some r → Met (coding code log.columns) v log.used i r.0 r.1 j
  next-some o r h e = met (subst (λ (w : Option (ℕ × Head)). Next (coding code log.columns) v log.used i x (Ok w) j) e (moved o h))
    where
      met : Next (coding code log.columns) v log.used i x (Ok (Some r)) j → Met (coding code log.columns) v log.used i r.0 r.1 j
      met n =
          let w = head-within (coding code log.columns) v log.used i r.1 n.3 in
          let c = cells-some code.ROWS r.1 in
          record { here = n.0; low = n.1; head = n.3; on = n.4; within = omega (arith, n.4); more = omega (arith, n.4); two = λ m. let t = two-cells code.ROWS r.1 m in omega (arith, n.4) }

  pub next-none : (o : Option (ℕ × Head)) → Next (coding code l.columns) q l.used i x (Ok o) j → o ≡ None → Over (coding code log.columns) v log.used i x × (j ≡ i)
  next-none o h e = subst (λ (w : Option (ℕ × Head)). Next (coding code log.columns) v log.used i x (Ok w) j) e (moved o h)

pub rest-over : {X : Type 0} (K : Coding (List ℕ)) (v : Bytes) (u i : ℕ) (x : List ℕ) (step : ℕ → Head → X → X) (y : X) → Over K v u i x → rest K step v u i y ≡ y
rest-over K v u i x step y (inl past) = rest-done K v u step i y past
rest-over K v u i x step y (inr stop) = rest-stop K v u step i y stop.0 stop.2

pub rest-met : {X : Type 0} (K : Coding (List ℕ)) (v : Bytes) (u i at : ℕ) (h : Head) (j : ℕ) (step : ℕ → Head → X → X) (y : X) → Met K v u i at h j → rest K step v u j (step at h y) ≡ rest K step v u i y
rest-met K v u i at h j step y m =
    ap (λ (a : ℕ). rest K step v u j (step a h y)) m.here ∙ ap (λ (a : ℕ). rest K step v u a (step i h y)) m.on ∙ sym (rest-step K v u step i y h m.low m.head)
