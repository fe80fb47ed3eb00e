-- A code over bytes is a code over blocks.
use Rattle.std.proofs.Common.{◌≡◌, ℕ, zero, suc, ◌+◌, ◌-◌, ◌<◌, ◌≤◌, Bool, true, false, cond, not, ◌&&◌, ltb, ◌⊎◌, List, ◌∷◌, map, length, get_or, take, replicate, sym, refl, ap, ◌∙◌, ap₂, inl, inr, add-zero, add-suc, zero-add, arith, length-take, get_or-take, get_or-append-add}
use lib.ListN.{get_or-append, get_or-eq_default}
use lib.Bits.{bit_xor}
use Rattle.std.specs.List.{range_with_len}
use Rattle.std.proofs.lemmas.List.FromFn.{get_or-map-range_with_len, length-map-range_with_len}
use Rattle.std.proofs.lemmas.Bool.{true≢false, ltb-true, ltb-false, lt-ltb, le-ltb, and_parts, not-true, not-false}
use Rattle.layout.specs.Bytes.{sum_of}
use Rattle.layout.specs.Counts.{count}
use Rattle.model.specs.Coding.{Coding, across, check_bytes, solve_bytes, zeros}
use Rattle.model.proofs.Laws.{CodeLaws, Low, coded, lost_place, Solves}
use Rattle.model.proofs.Lawful.{Lawful, word_of}
use Rattle.model.proofs.Counts.{count_same}
use Rattle.model.proofs.Block.{Block, byte_at, is_sector, in_block, low-made, low-at, sector-from, byte_low, block-ext, plus, none, byte-plus, byte-none, zeros-at, plus_assoc, plus_comm, plus_none, plus-self, pack, pack-bytes}

-- counting
count-split : (a b : ℕ) (f : ℕ → Bool) → count (a + b) f ≡ count a f + count b (λ i. f (a + i))
count-split a zero f = rw (add-zero, add-zero)
count-split a (suc b) f = rw (add-suc a b, count-split a b f) (omega arith)

count-not : (n : ℕ) (f : ℕ → Bool) → count n f + count n (λ i. not (f i)) ≡ n
count-not zero f = refl
count-not (suc n) f = go (f n) (count-not n f)
  where
    go : (t : Bool) → count n f + count n (λ i. not (f i)) ≡ n → cond t 1 0 + count n f + (cond (not t) 1 0 + count n (λ i. not (f i))) ≡ suc n
    go true h = omega arith
    go false h = omega arith

-- of those that pass, the e lowest
abbrev first : ℕ → (ℕ → Bool) → ℕ → Bool
first e f q = f q && ltb (count q f) e

count-first : (n e : ℕ) (f : ℕ → Bool) → ((count n f ≤ e) × (count n (first e f) ≡ count n f)) ⊎ ((e ≤ count n f) × (count n (first e f) ≡ e))
count-first zero e f = inl (omega arith, refl)
count-first (suc n) e f = go (f n) (ltb (count n f) e) refl (count-first n e f)
  where
    go : (t u : Bool) → ltb (count n f) e ≡ u → ((count n f ≤ e) × (count n (first e f) ≡ count n f)) ⊎ ((e ≤ count n f) × (count n (first e f) ≡ e))
        → ((cond t 1 0 + count n f ≤ e) × (cond (t && u) 1 0 + count n (first e f) ≡ cond t 1 0 + count n f))
        ⊎ ((e ≤ cond t 1 0 + count n f) × (cond (t && u) 1 0 + count n (first e f) ≡ e))
    go true true h (inl i) = inl (omega (arith, ltb-true (count n f) e h), omega arith)
    go true true h (inr i) = absurd (omega (arith, ltb-true (count n f) e h))
    go true false h (inl i) = inr (omega (arith, ltb-false (count n f) e h), omega (arith, ltb-false (count n f) e h))
    go true false h (inr i) = inr (omega arith, omega arith)
    go false u h (inl i) = inl (omega arith, omega arith)
    go false u h (inr i) = inr (omega arith, omega arith)

-- rows of bytes across blocks
pub across-long : (n : ℕ) (d : ℕ → List ℕ) (i : ℕ) → length (across n d i) ≡ n
across-long n d i = length-map-range_with_len (λ j. get_or (d j) i 0) 0 n

pub across-at : (n : ℕ) (d : ℕ → List ℕ) (i j : ℕ) → j < n → get_or (across n d i) j 0 ≡ get_or (d j) i 0
across-at n d i j h = get_or-map-range_with_len (λ j. get_or (d j) i 0) 0 n j j 0 h (zero-add j)

pub map_same : (f g : ℕ → ℕ) (a n : ℕ) → ((j : ℕ) → j < a + n → f j ≡ g j) → map f (range_with_len a n) ≡ map g (range_with_len a n)
map_same f g a zero h = refl
map_same f g a (suc n) h = ap₂ (λ x (xs : List ℕ). x ∷ xs) (h a (omega arith)) (map_same f g (a + 1) n (λ j hj. h j (omega arith)))

map-zeros : (a n : ℕ) → map {B = ℕ} (λ j. 0) (range_with_len a n) ≡ replicate n 0
map-zeros a zero = refl
map-zeros a (suc n) = ap (λ (xs : List ℕ). 0 ∷ xs) (map-zeros (a + 1) n)

map-sum : (f g : ℕ → ℕ) (a n : ℕ) → map (λ j. bit_xor (f j) (g j)) (range_with_len a n) ≡ sum_of (map f (range_with_len a n)) (map g (range_with_len a n))
map-sum f g a zero = refl
map-sum f g a (suc n) = ap (λ (xs : List ℕ). bit_xor (f a) (g a) ∷ xs) (map-sum f g (a + 1) n)

pub across-low : (n : ℕ) (d : ℕ → Block) (i : ℕ) → Low (across n (λ j. (d j).0) i)
across-low n d i = low-at (across n (λ j. (d j).0) i) (low-made (λ j. get_or (d j).0 i 0) n 0 (λ j. byte_low (d j) i))

module _ (number rows : ℕ) (check : ℕ → List ℕ → ℕ) (solved : ℕ → List ℕ → List Bool → List ℕ) (W : CodeLaws number rows check solved)
    (k : ℕ) (h2 : 2 ≤ k) (h12 : k ≤ 12) where
  -- place c of the coded row
  abbrev entry : List ℕ → ℕ → ℕ
  entry D c = cond (ltb c k) (get_or D c 0) (check (c - k) D)

  entry-coded : (D : List ℕ) (c : ℕ) → length D ≡ k → c < k + rows → get_or (coded check rows D) c 0 ≡ entry D c
  entry-coded D c hl hc = go (ltb c k) refl
    where
      go : (t : Bool) → ltb c k ≡ t → get_or (coded check rows D) c 0 ≡ cond t (get_or D c 0) (check (c - k) D)
      go true e = get_or-append D (map (λ r. check r D) (range_with_len 0 rows)) 0 c (omega (arith, ltb-true c k e))
      go false e =
          let ge : k ≤ c = ltb-false c k e in
          let back : length D + (c - k) ≡ c = omega arith in
          ap (λ z. get_or (coded check rows D) z 0) (sym back) ∙ (get_or-append-add D (map (λ r. check r D) (range_with_len 0 rows)) (c - k) 0
          ∙ get_or-map-range_with_len (λ r. check r D) 0 rows (c - k) (c - k) 0 (omega arith) (zero-add (c - k)))

  -- the row of the data that agrees with the kept bytes is what solving gives
  module _ (row : List ℕ) (lost : ℕ → Bool) (D : List ℕ) (hr : length row ≡ k + rows) (lr : Low row) (h_d : length D ≡ k) (l_d : Low D)
      (few : count (k + rows) lost ≤ rows) (agree : (c : ℕ) → c < k + rows → lost c ≡ false → get_or row c 0 ≡ entry D c) where
    abbrev marks : List Bool
    marks = map lost (range_with_len 0 (k + rows))

    abbrev out : List ℕ
    out = solved k row marks

    mark-is : (c : ℕ) → c < k + rows → lost_place marks c ≡ lost c
    mark-is c h = get_or-map-range_with_len lost 0 (k + rows) c c false h (zero-add c)

    few-marks : count (k + rows) (lost_place marks) ≤ rows
    few-marks = let z = count_same (k + rows) (lost_place marks) lost mark-is in omega arith

    done : Solves check rows k row marks out
    done = W.solves k row marks h2 h12 hr (length-map-range_with_len lost 0 (k + rows)) few-marks lr

    abbrev kept : ℕ → Bool
    kept q = not (lost (k + q))

    abbrev gone : ℕ
    gone = count k lost

    -- where the two rows may differ
    abbrev differ : ℕ → Bool
    differ c = cond (ltb c k) (lost c) (not (first gone kept (c - k)))

    differ-data : count k differ ≡ gone
    differ-data = count_same k differ lost (λ c h. rw (lt-ltb c k h))

    at-check : (q : ℕ) (t : Bool) (v : ℕ) → t ≡ false → v ≡ q → cond t (lost (k + q)) (not (first gone kept v)) ≡ not (first gone kept q)
    at-check q false v h i = rw i
    at-check q true v h i = absurd (true≢false h)

    differ-check : count rows (λ q. differ (k + q)) ≡ count rows (λ q. not (first gone kept q))
    differ-check = count_same rows (λ q. differ (k + q)) (λ q. not (first gone kept q)) (λ q h. at-check q (ltb (k + q) k) (k + q - k) (le-ltb (k + q) k (omega arith)) (omega arith))

    sized : count (k + rows) differ ≤ rows
    sized =
        let s₁ = count-split k rows differ in
        let s₂ = differ-data in
        let s₃ = differ-check in
        let s₄ = count-not rows (first gone kept) in
        let s₅ = count-not rows (λ q. lost (k + q)) in
        let s₆ = count-split k rows lost in
        omega (arith, count-first rows gone kept)

    front : List ℕ
    front = take k out

    front_long : length (take k out) ≡ k
    front_long = length-take k out ∙ (let z = done.long in omega arith)

    front_at : (c : ℕ) → c < k → get_or (take k out) c 0 ≡ get_or out c 0
    front_at c h = get_or-take k out c 0 h

    front_low : Low (take k out)
    front_low j = go (ltb j k) refl
      where
        go : (t : Bool) → ltb j k ≡ t → get_or (take k out) j 0 < 256
        go true e = rw (get_or-take k out j 0 (ltb-true j k e)) (done.bytes j)
        go false e = rw (get_or-eq_default (take k out) 0 (let z : length (take k out) ≤ j = omega (arith, front_long, ltb-false j k e) in z)) (omega arith)

    kept-is : (c : ℕ) → c < k + rows → lost c ≡ false → get_or out c 0 ≡ entry D c
    kept-is c h a = done.kept c h (mark-is c h ∙ a) ∙ agree c h a

    alike : (c : ℕ) → c < k + rows → differ c ≡ false → entry (take k out) c ≡ entry D c
    alike c h a = go (ltb c k) refl a
      where
        go : (t : Bool) → ltb c k ≡ t → cond t (lost c) (not (first gone kept (c - k))) ≡ false
            → cond t (get_or (take k out) c 0) (check (c - k) (take k out)) ≡ cond t (get_or D c 0) (check (c - k) D)
        go true t a = front_at c (ltb-true c k t) ∙ (kept-is c h a ∙ rw t)
        go false t a =
            let ge : k ≤ c = ltb-false c k t in
            let q = and_parts (kept (c - k)) (ltb (count (c - k) kept) gone) (not-false (first gone kept (c - k)) a) in
            let back : k + (c - k) ≡ c = omega arith in
            let here : lost (k + (c - k)) ≡ false = not-true (lost (k + (c - k))) q.0 in
            let e₁ : count (c - k) (λ p. not (lost_place marks (k + p))) ≡ count (c - k) kept = count_same (c - k) (λ p. not (lost_place marks (k + p))) kept (λ p hp. ap not (mark-is (k + p) (omega arith))) in
            let e₂ : count k (lost_place marks) ≡ gone = count_same k (lost_place marks) lost (λ p hp. mark-is p (omega arith)) in
            done.lowest (c - k) (omega arith) (mark-is (k + (c - k)) (omega arith) ∙ here) (omega (arith, ltb-true (count (c - k) kept) gone q.1))
            ∙ (ap (λ z. get_or row z 0) back ∙ (agree c h (ap lost (sym back) ∙ here) ∙ rw t))

    same-data : take k out ≡ D
    same-data = W.apart (take k out) D differ (front_long ∙ sym h_d) (omega (arith, front_long)) front_low l_d (rw front_long sized)
        (λ c h a. let h' : c < k + rows = omega (arith, front_long) in entry-coded (take k out) c front_long h' ∙ (alike c h' a ∙ sym (entry-coded D c h_d h')))

    pub solved-is : (c : ℕ) → c < k + rows → get_or out c 0 ≡ entry D c
    solved-is c h = go (lost c) (ltb c k) refl refl
      where
        go : (t u : Bool) → lost c ≡ t → ltb c k ≡ u → get_or out c 0 ≡ entry D c
        go false u a b = kept-is c h a
        go true true a b = sym (front_at c (ltb-true c k b)) ∙ (ap (λ z. get_or z c 0) same-data ∙ rw b)
        go true false a b =
            let ge : k ≤ c = ltb-false c k b in
            let back : k + (c - k) ≡ c = omega arith in
            ap (λ z. get_or out z 0) (sym back) ∙ (done.made (c - k) (omega arith) (mark-is (k + (c - k)) (omega arith) ∙ (ap lost back ∙ a))
            ∙ (ap (check (c - k)) same-data ∙ rw b))

  -- the check of blocks
  pub check-sector : (r : ℕ) (d : ℕ → Block) → is_sector (check_bytes check k r (λ j. (d j).0)) ≡ true
  unfolding check_bytes
  check-sector r d = sector-from (map (λ i. check r (across k (λ j. (d j).0) i)) (range_with_len 0 512)) (length-map-range_with_len (λ i. check r (across k (λ j. (d j).0) i)) 0 512)
      (low-made (λ i. check r (across k (λ j. (d j).0) i)) 512 0 (λ i. W.low r (across k (λ j. (d j).0) i) (across-low k d i)))

  abbrev pub check_of : ℕ → (ℕ → Block) → Block
  check_of r d = in_block (check_bytes check k r (λ j. (d j).0)) (check-sector r d)

  abbrev pub solve_of : (ℕ → Bool) → (ℕ → Block) → ℕ → Block
  solve_of lost raw c = pack (solve_bytes solved k (k + rows) lost (λ j. (raw j).0) c)

  pub byte-check : (r : ℕ) (d : ℕ → Block) (i : ℕ) → i < 512 → byte_at (check_of r d) i ≡ check r (across k (λ j. (d j).0) i)
  unfolding check_bytes
  byte-check r d i h = get_or-map-range_with_len (λ i. check r (across k (λ j. (d j).0) i)) 0 512 i i 0 h (zero-add i)

  solving : (lost : ℕ → Bool) (raw : ℕ → Block) (i : ℕ) → count (k + rows) lost ≤ rows
      → Solves check rows k (across (k + rows) (λ j. (raw j).0) i) (map lost (range_with_len 0 (k + rows))) (solved k (across (k + rows) (λ j. (raw j).0) i) (map lost (range_with_len 0 (k + rows))))
  solving lost raw i few = W.solves k (across (k + rows) (λ j. (raw j).0) i) (map lost (range_with_len 0 (k + rows))) h2 h12 (across-long (k + rows) (λ j. (raw j).0) i)
      (length-map-range_with_len lost 0 (k + rows))
      (let z = count_same (k + rows) (lost_place (map lost (range_with_len 0 (k + rows)))) lost (λ c h. get_or-map-range_with_len lost 0 (k + rows) c c false h (zero-add c)) in omega arith)
      (across-low (k + rows) raw i)

  solve-sector : (lost : ℕ → Bool) (raw : ℕ → Block) (c : ℕ) → count (k + rows) lost ≤ rows → is_sector (solve_bytes solved k (k + rows) lost (λ j. (raw j).0) c) ≡ true
  unfolding solve_bytes
  solve-sector lost raw c few = sector-from (map f (range_with_len 0 512)) (length-map-range_with_len f 0 512) (low-made f 512 0 (λ i. (solving lost raw i few).bytes c))
    where
      f : ℕ → ℕ
      f i = get_or (solved k (across (k + rows) (λ j. (raw j).0) i) (map lost (range_with_len 0 (k + rows)))) c 0

  pub solve-bytes : (lost : ℕ → Bool) (raw : ℕ → Block) (c : ℕ) → count (k + rows) lost ≤ rows → (solve_of lost raw c).0 ≡ solve_bytes solved k (k + rows) lost (λ j. (raw j).0) c
  solve-bytes lost raw c few = pack-bytes (solve_bytes solved k (k + rows) lost (λ j. (raw j).0) c) (solve-sector lost raw c few)

  byte-solve : (lost : ℕ → Bool) (raw : ℕ → Block) (c i : ℕ) → count (k + rows) lost ≤ rows → i < 512
      → byte_at (solve_of lost raw c) i ≡ get_or (solved k (across (k + rows) (λ j. (raw j).0) i) (map lost (range_with_len 0 (k + rows)))) c 0
  unfolding solve_bytes
  byte-solve lost raw c i few h = ap (λ (z : List ℕ). get_or z i 0) (solve-bytes lost raw c few)
      ∙ get_or-map-range_with_len (λ i. get_or (solved k (across (k + rows) (λ j. (raw j).0) i) (map lost (range_with_len 0 (k + rows)))) c 0) 0 512 i i 0 h (zero-add i)

  byte_word : (d : ℕ → Block) (c i : ℕ) → i < 512 → byte_at (word_of k check_of d c) i ≡ entry (across k (λ j. (d j).0) i) c
  byte_word d c i h = go (ltb c k) refl
    where
      go : (t : Bool) → ltb c k ≡ t → byte_at (cond t (d c) (check_of (c - k) d)) i ≡ cond t (get_or (across k (λ j. (d j).0) i) c 0) (check (c - k) (across k (λ j. (d j).0) i))
      go true e = sym (across-at k (λ j. (d j).0) i c (ltb-true c k e))
      go false e = byte-check (c - k) d i h

  abbrev pub block_coding : Coding Block
  block_coding = record { k = k; m = rows; number = number; add = plus; nil = none; check = check_of; solve = solve_of; pack = pack; bytes = λ x. x.0 }

  pub lawful : Lawful block_coding
  lawful = record {
    some = omega arith;
    assoc = plus_assoc;
    comm = plus_comm;
    unit = plus_none;
    self = plus-self;
    check-nil = λ r. block-ext (check_of r (λ _. none)) none (λ i h.
        byte-check r (λ _. none) i h ∙ (ap (check r) (map_same (λ j. get_or zeros i 0) (λ j. 0) 0 k (λ j _. zeros-at i) ∙ map-zeros 0 k) ∙ (W.zero r k ∙ sym (byte-none i))));
    check-add = λ r d f. block-ext (check_of r (λ j. plus (d j) (f j))) (plus (check_of r d) (check_of r f)) (λ i h.
        byte-check r (λ j. plus (d j) (f j)) i h
        ∙ (ap (check r) (map_same (λ j. byte_at (plus (d j) (f j)) i) (λ j. bit_xor (byte_at (d j) i) (byte_at (f j) i)) 0 k (λ j _. byte-plus (d j) (f j) i)
        ∙ map-sum (λ j. byte_at (d j) i) (λ j. byte_at (f j) i) 0 k)
        ∙ (W.additive r (across k (λ j. (d j).0) i) (across k (λ j. (f j).0) i) (across-long k (λ j. (d j).0) i ∙ sym (across-long k (λ j. (f j).0) i)) (across-low k d i) (across-low k f i)
        ∙ sym (byte-plus (check_of r d) (check_of r f) i ∙ ap₂ bit_xor (byte-check r d i h) (byte-check r f i h)))));
    check-below = λ r d f e. block-ext (check_of r d) (check_of r f) (λ i h.
        byte-check r d i h ∙ (ap (check r) (map_same (λ j. byte_at (d j) i) (λ j. byte_at (f j) i) 0 k (λ j hj. ap (λ x. byte_at x i) (e j (omega arith)))) ∙ sym (byte-check r f i h)));
    solve-right = λ lost raw d few agree c hc. block-ext (solve_of lost raw c) (word_of k check_of d c) (λ i h.
        byte-solve lost raw c i few h
        ∙ (solved-is (across (k + rows) (λ j. (raw j).0) i) lost (across k (λ j. (d j).0) i) (across-long (k + rows) (λ j. (raw j).0) i) (across-low (k + rows) raw i)
        (across-long k (λ j. (d j).0) i) (across-low k d i) few
        (λ c' h' a'. across-at (k + rows) (λ j. (raw j).0) i c' h' ∙ (ap (λ x. byte_at x i) (agree c' h' a') ∙ byte_word d c' i h)) c hc
        ∙ sym (byte_word d c i h)));
  }
