-- A row that is read, given the pending shares and solved is the stripe's row.
use Rattle.std.proofs.Common.{◌≡◌, ℕ, zero, suc, ◌+◌, ◌*◌, ◌<◌, ◌≤◌, Bool, true, false, cond, not, ◌&&◌, eqb, ltb, leb, List, [], ◌∷◌, ◌++◌, map, length, get_or, take, drop, set, replicate, sym, refl, ap, ◌∙◌, subst, add-one, arith}
use Rattle.std.specs.List.{range_with_len}
use Rattle.std.proofs.lemmas.List.FromFn.{fill_by_all, length-map-range_with_len, get_or-map-range_with_len, take-map-range_with_len, map-range_with_len_more}
use Rattle.std.proofs.lemmas.List.{get_or-take, drop_all, get_or-set_same, get_or-set_other, get_or-replicate, length-replicate}
use Rattle.std.proofs.lemmas.Bool.{eqb-true, eqb-false}
use Rattle.std.proofs.lemmas.Bool.Decides.{nat_tests}
use Rattle.codes.specs.Code.{lost_count, solvable}
use Rattle.layout.specs.Counts.{count}
use Rattle.codes.specs.declared.code.Code.{Ghosts as CodeGhosts}
use Rattle.parity_log.specs.Codes.{coding}
use Rattle.model.specs.Coding.{Coding, across, solve_bytes, zeros}
use Rattle.model.specs.Row.{lost_at, settled_with, raw}
use Rattle.model.specs.Rules.{good_of, is_lost, log_of}
use Rattle.backplane.specs.Meaning.{Bytes}
use Rattle.layout.specs.declared.header.Header.{Header}
use Rattle.layout.specs.Stripes.{slot_of}
use Rattle.rows.specs.Lost.{is_lost_of, lost_flags}
use Rattle.rows.specs.Columns.{flagged, column_in, RowSolved, row_solvable}
use Rattle.rows.specs.Rows.{HoldsRow}

same_map : {A : Type 0} (d : A) (f g : ℕ → A) (n : ℕ) → ((j : ℕ) → j < n → f j ≡ g j) → map f (range_with_len 0 n) ≡ map g (range_with_len 0 n)
same_map d f g n e = fill_by_all g (map f (range_with_len 0 n)) n d (length-map-range_with_len f 0 n) (λ j h. get_or-map-range_with_len f 0 n j j d h (omega arith) ∙ e j h)

-- solving looks at the row's own columns only
pub solve-same : (solved : ℕ → List ℕ → List Bool → List ℕ) (k n : ℕ) (f g : ℕ → Bool) (x y : ℕ → List ℕ) (c : ℕ)
    → ((j : ℕ) → j < n → f j ≡ g j) → ((j : ℕ) → j < n → x j ≡ y j) → solve_bytes solved k n f x c ≡ solve_bytes solved k n g y c
unfolding solve_bytes
solve-same solved k n f g x y c e h =
    same_map 0 (λ i. get_or (solved k (across n x i) (map f (range_with_len 0 n))) c 0) (λ i. get_or (solved k (across n y i) (map g (range_with_len 0 n))) c 0) 512
    (λ i l. ap (λ (a : List ℕ). get_or (solved k a (map f (range_with_len 0 n))) c 0) (same_map 0 (λ j. get_or (x j) i 0) (λ j. get_or (y j) i 0) n (λ j low. ap (λ (z : List ℕ). get_or z i 0) (h j low)))
    ∙ ap (λ (b : List Bool). get_or (solved k (across n y i) b) c 0) (same_map false f g n e))

-- flags count as their test does
count-more : (xs : List Bool) (b : Bool) → lost_count (xs ++ b ∷ []) ≡ cond b 1 0 + lost_count xs
count-more [] true = refl
count-more [] false = refl
count-more (x ∷ xs) b = let e : lost_count (xs ++ b ∷ []) ≡ cond b 1 0 + lost_count xs = count-more xs b in omega arith

pub count-flags : (f : ℕ → Bool) (n : ℕ) → lost_count (map f (range_with_len 0 n)) ≡ count n f
count-flags f zero = refl
count-flags f (suc n) =
    ap (λ (m : ℕ). lost_count (map f (range_with_len 0 m))) (sym (add-one n)) ∙ ap lost_count (map-range_with_len_more f 0 n n (omega arith)) ∙ count-more (map f (range_with_len 0 n)) (f n)
    ∙ ap (λ (m : ℕ). cond (f n) 1 0 + m) (count-flags f n)

module _ (n : ℕ) (live : ℕ → Bool) (good : ℕ → ℕ) (s : ℕ) (few : n ≤ 16) where
  inside : (j : ℕ) → j < n → is_lost_of n live good s j ≡ lost_at n live good s j
  inside j h = let t : ltb j n ≡ true = grind (arith, nat_tests) in rw t refl

  pub flags_of : take n (lost_flags n live good s) ≡ map (lost_at n live good s) (range_with_len 0 n)
  unfolding lost_flags
  flags_of = take-map-range_with_len (is_lost_of n live good s) 0 16 n few ∙ same_map false (is_lost_of n live good s) (lost_at n live good s) n inside

  pub flag_is : (j : ℕ) → j < n → flagged (lost_flags n live good s) j ≡ lost_at n live good s j
  unfolding lost_flags
  flag_is j h = get_or-map-range_with_len (is_lost_of n live good s) 0 16 j j false (omega arith) (omega arith) ∙ inside j h

  pub part-flag : (j : ℕ) → j < n → flagged (take n (lost_flags n live good s)) j ≡ lost_at n live good s j
  part-flag j h = get_or-take n (lost_flags n live good s) j false h ∙ flag_is j h

  -- a stripe that is not past repair can be solved
  pub can-solve : (rows k : ℕ) → 2 ≤ k → k ≤ 12 → n ≡ k + rows → count n (lost_at n live good s) ≤ rows
      → solvable rows k (length (take n (lost_flags n live good s))) (take n (lost_flags n live good s)) ≡ true
  can-solve rows k low high e enough =
      let xs : List Bool = map (lost_at n live good s) (range_with_len 0 n) in
      let long : length xs ≡ n = length-map-range_with_len (lost_at n live good s) 0 n in
      let none : lost_count (drop (k + rows) xs) ≡ 0 = ap lost_count (drop_all (k + rows) xs (omega arith)) in
      let few-lost : lost_count xs ≤ rows = rw (count-flags (lost_at n live good s) n) enough in
      let a : leb 2 k ≡ true = grind (arith, nat_tests) in
      let b : leb k 12 ≡ true = grind (arith, nat_tests) in
      let c : eqb (length xs) (k + rows) ≡ true = grind (arith, nat_tests) in
      let d : eqb (lost_count (drop (k + rows) xs)) 0 ≡ true = grind (arith, nat_tests) in
      let f : leb (lost_count xs) rows ≡ true = grind (arith, nat_tests) in
      let P : List Bool → Type 0 = λ ys. solvable rows k (length ys) ys ≡ true in
      subst P (sym flags_of) (rw (a, b, c, d, f) refl)

  -- the slot of a good column is live
  pub live_of : (j : ℕ) → j < n → flagged (lost_flags n live good s) j ≡ false → live (slot_of n s j) ≡ true
  live_of j h e = go (live (slot_of n s j)) (ltb s (good (slot_of n s j))) (sym (flag_is j h) ∙ e)
    where
      go : (a b : Bool) → not (a && b) ≡ false → a ≡ true
      go true b e = refl
      go false b e = sym e

  pub row-solvable : (rows k bytes : ℕ) (ls : List Bool) → ls ≡ take n (lost_flags n live good s) → 2 ≤ k → k ≤ 12 → n ≡ k + rows → count n (lost_at n live good s) ≤ rows → 512 * n ≤ bytes
      → row_solvable rows k ls bytes ≡ true
  row-solvable rows k bytes ls e low high w enough room =
      let P : List Bool → Type 0 = λ ys. solvable rows k (length ys) ys ≡ true in
      let a : solvable rows k (length ls) ls ≡ true = subst P (sym e) (can-solve rows k low high w enough) in
      let long : length ls ≡ n = ap length (e ∙ flags_of) ∙ length-map-range_with_len (lost_at n live good s) 0 n in
      let b : leb (512 * length ls) bytes ≡ true = grind (arith, nat_tests) in
      both a b
    where
      both : {x y : Bool} → x ≡ true → y ≡ true → x && y ≡ true
      both h k = rw (h, k) refl

collapse : (t : Bool) (z x : List ℕ) (f : List ℕ → List ℕ) → cond t (cond t z x) (f (cond t z x)) ≡ cond t z (f x)
collapse true z x f = refl
collapse false z x f = refl

module _ {C : Type 0} (code : CodeGhosts C) (k : ℕ) (p : Bytes) (h : Header) (s : ℕ) where
  K : Coding (List ℕ)
  K = coding code k

  -- what a row comes to with n columns: a as read, b with the pending shares, d code.solved
  abbrev pub Fills : ℕ → Type 0
  Fills n = (a b d : List ℕ) (ls : List Bool) → n ≤ 16
      → ((c : ℕ) → c < n → column_in a c ≡ cond (flagged (lost_flags n p.live (good_of h) s) c) zeros (p.block (slot_of n s c) s))
      → ((c : ℕ) → c < k + code.ROWS → column_in b c ≡ cond (flagged (lost_flags n p.live (good_of h) s) c) (column_in a c) (settled_with (coding code k) (log_of (coding code k) p h) s c (column_in a c)))
      → ls ≡ take n (lost_flags n p.live (good_of h) s)
      → RowSolved code.solved k (length ls) ls b d
      → HoldsRow (coding code k) p h s d

  fills : Fills (k + code.ROWS)
  unfolding K
  fills a b d ls few read grown e sol c low =
      let n = k + code.ROWS in
      let flags : List Bool = lost_flags n p.live (good_of h) s in
      let long : length ls ≡ n = ap length (e ∙ flags_of n p.live (good_of h) s few) ∙ length-map-range_with_len (lost_at n p.live (good_of h) s) 0 n in
      sol.each c (omega arith)
      ∙ ap (λ (m : ℕ). solve_bytes code.solved k m (flagged ls) (column_in b) c) long
      ∙ solve-same code.solved k n (flagged ls) (is_lost K p h s) (column_in b) (raw K (is_lost K p h) (log_of K p h) p.block s) c
      (λ j l. ap (λ (z : List Bool). flagged z j) e ∙ part-flag n p.live (good_of h) s few j l)
      (λ j l. grown j l
      ∙ ap (λ (x : List ℕ). cond (flagged flags j) x (settled_with K (log_of K p h) s j x)) (read j l)
      ∙ collapse (flagged flags j) zeros (p.block (slot_of n s j) s) (settled_with K (log_of K p h) s j)
      ∙ ap (λ (t : Bool). cond t zeros (settled_with K (log_of K p h) s j (p.block (slot_of n s j) s))) (flag_is n p.live (good_of h) s few j l))

  pub fills-by : (n : ℕ) → n ≡ k + code.ROWS → Fills n
  fills-by n e = let P : ℕ → Type 0 = Fills in subst P (sym e) fills

-- a flag for each place but one
pub but-one : (w j c : ℕ) → c < w → flagged (set (replicate w true) j false) c ≡ not (eqb c j)
but-one w j c h = go (eqb c j) refl
  where
    go : (t : Bool) → eqb c j ≡ t → flagged (set (replicate w true) j false) c ≡ not t
    go true e =
        let same : c ≡ j = eqb-true c j e in
        ap (λ (i : ℕ). flagged (set (replicate w true) j false) i) same ∙ get_or-set_same (replicate w true) j false false (simp length-replicate (omega arith))
    go false e = get_or-set_other (replicate w true) j c false false (eqb-false c j e) ∙ get_or-replicate w c true false h

pub cond-not : {A : Type 0} (t : Bool) (x y : A) → cond (not t) x y ≡ cond t y x
cond-not true x y = refl
cond-not false x y = refl
