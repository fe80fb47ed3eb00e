-- Code 1 keeps the laws.
use Rattle.std.specs.Prelude.{◌≡◌, ℕ, zero, suc, ◌+◌, ◌<◌, ◌≤◌, Bool, true, false, cond, ◌⊎◌, List, length, take, replicate, ◌≢◌, bit_xor, nat_lt, slice_index, slice_set, refl}
use Rattle.std.proofs.Common.{sym, ◌∙◌, ap, inl, inr, arith}
use Rattle.std.proofs.lemmas.Nat.{xor_lt}
use Rattle.std.proofs.lemmas.Bool.{cases_eq, cases_lt, ltb-true, ltb-false, true≢false}
use Rattle.std.proofs.lemmas.List.{get_or-take, get_or_past, length-take, get_or-set_same, get_or-set_other, length-set}
use Rattle.codes.specs.Code.{Bytes, plus, filled, Apart, lost_at, solvable, Lowest, Solves}
use Rattle.codes.specs.Sums.{total}
use Rattle.codes.specs.Solving.{next_lost, cleared, gap, completed}
use Rattle.codes.specs.Single.{single, fill_one, data_one, solved_one}
use Rattle.codes.specs.SumsLemmas.{same_sum, back}
use Rattle.codes.specs.Weights.{Linear, plain, total-linear}
use Rattle.codes.specs.Counts.{count-zero, one_place}
use Rattle.codes.specs.Steps.{Next, next-lost, cleared-length, cleared-kept, cleared-lost, cleared-bytes, set-bytes, take-bytes, completes}
use Rattle.codes.specs.Coded.{apart-data, apart-check, apart-all, Fit, fit}

pub single-low : (r : ℕ) (xs : List ℕ) → Bytes xs → single r xs < 256
single-low zero xs h = total-linear.low xs h
single-low (suc r) xs h = omega arith

pub single-past : (r : ℕ) (xs : List ℕ) → 1 ≤ r → single r xs ≡ 0
single-past zero xs h = absurd (omega arith)
single-past (suc r) xs h = refl

pub single-fill : (r : ℕ) (xs : List ℕ) → single r xs ≡ single r (filled xs)
single-fill zero xs = total-linear.fill xs
single-fill (suc r) xs = refl

pub single-zero : (r n : ℕ) → single r (replicate n 0) ≡ 0
single-zero zero n = total-linear.zeros n
single-zero (suc r) n = refl

pub single-adds : (r : ℕ) (xs ys : List ℕ) → length xs ≡ length ys → Bytes xs → Bytes ys → single r (plus xs ys) ≡ bit_xor (single r xs) (single r ys)
single-adds zero xs ys e p q = total-linear.adds xs ys e p q
single-adds (suc r) xs ys e p q = refl

pub single-apart : Apart single 1
single-apart xs ys lost e most bx by few agree = apart-all single 1 xs ys lost e agree (λ c h. at c h (cases_eq c w.0))
  where
    w : (i : ℕ) × ((c : ℕ) → c < length xs + 1 → (c ≢ i) → lost c ≡ false)
    w = one_place (length xs + 1) lost few

    else-zero : (c : ℕ) → (c ≢ w.0) → slice_index (plus xs ys) c ≡ 0
    else-zero c d = apart-data single 1 xs ys lost e agree c (λ h. w.1 c (omega arith) d)

    at : (c : ℕ) → c < length xs → (c ≡ w.0) ⊎ (c ≢ w.0) → slice_index (plus xs ys) c ≡ 0
    at c h (inr d) = else-zero c d
    at c h (inl q) =
        sym (total-linear.one (plus xs ys) c (omega arith) (λ j l d. else-zero j (λ t. d (t ∙ sym q))))
        ∙ total-linear.adds xs ys e bx by
        ∙ same_sum (total xs) (total ys) (apart-check single 1 xs ys lost e agree 0 (omega arith) (w.1 (length xs + 0) (omega arith) (λ t. omega arith)))

-- columns of the first k places
pub front_out : (k : ℕ) (xs : List ℕ) (j : ℕ) → k ≤ j → slice_index (take k xs) j ≡ 0
front_out k xs j h = get_or_past (take k xs) j 0 (let z = length-take k xs in omega arith)

pub front-else : (k : ℕ) (xs : List ℕ) (i b j : ℕ) → (j ≢ i) → slice_index (take k (slice_set xs i b)) j ≡ slice_index (take k xs) j
front-else k xs i b j d = go (cases_lt j k)
  where
    go : (j < k) ⊎ (k ≤ j) → slice_index (take k (slice_set xs i b)) j ≡ slice_index (take k xs) j
    go (inl h) = get_or-take k (slice_set xs i b) j 0 h ∙ get_or-set_other xs i j b 0 d ∙ sym (get_or-take k xs j 0 h)
    go (inr h) = front_out k (slice_set xs i b) j h ∙ sym (front_out k xs j h)

-- a byte put where 0 was adds its weight to the row's sum
pub front-put : (by : ℕ → ℕ → ℕ) (row : List ℕ → ℕ) → Linear by row → (k : ℕ) (xs : List ℕ) (i b : ℕ) → k ≤ 12 → i < k → k ≤ length xs → slice_index xs i ≡ 0
    → row (take k (slice_set xs i b)) ≡ bit_xor (row (take k xs)) (by i b)
front-put by row L k xs i b most h n z =
    L.put (take k (slice_set xs i b)) (take k xs) i (omega arith) (λ j l d. front-else k xs i b j d) (get_or-take k xs i 0 h ∙ z)
    ∙ ap (λ x. bit_xor (row (take k xs)) (by i x)) (get_or-take k (slice_set xs i b) i 0 h ∙ get_or-set_same xs i b 0 (omega arith))

module _ (k : ℕ) (row : List ℕ) (lost : List Bool) (can : Fit 1 k (length row) lost) (bytes : Bytes row) where
  abbrev z : List ℕ
  z = cleared lost k row

  abbrev i : ℕ
  i = next_lost lost 0 k

  w : Next lost 0 k i
  w = next-lost lost 0 k

  z-bytes : Bytes z
  z-bytes = cleared-bytes lost k row bytes

  z-wide : length z ≡ k + 1
  z-wide = cleared-length lost k row ∙ can.wide

  gap-byte : gap single k z 0 < 256
  gap-byte = xor_lt 8 (slice_index z (k + 0)) (total (take k z)) (z-bytes (k + 0)) (total-linear.low (take k z) (take-bytes k z z-bytes))

  wide_at : (t : Bool) → length (cond t (slice_set z i (gap single k z 0)) z) ≡ length row
  wide_at true = length-set z i (gap single k z 0) ∙ cleared-length lost k row
  wide_at false = cleared-length lost k row

  bytes-at : (t : Bool) → Bytes (cond t (slice_set z i (gap single k z 0)) z)
  bytes-at true = set-bytes z i (gap single k z 0) z-bytes gap-byte
  bytes-at false = z-bytes

  kept_at : (t : Bool) → nat_lt i k ≡ t → (c : ℕ) → (c < k → lost_at lost c ≡ false) → slice_index (cond t (slice_set z i (gap single k z 0)) z) c ≡ slice_index row c
  kept_at true s c h = go (cases_eq c i)
    where
      go : (c ≡ i) ⊎ (c ≢ i) → slice_index (slice_set z i (gap single k z 0)) c ≡ slice_index row c
      go (inl q) =
          let lt = ltb-true i k s in
          absurd (true≢false (sym (w.here (omega arith)) ∙ ap (lost_at lost) (sym q) ∙ h (omega arith)))
      go (inr d) = get_or-set_other z i c (gap single k z 0) 0 d ∙ cleared-kept lost k row c h
  kept_at false s c h = cleared-kept lost k row c h

  lowest-at : (t : Bool) → nat_lt i k ≡ t → Lowest single 1 k row lost (take k (cond t (slice_set z i (gap single k z 0)) z))
  lowest-at true s zero h l m =
      let lt = ltb-true i k s in
      front-put plain total total-linear k z i (gap single k z 0) can.most lt (let n = z-wide in omega arith) (cleared-lost lost k row i lt (w.here (omega arith)))
      ∙ back (total (take k z)) (slice_index z (k + 0)) ∙ cleared-kept lost k row (k + 0) (λ x. absurd (omega arith))
  lowest-at false s zero h l m =
      let ge = ltb-false i k s in
      let none = count-zero k (lost_at lost) (λ c x. w.before c (omega arith) (omega arith)) in
      absurd (omega arith)
  lowest-at t s (suc r) h l m = absurd (omega arith)

  one-solves : Solves single 1 k row lost (solved_one k row lost)
  unfolding solved_one data_one
  one-solves =
      completes single 1 k row (fill_one k i z) lost single-low can.wide (wide_at (nat_lt i k)) (bytes-at (nat_lt i k)) (kept_at (nat_lt i k) refl) (lowest-at (nat_lt i k) refl)

pub single-solves : (k : ℕ) (row : List ℕ) (lost : List Bool) → solvable 1 k (length row) lost ≡ true → Bytes row → Solves single 1 k row lost (solved_one k row lost)
single-solves k row lost h bytes = one-solves k row lost (fit 1 k (length row) lost h) bytes

pub single-completes : (k : ℕ) (row : List ℕ) (lost : List Bool) → solved_one k row lost ≡ completed single 1 k lost (data_one k row lost)
unfolding solved_one
single-completes k row lost = refl
