-- A check row that adds up the columns, each by a weight that respects sums.
use Rattle.std.specs.Prelude.{◌≡◌, ℕ, zero, suc, ◌-◌, ◌*◌, ◌<◌, ◌≤◌, ◌⊎◌, List, [], ◌∷◌, ◌++◌, length, take, replicate, ◌≢◌, bit_xor, slice_index, slice_set, refl}
use Rattle.std.proofs.Common.{sym, ap, ◌∙◌, inl, inr, arith}
use Rattle.std.specs.Int.Bits.{xor_zero_r}
use Rattle.std.proofs.lemmas.Bool.{cases_lt}
use Rattle.std.proofs.lemmas.List.{get_or-take, get_or_append_left, get_or-append_right, get_or_past, get_or-set_same, get_or-set_other, length-replicate}
use Rattle.field.specs.Field.{exp, times}
use Rattle.field.proofs.Laws.{times-zero-r, times-adds, times-byte}
use Rattle.field.proofs.Rules.{exp-byte}
use Rattle.codes.specs.Code.{Bytes, plus, filled}
use Rattle.codes.specs.Sums.{sum_to, total, weighted}
use Rattle.codes.specs.SumsLemmas.{sum_same, sum-none, sum-adds, sum-byte, sum-change, sum_one}

pub get_or-zeros : (n j : ℕ) → ◌≡◌ {A = ℕ} (slice_index (replicate n 0) j) 0
get_or-zeros zero j = refl
get_or-zeros (suc n) zero = refl
get_or-zeros (suc n) (suc j) = get_or-zeros n j

pub get_or-plus : (xs ys : List ℕ) (j : ℕ) → length xs ≡ length ys → slice_index (plus xs ys) j ≡ bit_xor (slice_index xs j) (slice_index ys j)
get_or-plus [] [] j e = refl
get_or-plus [] (y ∷ ys) j e = absurd (omega arith)
get_or-plus (x ∷ xs) [] j e = absurd (omega arith)
get_or-plus (x ∷ xs) (y ∷ ys) zero e = refl
get_or-plus (x ∷ xs) (y ∷ ys) (suc j) e = get_or-plus xs ys j (omega arith)

-- filling up changes no column
pub fill-at : (n m : ℕ) (xs : List ℕ) (j : ℕ) → j < n → slice_index (take n (xs ++ replicate m 0)) j ≡ slice_index xs j
fill-at n m xs j h = get_or-take n (xs ++ replicate m 0) j 0 h ∙ go (cases_lt j (length xs))
  where
    go : (j < length xs) ⊎ (length xs ≤ j) → slice_index (xs ++ replicate m 0) j ≡ slice_index xs j
    go (inl l) = get_or_append_left xs (replicate m 0) 0 j l
    go (inr l) = get_or-append_right xs (replicate m 0) (length xs) j 0 refl l ∙ get_or-zeros m (j - length xs) ∙ sym (get_or_past xs j 0 l)

module _ (by : ℕ → ℕ → ℕ) (none : (j : ℕ) → by j 0 ≡ 0) (adds : (j x y : ℕ) → x < 256 → y < 256 → by j (bit_xor x y) ≡ bit_xor (by j x) (by j y))
    (byte : (j x : ℕ) → x < 256 → by j x < 256) where
  abbrev row : List ℕ → ℕ
  row xs = sum_to 12 (λ j. by j (slice_index xs j))

  row_low : (xs : List ℕ) → Bytes xs → row xs < 256
  row_low xs h = sum-byte 12 (λ j. by j (slice_index xs j)) (λ j. byte j (slice_index xs j) (h j))

  row_same : (xs ys : List ℕ) → ((j : ℕ) → j < 12 → slice_index xs j ≡ slice_index ys j) → row xs ≡ row ys
  row_same xs ys e = sum_same 12 (λ j. by j (slice_index xs j)) (λ j. by j (slice_index ys j)) (λ j h. ap (by j) (e j h))

  row-fill : (xs : List ℕ) → row xs ≡ row (filled xs)
  row-fill xs = row_same xs (filled xs) (λ j h. sym (fill-at 12 12 xs j h))

  row_zero : (n : ℕ) → row (replicate n 0) ≡ 0
  row_zero n = sum-none 12 (λ j. by j (slice_index (replicate n 0) j)) (λ j h. ap (by j) (get_or-zeros n j) ∙ none j)

  row-adds : (xs ys : List ℕ) → length xs ≡ length ys → Bytes xs → Bytes ys → row (plus xs ys) ≡ bit_xor (row xs) (row ys)
  row-adds xs ys e p q =
      sum_same 12 (λ j. by j (slice_index (plus xs ys) j)) (λ j. bit_xor (by j (slice_index xs j)) (by j (slice_index ys j)))
      (λ j h. ap (by j) (get_or-plus xs ys j e) ∙ adds j (slice_index xs j) (slice_index ys j) (p j) (q j))
      ∙ sum-adds 12 (λ j. by j (slice_index xs j)) (λ j. by j (slice_index ys j))

  row_one : (xs : List ℕ) (i : ℕ) → i < 12 → ((j : ℕ) → j < 12 → (j ≢ i) → slice_index xs j ≡ 0) → row xs ≡ by i (slice_index xs i)
  row_one xs i h e = sum_one 12 (λ j. by j (slice_index xs j)) i h (λ j l d. ap (by j) (e j l d) ∙ none j)

  row-alone : (n i b : ℕ) → i < 12 → i < n → row (slice_set (replicate n 0) i b) ≡ by i b
  row-alone n i b h l =
      row_one (slice_set (replicate n 0) i b) i h (λ j k d. get_or-set_other (replicate n 0) i j b 0 d ∙ get_or-zeros n j)
      ∙ ap (by i) (get_or-set_same (replicate n 0) i b 0 (let e = length-replicate {A = ℕ} n 0 in omega arith))

  -- one column put where 0 was
  row_put : (xs ys : List ℕ) (i : ℕ) → i < 12 → ((j : ℕ) → j < 12 → (j ≢ i) → slice_index xs j ≡ slice_index ys j) → slice_index ys i ≡ 0
      → row xs ≡ bit_xor (row ys) (by i (slice_index xs i))
  row_put xs ys i h e z =
      sum-change 12 (λ j. by j (slice_index xs j)) (λ j. by j (slice_index ys j)) i h (λ j l d. ap (by j) (e j l d))
      ∙ ap (λ x. bit_xor (row ys) (bit_xor (by i (slice_index xs i)) x)) (ap (by i) z ∙ none i) ∙ ap (bit_xor (row ys)) (xor_zero_r (by i (slice_index xs i)))

abbrev pub plain : ℕ → ℕ → ℕ
plain j x = x

abbrev pub powers-of : ℕ → ℕ → ℕ → ℕ
powers-of s j x = times (exp (s * j)) x

-- what each row of a code shows of itself
pub record Linear (by : ℕ → ℕ → ℕ) (row : List ℕ → ℕ) : Type 0 where
  pub low : (xs : List ℕ) → Bytes xs → row xs < 256
  pub same : (xs ys : List ℕ) → ((j : ℕ) → j < 12 → slice_index xs j ≡ slice_index ys j) → row xs ≡ row ys
  pub fill : (xs : List ℕ) → row xs ≡ row (filled xs)
  pub zeros : (n : ℕ) → row (replicate n 0) ≡ 0
  pub adds : (xs ys : List ℕ) → length xs ≡ length ys → Bytes xs → Bytes ys → row (plus xs ys) ≡ bit_xor (row xs) (row ys)
  pub one : (xs : List ℕ) (i : ℕ) → i < 12 → ((j : ℕ) → j < 12 → (j ≢ i) → slice_index xs j ≡ 0) → row xs ≡ by i (slice_index xs i)
  pub alone : (n i b : ℕ) → i < 12 → i < n → row (slice_set (replicate n 0) i b) ≡ by i b
  pub put : (xs ys : List ℕ) (i : ℕ) → i < 12 → ((j : ℕ) → j < 12 → (j ≢ i) → slice_index xs j ≡ slice_index ys j) → slice_index ys i ≡ 0
      → row xs ≡ bit_xor (row ys) (by i (slice_index xs i))

linear : (by : ℕ → ℕ → ℕ) → ((j : ℕ) → by j 0 ≡ 0) → ((j x y : ℕ) → x < 256 → y < 256 → by j (bit_xor x y) ≡ bit_xor (by j x) (by j y))
    → ((j x : ℕ) → x < 256 → by j x < 256) → Linear by (λ xs. sum_to 12 (λ j. by j (slice_index xs j)))
linear by none adds byte = record {
  low = row_low by none adds byte;
  same = row_same by none adds byte;
  fill = row-fill by none adds byte;
  zeros = row_zero by none adds byte;
  adds = row-adds by none adds byte;
  one = row_one by none adds byte;
  alone = row-alone by none adds byte;
  put = row_put by none adds byte;
}

pub total-linear : Linear plain total
unfolding total
total-linear = linear plain (λ j. refl) (λ j x y p q. refl) (λ j x h. h)

pub weighted-linear : (s : ℕ) → Linear (powers-of s) (weighted s)
unfolding weighted
weighted-linear s = linear (powers-of s) (λ j. times-zero-r (exp (s * j))) (λ j x y p q. times-adds (exp (s * j)) x y (exp-byte (s * j)).1 p q) (λ j x h. times-byte (exp (s * j)) x)
