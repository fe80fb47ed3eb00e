-- The places of a coded row, and two coded rows that agree.
use Rattle.std.specs.Prelude.{◌≡◌, ℕ, ◌+◌, ◌<◌, ◌≤◌, Bool, true, false, ◌&&◌, ◌⊎◌, List, map, length, drop, ◌==◌, bit_xor, nat_le, slice_index}
use Rattle.std.proofs.Common.{sym, ◌∙◌, ap, inl, inr, arith, zero-add}
use Rattle.std.specs.List.{range_with_len}
use Rattle.std.proofs.lemmas.Bool.{cases_lt, and_parts, leb-true, eqb-true, and_from, le-leb, eq-eqb}
use Rattle.std.proofs.lemmas.List.{get_or_append_left, get_or-append-add, length-append, ext_get_or, get_or_past}
use Rattle.std.proofs.lemmas.List.FromFn.{get_or-map-range_with_len, length-map-range_with_len}
use Rattle.codes.specs.Code.{plus, coded, Agree, solvable, lost_count}
use Rattle.codes.specs.SumsLemmas.{cancel, same_sum}
use Rattle.codes.specs.Weights.{get_or-plus}

module _ (check : ℕ → List ℕ → ℕ) (rows : ℕ) (xs : List ℕ) where
  pub coded-length : length (coded check rows xs) ≡ length xs + rows
  coded-length = length-append xs (map (λ r. check r xs) (range_with_len 0 rows)) ∙ ap (λ n. length xs + n) (length-map-range_with_len (λ r. check r xs) 0 rows)

  pub coded-data : (c : ℕ) → c < length xs → slice_index (coded check rows xs) c ≡ slice_index xs c
  coded-data c h = get_or_append_left xs (map (λ r. check r xs) (range_with_len 0 rows)) 0 c h

  pub coded-check : (r : ℕ) → r < rows → slice_index (coded check rows xs) (length xs + r) ≡ check r xs
  coded-check r h = get_or-append-add xs (map (λ r. check r xs) (range_with_len 0 rows)) r 0 ∙ get_or-map-range_with_len (λ r. check r xs) 0 rows r r 0 h (zero-add r)

-- two lists whose coded rows agree outside the lost places
module _ (check : ℕ → List ℕ → ℕ) (rows : ℕ) (xs ys : List ℕ) (lost : ℕ → Bool) (e : length xs ≡ length ys)
    (agree : Agree (length xs + rows) lost (coded check rows xs) (coded check rows ys)) where
  -- their difference is 0 at kept places, and past the end
  pub apart-data : (c : ℕ) → (c < length xs → lost c ≡ false) → slice_index (plus xs ys) c ≡ 0
  apart-data c h = get_or-plus xs ys c e ∙ go (cases_lt c (length xs))
    where
      go : (c < length xs) ⊎ (length xs ≤ c) → bit_xor (slice_index xs c) (slice_index ys c) ≡ 0
      go (inl l) = same_sum _ _ (sym (coded-data check rows xs c l) ∙ agree c (omega arith) (h l) ∙ coded-data check rows ys c (omega arith))
      go (inr l) = same_sum _ _ (get_or_past xs c 0 l ∙ sym (get_or_past ys c 0 (omega arith)))

  pub apart-check : (r : ℕ) → r < rows → lost (length xs + r) ≡ false → check r xs ≡ check r ys
  apart-check r h l =
      sym (coded-check check rows xs r h) ∙ agree (length xs + r) (omega arith) l ∙ ap (λ n. slice_index (coded check rows ys) (n + r)) e ∙ coded-check check rows ys r h

  pub apart-all : ((c : ℕ) → c < length xs → slice_index (plus xs ys) c ≡ 0) → xs ≡ ys
  apart-all h = ext_get_or 0 xs ys e (λ c l. cancel (slice_index xs c) (slice_index ys c) (sym (get_or-plus xs ys c e) ∙ h c l))

-- what the test of a row says
pub record Fit (rows k n : ℕ) (lost : List Bool) : Type 0 where
  pub least : 2 ≤ k
  pub most : k ≤ 12
  pub wide : n ≡ k + rows
  pub within : lost_count (drop (k + rows) lost) ≡ 0
  pub few : lost_count lost ≤ rows

pub fit : (rows k n : ℕ) (lost : List Bool) → solvable rows k n lost ≡ true → Fit rows k n lost
fit rows k n lost h =
    let a = and_parts (nat_le 2 k) (nat_le k 12 && (n == k + rows && (lost_count (drop (k + rows) lost) == 0 && nat_le (lost_count lost) rows))) h in
    let b = and_parts (nat_le k 12) (n == k + rows && (lost_count (drop (k + rows) lost) == 0 && nat_le (lost_count lost) rows)) a.1 in
    let c = and_parts (n == k + rows) (lost_count (drop (k + rows) lost) == 0 && nat_le (lost_count lost) rows) b.1 in
    let d = and_parts (lost_count (drop (k + rows) lost) == 0) (nat_le (lost_count lost) rows) c.1 in
    record { least = leb-true 2 k a.0; most = leb-true k 12 b.0; wide = eqb-true n (k + rows) c.0; within = eqb-true _ 0 d.0; few = leb-true _ rows d.1 }

pub unfit : (rows k n : ℕ) (lost : List Bool) → Fit rows k n lost → solvable rows k n lost ≡ true
unfit rows k n lost f =
    and_from (nat_le 2 k) _ (le-leb 2 k f.least) (and_from (nat_le k 12) _ (le-leb k 12 f.most) (and_from (n == k + rows) _ (eq-eqb n (k + rows) f.wide)
    (and_from (lost_count (drop (k + rows) lost) == 0) _ (eq-eqb _ 0 f.within) (le-leb (lost_count lost) rows f.few))))
