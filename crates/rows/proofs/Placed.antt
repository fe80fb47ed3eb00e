-- Columns and the bytes in them.
use Rattle.std.proofs.Common.{◌≡◌, ℕ, ◌+◌, ◌-◌, ◌*◌, ◌<◌, ◌≤◌, min, ◌⊎◌, List, ◌++◌, map, length, get_or, take, drop, sym, ap, ◌∙◌, inl, inr, arith}
use borrow.Rule.Slice.PartMut.{put_mid, post_of}
use Rattle.std.specs.List.{range_with_len}
use Rattle.std.proofs.lemmas.List.{length-take, length-drop, length-append, length-take-le, take_at, drop_at, get_or_append_left, get_or-append-add, get_or-take, get_or-drop, ext_get_or}
use Rattle.std.proofs.lemmas.List.FromFn.{fill_by_all}
use Rattle.std.proofs.lemmas.Bool.{cases_lt}
use Rattle.rows.specs.Columns.{column_in, ColumnPut}

pub column-byte : (area : List ℕ) (c i : ℕ) → i < 512 → get_or (column_in area c) i 0 ≡ get_or area (512 * c + i) 0
unfolding column_in
column-byte area c i h = get_or-take 512 (drop (512 * c) area) i 0 h ∙ get_or-drop (512 * c) area i 0

pub length-column : (area : List ℕ) (c : ℕ) → length (column_in area c) ≤ 512
unfolding column_in
length-column area c = let e : length (take 512 (drop (512 * c) area)) ≡ min 512 (length (drop (512 * c) area)) = length-take 512 (drop (512 * c) area) in omega arith

pub full-column : (area : List ℕ) (c : ℕ) → 512 * c + 512 ≤ length area → length (column_in area c) ≡ 512
unfolding column_in
full-column area c h =
    let e : length (take 512 (drop (512 * c) area)) ≡ min 512 (length (drop (512 * c) area)) = length-take 512 (drop (512 * c) area) in
    let f : length (drop (512 * c) area) ≡ length area - 512 * c = length-drop (512 * c) area in
    omega arith

-- two areas of one length with the same bytes in a column
pub same-column : (a b : List ℕ) (c : ℕ) → length a ≡ length b → ((i : ℕ) → i < 512 → get_or a (512 * c + i) 0 ≡ get_or b (512 * c + i) 0) → column_in a c ≡ column_in b c
unfolding column_in
same-column a b c e h =
    ext_get_or 0 (take 512 (drop (512 * c) a)) (take 512 (drop (512 * c) b)) (length-take 512 (drop (512 * c) a) ∙ ap (min 512) (length-drop (512 * c) a ∙ ap (λ (n : ℕ). n - 512 * c) e ∙ sym (length-drop (512 * c) b)) ∙ sym (length-take 512 (drop (512 * c) b)))
    (λ i l. let low : i < 512 = omega (arith, length-take 512 (drop (512 * c) a)) in
    get_or-take 512 (drop (512 * c) a) i 0 low ∙ get_or-drop (512 * c) a i 0 ∙ h i low ∙ sym (get_or-take 512 (drop (512 * c) b) i 0 low ∙ get_or-drop (512 * c) b i 0))

-- a column by its bytes
pub column-by : (area : List ℕ) (c : ℕ) (f : ℕ → ℕ) → 512 * c + 512 ≤ length area → ((i : ℕ) → i < 512 → get_or area (512 * c + i) 0 ≡ f i) → column_in area c ≡ map f (range_with_len 0 512)
column-by area c f fits h = fill_by_all f (column_in area c) 512 0 (full-column area c fits) (λ i l. column-byte area c i l ∙ h i l)

-- a write to the bytes of one column
module _ (xs ys : List ℕ) (a w : ℕ) (fits : a + w ≤ length xs) (whole : length ys ≡ w) where
  mid-here : take w (drop a (put_mid a w xs ys)) ≡ ys
  mid-here = ap (take w) (drop_at (take a xs) (ys ++ post_of a w xs) a (length-take-le a xs (omega arith))) ∙ take_at ys (post_of a w xs) w whole

  mid-long : length (put_mid a w xs ys) ≡ length xs
  mid-long = simp (length-append, length-take, length-drop) (omega arith)

  mid-there : (q : ℕ) → (q < a) ⊎ (a + w ≤ q) → get_or (put_mid a w xs ys) q 0 ≡ get_or xs q 0
  mid-there q (inl h) = get_or_append_left (take a xs) (ys ++ post_of a w xs) 0 q (simp length-take (omega arith)) ∙ get_or-take a xs q 0 h
  mid-there q (inr h) =
      let n : length (take a xs) ≡ a = length-take-le a xs (omega arith) in
      let at : length (take a xs) + (length ys + (q - a - w)) ≡ q = omega arith in
      ap (λ (i : ℕ). get_or (put_mid a w xs ys) i 0) (sym at)
      ∙ get_or-append-add (take a xs) (ys ++ post_of a w xs) (length ys + (q - a - w)) 0
      ∙ get_or-append-add ys (post_of a w xs) (q - a - w) 0
      ∙ get_or-drop w (drop a xs) (q - a - w) 0 ∙ get_or-drop a xs (w + (q - a - w)) 0 ∙ ap (λ (i : ℕ). get_or xs i 0) (omega arith)

pub put-column : (xs ys : List ℕ) (c w : ℕ) → w ≡ 512 → 512 * c + 512 ≤ length xs → length ys ≡ 512 → ColumnPut c ys xs (put_mid (512 * c) w xs ys)
unfolding column_in
put-column xs ys c w e fits whole =
    let n : length ys ≡ w = omega arith in
    let room : 512 * c + w ≤ length xs = omega arith in
    let long : length (put_mid (512 * c) w xs ys) ≡ length xs = mid-long xs ys (512 * c) w room n in
    record {
      long = long;
      here = ap (λ (v : ℕ). take v (drop (512 * c) (put_mid (512 * c) w xs ys))) (sym e) ∙ mid-here xs ys (512 * c) w room n;
      there = λ j ne. same-column (put_mid (512 * c) w xs ys) xs j long (λ i l. mid-there xs ys (512 * c) w room n (512 * j + i) (side j ne i l));
    }
  where
    apart : (j : ℕ) → c ≤ j → (j ≡ c → ⊥) → c < j
    apart j h ne = elim (cases_lt c j) [ inl l ↦ l | inr l ↦ absurd (ne (omega arith)) ]

    side : (j : ℕ) → (j ≡ c → ⊥) → (i : ℕ) → i < 512 → (512 * j + i < 512 * c) ⊎ (512 * c + w ≤ 512 * j + i)
    side j ne i l = elim (cases_lt j c) [ inl h ↦ inl (omega arith) | inr h ↦ inr (let more : c < j = apart j h ne in omega arith) ]

pub column-is : (area : List ℕ) (c w : ℕ) → w ≡ 512 → take w (drop (512 * c) area) ≡ column_in area c
unfolding column_in
column-is area c w e = ap (λ (v : ℕ). take v (drop (512 * c) area)) e

pub put_as : (c : ℕ) (xs ys area after : List ℕ) → xs ≡ ys → ColumnPut c xs area after → ColumnPut c ys area after
put_as c xs ys area after e h = record { long = h.long; here = h.here ∙ e; there = h.there }
