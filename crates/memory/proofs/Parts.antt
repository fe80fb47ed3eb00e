-- A part of a row of bytes, after another part was written.
use Rattle.std.proofs.Common.{◌≡◌, ℕ, zero, suc, ◌+◌, ◌-◌, ◌<◌, ◌≤◌, ◌⊎◌, List, ◌++◌, length, take, drop, replicate, sym, ap, ◌∙◌, inl, inr, arith}
use Rattle.std.specs.List.{AllByRecursion}
use Rattle.std.proofs.lemmas.List.{take_at, drop_at, length-take, length-drop, length-append, length-replicate, length-take-le, drop-take, drop-drop, take-append-le, drop-append-le, take-replicate, drop-replicate}
use Rattle.std.proofs.lemmas.Slice.{drop-put_mid, take-put_mid_below}
use Rattle.std.proofs.ByRecursion.{All-take, All-drop}
use Rattle.memory.specs.Lent.{part, with_part}

-- stated over any width, since at a numeral `take` is unrolled
here : (w : ℕ) (xs x : List ℕ) (at : ℕ) → length x ≡ w → at + w ≤ length xs → take w (drop at (with_part at w x xs)) ≡ x
here w xs x at l h =
    ap (take w) (drop_at (take at xs) (x ++ drop w (drop at xs)) at (length-take-le at xs (omega arith))) ∙ take_at x (drop w (drop at xs)) w l

elsewhere : (w m : ℕ) (xs x : List ℕ) (at to : ℕ) → length x ≡ m → at + m ≤ length xs → (to + w ≤ at) ⊎ (at + m ≤ to) → take w (drop to (with_part at m x xs)) ≡ take w (drop to xs)
elsewhere w m xs x at to l h (inl e) =
    sym (drop-take to w (with_part at m x xs)) ∙ ap (drop to) (take-put_mid_below at m xs x (to + w) e (omega arith)) ∙ drop-take to w xs
elsewhere w m xs x at to l h (inr e) = ap (take w) (drop-put_mid at m xs x to e (omega arith) l)

within : (w m k : ℕ) (xs x : List ℕ) (at : ℕ) → length x ≡ m → at + m ≤ length xs → k + w ≤ m → take w (drop (at + k) (with_part at m x xs)) ≡ take w (drop k x)
within w m k xs x at l h e =
    ap (take w) (sym (drop-drop k at (with_part at m x xs)) ∙ ap (drop k) (drop_at (take at xs) (x ++ drop m (drop at xs)) at (length-take-le at xs (omega arith))))
    ∙ ap (take w) (drop-append-le k x (drop m (drop at xs)) (omega arith))
    ∙ take-append-le w (drop k x) (drop m (drop at xs)) (simp length-drop (omega arith))

filled_within : (w m k v : ℕ) (xs : List ℕ) (at : ℕ) → at + m ≤ length xs → k + w ≤ m → take w (drop (at + k) (with_part at m (replicate m v) xs)) ≡ replicate w v
filled_within w m k v xs at h e =
    within w m k xs (replicate m v) at (length-replicate m v) h e ∙ ap (take w) (drop-replicate k m v) ∙ take-replicate w (m - k) v (omega arith)

long : (w m : ℕ) (xs x : List ℕ) (at : ℕ) → length x ≡ m → at + m ≤ length xs → length (with_part at m x xs) ≡ length xs
long w m xs x at l h = simp (length-append, length-take, length-drop) (omega arith)

pub part-here : (xs x : List ℕ) (at : ℕ) → length x ≡ 512 → at + 512 ≤ length xs → part (with_part at 512 x xs) at ≡ x
part-here = here 512

pub part-elsewhere : (m : ℕ) (xs x : List ℕ) (at to : ℕ) → length x ≡ m → at + m ≤ length xs → (to + 512 ≤ at) ⊎ (at + m ≤ to) → part (with_part at m x xs) to ≡ part xs to
part-elsewhere = elsewhere 512

pub part_filled : (m k v : ℕ) (xs : List ℕ) (at : ℕ) → at + m ≤ length xs → k + 512 ≤ m → part (with_part at m (replicate m v) xs) (at + k) ≡ replicate 512 v
part_filled = filled_within 512

pub length-with : (m : ℕ) (xs x : List ℕ) (at : ℕ) → length x ≡ m → at + m ≤ length xs → length (with_part at m x xs) ≡ length xs
length-with = long 512

pub length_part : (bytes : List ℕ) (at : ℕ) → at + 512 ≤ length bytes → length (part bytes at) ≡ 512
length_part bytes at h = simp (length-take, length-drop) (omega arith)

pub low_part : (bytes : List ℕ) (at : ℕ) → AllByRecursion (λ x. x < 256) bytes → AllByRecursion (λ x. x < 256) (part bytes at)
low_part bytes at h = All-take (λ x. x < 256) 512 (drop at bytes) (All-drop (λ x. x < 256) at bytes h)

pub low-filled : (w v : ℕ) → v < 256 → AllByRecursion (λ x. x < 256) (replicate w v)
low-filled w v h = low w
  where
    low : (n : ℕ) → AllByRecursion (λ x. x < 256) (replicate n v)
    low zero = tt
    low (suc n) = (h, low n)
