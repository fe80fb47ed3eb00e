-- In a stripe every slot holds one column, and every column lies in one slot.
use Rattle.std.proofs.Common.{◌≡◌, ℕ, ◌+◌, ◌-◌, ◌%◌, ◌<◌, sym, ap, ◌∙◌, mod-lt, mod-eq_of_lt, arith}
use native.Mathlib.Nat.{add-mod_right, mod-add-mod, add-mod-mod}
use Rattle.layout.specs.Stripes.{slot_of, column_on}

-- once round and back
round : (n s d : ℕ) → d < n → (d + (n - s % n) + s) % n ≡ d
round n s d h =
    let q : s % n < n = mod-lt s (omega arith) in
    let e : d + (n - s % n) + s % n ≡ d + n = omega arith in
    sym (add-mod-mod (d + (n - s % n)) s n) ∙ ap (λ (x : ℕ). x % n) e ∙ add-mod_right d n ∙ mod-eq_of_lt h

pub slot_of-below : (n s c : ℕ) → 0 < n → slot_of n s c < n
slot_of-below n s c h = mod-lt (c + s) h

pub column_on-below : (n s d : ℕ) → 0 < n → column_on n s d < n
column_on-below n s d h = mod-lt (d + (n - s % n)) h

pub slot_of-column_on : (n s d : ℕ) → d < n → slot_of n s (column_on n s d) ≡ d
slot_of-column_on n s d h = mod-add-mod (d + (n - s % n)) n s ∙ round n s d h

pub column_on-slot_of : (n s c : ℕ) → c < n → column_on n s (slot_of n s c) ≡ c
column_on-slot_of n s c h =
    let e : c + s + (n - s % n) ≡ c + (n - s % n) + s = omega arith in
    mod-add-mod (c + s) n (n - s % n) ∙ ap (λ (x : ℕ). x % n) e ∙ round n s c h

-- two columns of a stripe never lie in one slot
pub slot_of-apart : (n s c e : ℕ) → c < n → e < n → slot_of n s c ≡ slot_of n s e → c ≡ e
slot_of-apart n s c e h k p = sym (column_on-slot_of n s c h) ∙ ap (column_on n s) p ∙ column_on-slot_of n s e k

-- from stripe to stripe a column moves on by one slot
pub slot_of-next : (n s c : ℕ) → slot_of n (s + 1) c ≡ (slot_of n s c + 1) % n
slot_of-next n s c =
    let e : c + (s + 1) ≡ c + s + 1 = omega arith in
    ap (λ (x : ℕ). x % n) e ∙ sym (mod-add-mod (c + s) n 1)
