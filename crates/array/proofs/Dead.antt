-- Counting dead slots one by one.
use Rattle.std.proofs.Common.{◌≡◌, ℕ, ◌+◌, ◌<◌, ◌≤◌, Bool, true, false, cond, not, refl, ap, add-one, arith, below_more}
use Rattle.layout.specs.Counts.{count}

pub at_most_one : (b : Bool) → cond b 1 0 ≤ 1
at_most_one true = omega arith
at_most_one false = omega arith

pub one_more : (f : ℕ → Bool) (d n one : ℕ) → n ≡ count d f → one ≡ cond (f d) 1 0 → n + one ≡ count (d + 1) f
one_more f d n one a b =
    let more : count (d + 1) f ≡ cond (f d) 1 0 + count d f = ap (λ (k : ℕ). count k f) (add-one d) in
    omega arith

is_live : (b : Bool) (n one : ℕ) → one ≡ cond (not b) 1 0 → n + one ≡ 0 → b ≡ true
is_live true n one e h = refl
is_live false n one e h = absurd (omega arith)

pub none-dead : (live : ℕ → Bool) (d n one : ℕ) → one ≡ cond (not (live d)) 1 0 → (n ≡ 0 → (i : ℕ) → i < d → live i ≡ true)
    → n + one ≡ 0 → (i : ℕ) → i < d + 1 → live i ≡ true
none-dead live d n one e before h = below_more _ d (before (omega arith)) (is_live (live d) n one e h)
