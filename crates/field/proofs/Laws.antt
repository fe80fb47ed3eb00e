-- The laws of doubling and of products, from the tables' rules.
use Rattle.std.proofs.Common.{◌≡◌, ℕ, zero, suc, ◌+◌, ◌-◌, ◌%◌, ◌<◌, Bool, true, false, cond, eqb, ltb, ◌⊎◌, sym, refl, ap, ◌∙◌, inl, inr, add_comm, arith, eqb→eq, rules}
use lib.Bits.{bit_xor, xor_lt, xor_zero_l}
use Rattle.std.proofs.lemmas.Bool.{cases_eq, cond-false, ltb-true}
use Rattle.field.specs.Field.{doubled, exp, log, times, reciprocal}
use Rattle.field.proofs.Test.{below, at-below, from-T}
use Rattle.field.proofs.Rules.{exp-more, exp-mod, exp-log, log-exp, log-below, exp-byte}

-- doubling respects sums: one test over all pairs of bytes
abbrev adds : ℕ → ℕ → Bool
adds x y = eqb (doubled (bit_xor x y)) (bit_xor (doubled x) (doubled y))

pub doubled-adds : (x y : ℕ) → x < 256 → y < 256 → doubled (bit_xor x y) ≡ bit_xor (doubled x) (doubled y)
doubled-adds x y p q = eqb→eq _ _ (at-below (adds x) 256 (at-below (λ a. below (adds a) 256) 256 tt x p) y q)

pub doubled-byte : (x : ℕ) → x < 256 → doubled x < 256
doubled-byte x h = ltb-true _ _ (from-T _ (at-below (λ x. ltb (doubled x) 256) 256 tt x h))

-- the product of two bytes above 0
pub times-is : (a b : ℕ) → 0 < a → 0 < b → times a b ≡ exp ((log a + log b) % 255)
unfolding times
times-is a b p q = cond-false (eqb a 0) _ _ (search rules) ∙ cond-false (eqb b 0) _ _ (search rules)

pub times-zero-l : (b : ℕ) → times 0 b ≡ 0
unfolding times
times-zero-l b = refl

pub times-zero-r : (a : ℕ) → times a 0 ≡ 0
unfolding times
times-zero-r a = go (eqb a 0)
  where
    go : (t : Bool) → cond t 0 (cond (eqb 0 0) 0 (exp ((log a + log 0) % 255))) ≡ 0
    go true = refl
    go false = refl

pub times-comm : (a b : ℕ) → times a b ≡ times b a
times-comm a b = go (cases_eq a 0) (cases_eq b 0)
  where
    go : (a ≡ 0) ⊎ (a ≡ 0 → ⊥) → (b ≡ 0) ⊎ (b ≡ 0 → ⊥) → times a b ≡ times b a
    go (inl e) f = rw e (times-zero-l b ∙ sym (times-zero-r b))
    go (inr n) (inl e) = rw e (times-zero-r a ∙ sym (times-zero-l a))
    go (inr n) (inr m) = times-is a b (omega arith) (omega arith) ∙ ap (λ k. exp (k % 255)) (add_comm (log a) (log b)) ∙ sym (times-is b a (omega arith) (omega arith))

-- b doubled j times
abbrev pub up : ℕ → ℕ → ℕ
up zero b = b
up (suc j) b = doubled (up j b)

up-zero : (j : ℕ) → up j 0 ≡ 0
up-zero zero = refl
up-zero (suc j) = ap doubled (up-zero j)

up-log : (i b : ℕ) → 0 < b → b < 256 → exp (i + log b) ≡ up i b
up-log zero b p h = let e : zero + log b ≡ log b = omega arith in ap exp e ∙ exp-log b p h
up-log (suc i) b p h = let e : suc i + log b ≡ suc (i + log b) = omega arith in ap exp e ∙ exp-more (i + log b) ∙ ap doubled (up-log i b p h)

pub times-up : (a b : ℕ) → 0 < a → a < 256 → b < 256 → times a b ≡ up (log a) b
times-up a b p h k = go (cases_eq b 0)
  where
    go : (b ≡ 0) ⊎ (b ≡ 0 → ⊥) → times a b ≡ up (log a) b
    go (inl e) = rw e (times-zero-r a ∙ sym (up-zero (log a)))
    go (inr n) = times-is a b p (omega arith) ∙ exp-mod (log a + log b) ∙ up-log (log a) b (omega arith) k

pub up-byte : (j b : ℕ) → b < 256 → up j b < 256
up-byte zero b h = h
up-byte (suc j) b h = doubled-byte (up j b) (up-byte j b h)

up-adds : (j x y : ℕ) → x < 256 → y < 256 → up j (bit_xor x y) ≡ bit_xor (up j x) (up j y)
up-adds zero x y p q = refl
up-adds (suc j) x y p q = ap doubled (up-adds j x y p q) ∙ doubled-adds (up j x) (up j y) (up-byte j x p) (up-byte j y q)

-- products respect sums
pub times-adds : (a x y : ℕ) → a < 256 → x < 256 → y < 256 → times a (bit_xor x y) ≡ bit_xor (times a x) (times a y)
times-adds a x y p q r = go (cases_eq a 0)
  where
    go : (a ≡ 0) ⊎ (a ≡ 0 → ⊥) → times a (bit_xor x y) ≡ bit_xor (times a x) (times a y)
    go (inl e) = rw e (times-zero-l (bit_xor x y) ∙ sym (ap (λ s. bit_xor s (times 0 y)) (times-zero-l x) ∙ xor_zero_l (times 0 y) ∙ times-zero-l y))
    go (inr n) =
        let s : 0 < a = omega arith in
        times-up a (bit_xor x y) s p (xor_lt 8 x y q r) ∙ up-adds (log a) x y q r
        ∙ sym (ap (λ t. bit_xor t (times a y)) (times-up a x s p q) ∙ ap (bit_xor (up (log a) x)) (times-up a y s p r))

pub times-byte : (a b : ℕ) → times a b < 256
times-byte a b = go (cases_eq a 0) (cases_eq b 0)
  where
    go : (a ≡ 0) ⊎ (a ≡ 0 → ⊥) → (b ≡ 0) ⊎ (b ≡ 0 → ⊥) → times a b < 256
    go (inl e) f = rw (e, times-zero-l b) (omega arith)
    go (inr n) (inl e) = rw (e, times-zero-r a) (omega arith)
    go (inr n) (inr m) = rw (times-is a b (omega arith) (omega arith)) (exp-byte ((log a + log b) % 255)).1

pub times_above : (a b : ℕ) → 0 < a → 0 < b → 0 < times a b
times_above a b p q = rw (times-is a b p q) (exp-byte ((log a + log b) % 255)).0

log-times : (a b : ℕ) → 0 < a → 0 < b → log (times a b) ≡ (log a + log b) % 255
log-times a b p q = ap log (times-is a b p q) ∙ log-exp ((log a + log b) % 255) (omega arith)

pub times-assoc : (a b c : ℕ) → times (times a b) c ≡ times a (times b c)
times-assoc a b c = go (cases_eq a 0) (cases_eq b 0) (cases_eq c 0)
  where
    go : (a ≡ 0) ⊎ (a ≡ 0 → ⊥) → (b ≡ 0) ⊎ (b ≡ 0 → ⊥) → (c ≡ 0) ⊎ (c ≡ 0 → ⊥) → times (times a b) c ≡ times a (times b c)
    go (inl e) f g = rw e (ap (λ x. times x c) (times-zero-l b) ∙ times-zero-l c ∙ sym (times-zero-l (times b c)))
    go (inr n) (inl e) g = rw e (ap (λ x. times x c) (times-zero-r a) ∙ times-zero-l c ∙ sym (ap (times a) (times-zero-l c) ∙ times-zero-r a))
    go (inr n) (inr m) (inl e) = rw e (times-zero-r (times a b) ∙ sym (ap (times a) (times-zero-r b) ∙ times-zero-r a))
    go (inr n) (inr m) (inr k) =
        let pa : 0 < a = omega arith in
        let pb : 0 < b = omega arith in
        let pc : 0 < c = omega arith in
        let e : ((log a + log b) % 255 + log c) % 255 ≡ (log a + (log b + log c) % 255) % 255 = omega arith in
        times-is (times a b) c (times_above a b pa pb) pc
        ∙ ap (λ l. exp ((l + log c) % 255)) (log-times a b pa pb)
        ∙ ap exp e
        ∙ sym (times-is a (times b c) pa (times_above b c pb pc) ∙ ap (λ l. exp ((log a + l) % 255)) (log-times b c pb pc))

exp-zero : exp 0 ≡ 1
unfolding exp
exp-zero = refl

log-one : log 1 ≡ 0
log-one = ap log (sym exp-zero) ∙ log-exp 0 (omega arith)

pub times-one : (b : ℕ) → b < 256 → times 1 b ≡ b
times-one b h = times-up 1 b (omega arith) (omega arith) h ∙ ap (λ k. up k b) log-one

pub reciprocal-byte : (d : ℕ) → (0 < reciprocal d) × (reciprocal d < 256)
unfolding reciprocal
reciprocal-byte d = exp-byte ((255 - log d) % 255)

pub times-reciprocal : (d : ℕ) → 0 < d → d < 256 → times (reciprocal d) d ≡ 1
unfolding reciprocal
times-reciprocal d p h =
    let l = log-below d p h in
    let e : ((255 - log d) % 255 + log d) % 255 ≡ 0 = omega arith in
    times-is (exp ((255 - log d) % 255)) d (exp-byte ((255 - log d) % 255)).0 p
    ∙ ap (λ k. exp ((k + log d) % 255)) (log-exp ((255 - log d) % 255) (omega arith))
    ∙ ap exp e ∙ exp-zero

pub exp-different : (i j : ℕ) → i < 255 → j < 255 → exp i ≡ exp j → i ≡ j
exp-different i j p q e = sym (log-exp i p) ∙ ap log e ∙ log-exp j q
