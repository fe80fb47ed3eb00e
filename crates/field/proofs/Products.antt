-- The product is that of polynomials modulo 0x11D, and what the functions make of the tables.
use Rattle.std.proofs.Common.{◌≡◌, ℕ, zero, suc, ◌+◌, ◌-◌, ◌/◌, ◌%◌, ◌^◌, ◌<◌, Bool, cond, eqb, ◌⊎◌, sym, refl, ap, ◌∙◌, inl, inr, arith, eqb→eq, rules}
use lib.Bits.{bit_xor}
use Rattle.std.proofs.lemmas.Bool.{cases_eq}
use Rattle.field.specs.Field.{doubled, exp, log, times, reciprocal, times_x, polynomial}
use Rattle.field.specs.Laws.{FieldLaws, Order255}
use Rattle.field.proofs.Test.{at-below}
use Rattle.field.proofs.Rules.{exp-again, exp-log, log-exp, log-below, exp-byte}
use Rattle.field.proofs.Laws.{up, doubled-byte, times-is, times-up, times-adds, times_above, times-zero-l, times-zero-r, times-comm, times-assoc, times-one, times-byte, reciprocal-byte, times-reciprocal, exp-different}

times_x-is : (a : ℕ) → a < 256 → times_x a ≡ doubled a
times_x-is a h = eqb→eq _ _ (at-below (λ x. eqb (times_x x) (doubled x)) 256 tt a h)

-- a byte is its lowest bit and the double of the rest
abbrev parts : ℕ → Bool
parts b = eqb b (bit_xor (b % 2) (doubled (b / 2)))

in_parts : (b : ℕ) → b < 256 → b ≡ bit_xor (b % 2) (doubled (b / 2))
in_parts b h = eqb→eq _ _ (at-below parts 256 tt b h)

up_up : (j b : ℕ) → up j (doubled b) ≡ doubled (up j b)
up_up zero b = refl
up_up (suc j) b = ap doubled (up_up j b)

times-doubled : (a c : ℕ) → a < 256 → c < 256 → times a (doubled c) ≡ times (doubled a) c
times-doubled a c p q = go (cases_eq c 0)
  where
    go : (c ≡ 0) ⊎ (c ≡ 0 → ⊥) → times a (doubled c) ≡ times (doubled a) c
    go (inl e) = rw e (times-zero-r a ∙ sym (times-zero-r (doubled a)))
    go (inr n) = go' (cases_eq a 0)
      where
        go' : (a ≡ 0) ⊎ (a ≡ 0 → ⊥) → times a (doubled c) ≡ times (doubled a) c
        go' (inl e) = rw e (times-zero-l (doubled c) ∙ sym (times-zero-l c))
        go' (inr m) =
            times-up a (doubled c) (omega arith) p (doubled-byte c q) ∙ up_up (log a) c ∙ ap doubled (sym (times-up a c (omega arith) p q) ∙ times-comm a c ∙ times-up c a (omega arith) q p)
            ∙ sym (up_up (log c) a) ∙ sym (times-up c (doubled a) (omega arith) q (doubled-byte a p)) ∙ times-comm c (doubled a)

lowest : (a r : ℕ) → a < 256 → r < 2 → times a r ≡ cond (eqb r 1) a 0
lowest a zero p q = times-zero-r a
lowest a (suc zero) p q = times-comm a 1 ∙ times-one a p
lowest a (suc (suc r)) p q = absurd (omega arith)

pub polynomial-is : (n a b : ℕ) → a < 256 → b < 256 → b < 2 ^ n → polynomial n a b ≡ times a b
polynomial-is zero a b p q h = let e : b ≡ 0 = omega arith in sym (ap (times a) e ∙ times-zero-r a)
polynomial-is (suc n) a b p q h =
    let half : b / 2 < 2 ^ n = halved n b h in
    let low : b / 2 < 256 = omega arith in
    ap (λ x. bit_xor (cond (eqb (b % 2) 1) a 0) (polynomial n x (b / 2))) (times_x-is a p)
    ∙ ap (bit_xor (cond (eqb (b % 2) 1) a 0)) (polynomial-is n (doubled a) (b / 2) (doubled-byte a p) low half ∙ sym (times-doubled a (b / 2) p low))
    ∙ ap (λ x. bit_xor x (times a (doubled (b / 2)))) (sym (lowest a (b % 2) p (omega arith)))
    ∙ sym (times-adds a (b % 2) (doubled (b / 2)) p (omega arith) (doubled-byte (b / 2) low))
    ∙ ap (times a) (sym (in_parts b q))
  where
    halved : (n b : ℕ) → b < 2 ^ suc n → b / 2 < 2 ^ n
    halved n b h = search rules

pub field_laws : FieldLaws
field_laws = record {
  byte = times-byte;
  commutative = times-comm;
  associative = times-assoc;
  distributive = times-adds;
  one = times-one;
  inverse = λ a p h. ((reciprocal-byte a).1, times-reciprocal a p h);
}

pub order-255 : Order255
order-255 = record { again = exp-again; different = exp-different; every = λ b p h. (log-below b p h, exp-log b p h) }

-- a power times a byte above 0
pub scaled-is : (j b : ℕ) → 0 < b → b < 256 → exp ((j % 255 + log b) % 255) ≡ times (exp (j % 255)) b
scaled-is j b p h =
    let e = log-exp (j % 255) (omega arith) in
    ap (λ k. exp ((k + log b) % 255)) (sym e) ∙ sym (times-is (exp (j % 255)) b (exp-byte (j % 255)).0 p)

pub quotient_is : (a b : ℕ) → 0 < a → 0 < b → b < 256 → exp ((log a + (255 - log b)) % 255) ≡ times a (reciprocal b)
unfolding reciprocal
quotient_is a b p q h =
    let r = log-exp ((255 - log b) % 255) (omega arith) in
    let e : (log a + (255 - log b)) % 255 ≡ (log a + (255 - log b) % 255) % 255 = omega arith in
    ap exp e ∙ ap (λ k. exp ((log a + k) % 255)) (sym r) ∙ sym (times-is a (exp ((255 - log b) % 255)) p (exp-byte ((255 - log b) % 255)).0)

-- products with a byte above 0 tell bytes apart
pub times_none : (a b : ℕ) → 0 < a → times a b ≡ 0 → b ≡ 0
times_none a b p e = go (cases_eq b 0)
  where
    go : (b ≡ 0) ⊎ (b ≡ 0 → ⊥) → b ≡ 0
    go (inl z) = z
    go (inr n) = absurd (let h = times_above a b p (omega arith) in omega arith)

pub times-cancel : (a b x : ℕ) → a < 256 → b < 256 → 0 < x → x < 256 → times a x ≡ times b x → a ≡ b
times-cancel a b x p q s h e = sym (undo a p) ∙ ap (times (reciprocal x)) (times-comm x a ∙ e ∙ times-comm b x) ∙ undo b q
  where
    undo : (c : ℕ) → c < 256 → times (reciprocal x) (times x c) ≡ c
    undo c l = sym (times-assoc (reciprocal x) x c) ∙ ap (λ y. times y c) (times-reciprocal x s h) ∙ times-one c l

-- b · (a / b) is a
pub times-over : (a b : ℕ) → a < 256 → 0 < b → b < 256 → times b (times a (reciprocal b)) ≡ a
times-over a b p s h =
    ap (times b) (times-comm a (reciprocal b)) ∙ sym (times-assoc b (reciprocal b) a) ∙ ap (λ y. times y a) (times-comm b (reciprocal b) ∙ times-reciprocal b s h) ∙ times-one a p
