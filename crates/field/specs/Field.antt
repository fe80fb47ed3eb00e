-- The field of 256 elements. An element is a byte, a sum is an exclusive or, and a product goes by the powers of 2.
use Rattle.std.specs.Prelude.{ℕ, zero, suc, ◌+◌, ◌-◌, ◌*◌, ◌/◌, ◌%◌, cond, List, [], ◌∷◌, Some, None, Option, ◌==◌, bit_xor, nat_lt}

abbrev pub doubled : ℕ → ℕ
doubled a = cond (nat_lt a 128) (2 * a) (bit_xor (2 * a - 256) 0x1D)

-- E(i): 1, doubled i times
unfoldable pub exp : ℕ → ℕ
exp zero = 1
exp (suc i) = doubled (exp i)

-- x, its double, and so on: n in all
abbrev pub doubles : ℕ → ℕ → List ℕ
doubles zero x = []
doubles (suc n) x = x ∷ doubles n (doubled x)

-- E(0) to E(254)
unfoldable pub powers : List ℕ
powers = doubles 255 1

-- the place of b in a list, counted from i
abbrev pub place : ℕ → List ℕ → ℕ → ℕ
place b [] i = 0
place b (x ∷ xs) i = cond (x == b) i (place b xs (suc i))

-- of a byte above 0, the exponent
unfoldable pub log : ℕ → ℕ
log b = place b powers 0

abbrev pub log_of : ℕ → Option ℕ
log_of b = cond (b == 0) None (Some (log b))

unfoldable pub times : ℕ → ℕ → ℕ
times a b = cond (a == 0) 0 (cond (b == 0) 0 (exp ((log a + log b) % 255)))

-- 1 / a, of a byte above 0
unfoldable pub reciprocal : ℕ → ℕ
reciprocal a = exp ((255 - log a) % 255)

abbrev pub inverse_of : ℕ → Option ℕ
inverse_of a = cond (a == 0) None (Some (reciprocal a))

-- a / b
abbrev pub quotient_of : ℕ → ℕ → Option ℕ
quotient_of a b = cond (b == 0) None (Some (times a (reciprocal b)))

-- A byte as a polynomial: bit i is the coefficient of x^i.
-- A polynomial of degree below 8 times x, modulo 0x11D: the bits move up by one place, and where bit 8 is then set 0x11D is taken away.
abbrev pub times_x : ℕ → ℕ
times_x a = cond (nat_lt (2 * a) 256) (2 * a) (bit_xor (2 * a) 0x11D)

-- The product of a with the lowest bits of b, modulo 0x11D: a for bit 0, a·x for bit 1, a·x² for bit 2, and so on.
abbrev pub polynomial : ℕ → ℕ → ℕ → ℕ
polynomial zero a b = 0
polynomial (suc bits) a b = bit_xor (cond (b % 2 == 1) a 0) (polynomial bits (times_x a) (b / 2))
