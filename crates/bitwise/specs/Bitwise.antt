-- Bytes as polynomials modulo x^8 + x^4 + x^3 + x^2 + 1: bit i is the coefficient of x^i.
use Rattle.std.specs.Prelude.{ℕ, zero, suc, ◌-◌, ◌*◌, ◌/◌, ◌%◌, ◌^◌, cond, Bool, ◌==◌, bit_xor, nat_lt}

-- Times x: the coefficients move up by one, and x^8 is x^4 + x^3 + x^2 + 1.
abbrev pub times_x : ℕ → ℕ
times_x a = cond (nat_lt a 128) (2 * a) (bit_xor (2 * a - 256) 0x1D)

-- The product of a with the lowest bits of b: a for bit 0, a·x for bit 1, a·x² for bit 2, and so on.
unfoldable pub product : ℕ → ℕ → ℕ → ℕ
product zero a b = 0
product (suc bits) a b = bit_xor (cond (b % 2 == 1) a 0) (product bits (times_x a) (b / 2))

-- x to the power e
unfoldable pub power : ℕ → ℕ
power zero = 1
power (suc e) = times_x (power e)

-- Whether bit i of a number is set.
abbrev pub bit : ℕ → ℕ → Bool
bit n i = n / 2 ^ i % 2 == 1
