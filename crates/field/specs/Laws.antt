-- What makes the products of bytes a field.
use Rattle.std.specs.Prelude.{◌≡◌, ℕ, ◌<◌, bit_xor}
use Rattle.field.specs.Field.{exp, log, times, reciprocal}

pub record FieldLaws : Type 0 where
  pub byte : (a b : ℕ) → times a b < 256
  pub commutative : (a b : ℕ) → times a b ≡ times b a
  pub associative : (a b c : ℕ) → times (times a b) c ≡ times a (times b c)
  pub distributive : (a b c : ℕ) → a < 256 → b < 256 → c < 256 → times a (bit_xor b c) ≡ bit_xor (times a b) (times a c)
  pub one : (a : ℕ) → a < 256 → times 1 a ≡ a
  pub inverse : (a : ℕ) → 0 < a → a < 256 → (reciprocal a < 256) × (times (reciprocal a) a ≡ 1)

-- E has order 255: its powers come back to 1 there, are all different before, and are all bytes above 0.
pub record Order255 : Type 0 where
  pub again : exp 255 ≡ 1
  pub different : (i j : ℕ) → i < 255 → j < 255 → exp i ≡ exp j → i ≡ j
  pub every : (b : ℕ) → 0 < b → b < 256 → (log b < 255) × (exp (log b) ≡ b)
