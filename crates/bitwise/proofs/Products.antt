-- Products and powers, step by step.
use Rattle.std.proofs.Common.{◌≡◌, ℕ, suc, ◌+◌, ◌-◌, ◌/◌, ◌%◌, ◌<◌, ◌==◌, cond, sym, ap, ◌∙◌, add-one, ◌^◌, ◌≤◌, false, arith}
use Rattle.std.specs.Int.Bits.{bit_xor, xor_assoc}
use Rattle.std.proofs.Math.Nat.{div-eq_of_lt}
use Rattle.std.proofs.Math.Pow.{pow_mono}
use Rattle.bitwise.specs.Bitwise.{times_x, product, power, bit}

pub product-none : (n a b : ℕ) → n ≡ 0 → product n a b ≡ 0
unfolding product
product-none n a b e = ap (λ m. product m a b) e

-- what is left of a sum of products moves on by one bit
pub product-step : (k s a b : ℕ) → k < 8 → bit_xor s (product (8 - k) a b) ≡ bit_xor (bit_xor s (cond (b % 2 == 1) a 0)) (product (8 - (k + 1)) (times_x a) (b / 2))
unfolding product
product-step k s a b h =
    let e : 8 - k ≡ suc (8 - (k + 1)) = omega arith in
    ap (λ n. bit_xor s (product n a b)) e ∙ sym (xor_assoc s (cond (b % 2 == 1) a 0) (product (8 - (k + 1)) (times_x a) (b / 2)))

pub power-more : (k : ℕ) → power (k + 1) ≡ times_x (power k)
unfolding power
power-more k = ap power (add-one k)

pub bit-past : (n i : ℕ) → n < 2 ^ 32 → 32 ≤ i → bit n i ≡ false
bit-past n i h l =
    let most : 2 ^ 32 ≤ 2 ^ i = pow_mono l in
    let e : n / 2 ^ i ≡ 0 = div-eq_of_lt (omega (arith, h, most)) in
    ap (λ (x : ℕ). x % 2 == 1) e
