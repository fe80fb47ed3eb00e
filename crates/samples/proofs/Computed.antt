-- The samples, computed.
use Prim.Native.Nat.{ℕ}
use mathlib.Core.Path.{◌≡◌, refl}
use mathlib.Core.Bool.{true}
use mathlib.Core.List.{[], ◌∷◌}
use Rattle.field.specs.Field.{exp, powers, log, times, reciprocal}
use Rattle.codes.specs.Sums.{sum_to, total, weighted}
use Rattle.codes.specs.Double.{divided, data_two, solved_two}
use Rattle.samples.specs.Samples.{Samples}

pub row-solved : (x y : ℕ) → solved_two 3 (x ∷ y ∷ 3 ∷ 0 ∷ 9 ∷ []) (true ∷ true ∷ []) ≡ 1 ∷ 2 ∷ 3 ∷ 0 ∷ 9 ∷ []
unfolding solved_two data_two divided total weighted sum_to times reciprocal log exp powers
row-solved x y = refl

pub samples : Samples
unfolding solved_two data_two divided total weighted sum_to times reciprocal log exp powers
samples = record {
  twice-128 = refl;
  power-12 = refl;
  check-of-one = refl;
  checks-of-two = (refl, refl);
  solved-two = λ x y. refl;
  rules = record { place = (refl, refl, refl, refl); eight = (refl, refl, refl); nine = (refl, refl, refl); rebuilt-check = refl };
}
