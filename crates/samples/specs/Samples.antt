-- Worked examples, of the very definitions that the contracts cite.
use Rattle.std.specs.Prelude.{ℕ, ◌≡◌, true, List, [], ◌∷◌, take}
use Rattle.field.specs.Field.{doubled, exp}
use Rattle.codes.specs.Single.{single}
use Rattle.codes.specs.Double.{double, solved_two}
use Rattle.model.specs.Samples as of_rules

-- three data bytes
abbrev pub three : List ℕ
three = 1 ∷ 2 ∷ 3 ∷ []

pub record Samples : Type 0 where
  pub twice-128 : doubled 128 ≡ 29
  pub power-12 : exp 12 ≡ 205
  pub check-of-one : single 0 three ≡ 0
  pub checks-of-two : (double 0 three ≡ 0) × (double 1 three ≡ 9)
  -- whatever stands at the two lost places
  pub solved-two : (x y : ℕ) → take 3 (solved_two 3 (x ∷ y ∷ 3 ∷ 0 ∷ 9 ∷ []) (true ∷ true ∷ [])) ≡ three
  -- places of blocks, room in the log, and a rebuilt check
  pub rules : of_rules.Samples
