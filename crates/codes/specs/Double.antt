-- Code 2: two check rows, the sum of the data (P) and the sum of E(j) times column j (Q).
use Rattle.std.specs.Prelude.{ℕ, zero, suc, ◌-◌, Bool, cond, Option, Some, None, List, ◌==◌, bit_xor, nat_lt, slice_set}
use Rattle.field.specs.Field.{exp, times, reciprocal}
use Rattle.codes.specs.Code.{lost_at}
use Rattle.codes.specs.Sums.{total, weighted}
use Rattle.codes.specs.Solving.{next_lost, cleared, gap, completed}

abbrev pub double : ℕ → List ℕ → ℕ
double zero xs = total xs
double (suc zero) xs = weighted 1 xs
double (suc (suc r)) xs = 0

-- a / b, and 0 where b is 0
unfoldable pub divided : ℕ → ℕ → ℕ
divided a b = cond (b == 0) 0 (times a (reciprocal b))

-- One lost data byte, at i, where P lacks p and Q lacks q: by P, or by Q where there is no P.
abbrev pub lone : ℕ → Option ℕ → ℕ → ℕ
lone i (Some p) q = p
lone i None q = divided q (exp i)

-- What P lacks, but where P is lost.
abbrev pub unless : Bool → ℕ → Option ℕ
unless no_p p = cond no_p None (Some p)

-- Two, at i and j: x of x + y = p and E(i)x + E(j)y = q.
abbrev pub former : ℕ → ℕ → ℕ → ℕ → ℕ
former i j p q = divided (bit_xor q (times (exp j) p)) (bit_xor (exp i) (exp j))

abbrev pub pair : ℕ → ℕ → ℕ → ℕ → List ℕ → List ℕ
pair i j p q z = slice_set (slice_set z i (former i j p q)) j (bit_xor p (former i j p q))

-- The lost data bytes, of which i is the first and j the next.
abbrev pub fill_two : ℕ → ℕ → ℕ → Bool → List ℕ → List ℕ
fill_two k i j no_p z = cond (nat_lt i k) (cond (nat_lt j k) (pair i j (gap double k z 0) (gap double k z 1) z) (slice_set z i (lone i (unless no_p (gap double k z 0)) (gap double k z 1)))) z

unfoldable pub data_two : ℕ → List ℕ → List Bool → List ℕ
data_two k row lost = fill_two k (next_lost lost 0 k) (next_lost lost (suc (next_lost lost 0 k)) (k - suc (next_lost lost 0 k))) (lost_at lost k) (cleared lost k row)

unfoldable pub solved_two : ℕ → List ℕ → List Bool → List ℕ
solved_two k row lost = completed double 2 k lost (data_two k row lost)
