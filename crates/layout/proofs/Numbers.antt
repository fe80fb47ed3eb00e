-- Numbers of four bytes one after another.
use Rattle.std.proofs.Common.{◌≡◌, ℕ, zero, suc, ◌+◌, ◌-◌, ◌*◌, ◌/◌, ◌%◌, ◌<◌, List, [], ◌∷◌, ◌++◌, length, get_or, take, drop, replicate, sym, refl, ap, ◌∙◌, ap₂, mod-eq_of_lt, arith}
use lib.Seq.{paste}
use Rattle.std.specs.List.{flat_map}
use Rattle.std.proofs.lemmas.List.{append_assoc, take_at, drop-drop, drop_at, length-append, length-take, take_more, take_all, drop-replicate, get_or-append-add}
use Rattle.std.proofs.lemmas.Nat.{shr-shr, div-add-mod', div_below}
use Rattle.layout.specs.Bytes.{le4, four_at}

pub length-joined : (xs : List ℕ) → length (flat_map le4 xs) ≡ 4 * length xs
length-joined [] = refl
length-joined (x ∷ xs) = let e = length-joined xs in omega arith

joined-push : (xs : List ℕ) (y : ℕ) → flat_map le4 (xs ++ y ∷ []) ≡ flat_map le4 xs ++ le4 y
joined-push [] y = refl
joined-push (x ∷ xs) y = ap (λ (z : List ℕ). le4 x ++ z) (joined-push xs y)

paste-zeros : (p q : List ℕ) (at r n : ℕ) → length p ≡ at → length q ≡ 4 → n ≡ 4 + r → paste (p ++ replicate n 0) at q 4 ≡ (p ++ q) ++ replicate r 0
paste-zeros p q at r n l m e =
    let z : List ℕ = replicate n 0 in
    let k : n - 4 ≡ r = omega arith in
    ap₂ (λ (x y : List ℕ). x ++ y)
    (ap₂ (λ (x y : List ℕ). x ++ y) (take_at p z at l) (take_all 4 q (omega arith)))
    (sym (drop-drop 4 at (p ++ z)) ∙ ap (λ (x : List ℕ). drop 4 x) (drop_at p z at l) ∙ drop-replicate 4 n 0 ∙ ap (λ (j : ℕ). replicate j 0) k)

-- one number more over the zeros behind a front of twenty bytes
pub goods-more : (f good : List ℕ) (i : ℕ) → length f ≡ 20 → length good ≡ 16 → i < 16 → paste ((f ++ flat_map le4 (take i good)) ++ replicate (492 - 4 * i) 0) (20 + 4 * i) (le4 (get_or good i 0)) 4 ≡ (f ++ flat_map le4 (take (i + 1) good)) ++ replicate (492 - 4 * (i + 1)) 0
goods-more f good i l g h =
    let n : length (f ++ flat_map le4 (take i good)) ≡ 20 + 4 * i = simp (length-append, length-joined, length-take) (omega arith) in
    let j : flat_map le4 (take (i + 1) good) ≡ flat_map le4 (take i good) ++ le4 (get_or good i 0) = ap (flat_map le4) (take_more good i 0 (omega arith)) ∙ joined-push (take i good) (get_or good i 0) in
    paste-zeros (f ++ flat_map le4 (take i good)) (le4 (get_or good i 0)) (20 + 4 * i) (492 - 4 * (i + 1)) (492 - 4 * i) n refl (omega arith)
    ∙ ap (λ (x : List ℕ). x ++ replicate (492 - 4 * (i + 1)) 0) (append_assoc f (flat_map le4 (take i good)) (le4 (get_or good i 0)) ∙ sym (ap (λ (x : List ℕ). f ++ x) j))

-- a number is what its four bytes say
pub four_at-le4 : (v : ℕ) → v < 4294967296 → four_at (le4 v) 0 ≡ v
four_at-le4 v h =
    let a : v / 256 / 256 ≡ v / 65536 = shr-shr v 8 8 in
    let b : v / 65536 / 256 ≡ v / 16777216 = shr-shr v 16 8 in
    let x = div-add-mod' v 256 in
    let y = div-add-mod' (v / 256) 256 in
    let z = div-add-mod' (v / 65536) 256 in
    let t : v / 16777216 < 256 = div_below v 16777216 256 (omega arith) (omega arith) in
    let m : v / 16777216 % 256 ≡ v / 16777216 = mod-eq_of_lt t in
    omega arith

-- the number past a front
pub four_at-past : (p z : List ℕ) (i : ℕ) → four_at (p ++ z) (length p + i) ≡ four_at z i
four_at-past p z i =
    let at : (j : ℕ) → get_or (p ++ z) (length p + i + j) 0 ≡ get_or z (i + j) 0 = λ j.
    let e : length p + i + j ≡ length p + (i + j) = omega arith in
    ap (λ (n : ℕ). get_or (p ++ z) n 0) e ∙ get_or-append-add p z (i + j) 0 in
    let a = get_or-append-add p z i 0 in
    let b = at 1 in
    let c = at 2 in
    let d = at 3 in
    rw (a, b, c, d)

-- the number at a place in a row of numbers
pub four_at-joined : (xs q : List ℕ) (d : ℕ) → d < length xs → four_at (flat_map le4 xs ++ q) (4 * d) ≡ four_at (le4 (get_or xs d 0)) 0
four_at-joined [] q d h = absurd (omega arith)
four_at-joined (x ∷ xs) q zero h = refl
four_at-joined (x ∷ xs) q (suc d) h =
    let e : 4 * suc d ≡ 4 + 4 * d = omega arith in
    ap (four_at (flat_map le4 (x ∷ xs) ++ q)) e ∙ four_at-past (le4 x) (flat_map le4 xs ++ q) (4 * d) ∙ four_at-joined xs q d (omega arith)
