-- A backplane in a row of bytes: what a store, a pull and a fit change of it.
use Rattle.std.proofs.Common.{◌≡◌, ℕ, ◌+◌, ◌*◌, ◌/◌, ◌%◌, ◌<◌, ◌≤◌, Bool, true, false, cond, ◌&&◌, eqb, ltb, ◌⊎◌, List, [], length, get_or, set, replicate, sym, refl, ap, ◌∙◌, ap₂, inl, inr, mul-le-mul_right, add-mul, arith}
use lib.Arith.{digits_lt, digits_div, digits_mod}
use Rattle.std.specs.List.{AllByRecursion}
use Rattle.std.proofs.lemmas.List.{get_or-set_same, get_or-set_other, length-replicate}
use Rattle.std.proofs.lemmas.Bool.{cases_order, cases_Bool, eq-eqb, lt-ltb, ltb-true, eqb-true, eqb-false, and_parts, and_from, and_left, le-ltb, cond-true, cond-false, both_ways, false≢true}
use Rattle.backplane.specs.Plane.{to_block, to_cell, stored, fitted}
use Rattle.backplane.specs.Meaning.{Sound}
use Rattle.memory.specs.Lent.{part, with_part, block_at, cell_at, alive, laid_out}
use Rattle.memory.proofs.Parts.{part-here, part-elsewhere, part_filled, length_part, low_part}

-- places apart
apart : (s d b i j : ℕ) → b < s → j < s → (i ≡ d → j ≡ b → ⊥) → (i * s + j ≡ d * s + b → ⊥)
apart s d b i j k l ne e =
    ne (sym (digits_div i l) ∙ ap (λ (x : ℕ). x / s) e ∙ digits_div d k) (sym (digits_mod i l) ∙ ap (λ (x : ℕ). x % s) e ∙ digits_mod d k)

away : (p q : ℕ) → (p ≡ q → ⊥) → (512 * p + 512 ≤ 512 * q) ⊎ (512 * q + 512 ≤ 512 * p)
away p q ne = elim (cases_order p q) [ inl e ↦ absurd (ne e) | inr o ↦ elim o [ inl l ↦ inl (omega arith) | inr l ↦ inr (omega arith) ] ]

-- where one place of a table changes
cond_step : (t u : Bool) (x y z : List ℕ) → (u ≡ true → (t ≡ true) × (x ≡ z)) → (u ≡ false → t ≡ true → x ≡ y) → cond t x [] ≡ cond u z (cond t y [])
cond_step true true x y z f g = (f refl).1
cond_step true false x y z f g = g refl refl
cond_step false true x y z f g = absurd (false≢true (f refl).0)
cond_step false false x y z f g = refl

module _ (bytes : List ℕ) (n s c : ℕ) (on : Bool) (live : List Bool) (fit : 512 * (n * s + c) ≤ length bytes) where
  module _ (x : List ℕ) (long : length x ≡ 512) where
    pub stored-block : (d b : ℕ) → alive n live d ≡ true → b < s
        → laid_out (with_part (block_at s d b) 512 x bytes) n s c on live ≡ stored (to_block d b x) (laid_out bytes n s c on live)
    stored-block d b a h =
        let dn : d < n = ltb-true d n (and_parts (ltb d n) (get_or live d false) a).0 in
        let inn : d * s + b < n * s = digits_lt dn h in
        let m : List ℕ = with_part (block_at s d b) 512 x bytes in
        let t : ℕ → ℕ → Bool = λ i j. alive n live i && ltb j s in
        let blk : (i j : ℕ) → cond (t i j) (part m (block_at s i j)) [] ≡ cond (eqb i d && eqb j b) x (cond (t i j) (part bytes (block_at s i j)) []) = λ i j.
        cond_step (t i j) (eqb i d && eqb j b) (part m (block_at s i j)) (part bytes (block_at s i j)) x
        (λ u. let ei = eqb-true i d (and_parts (eqb i d) (eqb j b) u).0 in
        let ej = eqb-true j b (and_parts (eqb i d) (eqb j b) u).1 in (
          and_from (alive n live i) (ltb j s) (ap (alive n live) ei ∙ a) (lt-ltb j s (omega arith)),
          ap₂ (λ (v w : ℕ). part m (block_at s v w)) ei ej ∙ part-here bytes x (block_at s d b) long (omega arith),
        ))
        (λ u y. let js : j < s = ltb-true j s (and_parts (alive n live i) (ltb j s) y).1 in
        let ne = apart s d b i j h js (λ p q. both_ways (eqb i d && eqb j b) u (and_from (eqb i d) (eqb j b) (eq-eqb i d p) (eq-eqb j b q))) in
        part-elsewhere 512 bytes x (block_at s d b) (block_at s i j) long (omega arith) (away (i * s + j) (d * s + b) ne)) in
        let cel : (i : ℕ) → cond (ltb i c) (part m (cell_at n s i)) [] ≡ cond (ltb i c) (part bytes (cell_at n s i)) [] = λ i.
        ap (λ (v : List ℕ). cond (ltb i c) v []) (part-elsewhere 512 bytes x (block_at s d b) (cell_at n s i) long (omega arith) (inr (omega arith))) in
        λ k. record { slots = n; blocks = s; cells = c; on = on; live = alive n live; block = λ i j. blk i j k; cell = λ i. cel i k }

    pub stored-cell : (e : ℕ) → e < c
        → laid_out (with_part (cell_at n s e) 512 x bytes) n s c on live ≡ stored (to_cell e x) (laid_out bytes n s c on live)
    stored-cell e h =
        let m : List ℕ = with_part (cell_at n s e) 512 x bytes in
        let t : ℕ → ℕ → Bool = λ i j. alive n live i && ltb j s in
        let blk : (i j : ℕ) → cond (t i j) (part m (block_at s i j)) [] ≡ cond (t i j) (part bytes (block_at s i j)) [] = λ i j.
        cond_step (t i j) false (part m (block_at s i j)) (part bytes (block_at s i j)) x (λ u. absurd (false≢true u))
        (λ u y. let q = and_parts (alive n live i) (ltb j s) y in
        let js : j < s = ltb-true j s q.1 in
        let ni : i < n = ltb-true i n (and_parts (ltb i n) (get_or live i false) q.0).0 in
        let inn : i * s + j < n * s = digits_lt ni js in
        part-elsewhere 512 bytes x (cell_at n s e) (block_at s i j) long (omega arith) (inl (omega arith))) in
        let cel : (i : ℕ) → cond (ltb i c) (part m (cell_at n s i)) [] ≡ cond (eqb i e) x (cond (ltb i c) (part bytes (cell_at n s i)) []) = λ i.
        cond_step (ltb i c) (eqb i e) (part m (cell_at n s i)) (part bytes (cell_at n s i)) x
        (λ u. let ei = eqb-true i e u in
        (lt-ltb i c (omega arith), ap (λ (v : ℕ). part m (cell_at n s v)) ei ∙ part-here bytes x (cell_at n s e) long (omega arith)))
        (λ u y. part-elsewhere 512 bytes x (cell_at n s e) (cell_at n s i) long (omega arith) (away (n * s + i) (n * s + e) (λ q. eqb-false i e u (omega arith)))) in
        λ k. record { slots = n; blocks = s; cells = c; on = on; live = alive n live; block = λ i j. blk i j k; cell = λ i. cel i k }

  pub sound-laid : AllByRecursion (λ x. x < 256) bytes → Sound (laid_out bytes n s c on live)
  sound-laid low = record {
    blocks = λ d b h k l.
        let i : d * s + b < n * s = digits_lt h k in
        let e = cond-true (alive n live d && ltb b s) (part bytes (block_at s d b)) [] (and_from (alive n live d) (ltb b s) l (lt-ltb b s k)) in
        rw e (length_part bytes (block_at s d b) (omega arith), low_part bytes (block_at s d b) low);
    cells = λ i h.
        let e = cond-true (ltb i c) (part bytes (cell_at n s i)) [] (lt-ltb i c h) in
        rw e (length_part bytes (cell_at n s i) (omega arith), low_part bytes (cell_at n s i) low);
    within = λ d h. and_left (ltb d n) (get_or live d false) (le-ltb d n h);
  }

  -- a slot whose life is set
  module _ (d : ℕ) (v : Bool) (h : d < n) (l : d < length live) where
    pub alive-set : (i : ℕ) → alive n (set live d v) i ≡ cond (eqb i d) v (alive n live i)
    alive-set i = elim (cases_Bool (eqb i d)) [
      | inl e ↦ let q = eqb-true i d e in
          ap (alive n (set live d v)) q ∙ ap₂ (λ (x y : Bool). x && y) (lt-ltb d n h) (get_or-set_same live d v false l) ∙ sym (cond-true (eqb i d) v (alive n live i) e)
      | inr e ↦ ap (λ (y : Bool). ltb i n && y) (get_or-set_other live d i v false (eqb-false i d e)) ∙ sym (cond-false (eqb i d) v (alive n live i) e)
    ]

    -- the bytes m are those before on every other slot and in the cells, and x on this one
    module _ (m : List ℕ) (x : ℕ → List ℕ) (this : (j : ℕ) → cond (v && ltb j s) (part m (block_at s d j)) [] ≡ x j)
        (others : (i j : ℕ) → i < n → (i ≡ d → ⊥) → j < s → part m (block_at s i j) ≡ part bytes (block_at s i j))
        (kept : (i : ℕ) → part m (cell_at n s i) ≡ part bytes (cell_at n s i)) where
      on-other : (t : Bool) (i j : ℕ) → (i ≡ d → ⊥) → alive n live i && ltb j s ≡ t → cond t (part m (block_at s i j)) [] ≡ cond t (part bytes (block_at s i j)) []
      on-other true i j ne e =
          let q = and_parts (alive n live i) (ltb j s) e in
          others i j (ltb-true i n (and_parts (ltb i n) (get_or live i false) q.0).0) ne (ltb-true j s q.1)
      on-other false i j ne e = refl

      block-set : (i j : ℕ) → cond (alive n (set live d v) i && ltb j s) (part m (block_at s i j)) []
          ≡ cond (eqb i d) (x j) (cond (alive n live i && ltb j s) (part bytes (block_at s i j)) [])
      block-set i j = elim (cases_Bool (eqb i d)) [
        | inl e ↦ ap (λ (b : Bool). cond (b && ltb j s) (part m (block_at s i j)) []) (alive-set i ∙ cond-true (eqb i d) v (alive n live i) e)
            ∙ ap (λ (k : ℕ). cond (v && ltb j s) (part m (block_at s k j)) []) (eqb-true i d e) ∙ this j ∙ sym (cond-true (eqb i d) _ _ e)
        | inr e ↦ ap (λ (b : Bool). cond (b && ltb j s) (part m (block_at s i j)) []) (alive-set i ∙ cond-false (eqb i d) v (alive n live i) e)
            ∙ on-other (alive n live i && ltb j s) i j (eqb-false i d e) refl ∙ sym (cond-false (eqb i d) _ _ e)
      ]

      pub life-set : laid_out m n s c on (set live d v) ≡ fitted d v x (laid_out bytes n s c on live)
      life-set = λ k. record { slots = n; blocks = s; cells = c; on = on; live = λ i. alive-set i k; block = λ i j. block-set i j k; cell = λ i. cond (ltb i c) (kept i k) [] }

  pub pulled-slot : (d : ℕ) → d < n → d < length live → laid_out bytes n s c on (set live d false) ≡ fitted d false (λ _. []) (laid_out bytes n s c on live)
  pulled-slot d h l = life-set d false h l bytes (λ _. []) (λ j. refl) (λ i j _ _ _. refl) (λ i. refl)

  -- a disk of one byte throughout
  module _ (d y : ℕ) (h : d < n) (l : d < length live) where
    abbrev disk : List ℕ
    disk = with_part (block_at s d 0) (512 * s) (replicate (512 * s) y) bytes

    room : block_at s d 0 + 512 * s ≤ 512 * (n * s)
    room = let a : (d + 1) * s ≤ n * s = mul-le-mul_right s (omega arith) in omega (arith, add-mul d 1 s)

    on-disk : (t : Bool) (j : ℕ) → ltb j s ≡ t → cond t (part disk (block_at s d j)) [] ≡ cond t (replicate 512 y) []
    on-disk true j e =
        let k : j < s = ltb-true j s e in
        let r = room in
        let w : block_at s d j ≡ block_at s d 0 + 512 * j = omega arith in
        ap (part disk) w ∙ part_filled (512 * s) (512 * j) y bytes (block_at s d 0) (omega arith) (omega arith)
    on-disk false j e = refl

    off-disk : (i j : ℕ) → i < n → (i ≡ d → ⊥) → j < s → part disk (block_at s i j) ≡ part bytes (block_at s i j)
    off-disk i j p ne k =
        let r = room in
        part-elsewhere (512 * s) bytes (replicate (512 * s) y) (block_at s d 0) (block_at s i j) (length-replicate (512 * s) y) (omega arith)
        (elim (cases_order i d) [
          | inl e ↦ absurd (ne e)
          | inr o ↦ elim o [
            | inl q ↦ inl (let a : (i + 1) * s ≤ d * s = mul-le-mul_right s (omega arith) in omega (arith, add-mul i 1 s))
            | inr q ↦ inr (let a : (d + 1) * s ≤ i * s = mul-le-mul_right s (omega arith) in omega (arith, add-mul d 1 s))
          ]
        ])

    pub fitted-slot : laid_out disk n s c on (set live d true) ≡ fitted d true (λ j. cond (ltb j s) (replicate 512 y) []) (laid_out bytes n s c on live)
    fitted-slot =
        life-set d true h l disk (λ j. cond (ltb j s) (replicate 512 y) []) (λ j. on-disk (ltb j s) j refl) off-disk
        (λ i. let r = room in part-elsewhere (512 * s) bytes (replicate (512 * s) y) (block_at s d 0) (cell_at n s i) (length-replicate (512 * s) y) (omega arith) (inr (omega arith)))
