-- The share of a block is made byte by byte.
use Rattle.std.proofs.Common.{◌≡◌, ℕ, zero, suc, ◌+◌, ◌-◌, ◌<◌, ◌≤◌, Bool, true, false, cond, eqb, ltb, List, ◌++◌, map, length, get_or, take, set, replicate, sym, refl, ap, ◌∙◌, arith}
use Rattle.std.specs.List.{range_with_len}
use Rattle.std.proofs.lemmas.List.{length-append, length-take, length-replicate, length-set, length-map, get_or_append_left, get_or-append-add, get_or-take, get_or-set_same, get_or-set_other, get_or-map, ext_get_or}
use Rattle.std.proofs.lemmas.List.FromFn.{length-map-range_with_len, get_or-map-range_with_len, fill_by_all}
use Rattle.std.proofs.lemmas.Bool.{eqb-true}
use Rattle.std.proofs.lemmas.Bool.Decides.{nat_tests}
use Rattle.codes.specs.Code.{filled, alone, share_of}
use Rattle.codes.specs.declared.code.Code.{Ghosts as CodeGhosts}
use Rattle.model.specs.Coding.{across, zeros, check_bytes, share, only}
use Rattle.parity_log.specs.Codes.{coding}

replicate-at : (n i : ℕ) → get_or (replicate {A = ℕ} n 0) i 0 ≡ 0
replicate-at zero i = refl
replicate-at (suc n) zero = refl
replicate-at (suc n) (suc i) = replicate-at n i

pub zeros-at : (i : ℕ) → get_or zeros i 0 ≡ 0
unfolding zeros
zeros-at i = replicate-at 512 i

pub length-zeros : length zeros ≡ 512
unfolding zeros
length-zeros = length-replicate {A = ℕ} 512 0

-- one byte among zeros, filled up with zeros to a width
module _ (f : ℕ → ℕ) (w k column b : ℕ) (inside : column < k) (fits : k ≤ w) (here : f column ≡ b) (there : (j : ℕ) → (j ≡ column → ⊥) → f j ≡ 0) where
  held_at : (j : ℕ) → get_or (map f (range_with_len 0 k) ++ replicate w 0) j 0 ≡ cond (eqb j column) b 0
  held_at j = go (eqb j column) refl (ltb j k) refl
    where
      value : (t : Bool) → eqb j column ≡ t → f j ≡ cond t b 0
      value true e = ap f (eqb-true j column e) ∙ here
      value false e = there j (grind (arith, nat_tests))

      go : (t : Bool) → eqb j column ≡ t → (s : Bool) → ltb j k ≡ s → get_or (map f (range_with_len 0 k) ++ replicate w 0) j 0 ≡ cond t b 0
      go t e true h =
          let lt : j < k = grind (arith, nat_tests) in
          get_or_append_left (map f (range_with_len 0 k)) (replicate w 0) 0 j (simp length-map-range_with_len lt)
          ∙ get_or-map-range_with_len f 0 k j j 0 lt (omega arith) ∙ value t e
      go true e false h = absurd (grind (arith, nat_tests))
      go false e false h =
          let ge : k ≤ j = grind (arith, nat_tests) in
          let at : length (map f (range_with_len 0 k)) + (j - k) ≡ j = simp length-map-range_with_len (omega arith) in
          ap (λ (i : ℕ). get_or (map f (range_with_len 0 k) ++ replicate w 0) i 0) (sym at)
          ∙ get_or-append-add (map f (range_with_len 0 k)) (replicate w 0) (j - k) 0 ∙ replicate-at w (j - k)

  set_is : (j : ℕ) → get_or (set (replicate w 0) column b) j 0 ≡ cond (eqb j column) b 0
  set_is j = go (eqb j column) refl
    where
      go : (t : Bool) → eqb j column ≡ t → get_or (set (replicate w 0) column b) j 0 ≡ cond t b 0
      go true e = ap (λ (i : ℕ). get_or (set (replicate w 0) column b) i 0) (eqb-true j column e) ∙ get_or-set_same (replicate w 0) column b 0 (simp length-replicate (omega arith))
      go false e = get_or-set_other (replicate w 0) column j b 0 (grind (arith, nat_tests)) ∙ replicate-at w j

  pub padded : take w (map f (range_with_len 0 k) ++ replicate w 0) ≡ set (replicate w 0) column b
  padded =
      ext_get_or 0 _ _ (simp (length-take, length-append, length-replicate, length-set, length-map-range_with_len) (omega arith))
      (λ j h. let lt : j < w = omega (arith, simp (length-take, length-append, length-replicate, length-map-range_with_len) at h) in
      get_or-take w (map f (range_with_len 0 k) ++ replicate w 0) j 0 lt ∙ held_at j ∙ sym (set_is j))

module _ {C : Type 0} (code : CodeGhosts C) (fill : (r : ℕ) (xs : List ℕ) → code.check r xs ≡ code.check r (filled xs))
    (k r column : ℕ) (x : List ℕ) (inside : column < k) (fits : k ≤ 12) (row : r < code.ROWS) where
  share-at : (i : ℕ) → share_of code.check code.ROWS r column (get_or x i 0) ≡ code.check r (across k (only (coding code k) column x) i)
  share-at i =
      let low : ltb r code.ROWS ≡ true = grind (arith, nat_tests) in
      let few : ltb column 12 ≡ true = grind (arith, nat_tests) in
      let at : ℕ → ℕ = λ j. get_or (cond (eqb j column) x zeros) i 0 in
      let here : at column ≡ get_or x i 0 = picked column (eqb column column) (grind (arith, nat_tests)) in
      let is : filled (map at (range_with_len 0 k)) ≡ alone column (get_or x i 0) = padded at 12 k column (get_or x i 0) inside fits here (λ j ne. other j (eqb j column) refl ne) in
      rw (low, few) (sym (fill r (map at (range_with_len 0 k)) ∙ ap (code.check r) is))
    where
      picked : (j : ℕ) (t : Bool) → t ≡ true → get_or (cond t x zeros) i 0 ≡ get_or x i 0
      picked j t e = rw e refl

      other : (j : ℕ) (t : Bool) → eqb j column ≡ t → (j ≡ column → ⊥) → get_or (cond t x zeros) i 0 ≡ 0
      other j true e ne = absurd (ne (eqb-true j column e))
      other j false e ne = zeros-at i

  pub share-bytes : length x ≡ 512 → share (coding code k) r column x ≡ map (share_of code.check code.ROWS r column) x
  unfolding check_bytes
  share-bytes long =
      let f : ℕ → ℕ = λ i. code.check r (across k (only (coding code k) column x) i) in
      sym (fill_by_all f (map (share_of code.check code.ROWS r column) x) 512 0 (length-map x (share_of code.check code.ROWS r column) ∙ long)
      (λ i h. get_or-map (share_of code.check code.ROWS r column) x i 0 0 (omega arith) ∙ share-at i))
