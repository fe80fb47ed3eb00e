-- From a code's laws alone: what solving fills in is the only data that fits, and a coded row is restored.
use Rattle.std.proofs.Common.{◌≡◌, ℕ, ◌+◌, ◌-◌, ◌<◌, ◌≤◌, Bool, true, false, cond, not, ltb, List, length, get_or, take, sym, refl, ap, ◌∙◌, arith}
use Rattle.std.proofs.lemmas.Bool.{ltb-true, ltb-false, lt-ltb, le-ltb, and_parts, not-true, not-false, true≢false}
use Rattle.std.proofs.lemmas.List.{length-take-le, get_or-take, ext_get_or}
use Rattle.codes.specs.Code.{Bytes, coded, count, Agree, Apart, lost_at, solvable, Lowest, Solves, Solved, Only, Restored}
use Rattle.codes.specs.Counts.{count_same, count-split, count-not, first, count-first, lost-split, lost-none}
use Rattle.codes.specs.Coded.{coded-length, coded-data, coded-check, Fit, fit, unfit}
use Rattle.codes.specs.Steps.{take-bytes}

module _ (check : ℕ → List ℕ → ℕ) (rows k : ℕ) (row : List ℕ) (lost : List Bool) (out : List ℕ)
    (apart : Apart check rows) (can : Fit rows k (length row) lost) (S : Solves check rows k row lost out) where
  abbrev gone : ℕ → Bool
  gone = lost_at lost

  abbrev left : ℕ → Bool
  left r = not (gone (k + r))

  abbrev e : ℕ
  e = count k gone

  few : count (k + rows) gone ≤ rows
  few = let z = lost-split lost (k + rows) in omega (arith, can.few, z)

  front_length : length (take k out) ≡ k
  front_length = length-take-le k out (omega (arith, S.long, can.wide))

  front_at : (c : ℕ) → c < k → get_or (take k out) c 0 ≡ get_or out c 0
  front_at c h = get_or-take k out c 0 h

  -- where the two rows may differ: at lost data, and at all checks but the lowest kept
  abbrev differ : ℕ → Bool
  differ c = cond (ltb c k) (gone c) (not (first e left (c - k)))

  differ-data : count k differ ≡ e
  differ-data = count_same k differ gone (λ c h. rw (lt-ltb c k h))

  at-check : (q : ℕ) (t : Bool) (v : ℕ) → t ≡ false → v ≡ q → cond t (gone (k + q)) (not (first e left v)) ≡ not (first e left q)
  at-check q false v h i = rw i
  at-check q true v h i = absurd (true≢false h)

  differ-check : count rows (λ q. differ (k + q)) ≡ count rows (λ q. not (first e left q))
  differ-check = count_same rows (λ q. differ (k + q)) (λ q. not (first e left q)) (λ q h. at-check q (ltb (k + q) k) (k + q - k) (le-ltb (k + q) k (omega arith)) (omega arith))

  sized : count (k + rows) differ ≤ rows
  sized =
      let s₁ = count-split k rows differ in
      let s₂ = differ-data in
      let s₃ = differ-check in
      let s₄ = count-not rows (first e left) in
      let s₅ = count-not rows (λ q. gone (k + q)) in
      let s₆ = count-split k rows gone in
      let s₇ = few in
      omega (arith, count-first rows e left)

  module _ (xs : List ℕ) (n : length xs ≡ k) (bytes : Bytes xs) (kept : Agree k gone xs row) (lowest : Lowest check rows k row lost xs) where
    at-data : (c : ℕ) → c < k → gone c ≡ false → get_or (coded check rows xs) c 0 ≡ get_or (coded check rows (take k out)) c 0
    at-data c h g =
        coded-data check rows xs c (omega arith) ∙ kept c h g ∙ sym (S.kept c (omega arith) g) ∙ sym (front_at c h)
        ∙ sym (coded-data check rows (take k out) c (let z = front_length in omega arith))

    at_row : (r : ℕ) → r < rows → first e left r ≡ true → get_or (coded check rows xs) (k + r) 0 ≡ get_or (coded check rows (take k out)) (k + r) 0
    at_row r h g =
        let q = and_parts (left r) (ltb (count r left) e) g in
        let here = not-true (gone (k + r)) q.0 in
        let low = ltb-true (count r left) e q.1 in
        ap (λ m. get_or (coded check rows xs) (m + r) 0) (sym n) ∙ coded-check check rows xs r h ∙ lowest r h here low
        ∙ sym (S.lowest r h here low) ∙ sym (coded-check check rows (take k out) r h) ∙ ap (λ m. get_or (coded check rows (take k out)) (m + r) 0) front_length

    alike : (c : ℕ) → c < k + rows → (t : Bool) → ltb c k ≡ t → cond t (gone c) (not (first e left (c - k))) ≡ false
        → get_or (coded check rows xs) c 0 ≡ get_or (coded check rows (take k out)) c 0
    alike c h true t g = at-data c (ltb-true c k t) g
    alike c h false t g =
        let ge = ltb-false c k t in
        let to : k + (c - k) ≡ c = omega arith in
        ap (λ m. get_or (coded check rows xs) m 0) (sym to) ∙ at_row (c - k) (omega arith) (not-false (first e left (c - k)) g) ∙ ap (λ m. get_or (coded check rows (take k out)) m 0) to

    only_at : xs ≡ take k out
    only_at = apart xs (take k out) differ (n ∙ sym front_length) (omega (arith, can.most)) bytes (take-bytes k out S.bytes)
        (rw n sized) (λ c h g. alike c (omega arith) (ltb c k) refl g)

  pub only : Only check rows k row lost out
  only xs n bytes kept lowest = only_at xs n bytes kept lowest

  module _ (xs : List ℕ) (n : length xs ≡ k) (bytes : Bytes xs) (agree : Agree (k + rows) gone row (coded check rows xs)) where
    data-same : xs ≡ take k out
    data-same = only xs n bytes
        (λ c h g. sym (agree c (omega arith) g ∙ coded-data check rows xs c (omega arith)))
        (λ r h g m. sym (agree (k + r) (omega arith) g ∙ ap (λ j. get_or (coded check rows xs) (j + r) 0) (sym n) ∙ coded-check check rows xs r h))

    place : (c : ℕ) → c < k + rows → (t u : Bool) → gone c ≡ t → ltb c k ≡ u → get_or out c 0 ≡ get_or (coded check rows xs) c 0
    place c h false u g i = S.kept c h g ∙ agree c h g
    place c h true true g i =
        let lt = ltb-true c k i in
        sym (front_at c lt) ∙ ap (λ l. get_or l c 0) (sym data-same) ∙ sym (coded-data check rows xs c (omega arith))
    place c h true false g i =
        let ge = ltb-false c k i in
        let to : k + (c - k) ≡ c = omega arith in
        ap (λ m. get_or out m 0) (sym to) ∙ S.made (c - k) (omega arith) (ap gone to ∙ g) ∙ ap (check (c - k)) (sym data-same)
        ∙ sym (coded-check check rows xs (c - k) (omega arith)) ∙ ap (λ m. get_or (coded check rows xs) (m + (c - k)) 0) n ∙ ap (λ m. get_or (coded check rows xs) m 0) to

    pub restored_at : out ≡ coded check rows xs
    restored_at = ext_get_or 0 out (coded check rows xs) (S.long ∙ can.wide ∙ sym (coded-length check rows xs ∙ ap (λ m. m + rows) n))
        (λ c h. place c (omega (arith, S.long, can.wide)) (gone c) (ltb c k) refl refl)

-- the same of a call's answer
module _ (check : ℕ → List ℕ → ℕ) (rows : ℕ) (solved : ℕ → List ℕ → List Bool → List ℕ) (apart : Apart check rows)
    (solves : (k : ℕ) (row : List ℕ) (lost : List Bool) → solvable rows k (length row) lost ≡ true → Bytes row → Solves check rows k row lost (solved k row lost))
    (k : ℕ) (row : List ℕ) (lost : List Bool) (r : Bool) (out : List ℕ) (bytes : Bytes row) (done : Solved rows solved k row lost r out) where
  out-is : solvable rows k (length row) lost ≡ true → solved k row lost ≡ out
  out-is h = sym (done.1 ∙ ap (λ t. cond t (solved k row lost) row) h)

  pub call_fits : r ≡ true → Solves check rows k row lost out
  call_fits h =
      let can : solvable rows k (length row) lost ≡ true = sym done.0 ∙ h in
      rw (sym (out-is can)) (solves k row lost can bytes)

  pub call-only : r ≡ true → Only check rows k row lost out
  call-only h =
      let can : solvable rows k (length row) lost ≡ true = sym done.0 ∙ h in
      rw (sym (out-is can)) (only check rows k row lost (solved k row lost) apart (fit rows k (length row) lost can) (solves k row lost can bytes))

  pub call-restored : Restored check rows k row lost r out
  call-restored xs n least most b wide within few agree =
      let f : Fit rows k (length row) lost = record {
        least = least;
        most = most;
        wide = wide;
        within = lost-none lost (k + rows) within;
        few = let z = lost-split lost (k + rows) in let w = lost-none lost (k + rows) within in omega arith;
      } in
      let can = unfit rows k (length row) lost f in
      (done.0 ∙ can, sym (out-is can) ∙ restored_at check rows k row lost (solved k row lost) apart f (solves k row lost can bytes) xs n b agree)
