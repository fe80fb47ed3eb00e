-- What the steps of solving leave at each place.
use Rattle.std.specs.Prelude.{◌≡◌, ℕ, zero, suc, ◌+◌, ◌-◌, ◌<◌, ◌≤◌, Bool, true, false, cond, ◌⊎◌, List, [], ◌∷◌, length, take, drop, ◌≢◌, slice_index, slice_index_or, slice_set, refl}
use Rattle.std.proofs.Common.{sym, ◌∙◌, ap, inl, inr, arith, add-one}
use Rattle.std.proofs.lemmas.Bool.{cases_eq, cases_lt, true≢false}
use Rattle.std.proofs.lemmas.List.{length-set, get_or-set_same, get_or-set_other, take-set-le, at_drop_more}
use Rattle.codes.specs.Code.{Bytes, Lowest, Solves, lost_at, lost_count}
use Rattle.codes.specs.Solving.{next_lost, cleared, remade, completed}

pub cleared-length : (lost : List Bool) (n : ℕ) (row : List ℕ) → length (cleared lost n row) ≡ length row
cleared-length lost zero row = refl
cleared-length lost (suc n) row = go (lost_at lost n) (cleared-length lost n row)
  where
    go : (t : Bool) → length (cleared lost n row) ≡ length row → length (cond t (slice_set (cleared lost n row) n 0) (cleared lost n row)) ≡ length row
    go true h = length-set (cleared lost n row) n 0 ∙ h
    go false h = h

pub cleared-kept : (lost : List Bool) (n : ℕ) (row : List ℕ) (c : ℕ) → (c < n → lost_at lost c ≡ false) → slice_index (cleared lost n row) c ≡ slice_index row c
cleared-kept lost zero row c h = refl
cleared-kept lost (suc n) row c h = go (lost_at lost n) refl (cleared-kept lost n row c (λ l. h (omega arith)))
  where
    go : (t : Bool) → lost_at lost n ≡ t → slice_index (cleared lost n row) c ≡ slice_index row c → slice_index (cond t (slice_set (cleared lost n row) n 0) (cleared lost n row)) c ≡ slice_index row c
    go true e ih = other (cases_eq c n)
      where
        other : (c ≡ n) ⊎ (c ≢ n) → slice_index (slice_set (cleared lost n row) n 0) c ≡ slice_index row c
        other (inl q) = absurd (true≢false (sym e ∙ ap (lost_at lost) (sym q) ∙ h (omega arith)))
        other (inr d) = get_or-set_other (cleared lost n row) n c 0 0 d ∙ ih
    go false e ih = ih

pub set-zero : (xs : List ℕ) (n : ℕ) → slice_index (slice_set xs n 0) n ≡ 0
set-zero [] n = refl
set-zero (x ∷ xs) zero = refl
set-zero (x ∷ xs) (suc n) = set-zero xs n

pub cleared-lost : (lost : List Bool) (n : ℕ) (row : List ℕ) (c : ℕ) → c < n → lost_at lost c ≡ true → slice_index (cleared lost n row) c ≡ 0
cleared-lost lost zero row c h l = absurd (omega arith)
cleared-lost lost (suc n) row c h l = go (lost_at lost n) refl (cases_eq c n) (cleared-lost lost n row c)
  where
    go : (t : Bool) → lost_at lost n ≡ t → (c ≡ n) ⊎ (c ≢ n) → (c < n → lost_at lost c ≡ true → slice_index (cleared lost n row) c ≡ 0)
        → slice_index (cond t (slice_set (cleared lost n row) n 0) (cleared lost n row)) c ≡ 0
    go true e (inl q) ih = rw q (set-zero (cleared lost n row) n)
    go false e (inl q) ih = absurd (true≢false (sym l ∙ ap (lost_at lost) q ∙ e))
    go true e (inr d) ih = get_or-set_other (cleared lost n row) n c 0 0 d ∙ ih (omega arith) l
    go false e (inr d) ih = ih (omega arith) l

-- clearing leaves bytes
pub cleared-bytes : (lost : List Bool) (n : ℕ) (row : List ℕ) → Bytes row → Bytes (cleared lost n row)
cleared-bytes lost n row h c = go (lost_at lost c) refl (cases_lt c n)
  where
    go : (t : Bool) → lost_at lost c ≡ t → (c < n) ⊎ (n ≤ c) → slice_index (cleared lost n row) c < 256
    go true e (inl l) = rw (cleared-lost lost n row c l e) (omega arith)
    go false e (inl l) = rw (cleared-kept lost n row c (λ k. e)) (h c)
    go t e (inr l) = rw (cleared-kept lost n row c (λ k. absurd (omega arith))) (h c)

pub set-bytes : (xs : List ℕ) (i b : ℕ) → Bytes xs → b < 256 → Bytes (slice_set xs i b)
set-bytes [] i b h p j = h j
set-bytes (x ∷ xs) zero b h p zero = p
set-bytes (x ∷ xs) zero b h p (suc j) = h (suc j)
set-bytes (x ∷ xs) (suc i) b h p zero = h 0
set-bytes (x ∷ xs) (suc i) b h p (suc j) = set-bytes xs i b (λ k. h (suc k)) p j

pub take-bytes : (n : ℕ) (xs : List ℕ) → Bytes xs → Bytes (take n xs)
take-bytes zero xs h j = omega arith
take-bytes (suc n) [] h j = h j
take-bytes (suc n) (x ∷ xs) h zero = h 0
take-bytes (suc n) (x ∷ xs) h (suc j) = take-bytes n xs (λ k. h (suc k)) j

-- where the next lost place is
pub record Next (lost : List Bool) (c n i : ℕ) : Type 0 where
  pub from : c ≤ i
  pub within : i ≤ c + n
  pub before : (x : ℕ) → c ≤ x → x < i → lost_at lost x ≡ false
  pub here : i < c + n → lost_at lost i ≡ true

pub next-lost : (lost : List Bool) (c n : ℕ) → Next lost c n (next_lost lost c n)
next-lost lost c zero = record { from = omega arith; within = omega arith; before = λ x p q. absurd (omega arith); here = λ p. absurd (omega arith) }
next-lost lost c (suc n) = go (lost_at lost c) refl (next-lost lost (suc c) n)
  where
    go : (t : Bool) → lost_at lost c ≡ t → Next lost (suc c) n (next_lost lost (suc c) n) → Next lost c (suc n) (cond t c (next_lost lost (suc c) n))
    go true e r = record { from = omega arith; within = omega arith; before = λ x p q. absurd (omega arith); here = λ p. e }
    go false e r = record {
      from = omega (arith, r.from);
      within = omega (arith, r.within);
      before = λ x p q. at x p q (cases_eq x c);
      here = λ p. r.here (omega arith);
    }
      where
        at : (x : ℕ) → c ≤ x → x < next_lost lost (suc c) n → (x ≡ c) ⊎ (x ≢ c) → lost_at lost x ≡ false
        at x p q (inl s) = rw s e
        at x p q (inr s) = r.before x (omega arith) q

-- the checks made anew
module _ (f : ℕ → ℕ) (k : ℕ) (lost : List Bool) (row : List ℕ) where
  pub remade-length : (n : ℕ) → length (remade f k lost n row) ≡ length row
  remade-length zero = refl
  remade-length (suc n) = go (lost_at lost (k + n)) (remade-length n)
    where
      go : (t : Bool) → length (remade f k lost n row) ≡ length row → length (cond t (slice_set (remade f k lost n row) (k + n) (f n)) (remade f k lost n row)) ≡ length row
      go true h = length-set (remade f k lost n row) (k + n) (f n) ∙ h
      go false h = h

  pub remade-kept : (n c : ℕ) → (k ≤ c → lost_at lost c ≡ false) → slice_index (remade f k lost n row) c ≡ slice_index row c
  remade-kept zero c h = refl
  remade-kept (suc n) c h = go (lost_at lost (k + n)) refl (remade-kept n c h)
    where
      go : (t : Bool) → lost_at lost (k + n) ≡ t → slice_index (remade f k lost n row) c ≡ slice_index row c → slice_index (cond t (slice_set (remade f k lost n row) (k + n) (f n)) (remade f k lost n row)) c ≡ slice_index row c
      go true e ih = other (cases_eq c (k + n))
        where
          other : (c ≡ k + n) ⊎ (c ≢ k + n) → slice_index (slice_set (remade f k lost n row) (k + n) (f n)) c ≡ slice_index row c
          other (inl q) = absurd (true≢false (sym e ∙ ap (lost_at lost) (sym q) ∙ h (omega arith)))
          other (inr d) = get_or-set_other (remade f k lost n row) (k + n) c (f n) 0 d ∙ ih
      go false e ih = ih

  pub remade-lost : (n r : ℕ) → k + n ≤ length row → r < n → lost_at lost (k + r) ≡ true → slice_index (remade f k lost n row) (k + r) ≡ f r
  remade-lost zero r w h l = absurd (omega arith)
  remade-lost (suc n) r w h l = go (lost_at lost (k + n)) refl (cases_eq r n) (remade-lost n r (omega arith))
    where
      go : (t : Bool) → lost_at lost (k + n) ≡ t → (r ≡ n) ⊎ (r ≢ n) → (r < n → lost_at lost (k + r) ≡ true → slice_index (remade f k lost n row) (k + r) ≡ f r)
          → slice_index (cond t (slice_set (remade f k lost n row) (k + n) (f n)) (remade f k lost n row)) (k + r) ≡ f r
      go true e (inl q) ih = rw q (get_or-set_same (remade f k lost n row) (k + n) (f n) 0 (let z = remade-length n in omega arith))
      go false e (inl q) ih = absurd (true≢false (sym l ∙ ap (λ m. lost_at lost (k + m)) q ∙ e))
      go true e (inr d) ih = get_or-set_other (remade f k lost n row) (k + n) (k + r) (f n) 0 (λ q. d (omega arith)) ∙ ih (omega arith) l
      go false e (inr d) ih = ih (omega arith) l

  pub remade-bytes : (n : ℕ) → Bytes row → ((r : ℕ) → f r < 256) → Bytes (remade f k lost n row)
  remade-bytes zero h b = h
  remade-bytes (suc n) h b = go (lost_at lost (k + n)) (remade-bytes n h b)
    where
      go : (t : Bool) → Bytes (remade f k lost n row) → Bytes (cond t (slice_set (remade f k lost n row) (k + n) (f n)) (remade f k lost n row))
      go true ih = set-bytes (remade f k lost n row) (k + n) (f n) ih (b n)
      go false ih = ih

  pub remade-take : (n : ℕ) → take k (remade f k lost n row) ≡ take k row
  remade-take zero = refl
  remade-take (suc n) = go (lost_at lost (k + n)) (remade-take n)
    where
      go : (t : Bool) → take k (remade f k lost n row) ≡ take k row → take k (cond t (slice_set (remade f k lost n row) (k + n) (f n)) (remade f k lost n row)) ≡ take k row
      go true ih = take-set-le k (remade f k lost n row) (k + n) (f n) (omega arith) ∙ ih
      go false ih = ih

-- only the values at the made rows matter
pub remade-same : (f g : ℕ → ℕ) (k : ℕ) (lost : List Bool) (row : List ℕ) (n : ℕ) → ((r : ℕ) → r < n → f r ≡ g r) → remade f k lost n row ≡ remade g k lost n row
remade-same f g k lost row zero e = refl
remade-same f g k lost row (suc n) e = rw (remade-same f g k lost row n (λ r h. e r (omega arith)), e n (omega arith))

-- a row whose lost data are filled in is solved once its lost checks are made from them
pub completes : (check : ℕ → List ℕ → ℕ) (rows k : ℕ) (row z : List ℕ) (lost : List Bool) → ((r : ℕ) (xs : List ℕ) → Bytes xs → check r xs < 256)
    → length row ≡ k + rows → length z ≡ length row → Bytes z → ((c : ℕ) → (c < k → lost_at lost c ≡ false) → slice_index z c ≡ slice_index row c) → Lowest check rows k row lost (take k z)
    → Solves check rows k row lost (completed check rows k lost z)
completes check rows k row z lost low n e bytes kept lowest =
    let f : ℕ → ℕ = λ r. check r (take k z) in
    let front = remade-take f k lost z rows in
    record {
      long = remade-length f k lost z rows ∙ e;
      bytes = remade-bytes f k lost z rows bytes (λ r. low r (take k z) (take-bytes k z bytes));
      kept = λ c h l. remade-kept f k lost z rows c (λ _. l) ∙ kept c (λ _. l);
      lowest = λ r h l m. ap (check r) front ∙ lowest r h l m;
      made = λ r h l. remade-lost f k lost z rows r (omega arith) h l ∙ ap (check r) (sym front);
    }

-- one turn of each loop
pub cleared-true : (lost : List Bool) (n : ℕ) (row : List ℕ) → true ≡ lost_at lost n → cleared lost (n + 1) row ≡ slice_set (cleared lost n row) n 0
cleared-true lost n row e = rw add-one (rw (← e))

pub cleared-false : (lost : List Bool) (n : ℕ) (row : List ℕ) → false ≡ lost_at lost n → cleared lost (n + 1) row ≡ cleared lost n row
cleared-false lost n row e = rw add-one (rw (← e))

pub remade-true : (f : ℕ → ℕ) (k : ℕ) (lost : List Bool) (n : ℕ) (row : List ℕ) → true ≡ lost_at lost (k + n) → remade f k lost (n + 1) row ≡ slice_set (remade f k lost n row) (k + n) (f n)
remade-true f k lost n row e = rw add-one (rw (← e))

pub remade-false : (f : ℕ → ℕ) (k : ℕ) (lost : List Bool) (n : ℕ) (row : List ℕ) → false ≡ lost_at lost (k + n) → remade f k lost (n + 1) row ≡ remade f k lost n row
remade-false f k lost n row e = rw add-one (rw (← e))

pub next-false : (lost : List Bool) (c to : ℕ) → c < to → false ≡ lost_at lost c → next_lost lost c (to - c) ≡ next_lost lost (c + 1) (to - (c + 1))
next-false lost c to h e =
    let a : to - c ≡ suc (to - (c + 1)) = omega arith in
    ap (next_lost lost c) a ∙ (ap (λ t. cond t c (next_lost lost (suc c) (to - (c + 1)))) (sym e) ∙ ap (λ d. next_lost lost d (to - (c + 1))) (sym (add-one c)))

pub next-true : (lost : List Bool) (c to : ℕ) → c < to → true ≡ lost_at lost c → next_lost lost c (to - c) ≡ c
next-true lost c to h e =
    let a : to - c ≡ suc (to - (c + 1)) = omega arith in
    ap (next_lost lost c) a ∙ ap (λ t. cond t c (next_lost lost (suc c) (to - (c + 1)))) (sym e)

pub next-end : (lost : List Bool) (c to : ℕ) → c ≤ to → to ≤ c → next_lost lost c (to - c) ≡ c
next-end lost c to h l = let a : to - c ≡ 0 = omega arith in ap (next_lost lost c) a

pub count_turn : (lost : List Bool) (i : ℕ) → i < length lost → (b : Bool) → b ≡ slice_index_or lost i false → lost_count (drop i lost) ≡ cond b 1 0 + lost_count (drop (i + 1) lost)
count_turn lost i h b e = at_drop_more lost_count lost i false h ∙ ap (λ t. cond t 1 0 + lost_count (drop (i + 1) lost)) (sym e)
