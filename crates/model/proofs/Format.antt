-- A format that is done leaves an array just formatted.
use Rattle.std.proofs.Common.{◌≡◌, ℕ, zero, suc, ◌+◌, ◌*◌, ◌<◌, ◌≤◌, Bool, true, false, cond, not, ◌&&◌, eqb, ltb, ◌⊎◌, List, [], ◌∷◌, ◌++◌, map, length, replicate, Some, sym, refl, ap, ◌∙◌, subst, ap₂, inl, inr, arith, length-append}
use Rattle.std.specs.List.{range_with_len, flat_map, AllByRecursion}
use Rattle.std.proofs.lemmas.List.FromFn.{length-map-range_with_len}
use Rattle.std.proofs.lemmas.Bool.{eq-eqb, cases_eq, ltb-false, not-false}
use Rattle.backplane.specs.Plane.{Plane, Sector, Store, to_block, to_cell, stored, switched, put as put_at}
use Rattle.backplane.specs.Stores.{stored_all}
use Rattle.backplane.specs.Meaning.{Sound}
use Rattle.layout.specs.declared.shape.Shape.{Shape}
use Rattle.layout.specs.declared.header.Header.{Header}
use Rattle.layout.specs.Bytes.{le4}
use Rattle.layout.specs.Counts.{count}
use Rattle.layout.specs.Limits.{within_limits}
use Rattle.layout.specs.Header.{header_bytes, front_bytes}
use Rattle.layout.proofs.Headers.{limits_of, length-front_bytes}
use Rattle.model.specs.Coding.{Coding, byte_coding, zeros}
use Rattle.model.proofs.Laws.{CodeLaws, laws}
use Rattle.model.specs.Verdict.{Refusal, Reply, answered, refused, refusal, done, cut_at}
use Rattle.model.specs.Rules.{shape_of, first_header, to_zeros, to_header}
use Rattle.model.specs.Promise.{Formatted, FormatRight}
use Rattle.model.proofs.Counts.{count_none}
use Rattle.model.proofs.Block.{none, sector-of}

-- lists of bytes
all_app : (xs ys : List ℕ) → AllByRecursion (λ x. x < 256) xs → AllByRecursion (λ x. x < 256) ys → AllByRecursion (λ x. x < 256) (xs ++ ys)
all_app [] ys a b = b
all_app (x ∷ xs) ys a b = (a.0, all_app xs ys a.1 b)

all-four : (xs : List ℕ) → AllByRecursion (λ x. x < 256) (flat_map le4 xs)
all-four [] = tt
all-four (x ∷ xs) = all_app (le4 x) (flat_map le4 xs) (omega arith, (omega arith, (omega arith, (omega arith, tt)))) (all-four xs)

all-zeros : (n : ℕ) → AllByRecursion (λ x. x < 256) (replicate n 0)
all-zeros zero = tt
all-zeros (suc n) = (omega arith, all-zeros n)

length-four : (xs : List ℕ) → length (flat_map le4 xs) ≡ 4 * length xs
length-four [] = refl
length-four (x ∷ xs) = rw (length-four xs) (omega arith)

fours : (x y z : ℕ) → AllByRecursion (λ x. x < 256) (le4 x ++ (le4 y ++ le4 z))
fours x y z = all_app (le4 x) (le4 y ++ le4 z) (omega arith, (omega arith, (omega arith, (omega arith, tt))))
    (all_app (le4 y) (le4 z) (omega arith, (omega arith, (omega arith, (omega arith, tt)))) (omega arith, (omega arith, (omega arith, (omega arith, tt)))))

front_low : (sh : Shape) (used : ℕ) → sh.code < 256 → sh.columns < 256 → sh.slots < 256 → AllByRecursion (λ x. x < 256) (front_bytes sh used)
unfolding front_bytes
front_low sh used a b c = (omega arith, (omega arith, (omega arith, (omega arith, (a, (b, (c, (omega arith, fours sh.blocks sh.cells used))))))))

pub header-sector : (sh : Shape) (h : Header) → sh.code < 256 → sh.columns < 256 → sh.slots < 256 → length h.good ≡ 16 → Sector (header_bytes sh h)
header-sector sh h a b c n = (
  length-append (front_bytes sh h.used) (flat_map le4 h.good ++ replicate 428 0) ∙ (rw (length-front_bytes sh h.used, length-append (flat_map le4 h.good) (replicate 428 0), length-four h.good, n) refl),
  all_app (front_bytes sh h.used) (flat_map le4 h.good ++ replicate 428 0) (front_low sh h.used a b c) (all_app (flat_map le4 h.good) (replicate 428 0) (all-four h.good) (all-zeros 428)),
)

-- what no store changes
kept : {X : Type 0} (f : Plane (List ℕ) → X) → ((s : Store (List ℕ)) (x : List ℕ) (p : Plane (List ℕ)) → f (put_at s x p) ≡ f p)
    → (ss : List (Store (List ℕ))) (p : Plane (List ℕ)) → f (stored_all ss p) ≡ f p
kept f h [] p = refl
kept f h (s ∷ ss) p = kept f h ss (stored s p) ∙ h s (Rattle.backplane.specs.Plane.content s) p

slots-one : (s : Store (List ℕ)) (x : List ℕ) (p : Plane (List ℕ)) → (put_at s x p).slots ≡ p.slots
slots-one (to_block d b y) x p = refl
slots-one (to_cell c y) x p = refl

blocks-one : (s : Store (List ℕ)) (x : List ℕ) (p : Plane (List ℕ)) → (put_at s x p).blocks ≡ p.blocks
blocks-one (to_block d b y) x p = refl
blocks-one (to_cell c y) x p = refl

cells-one : (s : Store (List ℕ)) (x : List ℕ) (p : Plane (List ℕ)) → (put_at s x p).cells ≡ p.cells
cells-one (to_block d b y) x p = refl
cells-one (to_cell c y) x p = refl

on_one : (s : Store (List ℕ)) (x : List ℕ) (p : Plane (List ℕ)) → (put_at s x p).on ≡ p.on
on_one (to_block d b y) x p = refl
on_one (to_cell c y) x p = refl

live-one : (s : Store (List ℕ)) (x : List ℕ) (p : Plane (List ℕ)) → (put_at s x p).live ≡ p.live
live-one (to_block d b y) x p = refl
live-one (to_cell c y) x p = refl

stored-app : (xs ys : List (Store (List ℕ))) (p : Plane (List ℕ)) → stored_all (xs ++ ys) p ≡ stored_all ys (stored_all xs p)
stored-app [] ys p = refl
stored-app (x ∷ xs) ys p = stored-app xs ys (stored x p)

-- stores of zeros in blocks
abbrev Blank : List (Store (List ℕ)) → Type 0
Blank [] = Unit {0}
Blank (to_block d b x ∷ ss) = (x ≡ zeros) × Blank ss
Blank (to_cell c x ∷ ss) = ⊥

blank-app : (xs ys : List (Store (List ℕ))) → Blank xs → Blank ys → Blank (xs ++ ys)
blank-app [] ys a b = b
blank-app (to_block d i x ∷ xs) ys a b = (a.0, blank-app xs ys a.1 b)
blank-app (to_cell c x ∷ xs) ys a b = absurd a

stay-zero : (ss : List (Store (List ℕ))) (p : Plane (List ℕ)) (d b : ℕ) → Blank ss → p.block d b ≡ zeros → (stored_all ss p).block d b ≡ zeros
stay-zero [] p d b h e = e
stay-zero (to_block i j x ∷ ss) p d b h e = stay-zero ss (stored (to_block i j x) p) d b h.1 (go (eqb d i && eqb b j))
  where
    go : (t : Bool) → cond t x (p.block d b) ≡ zeros
    go true = h.0
    go false = e
stay-zero (to_cell c x ∷ ss) p d b h e = absurd h

cells_stay : (ss : List (Store (List ℕ))) (p : Plane (List ℕ)) → Blank ss → (stored_all ss p).cell ≡ p.cell
cells_stay [] p h = refl
cells_stay (to_block d b x ∷ ss) p h = cells_stay ss (stored (to_block d b x) p) h.1
cells_stay (to_cell c x ∷ ss) p h = absurd h

abbrev row_zeros : ℕ → ℕ → ℕ → List (Store (List ℕ))
row_zeros d a m = map (λ b. to_block d b zeros) (range_with_len a m)

abbrev all_zeros : ℕ → ℕ → ℕ → List (Store (List ℕ))
all_zeros a n m = flat_map (λ d. row_zeros d 0 m) (range_with_len a n)

blank-row : (d a m : ℕ) → Blank (row_zeros d a m)
blank-row d a zero = tt
blank-row d a (suc m) = (refl, blank-row d (a + 1) m)

blank-all : (a n m : ℕ) → Blank (all_zeros a n m)
blank-all a zero m = tt
blank-all a (suc n) m = blank-app (row_zeros a 0 m) (all_zeros (a + 1) n m) (blank-row a 0 m) (blank-all (a + 1) n m)

row_zero : (d a m b : ℕ) (p : Plane (List ℕ)) → a ≤ b → b < a + m → (stored_all (row_zeros d a m) p).block d b ≡ zeros
row_zero d a zero b p h l = absurd (omega arith)
row_zero d a (suc m) b p h l = go (cases_eq b a) (row_zero d (a + 1) m b (stored (to_block d a zeros) p))
  where
    go : (b ≡ a) ⊎ (b ≡ a → ⊥) → (a + 1 ≤ b → b < a + 1 + m → (stored_all (row_zeros d (a + 1) m) (stored (to_block d a zeros) p)).block d b ≡ zeros)
        → (stored_all (row_zeros d (a + 1) m) (stored (to_block d a zeros) p)).block d b ≡ zeros
    go (inl e) ih = stay-zero (row_zeros d (a + 1) m) (stored (to_block d a zeros) p) d b (blank-row d (a + 1) m) (rw (eq-eqb d d refl, eq-eqb b a e))
    go (inr n) ih = ih (omega arith) (omega arith)

all-zero : (a n m d b : ℕ) (p : Plane (List ℕ)) → a ≤ d → d < a + n → b < m → (stored_all (all_zeros a n m) p).block d b ≡ zeros
all-zero a zero m d b p h l hb = absurd (omega arith)
all-zero a (suc n) m d b p h l hb =
    ap (λ (z : Plane (List ℕ)). z.block d b) (stored-app (row_zeros a 0 m) (all_zeros (a + 1) n m) p)
    ∙ go (cases_eq d a) (all-zero (a + 1) n m d b (stored_all (row_zeros a 0 m) p))
  where
    go : (d ≡ a) ⊎ (d ≡ a → ⊥) → (a + 1 ≤ d → d < a + 1 + n → b < m → (stored_all (all_zeros (a + 1) n m) (stored_all (row_zeros a 0 m) p)).block d b ≡ zeros)
        → (stored_all (all_zeros (a + 1) n m) (stored_all (row_zeros a 0 m) p)).block d b ≡ zeros
    go (inl e) ih = stay-zero (all_zeros (a + 1) n m) (stored_all (row_zeros a 0 m) p) d b (blank-all (a + 1) n m)
        (subst (λ z. (stored_all (row_zeros a 0 m) p).block z b ≡ zeros) (sym e) (row_zero a 0 m b p (omega arith) (omega arith)))
    go (inr e) ih = ih (omega arith) (omega arith) hb

module _ (number rows : ℕ) (check : ℕ → List ℕ → ℕ) (solved : ℕ → List ℕ → List Bool → List ℕ) (W : CodeLaws number rows check solved)
    (k : ℕ) (p : Plane (List ℕ)) (sound : Sound p) (lim : within_limits rows (shape_of (byte_coding k number rows check solved) p) ≡ true)
    (alive : (d : ℕ) → d < p.slots → p.live d ≡ true) where
  abbrev K : Coding (List ℕ)
  K = byte_coding k number rows check solved

  abbrev top : Header
  top = first_header p.slots p.blocks

  abbrev zeroth : List ℕ
  zeroth = header_bytes (shape_of K p) top

  abbrev wiped : Plane (List ℕ)
  wiped = stored_all (to_zeros K p.slots p.blocks) (stored (to_cell 0 zeros) (switched true p))

  abbrev last : Plane (List ℕ)
  last = stored (to_cell 0 zeroth) wiped

  slots-is : last.slots ≡ p.slots
  slots-is = kept (λ q. q.slots) slots-one (to_zeros K p.slots p.blocks) (stored (to_cell 0 zeros) (switched true p))

  blocks_is : last.blocks ≡ p.blocks
  blocks_is = kept (λ q. q.blocks) blocks-one (to_zeros K p.slots p.blocks) (stored (to_cell 0 zeros) (switched true p))

  cells_is : last.cells ≡ p.cells
  cells_is = kept (λ q. q.cells) cells-one (to_zeros K p.slots p.blocks) (stored (to_cell 0 zeros) (switched true p))

  live-is : last.live ≡ p.live
  live-is = kept (λ q. q.live) live-one (to_zeros K p.slots p.blocks) (stored (to_cell 0 zeros) (switched true p))

  shape_is : shape_of K last ≡ shape_of K p
  shape_is = λ i. record { code = number; columns = k; slots = slots-is i; blocks = blocks_is i; cells = cells_is i }

  zero-at : (d b : ℕ) → d < last.slots → b < last.blocks → last.block d b ≡ zeros
  zero-at d b hd hb = all-zero 0 p.slots p.blocks d b (stored (to_cell 0 zeros) (switched true p)) (omega arith) (omega (arith, slots-is)) (omega (arith, blocks_is))

  first-sector : Sector zeroth
  first-sector =
      let L = limits_of rows (shape_of K p) lim in
      header-sector (shape_of K p) top W.named (let z = L.few in omega arith) (let z = L.few in let y = L.sum in let x = W.few.1 in omega arith) (length-map-range_with_len (λ d. cond (ltb d p.slots) p.blocks 0) 0 16)

  cell_at : (c : ℕ) → c < last.cells → Sector (last.cell c)
  cell_at c h = go (eqb c 0)
    where
      rest : (t : Bool) → Sector (cond t zeros (p.cell c))
      rest true = sector-of none
      rest false = sound.cells c (omega (arith, cells_is))

      go : (t : Bool) → Sector (cond t zeroth (wiped.cell c))
      go true = first-sector
      go false = subst Sector (ap (λ (z : ℕ → List ℕ). z c) (sym (cells_stay (to_zeros K p.slots p.blocks) (stored (to_cell 0 zeros) (switched true p)) (blank-all 0 p.slots p.blocks)))) (rest (eqb c 0))

  pub formatted : Formatted K (record { plane = last; held = Some top })
  formatted = record {
    sound = record { blocks = λ d b hd hb lv. subst Sector (sym (zero-at d b hd hb)) (sector-of none); cells = cell_at; within = λ d h. ap (λ (z : ℕ → Bool). z d) live-is ∙ sound.within d (omega (arith, slots-is)) };
    within = ap (within_limits rows) shape_is ∙ lim;
    on = kept (λ q. q.on) on_one (to_zeros K p.slots p.blocks) (stored (to_cell 0 zeros) (switched true p));
    live = λ d h. ap (λ (z : ℕ → Bool). z d) live-is ∙ alive d (omega (arith, slots-is));
    blocks = zero-at;
    cell = ap₂ (λ z (t : Header). header_bytes z t) (sym shape_is) (ap₂ first_header (sym slots-is) (sym blocks_is));
    held = ap Some (ap₂ first_header (sym slots-is) (sym blocks_is));
  }

no-done : (f : Refusal) → ◌≡◌ {A = Reply (List ℕ)} (answered done) (refused f) → ⊥
no-done f e = let z : ◌≡◌ {A = ℕ} 0 1 = cc in omega arith

pub format-right : FormatRight
format-right number rows check solved W k w u v sound (inl (t, e, q, o)) = absurd (no-done (refusal 2 0 0) e)
format-right number rows check solved W k w u v sound (inr (g₁, inl (t, e, q, o))) = absurd (no-done (refusal 6 0 0) e)
format-right number rows check solved W k w u v sound (inr (g₁, inr (g₂, inl (t, e, q, o)))) = absurd (no-done (refusal 13 0 0) e)
format-right number rows check solved W k w u v sound (inr (g₁, inr (g₂, inr (g₃, inr c)))) = absurd (no-done (cut_at c.0) c.1)
format-right number rows check solved W k w u v sound (inr (g₁, inr (g₂, inr (g₃, inl (e, q, o))))) =
    subst (Formatted (byte_coding k number rows check solved)) (sym moved) (formatted number rows check solved (laws number rows check solved W) k u.plane sound lim alive)
  where
    lim : within_limits rows (shape_of (byte_coding k number rows check solved) u.plane) ≡ true
    lim = not-false (within_limits rows (shape_of (byte_coding k number rows check solved) u.plane)) g₂

    alive : (d : ℕ) → d < u.plane.slots → u.plane.live d ≡ true
    alive d h = not-false (u.plane.live d) (count_none u.plane.slots (λ d. not (u.plane.live d)) (let z = ltb-false 0 (count u.plane.slots (λ d. not (u.plane.live d))) g₃ in omega arith) d h)

    moved : v ≡ record { plane = last number rows check solved (laws number rows check solved W) k u.plane sound lim alive; held = Some (first_header u.plane.slots u.plane.blocks) }
    moved = λ i. record {
      plane = (q ∙ stored-app (to_zeros (byte_coding k number rows check solved) u.plane.slots u.plane.blocks) (to_header (byte_coding k number rows check solved) u.plane (first_header u.plane.slots u.plane.blocks) ∷ [])
          (stored (to_cell 0 zeros) (switched true u.plane))) i;
      held = o i;
    }
