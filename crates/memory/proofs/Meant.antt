-- From what happens to the lent bytes to what it means of the backplane.
use Rattle.std.proofs.Common.{◌≡◌, ℕ, ◌+◌, ◌*◌, ◌<◌, ◌≤◌, Bool, true, false, cond, ◌&&◌, eqb, ltb, leb, List, [], length, get_or, set, replicate, None, Ok, Err, Result, sym, refl, ap, ◌∙◌, mul-le-mul_right, add-mul, arith}
use lib.Arith.{digits_lt}
use Rattle.std.proofs.lemmas.List.{length-replicate}
use Rattle.std.proofs.ByRecursion.{All-from_get_or}
use Rattle.std.proofs.lemmas.Bool.{lt-ltb, ltb-true, leb-true, eqb-true, and_parts, and_from, cond-true}
use Rattle.backplane.specs.declared.fault.BackplaneFault.{BackplaneFault}
use Rattle.backplane.specs.Plane.{Store, to_block, to_cell, content, placed, stored, fitted, pulled}
use Rattle.backplane.specs.Meaning.{fault_of, fit_fault, Stored, Read, Fitted, Fitting, Sound}
use Rattle.backplane.proofs.Free.{free-block, free-cell, free-slot, faulted}
use Rattle.memory.specs.Lent.{part, with_part, block_at, cell_at, fits_memory, alive, laid_out}
use Rattle.memory.specs.Held.{Held, in_force, view_of, with_bytes, with_lives, place_in, StoredIn, ReadFrom, filled, FittedIn, pulled_in}
use Rattle.memory.proofs.Parts.{length-with, low-filled}
use Rattle.memory.proofs.Laid.{stored-block, stored-cell, sound-laid, pulled-slot, fitted-slot}

abbrev slots_in : Held → ℕ
slots_in h = in_force h h.slots

abbrev blocks_in : Held → ℕ
blocks_in h = in_force h h.blocks

abbrev cells_in : Held → ℕ
cells_in h = in_force h h.cells

-- the sizes in force lie within the lent bytes
within : (f : Bool) (len n s c : ℕ) → (f ≡ true → len ≡ 512 * (n * s + c)) → 512 * (cond f n 0 * cond f s 0 + cond f c 0) ≤ len
within true len n s c h = let e = h refl in omega arith
within false len n s c h = omega arith

few : (f : Bool) (n : ℕ) → (f ≡ true → n ≤ 16) → cond f n 0 ≤ 16
few true n h = h refl
few false n h = omega arith

module _ (n s c len : ℕ) (h : fits_memory n s c len ≡ true) where
  abbrev limits_of_cells : Bool
  limits_of_cells = (leb 8 c && leb c 4096) && eqb len (512 * (n * s + c))

  fits-length : len ≡ 512 * (n * s + c)
  fits-length =
      let a = (and_parts (leb 3 n && leb n 16) ((leb 1 s && leb s 65536) && limits_of_cells) h).1 in
      let b = (and_parts (leb 1 s && leb s 65536) limits_of_cells a).1 in
      eqb-true len (512 * (n * s + c)) (and_parts (leb 8 c && leb c 4096) (eqb len (512 * (n * s + c))) b).1

  fits-few : n ≤ 16
  fits-few =
      let a = (and_parts (leb 3 n && leb n 16) ((leb 1 s && leb s 65536) && limits_of_cells) h).0 in
      leb-true n 16 (and_parts (leb 3 n) (leb n 16) a).1

pub room : (h : Held) → 512 * (slots_in h * blocks_in h + cells_in h) ≤ length h.bytes
room h = within (fits_memory h.slots h.blocks h.cells (length h.bytes)) (length h.bytes) h.slots h.blocks h.cells (fits-length h.slots h.blocks h.cells (length h.bytes))

at_most : (h : Held) → slots_in h ≤ 16
at_most h = few (fits_memory h.slots h.blocks h.cells (length h.bytes)) h.slots (fits-few h.slots h.blocks h.cells (length h.bytes))

-- other bytes of the same length
same-sizes : (h : Held) (xs : List ℕ) (live : List Bool) → length xs ≡ length h.bytes
    → view_of (with_lives live (with_bytes xs h)) ≡ laid_out xs (slots_in h) (blocks_in h) (cells_in h) h.on live
same-sizes h xs live e =
    let f : ℕ → Bool = λ len. fits_memory h.slots h.blocks h.cells len in
    λ i. laid_out xs (cond (f (e i)) h.slots 0) (cond (f (e i)) h.blocks 0) (cond (f (e i)) h.cells 0) h.on live

pub sound : (h : Held) → ((i : ℕ) → i < length h.bytes → get_or h.bytes i 0 < 256) → Sound (view_of h)
sound h low =
    sound-laid h.bytes (slots_in h) (blocks_in h) (cells_in h) h.on h.live (room h) (All-from_get_or (λ x. x < 256) h.bytes 0 low)

store-done : (s : Store (List ℕ)) (h : Held) → fault_of s (view_of h) ≡ None → view_of (with_bytes (with_part (place_in s h) 512 (content s) h.bytes) h) ≡ stored s (view_of h)
store-done (to_block d b x) h e =
    let p = free-block (view_of h) d b x e in
    let r = room h in
    let i : d * blocks_in h + b < slots_in h * blocks_in h = digits_lt p.slot p.block in
    same-sizes h (with_part (block_at (blocks_in h) d b) 512 x h.bytes) h.live (length-with 512 h.bytes x (block_at (blocks_in h) d b) p.long (omega arith))
    ∙ stored-block h.bytes (slots_in h) (blocks_in h) (cells_in h) h.on h.live r x p.long d b p.live p.block
store-done (to_cell c x) h e =
    let p = free-cell (view_of h) c x e in
    let r = room h in
    let k : c < cells_in h = p.cell in
    same-sizes h (with_part (cell_at (slots_in h) (blocks_in h) c) 512 x h.bytes) h.live (length-with 512 h.bytes x (cell_at (slots_in h) (blocks_in h) c) p.long (omega arith))
    ∙ stored-cell h.bytes (slots_in h) (blocks_in h) (cells_in h) h.on h.live r x p.long c k

pub store-meant : (s : Store (List ℕ)) (h k : Held) (r : Result (Unit {0}) BackplaneFault) → StoredIn s h r k → Stored s (view_of h) r (view_of k)
store-meant s h k (Ok _) e = (e.0, ap view_of e.1 ∙ store-done s h e.0)
store-meant s h k (Err f) e = faulted s (view_of h) (view_of k) f e.0 (ap view_of e.1)

read_done : (s : Store (List ℕ)) (h : Held) → fault_of s (view_of h) ≡ None → part h.bytes (place_in s h) ≡ placed s (view_of h)
read_done (to_block d b x) h e =
    let p = free-block (view_of h) d b x e in
    sym (cond-true (alive (slots_in h) h.live d && ltb b (blocks_in h)) (part h.bytes (block_at (blocks_in h) d b)) [] (and_from (alive (slots_in h) h.live d) (ltb b (blocks_in h)) p.live (lt-ltb b (blocks_in h) p.block)))
read_done (to_cell c x) h e =
    let p = free-cell (view_of h) c x e in
    sym (cond-true (ltb c (cells_in h)) (part h.bytes (cell_at (slots_in h) (blocks_in h) c)) [] (lt-ltb c (cells_in h) p.cell))

pub read-meant : (s : Store (List ℕ)) (h : Held) (r : Result (Unit {0}) BackplaneFault) (y : List ℕ) → ReadFrom s h r y → Read s (view_of h) r (view_of h) y
read-meant s h (Ok _) y e = (e.0, refl, e.1 ∙ read_done s h e.0)
read-meant s h (Err f) y e = (e.0, refl, e.1)

fit-done : (d : ℕ) (h : Held) → length h.live ≡ 16 → fit_fault d (view_of h) ≡ None → Fitting d (view_of h) (view_of (filled d h))
fit-done d h l e =
    let p = free-slot (view_of h) d e in
    let r = room h in
    let m = at_most h in
    let k : d < slots_in h = p.slot in
    let a : (d + 1) * blocks_in h ≤ slots_in h * blocks_in h = mul-le-mul_right (blocks_in h) (omega arith) in
    record {
      fresh = λ j. cond (ltb j (blocks_in h)) (replicate 512 229) [];
      whole = λ j i. let e : cond (ltb j (blocks_in h)) (replicate {A = ℕ} 512 229) [] ≡ replicate 512 229 = cond-true (ltb j (blocks_in h)) (replicate {A = ℕ} 512 229) [] (lt-ltb j (blocks_in h) i) in rw e (length-replicate {A = ℕ} 512 229, low-filled 512 229 (omega arith));
      after = same-sizes h (with_part (block_at (blocks_in h) d 0) (512 * blocks_in h) (replicate (512 * blocks_in h) 229) h.bytes) (set h.live d true)
          (length-with (512 * blocks_in h) h.bytes (replicate (512 * blocks_in h) 229) (block_at (blocks_in h) d 0) (length-replicate (512 * blocks_in h) 229) (omega (arith, add-mul d 1 (blocks_in h))))
          ∙ fitted-slot h.bytes (slots_in h) (blocks_in h) (cells_in h) h.on h.live r d 229 k (omega arith);
    }

pub fit-meant : (d : ℕ) (h k : Held) (r : Result (Unit {0}) BackplaneFault) → length h.live ≡ 16 → FittedIn d h r k → Fitted d (view_of h) r (view_of k)
fit-meant d h k (Ok _) l e = let f = fit-done d h l e.0 in (e.0, record { fresh = f.fresh; whole = f.whole; after = ap view_of e.1 ∙ f.after })
fit-meant d h k (Err f) l e = (e.0, ap view_of e.1)

pull-done : (t : Bool) (d : ℕ) (h : Held) → length h.live ≡ 16 → ltb d (slots_in h) ≡ t → view_of (cond t (with_lives (set h.live d false) h) h) ≡ cond t (fitted d false (λ _. []) (view_of h)) (view_of h)
pull-done true d h l e =
    let m = at_most h in
    let k : d < slots_in h = ltb-true d (slots_in h) e in
    pulled-slot h.bytes (slots_in h) (blocks_in h) (cells_in h) h.on h.live (room h) d k (omega arith)
pull-done false d h l e = refl

pub pull-meant : (d : ℕ) (h k : Held) → length h.live ≡ 16 → k ≡ pulled_in d h → view_of k ≡ pulled [] d (view_of h)
pull-meant d h k l e = ap view_of e ∙ pull-done (ltb d (slots_in h)) d h l refl
