-- Check columns that take the shares of a stripe's pending deltas.
use Rattle.std.proofs.Common.{◌≡◌, ℕ, ◌+◌, ◌-◌, ◌<◌, ◌≤◌, Bool, true, false, cond, ◌&&◌, eqb, ltb, leb, List, length, slice_index, Some, None, Option, sym, refl, ap, ◌∙◌, subst, arith}
use Rattle.std.proofs.lemmas.Bool.{ltb-true, and_parts}
use Rattle.std.specs.Str.{bytes_eq}
use Rattle.backplane.specs.Plane.{Plane}
use Rattle.backplane.specs.Meaning.{Bytes}
use Rattle.codes.specs.declared.code.Code.{Ghosts as CodeGhosts}
use Rattle.layout.specs.declared.head.Head.{Head}
use Rattle.layout.specs.declared.head.Head.TheVariants.{OfWrite, OfParity}
use Rattle.layout.specs.Head.{head_in, head_cell, record_cells}
use Rattle.layout.specs.Bytes.{sum_of, four_at}
use Rattle.model.specs.Coding.{Coding, zeros, share}
use Rattle.model.specs.Log.{or_else, walk, debt}
use Rattle.model.specs.Row.{settled_with}
use Rattle.parity_log.specs.Codes.{coding}
use Rattle.parity_log.specs.Walks.{head_at, rest, last_parity, resume_at}
use Rattle.parity_log.proofs.Walking.{rest-beside, gathered-is}
use Rattle.rows.specs.Shares.{column_below, sum_step, grow_step}
use Rattle.rows.proofs.Blocks.{sum_of-more, sum_of-zeros}

-- the head of a write record that is met has a data column
module _ (k : ℕ) where
  below-by : (t f : Bool) (s c : ℕ) (h : Head) → (t ≡ true → c < k) → cond t (Some (OfWrite s c)) (cond f (Some (OfParity s)) None) ≡ Some h → column_below k h
  below-by true f s c h low e = let same : OfWrite s c ≡ h = cc in subst (column_below k) same (low refl)
  below-by false true s c h low e = let same : OfParity s ≡ h = cc in subst (column_below k) same tt
  below-by false false s c h low e = absurd (let z : ◌≡◌ {A = ℕ} 0 1 = cc in omega arith)

  head-below : (stripes : ℕ) (x : List ℕ) (h : Head) → head_in k stripes x ≡ Some h → column_below k h
  head-below stripes x h e =
      let s = four_at x 4 in
      let c = slice_index x 1 in
      let L : Bool = bytes_eq x (head_cell 1 c s) in
      below-by (ltb s stripes && (ltb c k && L)) (ltb s stripes && bytes_eq x (head_cell 2 0 s)) s c h
      (λ t. ltb-true c k (and_parts (ltb c k) L (and_parts (ltb s stripes) (ltb c k && L) t).1).0) e

pub met-below : (K : Coding (List ℕ)) (p : Bytes) (u i : ℕ) (h : Head) → head_at K p u i ≡ Some h → column_below K.k h
met-below K p u i h e = head-below K.k p.blocks (K.bytes (p.cell i)) h (go (head_in K.k p.blocks (K.bytes (p.cell i))) e)
  where
    kept : (t : Bool) (a : Head) → cond t (Some a) None ≡ Some h → Some a ≡ Some h
    kept true a e = e
    kept false a e = absurd (let z : ◌≡◌ {A = ℕ} 0 1 = cc in omega arith)

    go : (o : Option Head) → or_else o None (λ a. cond (leb (i + record_cells K.m a) (u + 1)) (Some a) None) ≡ Some h → o ≡ Some h
    go None e = e
    go (Some a) e = kept (leb (i + record_cells K.m a) (u + 1)) a e

-- the debt of a stripe is what a walk gathers after its last parity record
pub debt-is : {B : Type 0} (K : Coding B) (p : Plane B) (u r s : ℕ) → debt K r s (walk K p u).log ≡ rest K (sum_step K p r s) p u (resume_at K (last_parity K p u s)) K.nil
debt-is K p u r s = gathered-is K p u s K.nil (debt K r s) (sum_step K p r s) refl (λ i t c l. refl) (λ i t l. refl) (λ i t x. refl)

add-zeros : (x : List ℕ) → length x ≤ 512 → sum_of x zeros ≡ x
unfolding zeros
add-zeros x h = sum_of-zeros x 512 h

module _ {C : Type 0} (code : CodeGhosts C) (k : ℕ) (p : Bytes) (u s : ℕ) (leave : ℕ → Bool) (c : ℕ) (x : List ℕ) (short : length x ≤ 512) where
  K : Coding (List ℕ)
  K = coding code k

  held : Bool → Bool → List ℕ → List ℕ
  held t b a = cond t x (cond b x (sum_of x a))

  more : (v t b : Bool) (y a sh : List ℕ) → y ≡ held t b a → cond v (cond t y (cond b y (sum_of y sh))) y ≡ held t b (cond v (sum_of sh a) a)
  unfolding held
  more false t b y a sh e = e
  more true true b y a sh e = e
  more true false true y a sh e = e
  more true false false y a sh e = ap (λ (z : List ℕ). sum_of z sh) e ∙ sum_of-more x a sh

  start : (t b : Bool) → x ≡ held t b zeros
  unfolding held
  start true b = refl
  start false true = refl
  start false false = sym (add-zeros x short)

  step : (i : ℕ) (h : Head) (y a : List ℕ) → y ≡ held (leave c) (ltb c k) a → grow_step K p leave s c i h y ≡ held (leave c) (ltb c k) (sum_step K p (c - k) s i h a)
  unfolding K
  step i (OfParity t) y a e = e
  step i (OfWrite t j) y a e = more (eqb s t) (leave c) (ltb c k) y a (share K (c - k) j (p.cell (i + 1))) e

  -- once all pending records are gone through
  pub grown-is : rest (coding code k) (grow_step (coding code k) p leave s c) p u (resume_at (coding code k) (last_parity (coding code k) p u s)) x
      ≡ cond (leave c) x (settled_with (coding code k) (walk (coding code k) p u).log s c x)
  unfolding K held
  grown-is =
      rest-beside K p u (grow_step K p leave s c) (sum_step K p (c - k) s) (λ y a. y ≡ held (leave c) (ltb c k) a) step (resume_at K (last_parity K p u s)) x zeros (start (leave c) (ltb c k))
      ∙ ap (λ (a : List ℕ). cond (leave c) x (cond (ltb c k) x (sum_of x a))) (sym (debt-is K p u (c - k) s))
