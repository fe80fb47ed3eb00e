-- What is known of a started array.
use Rattle.std.proofs.Common.{◌≡◌, ℕ, ◌+◌, ◌-◌, ◌*◌, ◌<◌, ◌≤◌, Bool, true, false, cond, ◌&&◌, ltb, leb, List, Some, None, Option, sym, refl, ap, subst, inl, inr, mul-le-mul_right, arith}
use Rattle.std.proofs.lemmas.Bool.{cases_lt, and_parts, lt-ltb, cond-true}
use Rattle.backplane.specs.Meaning.{Bytes}
use Rattle.layout.specs.declared.header.Header.{Header}
use Rattle.layout.specs.Header.{header_fits, goods_fit}
use Rattle.layout.specs.Limits.{within_limits}
use Rattle.layout.proofs.Headers.{goods-at}
use Rattle.model.specs.Coding.{Coding}
use Rattle.model.specs.Rules.{good_of, opened, shape_of}
use Rattle.rows.specs.Rows.{is_open}

held-open : (b : Bool) (x h : Header) → Some h ≡ cond b (Some x) None → (b ≡ true) × (h ≡ x)
held-open true x h e = (refl, cc)
held-open false x h e = let z : ◌≡◌ {A = ℕ} 0 1 = cc in absurd (omega arith)

pub open-held : (K : Coding (List ℕ)) (p : Bytes) (o : Option Header) (h : Header) → Some h ≡ opened K p o → o ≡ Some h
open-held K p None h e = let z : ◌≡◌ {A = ℕ} 0 1 = cc in absurd (omega arith)
open-held K p (Some x) h e = let k = held-open (is_open K p x) x h e in ap Some (sym k.1)

-- a slot has at most as many good stripes as a disk has blocks
pub good-below : (K : Coding (List ℕ)) (p : Bytes) (h : Header) (d : ℕ) → is_open K p h ≡ true → d < p.slots → d < 16 → good_of h d ≤ p.blocks
good-below K p h d e l few =
    let fit = (and_parts (within_limits K.m (shape_of K p)) (header_fits (shape_of K p) h) (and_parts p.on (within_limits K.m (shape_of K p) && header_fits (shape_of K p) h) e).1).1 in
    let goods = (and_parts (leb h.used (p.cells - 1)) (goods_fit p.slots p.blocks 16 h.good) fit).1 in
    let most : good_of h d ≤ cond (ltb d p.slots) p.blocks 0 = goods-at p.slots p.blocks 16 h.good goods d few in
    subst (λ (m : ℕ). good_of h d ≤ m) (cond-true (ltb d p.slots) p.blocks 0 (lt-ltb d p.slots l)) most

pub le-ne-lt : (a b : ℕ) → a ≤ b → (a ≡ b → ⊥) → a < b
le-ne-lt a b l ne = elim (cases_lt a b) [ inl h ↦ h | inr h ↦ absurd (ne (omega arith)) ]

-- a block number below the stripes times the columns lies in one of the stripes
pub stripe-below : (k blocks l s j : ℕ) → l < blocks * k → s * k + j ≡ l → s < blocks
stripe-below k blocks l s j h e =
    elim (cases_lt s blocks) [ inl b ↦ b | inr b ↦ absurd (let more : blocks * k ≤ s * k = mul-le-mul_right k b in omega arith) ]
