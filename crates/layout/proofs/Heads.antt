-- What is encoded from a head that fits decodes to it.
use Rattle.std.proofs.Common.{◌≡◌, ℕ, ◌<◌, true, false, ltb, List, length, get_or, Some, None, Option, sym, refl, ap, ◌∙◌}
use Rattle.std.specs.Str.{bytes_eq}
use Rattle.std.proofs.lemmas.Bool.{and_parts, and_from, and_right, cond-true, cond-false}
use Rattle.layout.specs.Bytes.{four_at}
use Rattle.layout.specs.Head.{head_cell, head_in, head_fits}
use Rattle.layout.specs.declared.head.Head.{Head}
use Rattle.layout.specs.declared.head.Head.TheVariants.{OfWrite, OfParity}
use Rattle.layout.proofs.Numbers.{four_at-le4}
use Rattle.layout.proofs.Headers.{same_bytes}

pub stripe-back : (kind column stripe : ℕ) → stripe < 4294967296 → four_at (head_cell kind column stripe) 4 ≡ stripe
unfolding head_cell
stripe-back kind column stripe h = four_at-le4 stripe h

pub column-back : (kind column stripe : ℕ) → get_or (head_cell kind column stripe) 1 0 ≡ column
unfolding head_cell
column-back kind column stripe = refl

other-kind : (column stripe c s : ℕ) → bytes_eq (head_cell 2 column stripe) (head_cell 1 c s) ≡ false
unfolding head_cell
other-kind column stripe c s = refl

pub length-head_cell : (kind column stripe : ℕ) → length (head_cell kind column stripe) ≡ 512
unfolding head_cell
length-head_cell kind column stripe = refl

module _ (k stripes : ℕ) where
  pub write-back : (stripe column : ℕ) → stripe < 4294967296 → ltb stripe stripes ≡ true → ltb column k ≡ true → head_in k stripes (head_cell 1 column stripe) ≡ Some (OfWrite stripe column)
  write-back stripe column h a b =
      let x = head_cell 1 column stripe in
      let s = stripe-back 1 column stripe h in
      let c = column-back 1 column stripe in
      let same : bytes_eq x (head_cell 1 (get_or x 1 0) (four_at x 4)) ≡ true = same_bytes x _ (sym (ap (λ (v : ℕ). head_cell 1 v (four_at x 4)) c ∙ ap (head_cell 1 column) s)) in
      let e : ◌≡◌ {A = Option Head} (Some (OfWrite (four_at x 4) (get_or x 1 0))) (Some (OfWrite stripe column)) = λ i. Some (OfWrite (s i) (c i)) in
      cond-true _ _ _ (and_from _ _ (ap (λ (v : ℕ). ltb v stripes) s ∙ a) (and_from _ _ (ap (λ (v : ℕ). ltb v k) c ∙ b) same)) ∙ e

  pub parity-back : (stripe : ℕ) → stripe < 4294967296 → ltb stripe stripes ≡ true → head_in k stripes (head_cell 2 0 stripe) ≡ Some (OfParity stripe)
  parity-back stripe h a =
      let x = head_cell 2 0 stripe in
      let s = stripe-back 2 0 stripe h in
      let same : bytes_eq x (head_cell 2 0 (four_at x 4)) ≡ true = same_bytes x _ (sym (ap (head_cell 2 0) s)) in
      let no : bytes_eq x (head_cell 1 (get_or x 1 0) (four_at x 4)) ≡ false = other-kind 0 stripe (get_or x 1 0) (four_at x 4) in
      let e : ◌≡◌ {A = Option Head} (Some (OfParity (four_at x 4))) (Some (OfParity stripe)) = λ i. Some (OfParity (s i)) in
      cond-false _ (Some (OfWrite (four_at x 4) (get_or x 1 0))) _ (and_right (ltb (four_at x 4) stripes) _ (and_right (ltb (get_or x 1 0) k) _ no)) ∙ cond-true _ _ None (and_from _ _ (ap (λ (v : ℕ). ltb v stripes) s ∙ a) same) ∙ e

  -- the same of a head h that is one of the two
  pub wrote-back : (h : Head) (x : List ℕ) (stripe column : ℕ) → h ≡ OfWrite stripe column → x ≡ head_cell 1 column stripe → stripe < 4294967296 → head_fits k stripes h ≡ true → head_in k stripes x ≡ Some h
  wrote-back h x stripe column e b l f =
      let p = and_parts (ltb stripe stripes) (ltb column k) (sym (ap (head_fits k stripes) e) ∙ f) in
      ap (head_in k stripes) b ∙ write-back stripe column l p.0 p.1 ∙ ap Some (sym e)

  pub folded_back : (h : Head) (x : List ℕ) (stripe : ℕ) → h ≡ OfParity stripe → x ≡ head_cell 2 0 stripe → stripe < 4294967296 → head_fits k stripes h ≡ true → head_in k stripes x ≡ Some h
  folded_back h x stripe e b l f =
      ap (head_in k stripes) b ∙ parity-back stripe l (sym (ap (head_fits k stripes) e) ∙ f) ∙ ap Some (sym e)
