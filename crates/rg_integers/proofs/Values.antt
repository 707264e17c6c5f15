-- Rational values n over d: equality, and the one reduced form.
use Rattle.std.proofs.Common.{◌≡◌, ◌≢◌, ◌*◌, ap, subst, sym, ◌∙◌, arith}
use Rattle.std.specs.Prelude.{ℤ, pos, neg_ℤ, ◌*ℤ◌, ◌<ℤ◌, unsigned_abs}
use Rattle.std.specs.Int.{IsGcd}
use Rattle.std.proofs.lemmas.Int.{ints, unsigned_abs-mul}
use Rattle.rg_integers.specs.Value.{SameValue, IsReducedForm}
use Rattle.rg_integers.proofs.Ring.{ring}
use Rattle.rg_integers.proofs.Order.{mul-cancel, positive_differs}
use Rattle.rg_integers.proofs.Signs.{abs_is, abs_positive}
use Rattle.rg_integers.proofs.Coprime.{one_form}

pub SameValue-sym : (n d m e : ℤ) → SameValue n d m e → SameValue m e n d
SameValue-sym n d m e p = sym p

pub SameValue-trans : (n d m e k f : ℤ) → e ≢ pos 0 → SameValue n d m e → SameValue m e k f → SameValue n d k f
SameValue-trans n d m e k f h p q = mul-cancel (n *ℤ f) (k *ℤ d) e h (let p' : n *ℤ e ≡ m *ℤ d = p in
    let q' : m *ℤ f ≡ k *ℤ e = q in
    let x = ap (λ (z : ℤ). z *ℤ f) p' in
    let y = ap (λ (z : ℤ). z *ℤ d) q' in
    let x' = simp ring at x in
    let y' = simp ring at y in
    simp ring (omega (arith, ints)))

-- n = top * g over d = bottom * g
pub SameValue-parts : (n d top bottom g : ℤ) → top *ℤ g ≡ n → bottom *ℤ g ≡ d → SameValue top bottom n d
SameValue-parts n d top bottom g p q = simp (sym p, sym q, ring)

pub SameValue-neg : (n d top bottom : ℤ) → SameValue top bottom n d → SameValue (neg_ℤ top) (neg_ℤ bottom) n d
SameValue-neg n d top bottom p = let e : top *ℤ d ≡ n *ℤ bottom = p in simp ring (omega (arith, ints))

-- reduced numbers of one value are equal
pub same_reduced : (p q r s : ℤ) → pos 0 <ℤ q → pos 0 <ℤ s → IsGcd (unsigned_abs p) (unsigned_abs q) 1
    → IsGcd (unsigned_abs r) (unsigned_abs s) 1 → SameValue p q r s → (p ≡ r) × (q ≡ s)
same_reduced p q r s hq hs a b v =
    let sizes : unsigned_abs p * unsigned_abs s ≡ unsigned_abs r * unsigned_abs q =
    sym (unsigned_abs-mul p s) ∙ ap unsigned_abs v ∙ unsigned_abs-mul r q in
    let same = one_form (unsigned_abs p) (unsigned_abs q) (unsigned_abs r) (unsigned_abs s) (abs_positive q (positive_differs q hq)) a b sizes in
    let bottom : q ≡ s = abs_is q hq ∙ ap pos same.1 ∙ sym (abs_is s hs) in
    (mul-cancel p r q (positive_differs q hq) (subst (λ z. p *ℤ z ≡ r *ℤ q) (sym bottom) v), bottom)

-- a value has one reduced form
pub one_reduced_form : (p q r s n d : ℤ) → d ≢ pos 0 → IsReducedForm p q n d → IsReducedForm r s n d → (p ≡ r) × (q ≡ s)
one_reduced_form p q r s n d h f g =
    same_reduced p q r s f.positive g.positive f.reduced g.reduced (SameValue-trans p q n d r s h f.value (SameValue-sym r s n d g.value))
