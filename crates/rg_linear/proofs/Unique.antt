-- A variable has one relation over a free set.
use Rattle.std.proofs.Common.{◌≡◌, ◌⊎◌, ⊎_elim, ℕ, ◌*◌, ◌/◌, ◌<◌, List, Contains, ap, subst, sym, ◌∙◌, inl, inr, arith}
use Rattle.std.specs.Prelude.{ℤ, pos, ◌+ℤ◌, ◌*ℤ◌, ◌<ℤ◌, unsigned_abs}
use Rattle.std.specs.Int.{IsGcd, ◌∣◌}
use Rattle.std.proofs.lemmas.Int.{ints, unsigned_abs-mul}
use Rattle.std.proofs.Math.Nat.{pos_of_dvd_of_pos, div-mul_cancel}
use Rattle.std.proofs.lemmas.Nat.Gcd.{IsGcd-swap}
use Rattle.rg_linear.specs.System.{LinearSystem, variables}
use Rattle.rg_integers.specs.Sum.{sum_below, only}
use Rattle.rg_linear.specs.Dictionary.{Takes, IsFree, Relation, Holds, IsOver, IsPrimitive, DictionaryRow}
use Rattle.rg_integers.proofs.Ring.{ring, mul_left_comm, mul-add}
use Rattle.rg_integers.proofs.Order.{mul-cancel_left, positive_differs}
use Rattle.rg_integers.specs.Divisor.{gcd_of}
use Rattle.rg_integers.proofs.Divisors.{gcd_of-is, divides_by, IsGcd-parts}
use Rattle.rg_integers.proofs.Coprime.{cross_divides}
use Rattle.rg_integers.proofs.Sums.{sum_below-same, sum_below-times, sum_below-zero, sum_below-only}
use Rattle.rg_linear.proofs.Members.{is_member, differs, same}

-- a sum over members, where each has its wanted value
pub sum_at : (system : LinearSystem) (members : List ℕ) (k : Relation) (wanted : ℕ → ℤ) (scale : ℤ) (t : Takes system members wanted scale)
    → IsOver members k → (n : ℕ) → sum_below n (λ m. k.coefficient m *ℤ t.v m) ≡ t.times *ℤ sum_below n (λ m. k.coefficient m *ℤ wanted m)
sum_at system members k wanted scale t over n =
    sum_below-same n _ (λ m. t.times *ℤ (k.coefficient m *ℤ wanted m)) (λ m lt. at m (is_member members m)) ∙ sum_below-times n t.times (λ m. k.coefficient m *ℤ wanted m)
  where
    at : (m : ℕ) → Contains members m ⊎ ¬ Contains members m → k.coefficient m *ℤ t.v m ≡ t.times *ℤ (k.coefficient m *ℤ wanted m)
    at m (inl has) = rw (t.values m has) (mul_left_comm (k.coefficient m) t.times (wanted m))
    at m (inr lacks) = rw (over m lacks) (simp ring)

-- two relations of one variable are proportional, at any values of the members
proportional_at : (system : LinearSystem) (members : List ℕ) (w : ℕ) (k l : Relation) → IsFree system members → IsOver members k → IsOver members l → Holds system w k
    → Holds system w l → (wanted : ℕ → ℤ) → l.d *ℤ (k.constant +ℤ sum_below (variables system) (λ m. k.coefficient m *ℤ wanted m)) ≡ k.d *ℤ
    (l.constant +ℤ sum_below (variables system) (λ m. l.coefficient m *ℤ wanted m))
proportional_at system members w k l free over_k over_l holds_k holds_l wanted =
    let t = free.takes wanted (pos 1) (omega (arith, ints)) in
    let s = t.times *ℤ pos 1 in
    let hk = holds_k s t.v t.point in
    let hl = holds_l s t.v t.point in
    let sk = sum_at system members k wanted (pos 1) t over_k (variables system) in
    let sl = sum_at system members l wanted (pos 1) t over_l (variables system) in
    mul-cancel_left t.times _ _ (positive_differs t.times t.positive)
    (finish t.times k.d l.d k.constant l.constant (t.v w) _ _ _ _ hk hl sk sl)
  where
    finish : (t dk dl ck cl v sk sl uk ul : ℤ) → dk *ℤ v ≡ (ck *ℤ (t *ℤ pos 1)) +ℤ sk → dl *ℤ v ≡ (cl *ℤ (t *ℤ pos 1)) +ℤ sl → sk ≡ t *ℤ uk
        → sl ≡ t *ℤ ul → t *ℤ (dl *ℤ (ck +ℤ uk)) ≡ t *ℤ (dk *ℤ (cl +ℤ ul))
    finish t dk dl ck cl v sk sl uk ul hk hl ek el =
        let a : dl *ℤ (dk *ℤ v) ≡ dl *ℤ ((ck *ℤ (t *ℤ pos 1)) +ℤ (t *ℤ uk)) = ap (λ z. dl *ℤ z) (hk ∙ ap (λ z. (ck *ℤ (t *ℤ pos 1)) +ℤ z) ek) in
        let b : dk *ℤ (dl *ℤ v) ≡ dk *ℤ ((cl *ℤ (t *ℤ pos 1)) +ℤ (t *ℤ ul)) = ap (λ z. dk *ℤ z) (hl ∙ ap (λ z. (cl *ℤ (t *ℤ pos 1)) +ℤ z) el) in
        let a' = simp ring at a in
        let b' = simp ring at b in
        simp ring (omega (arith, ints))

sum_none : (n : ℕ) (f : ℕ → ℤ) → sum_below n (λ m. f m *ℤ pos 0) ≡ pos 0
sum_none n f = sum_below-zero n _ (λ m lt. none (f m))
  where
    none : (z : ℤ) → z *ℤ pos 0 ≡ pos 0
    none z = omega (arith, ints)

pub sum_one : (n i : ℕ) (f : ℕ → ℤ) → i < n → sum_below n (λ m. f m *ℤ only i (pos 1) m) ≡ f i
sum_one n i f lt = sum_below-only n i _ lt (λ m h ne. rw (differs m i ne) (none (f m))) ∙ rw (same i) (one (f i))
  where
    none : (z : ℤ) → z *ℤ pos 0 ≡ pos 0
    none z = omega (arith, ints)

    one : (z : ℤ) → z *ℤ pos 1 ≡ z
    one z = omega (arith, ints)

-- the quotients of the first numbers of two proportional lists without common factors are 1
same_first : (a b : ℕ) → 0 < a → 0 < b → ((x : ℕ) → (y : ℕ) → IsGcd x y 1 → (g : ℕ) → 0 < g → x * g ≡ a → y * g ≡ b → (x ≡ 1) × (y ≡ 1)) → a ≡ b
same_first a b pa pb ones =
    let g = gcd_of a b in
    let is = gcd_of-is a b in
    let pg : 0 < g = pos_of_dvd_of_pos is.0 pa in
    let ea = div-mul_cancel g is.0 in
    let eb = div-mul_cancel g is.1 in
    let r = ones (a / g) (b / g) (IsGcd-parts a b g (a / g) (b / g) is pg ea eb) g pg ea eb in
    sym ea ∙ ap (λ n. n * g) (r.0 ∙ sym r.1) ∙ eb

cross_sizes : (a b p q : ℤ) → b *ℤ p ≡ a *ℤ q → unsigned_abs b * unsigned_abs p ≡ unsigned_abs a * unsigned_abs q
cross_sizes a b p q e = sym (unsigned_abs-mul b p) ∙ ap unsigned_abs e ∙ unsigned_abs-mul a q

-- proportional relations without common factors are one
pub proportional_same : (k l : Relation) → pos 0 <ℤ k.d → pos 0 <ℤ l.d → IsPrimitive k → IsPrimitive l → l.d *ℤ k.constant ≡ k.d *ℤ l.constant
    → ((m : ℕ) → l.d *ℤ k.coefficient m ≡ k.d *ℤ l.coefficient m) → k ≡ l
proportional_same k l pk pl prime_k prime_l constants coefficients =
    let sizes : unsigned_abs k.d ≡ unsigned_abs l.d = same_first _ _ (omega (arith, ints)) (omega (arith, ints)) (λ x y h g pg ea eb. (
      prime_k x (divides_by _ x g (sym ea)) (crossed x y g h pg ea eb k.constant l.constant constants) (λ m. crossed x y g h pg ea eb _ _ (coefficients m)),
      prime_l y (divides_by _ y g (sym eb)) (back x y g h pg ea eb k.constant l.constant constants) (λ m. back x y g h pg ea eb _ _ (coefficients m)),
    )) in
    let ds : k.d ≡ l.d = omega (arith, ints) in
    joined ds
  where
    crossed : (x y g : ℕ) → IsGcd x y 1 → 0 < g → x * g ≡ unsigned_abs k.d → y * g ≡ unsigned_abs l.d → (p q : ℤ) → l.d *ℤ p ≡ k.d *ℤ q → x ∣ unsigned_abs p
    crossed x y g h pg ea eb p q e = cross_divides _ _ g x y _ _ h pg ea eb (cross_sizes k.d l.d p q e)

    back : (x y g : ℕ) → IsGcd x y 1 → 0 < g → x * g ≡ unsigned_abs k.d → y * g ≡ unsigned_abs l.d → (p q : ℤ) → l.d *ℤ p ≡ k.d *ℤ q → y ∣ unsigned_abs q
    back x y g h pg ea eb p q e = cross_divides _ _ g y x _ _ (IsGcd-swap x y 1 h) pg eb ea (sym (cross_sizes k.d l.d p q e))

    cancel : k.d ≡ l.d → (p q : ℤ) → l.d *ℤ p ≡ k.d *ℤ q → p ≡ q
    cancel ds p q e = mul-cancel_left k.d p q (positive_differs k.d pk) (ap (λ z. z *ℤ p) ds ∙ e)

    joined : k.d ≡ l.d → k ≡ l
    joined ds = λ i. record { d = ds i; constant = cancel ds k.constant l.constant constants i; coefficient = λ m. cancel ds (k.coefficient m) (l.coefficient m) (coefficients m) i }

-- the relation of a variable over a free set is one
pub same_relation : (system : LinearSystem) (members : List ℕ) (w : ℕ) (k l : Relation) → DictionaryRow system members w k → DictionaryRow system members w l → k ≡ l
same_relation system members w k l row_k row_l = proportional_same k l row_k.positive row_l.positive row_k.primitive row_l.primitive constants coefficients
  where
    at : (wanted : ℕ → ℤ) → l.d *ℤ (k.constant +ℤ sum_below (variables system) (λ m. k.coefficient m *ℤ wanted m))
        ≡ k.d *ℤ (l.constant +ℤ sum_below (variables system) (λ m. l.coefficient m *ℤ wanted m))
    at wanted = proportional_at system members w k l row_k.free row_k.over row_l.over row_k.holds row_l.holds wanted

    drop_zero : (z : ℤ) → z +ℤ pos 0 ≡ z
    drop_zero z = omega (arith, ints)

    constants : l.d *ℤ k.constant ≡ k.d *ℤ l.constant
    constants =
        let e = at (λ m. pos 0) in
        let e' = subst (λ z. l.d *ℤ (k.constant +ℤ z) ≡ k.d *ℤ (l.constant +ℤ sum_below (variables system) (λ m. l.coefficient m *ℤ pos 0))) (sum_none (variables system) k.coefficient) e in
        let e'' = subst (λ z. l.d *ℤ (k.constant +ℤ pos 0) ≡ k.d *ℤ (l.constant +ℤ z)) (sum_none (variables system) l.coefficient) e' in
        subst (λ z. l.d *ℤ z ≡ k.d *ℤ l.constant) (drop_zero k.constant) (subst (λ z. l.d *ℤ (k.constant +ℤ pos 0) ≡ k.d *ℤ z) (drop_zero l.constant) e'')

    named : (m : ℕ) → m < variables system → l.d *ℤ k.coefficient m ≡ k.d *ℤ l.coefficient m
    named m lt =
        let e = at (only m (pos 1)) in
        let e' = subst (λ z. l.d *ℤ (k.constant +ℤ z)
        ≡ k.d *ℤ (l.constant +ℤ sum_below (variables system) (λ i. l.coefficient i *ℤ only m (pos 1) i))) (sum_one (variables system) m k.coefficient lt) e in
        let e'' = subst (λ z. l.d *ℤ (k.constant +ℤ k.coefficient m) ≡ k.d *ℤ (l.constant +ℤ z)) (sum_one (variables system) m l.coefficient lt) e' in
        take_off l.d k.d k.constant l.constant (k.coefficient m) (l.coefficient m) e'' constants
      where
        take_off : (a b p q x y : ℤ) → a *ℤ (p +ℤ x) ≡ b *ℤ (q +ℤ y) → a *ℤ p ≡ b *ℤ q → a *ℤ x ≡ b *ℤ y
        take_off a b p q x y e f = let e' = simp mul-add at e in omega (arith, ints)

    coefficients : (m : ℕ) → l.d *ℤ k.coefficient m ≡ k.d *ℤ l.coefficient m
    coefficients m = ⊎_elim (λ has. named m (row_k.free.within m has)) (λ lacks. rw (row_k.over m lacks, row_l.over m lacks) (omega (arith, ints))) (is_member members m)
