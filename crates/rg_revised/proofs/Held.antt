-- An exchange keeps what the slots and the table hold.
use Rattle.std.proofs.Common.{◌≡◌, ◌≢◌, ◌⊎◌, ⊎_elim, ℕ, ◌+◌, ◌<◌, Bool, true, false, List, length, get_or, Contains, ap, ap₂, refl, subst, sym, ◌∙◌, inl, inr, arith, get_or-set_other, get_or-set_same}
use Rattle.std.proofs.Math.ListN.{set, length-set}
use Rattle.std.proofs.lemmas.Int.{ints}
use Rattle.std.proofs.lemmas.List.{get_or_default}
use Rattle.std.specs.Prelude.{ℤ, pos, neg_ℤ, if◌then◌else◌, ◌-ℤ◌, ◌*ℤ◌}
use Rattle.rg_integers.specs.Sum.{number_at}
use Rattle.rg_integers.specs.Sign.{sign, size}
use Rattle.rg_integers.proofs.Ring.{ring, mul_assoc, mul-neg}
use Rattle.rg_integers.proofs.Signs.{sign-times}
use Rattle.rg_linear.specs.Table.{number_beside}
use Rattle.rg_linear.specs.Exchange.{renewed}
use Rattle.rg_linear.proofs.Members.{is_member, equal_or_not, differs, same}
use Rattle.rg_linear.proofs.MemberIndices.{member_at}
use Rattle.rg_revised.specs.Basis.{IsMultiple}
use Rattle.rg_revised.specs.Rows.{RowRenewed}
use Rattle.rg_revised.specs.Held.{AreDistinct, relation_of, IsPivot}
use Rattle.rg_linear.proofs.TableLemmas.{beside_none}
use Rattle.rg_revised.proofs.Slots.{beside_at, set_Contains, distinct-set}

-- the row after an exchange, times a factor: by the signed row of the pivot over a denominator; the new member comes to the index p
pub record RowMultiplied (pivot old new : List ℤ) (p : ℕ) (negative : Bool) (over factor : ℤ) : Type 0 where
  pub same_length : length new ≡ length old
  pub others : (n : ℕ) → n < length old → n ≢ p → factor *ℤ number_at new n ≡ (number_at old n *ℤ number_at pivot p) -ℤ (number_at pivot n *ℤ number_at old p)
  pub index : factor *ℤ number_at new p ≡ (if negative then neg_ℤ (over *ℤ number_at old p) else over *ℤ number_at old p)

-- where the denominators are the same, it is the factor
pub multiplied_from : (pivot old new : List ℤ) (p : ℕ) (negative : Bool) (d : ℤ) (most : ℕ) → RowRenewed pivot old new p negative d most → RowMultiplied pivot old new p negative d d
multiplied_from pivot old new p negative d most r = record {
  same_length = r.same_length;
  others = r.others;
  index = ap (λ z. d *ℤ z) r.index ∙ at negative (number_at old p);
}
  where
    at : (b : Bool) (x : ℤ) → d *ℤ (if b then neg_ℤ x else x) ≡ (if b then neg_ℤ (d *ℤ x) else d *ℤ x)
    at true x = mul-neg d x
    at false x = refl

-- ---- one row

module _ (slots : List ℕ) (d over f : ℤ) (numbers pivot : List ℤ) (p i : ℕ) (negative : Bool) (distinct : AreDistinct slots) (inside : p < length slots) (lacks : ¬ Contains slots i)
    (width : length numbers ≡ length slots + 1) (signed : IsPivot numbers pivot p negative) where
  wide : length slots < length numbers
  wide = omega arith

  kj_is : number_beside slots numbers (get_or slots p 0) ≡ number_at numbers p
  kj_is = beside_at slots numbers p distinct inside wide

  pivot_p : number_at pivot p ≡ size (number_at numbers p)
  pivot_p = signed.numbers_are p (omega arith) ∙ sign-times (number_at numbers p)

  count' : length (set slots p i) ≡ length slots
  count' = length-set slots p i

  distinct' : AreDistinct (set slots p i)
  distinct' = distinct-set slots p i distinct inside lacks

  i_not_j : i ≢ get_or slots p 0
  i_not_j e = lacks (subst (Contains slots) (sym e) (member_at slots p inside))

  module _ (row row' : List ℤ) (row_width : length row ≡ length slots + 1) (r : RowMultiplied pivot row row' p negative over f) where
    wide_row : length slots < length row
    wide_row = omega arith

    wide_row' : length (set slots p i) < length row'
    wide_row' = let e = r.same_length in let f = count' in omega arith

    lj_is : number_beside slots row (get_or slots p 0) ≡ number_at row p
    lj_is = beside_at slots row p distinct inside wide_row

    -- the number of an index other than that of the pivot
    index_other : (n : ℕ) → n < length row → n ≢ p → (number_at row n *ℤ size (number_at numbers p)) -ℤ ((sign (number_at numbers p) *ℤ number_at numbers n) *ℤ number_at row p) ≡ f *ℤ number_at row' n
    index_other n lt ne = ap₂ (λ a b. (number_at row n *ℤ a) -ℤ (b *ℤ number_at row p)) (sym pivot_p) (sym (signed.numbers_are n (omega arith))) ∙ sym (r.others n lt ne)

    -- with the numbers of the relations
    spelled : (m : ℕ) → ((number_beside slots row m *ℤ size (number_at numbers p)) -ℤ ((sign (number_at numbers p) *ℤ number_beside slots numbers m) *ℤ number_at row p)) ≡
        ((number_beside slots row m *ℤ size (number_beside slots numbers (get_or slots p 0))) -ℤ
        ((sign (number_beside slots numbers (get_or slots p 0)) *ℤ number_beside slots numbers m) *ℤ number_beside slots row (get_or slots p 0)))
    spelled m = ap₂ (λ a b. (number_beside slots row m *ℤ size a) -ℤ ((sign a *ℤ number_beside slots numbers m) *ℤ b)) (sym kj_is) (sym lj_is)

    constant_is : (renewed (relation_of slots over numbers) i (get_or slots p 0) (relation_of slots d row)).constant ≡ f *ℤ number_at row' (length (set slots p i))
    constant_is =
        ap₂ (λ a b. (number_at row (length slots) *ℤ size a) -ℤ ((sign a *ℤ number_at numbers (length slots)) *ℤ b)) kj_is lj_is
        ∙ index_other (length slots) wide_row (λ e. omega arith)
        ∙ ap (λ n. f *ℤ number_at row' n) (sym count')

    coefficient_is : (m : ℕ) → (renewed (relation_of slots over numbers) i (get_or slots p 0) (relation_of slots d row)).coefficient m ≡ f *ℤ number_beside (set slots p i) row' m
    coefficient_is m = go (equal_or_not m i) (equal_or_not m (get_or slots p 0)) (is_member slots m)
      where
        new_index : number_beside (set slots p i) row' i ≡ number_at row' p
        new_index = ap (number_beside (set slots p i) row') (sym (get_or-set_same slots p i 0 inside)) ∙ beside_at (set slots p i) row' p distinct' (subst (λ n. p < n) (sym count') inside) wide_row'

        at_i : (sign (number_beside slots numbers (get_or slots p 0)) *ℤ over) *ℤ number_beside slots row (get_or slots p 0) ≡ f *ℤ number_beside (set slots p i) row' i
        at_i = ap₂ (λ a b. (sign a *ℤ over) *ℤ b) kj_is lj_is ∙ mul_assoc (sign (number_at numbers p)) over (number_at row p)
            ∙ sym (ap (λ z. f *ℤ z) new_index ∙ r.index ∙ signed.turned (over *ℤ number_at row p))

        at_j : (x z h q : ℤ) → h *ℤ z ≡ q → (x *ℤ q) -ℤ ((h *ℤ z) *ℤ x) ≡ f *ℤ pos 0
        at_j x z h q e = rw e (simp ring (omega (arith, ints)))

        none : (x q h z lj : ℤ) → x ≡ pos 0 → z ≡ pos 0 → (x *ℤ q) -ℤ ((h *ℤ z) *ℤ lj) ≡ f *ℤ pos 0
        none x q h z lj e f = rw (e, f) (simp ring refl)

        gone : (m : ℕ) → m ≢ i → ¬ (Contains slots m × (m ≢ get_or slots p 0)) → number_beside (set slots p i) row' m ≡ pos 0
        gone m ni not = beside_none (set slots p i) row' m (λ has. ⊎_elim (λ e. ni (sym e)) not (set_Contains slots p i m distinct inside has))

        other : m ≢ get_or slots p 0 → Contains slots m
            → ((number_beside slots row m *ℤ size (number_beside slots numbers (get_or slots p 0))) -ℤ
            ((sign (number_beside slots numbers (get_or slots p 0)) *ℤ number_beside slots numbers m) *ℤ number_beside slots row (get_or slots p 0))) ≡ f *ℤ number_beside (set slots p i) row' m
        other nj (q, lt, at) = sym (spelled m) ∙ ap₂ (λ a b. (a *ℤ size (number_at numbers p)) -ℤ ((sign (number_at numbers p) *ℤ b) *ℤ number_at row p)) in_row in_numbers
            ∙ index_other q (omega arith) q_not_p ∙ ap (λ z. f *ℤ z) (sym in_new)
          where
            is : get_or slots q 0 ≡ m
            is = at_default slots q m lt at
              where
                at_default : (xs : List ℕ) (q m : ℕ) → q < length xs → get_or xs q m ≡ m → get_or xs q 0 ≡ m
                at_default xs q m lt e = get_or_default xs q 0 m lt ∙ e

            q_not_p : q ≢ p
            q_not_p e = nj (sym is ∙ ap (λ n. get_or slots n 0) e)

            in_row : number_beside slots row m ≡ number_at row q
            in_row = ap (number_beside slots row) (sym is) ∙ beside_at slots row q distinct lt wide_row

            in_numbers : number_beside slots numbers m ≡ number_at numbers q
            in_numbers = ap (number_beside slots numbers) (sym is) ∙ beside_at slots numbers q distinct lt wide

            in_new : number_beside (set slots p i) row' m ≡ number_at row' q
            in_new = ap (number_beside (set slots p i) row') (sym (get_or-set_other slots p q i 0 q_not_p ∙ is))
                ∙ beside_at (set slots p i) row' q distinct' (subst (λ n. q < n) (sym count') lt) wide_row'

        go : (m ≡ i) ⊎ (m ≢ i) → (m ≡ get_or slots p 0) ⊎ (m ≢ get_or slots p 0) → Contains slots m ⊎ ¬ Contains slots m
            → (renewed (relation_of slots over numbers) i (get_or slots p 0) (relation_of slots d row)).coefficient m ≡ f *ℤ number_beside (set slots p i) row' m
        go (inl e) _ _ = subst (λ x. (renewed (relation_of slots over numbers) i (get_or slots p 0) (relation_of slots d row)).coefficient x ≡ f *ℤ number_beside (set slots p i) row' x) (sym e)
            (rw (same i) at_i)
        go (inr ni) (inl e) _ = rw (differs m i ni)
            (ap₂ (λ a b. (a *ℤ size (number_beside slots numbers (get_or slots p 0))) -ℤ ((sign (number_beside slots numbers (get_or slots p 0)) *ℤ b) *ℤ number_beside slots row
            (get_or slots p 0))) (ap (number_beside slots row) e) (ap (number_beside slots numbers) e)
            ∙ at_j (number_beside slots row (get_or slots p 0)) (number_beside slots numbers (get_or slots p 0)) (sign (number_beside slots numbers (get_or slots p 0)))
            (size (number_beside slots numbers (get_or slots p 0))) (sign-times (number_beside slots numbers (get_or slots p 0))) ∙ ap (λ z. f *ℤ z) (sym (gone m ni (λ h. h.1 e))))
        go (inr ni) (inr nj) (inl has) = rw (differs m i ni) (other nj has)
        go (inr ni) (inr nj) (inr absent) = rw (differs m i ni)
            (none (number_beside slots row m) (size (number_beside slots numbers (get_or slots p 0))) (sign (number_beside slots numbers (get_or slots p 0))) (number_beside slots numbers m)
            (number_beside slots row (get_or slots p 0)) (beside_none slots row m absent) (beside_none slots numbers m absent) ∙ ap (λ z. f *ℤ z) (sym (gone m ni (λ h. absent h.0))))

    pub row_is_multiple : (d' : ℤ) → d *ℤ number_at pivot p ≡ f *ℤ d'
        → IsMultiple f (renewed (relation_of slots over numbers) i (get_or slots p 0) (relation_of slots d row)) (relation_of (set slots p i) d' row')
    row_is_multiple d' e = record { d = ap (λ z. d *ℤ size z) kj_is ∙ ap (λ z. d *ℤ z) (sym pivot_p) ∙ e; constant = constant_is; coefficients = coefficient_is }
