-- The value of rows, variable by variable.
use Rattle.std.proofs.Common.{◌≡◌, ℕ, ◌==◌, false, if◌then◌else◌, List, [], ◌∷◌, All, ap, ap₂, refl, sym, ◌∙◌, arith, eq-eqb, ne_eqb}
use Rattle.std.specs.Prelude.{ℤ, pos, ◌+ℤ◌, ◌*ℤ◌}
use Rattle.std.proofs.Math.IntN.{zero-*ℤ}
use Rattle.std.proofs.lemmas.Int.{ints}
use Rattle.std.proofs.lemmas.List.Elements.{All-head, All-tail}
use Rattle.rg_integers.specs.Sum.{sum_below}
use Rattle.rg_integers.proofs.Ring.{add-mul, mul-add, mul_assoc}
use Rattle.rg_integers.proofs.Sums.{sum_below-same, sum_below-zero, sum_below-plus, sum_below-times, sum_below-only}
use Rattle.rg_cert_meaning.specs.Expression.{Term, Expression, same_variable, coefficient_in, value_in}
use Rattle.rg_cert_meaning.specs.declared.Variable.{Variable}
use Rattle.rg_cert_meaning.specs.declared.RowName.{RowName}
use Rattle.rg_cert_meaning.specs.Refutes.{NamedRow, coefficient_sum}
use Rattle.rg_case_folds.specs.Values.{NamesLabels}
use Rattle.rg_farkas.specs.Refuting.{terms_sum}
use Rattle.rg_cert_data.specs.Certificates.{IsVariableWithin, IsTermWithin}
use Rattle.rg_cert_meaning.specs.declared.Variable.TheVariants.{Tokens, Effect}

-- terms within name labels
pub within_names : (n l : ℕ) (terms : List Term) → All (IsTermWithin n l) terms → NamesLabels l terms
within_names n l [] within = tt
within_names n l (t ∷ terms) within = go t.variable (All-head (IsTermWithin n l) t terms within) (within_names n l terms (All-tail (IsTermWithin n l) t terms within))
  where
    go : (v : Variable) → IsVariableWithin n l v → NamesLabels l terms → NamesLabels l (record { coefficient = t.coefficient; variable = v } ∷ terms)
    go (Tokens q) lt rest = rest
    go (Effect u) lt rest = (lt, rest)

-- a variable that is out of range has the coefficient 0
pub outside : (n l : ℕ) (terms : List Term) (v : Variable) → All (IsTermWithin n l) terms → ¬ IsVariableWithin n l v → coefficient_in terms v ≡ pos 0
outside n l [] v within out = refl
outside n l (t ∷ terms) v within out = ap₂ (λ b z. (if b then t.coefficient else pos 0) +ℤ z)
    (differs t.variable v (All-head (IsTermWithin n l) t terms within) out) (outside n l terms v (All-tail (IsTermWithin n l) t terms within) out)
  where
    differs : (u v : Variable) → IsVariableWithin n l u → ¬ IsVariableWithin n l v → same_variable u v ≡ false
    differs (Tokens q) (Tokens r) lt out = ne_eqb q r (λ e. out (omega arith))
    differs (Effect t) (Effect u) lt out = ne_eqb t u (λ e. out (omega arith))
    differs (Tokens q) (Effect u) lt out = refl
    differs (Effect t) (Tokens r) lt out = refl

-- ---- sums over all states and labels

abbrev pub by_variable : ℕ → ℕ → (Variable → ℤ) → (Variable → ℤ) → ℤ
by_variable n l c x = sum_below n (λ q. c (Tokens q) *ℤ x (Tokens q)) +ℤ sum_below l (λ u. c (Effect u) *ℤ x (Effect u))

by_variable-plus : (n l : ℕ) (c d x : Variable → ℤ) → by_variable n l (λ v. c v +ℤ d v) x ≡ by_variable n l c x +ℤ by_variable n l d x
by_variable-plus n l c d x =
    ap₂ ◌+ℤ◌ (part n (λ q. c (Tokens q)) (λ q. d (Tokens q)) (λ q. x (Tokens q))) (part l (λ u. c (Effect u)) (λ u. d (Effect u)) (λ u. x (Effect u)))
    ∙ close (sum_below n (λ q. c (Tokens q) *ℤ x (Tokens q))) (sum_below n (λ q. d (Tokens q) *ℤ x (Tokens q)))
    (sum_below l (λ u. c (Effect u) *ℤ x (Effect u))) (sum_below l (λ u. d (Effect u) *ℤ x (Effect u)))
  where
    part : (n : ℕ) (f g y : ℕ → ℤ) → sum_below n (λ i. (f i +ℤ g i) *ℤ y i) ≡ sum_below n (λ i. f i *ℤ y i) +ℤ sum_below n (λ i. g i *ℤ y i)
    part n f g y = sum_below-same n _ _ (λ i lt. add-mul (f i) (g i) (y i)) ∙ sum_below-plus n (λ i. f i *ℤ y i) (λ i. g i *ℤ y i)

    close : (a b c d : ℤ) → (a +ℤ b) +ℤ (c +ℤ d) ≡ (a +ℤ c) +ℤ (b +ℤ d)
    close a b c d = omega (arith, ints)

by_variable-times : (n l : ℕ) (k : ℤ) (c x : Variable → ℤ) → by_variable n l (λ v. k *ℤ c v) x ≡ k *ℤ by_variable n l c x
by_variable-times n l k c x =
    ap₂ ◌+ℤ◌ (part n (λ q. c (Tokens q)) (λ q. x (Tokens q))) (part l (λ u. c (Effect u)) (λ u. x (Effect u)))
    ∙ sym (mul-add k (sum_below n (λ q. c (Tokens q) *ℤ x (Tokens q))) (sum_below l (λ u. c (Effect u) *ℤ x (Effect u))))
  where
    part : (n : ℕ) (f y : ℕ → ℤ) → sum_below n (λ i. (k *ℤ f i) *ℤ y i) ≡ k *ℤ sum_below n (λ i. f i *ℤ y i)
    part n f y = sum_below-same n _ _ (λ i lt. mul_assoc k (f i) (y i)) ∙ sum_below-times n k (λ i. f i *ℤ y i)

by_variable-zero : (n l : ℕ) (x : Variable → ℤ) → by_variable n l (λ v. pos 0) x ≡ pos 0
by_variable-zero n l x = ap₂ ◌+ℤ◌ (sum_below-zero n _ (λ i lt. zero-*ℤ (x (Tokens i)))) (sum_below-zero l _ (λ i lt. zero-*ℤ (x (Effect i))))

-- one term alone
term_alone : (n l : ℕ) (k : ℤ) (v : Variable) (x : Variable → ℤ) → IsVariableWithin n l v → k *ℤ x v ≡ by_variable n l (λ w. if same_variable v w then k else pos 0) x
term_alone n l k (Tokens q) x lt =
    sym (ap₂ ◌+ℤ◌
    (sum_below-only n q (λ i. (if q == i then k else pos 0) *ℤ x (Tokens i)) lt
    (λ i below ne. ap (λ b. (if b then k else pos 0) *ℤ x (Tokens i)) (ne_eqb q i (λ e. ne (sym e))) ∙ zero-*ℤ (x (Tokens i)))
    ∙ ap (λ b. (if b then k else pos 0) *ℤ x (Tokens q)) (eq-eqb q q refl))
    (sum_below-zero l _ (λ i below. zero-*ℤ (x (Effect i))))
    ∙ last (k *ℤ x (Tokens q)))
  where
    last : (z : ℤ) → z +ℤ pos 0 ≡ z
    last z = omega (arith, ints)
term_alone n l k (Effect u) x lt =
    sym (ap₂ ◌+ℤ◌
    (sum_below-zero n _ (λ i below. zero-*ℤ (x (Tokens i))))
    (sum_below-only l u (λ i. (if u == i then k else pos 0) *ℤ x (Effect i)) lt
    (λ i below ne. ap (λ b. (if b then k else pos 0) *ℤ x (Effect i)) (ne_eqb u i (λ e. ne (sym e))) ∙ zero-*ℤ (x (Effect i)))
    ∙ ap (λ b. (if b then k else pos 0) *ℤ x (Effect u)) (eq-eqb u u refl))
    ∙ first (k *ℤ x (Effect u)))
  where
    first : (z : ℤ) → pos 0 +ℤ z ≡ z
    first z = omega (arith, ints)

pub value_split : (n l : ℕ) (x : Variable → ℤ) (terms : List Term) → All (IsTermWithin n l) terms → value_in x terms ≡ by_variable n l (coefficient_in terms) x
value_split n l x [] within = sym (by_variable-zero n l x)
value_split n l x (t ∷ terms) within =
    ap₂ ◌+ℤ◌ (term_alone n l t.coefficient t.variable x (All-head (IsTermWithin n l) t terms within)) (value_split n l x terms (All-tail (IsTermWithin n l) t terms within))
    ∙ sym (by_variable-plus n l (λ w. if same_variable t.variable w then t.coefficient else pos 0) (coefficient_in terms) x)

-- the terms of every row are within
abbrev pub RowsWithin : ℕ → ℕ → (RowName → Expression) → List NamedRow → Type 0
RowsWithin n l expression rows = All (λ r. All (IsTermWithin n l) (expression r.name).terms) rows

pub terms_split : (n l : ℕ) (expression : RowName → Expression) (x : Variable → ℤ) (rows : List NamedRow) → RowsWithin n l expression rows
    → terms_sum expression rows x ≡ by_variable n l (coefficient_sum expression rows) x
terms_split n l expression x [] within = sym (by_variable-zero n l x)
terms_split n l expression x (r ∷ rows) within =
    ap₂ ◌+ℤ◌ (ap (λ z. r.multiplier *ℤ z) (value_split n l x (expression r.name).terms (All-head (λ u. All (IsTermWithin n l) (expression u.name).terms) r rows within))
    ∙ sym (by_variable-times n l r.multiplier (coefficient_in (expression r.name).terms) x))
    (terms_split n l expression x rows (All-tail (λ u. All (IsTermWithin n l) (expression u.name).terms) r rows within))
    ∙ sym (by_variable-plus n l (λ v. r.multiplier *ℤ coefficient_in (expression r.name).terms v) (coefficient_sum expression rows) x)

-- a variable that is out of range cancels
pub outside_sum : (n l : ℕ) (expression : RowName → Expression) (rows : List NamedRow) (v : Variable) → RowsWithin n l expression rows
    → ¬ IsVariableWithin n l v → coefficient_sum expression rows v ≡ pos 0
outside_sum n l expression [] v within out = refl
outside_sum n l expression (r ∷ rows) v within out = ap₂ ◌+ℤ◌
    (ap (λ z. r.multiplier *ℤ z) (outside n l (expression r.name).terms v (All-head (λ u. All (IsTermWithin n l) (expression u.name).terms) r rows within) out)
    ∙ times_zero r.multiplier) (outside_sum n l expression rows v (All-tail (λ u. All (IsTermWithin n l) (expression u.name).terms) r rows within) out)
  where
    times_zero : (z : ℤ) → z *ℤ pos 0 ≡ pos 0
    times_zero z = omega (arith, ints)
