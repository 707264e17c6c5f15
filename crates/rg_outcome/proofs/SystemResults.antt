-- The system of each case has a result: its rows and forms, or their first step out of range.
use Rattle.std.proofs.Common.{◌≡◌, ◌≢◌, ◌⊎◌, inl, inr, ℕ, zero, suc, max, not, Bool, true, false, if◌then◌else◌, List, [], ◌∷◌, ◌++◌, length, map, Contains, Ok, refl, sym, ap, ap₂, subst, ◌∙◌, arith}
use Rattle.std.specs.Prelude.{ℤ, pos, negsuc, ◌*ℤ◌, ◌≤ℤ◌, unsigned_abs, int_div}
use Rattle.std.specs.Int.{◌∣◌}
use Rattle.std.proofs.Math.Nat.{one-dvd}
use Rattle.std.proofs.Math.IntN.{*ℤ_comm}
use Rattle.std.proofs.lemmas.Int.{ints}
use Rattle.std.proofs.lemmas.Bool.{cases_eq, not-true}
use Rattle.std.proofs.lemmas.List.{get_or_default}
use Rattle.std.proofs.lemmas.List.Elements.{All-nil, All-cons, Contains-append_left, Contains-append_right, Contains-append_cases}
use Rattle.rg_theory.specs.declared.Arc.{Arc}
use Rattle.rg_theory.specs.System.{System, labels}
use Rattle.rg_theory.specs.declared.Class.{Class}
use Rattle.rg_theory.proofs.Lists.{Contains-cons_cases}
use Rattle.rg_integers.specs.Sum.{number_at}
use Rattle.rg_integers.proofs.Divisors.{exact, gcd_below}
use Rattle.rg_integers.proofs.Order.{positive_differs}
use Rattle.rg_fraction.specs.Rows.{IsRowGcd}
use Rattle.rg_cert_meaning.specs.Expression.{Term, Expression, plus}
use Rattle.rg_cert_meaning.specs.Row.{row_expression, form_variable, step_of}
use Rattle.rg_cert_meaning.specs.declared.RowName.{RowName}
use Rattle.rg_cert_meaning.specs.declared.Form.{Form as SplitForm}
use Rattle.rg_linear.specs.System.{LinearRow}
use Rattle.rg_linear.specs.Branching.{Form}
use Rattle.rg_linear.specs.Cycle.{CycleBasis, IsZeroVector}
use Rattle.rg_linear.specs.Firsts.{KeepsEqualRows}
use Rattle.rg_case_folds.specs.Setting.{Setting, CaseSetting}
use Rattle.rg_case_folds.specs.Chords.{IsBasis}
use Rattle.rg_folds.specs.Fold.{gives, and_then, each, Ratio, whole, quotient, add, mul, multiple_of_all}
use Rattle.rg_folds.specs.Substitution.{is_in, free_labels, dependent_labels, dependent_term, coefficient_fold, substitute_fold}
use Rattle.rg_case_folds.specs.Rewriting.{has_label, has_start, pick, columns_of, column_count, Scaled, scaled_fold, terms_fold, KeptRow, divided, row_fold, names_of, IsIdle, split_forms}
use Rattle.rg_case_folds.specs.Rewriting.{form_low, form_high, form_fold, kept_of, system_fold, count_of, start_of}
use Rattle.rg_case_folds.proofs.Lists.{first, behind, where_is, not_in}
use Rattle.rg_outcome.proofs.Steps.{HasSome, Makes, Each, each_none, each_cons, some_given, some_then, makes_then, some_each, makes_each, some_further, makes_further, IsOver, whole_over, some_ratio, some_quotient, some_product, sums_join, product_over, some_multiple}
use Rattle.rg_case_folds.proofs.OneResult.{not_none as divisor_differs}

-- each label that isn't free has a relation
abbrev pub HaveRelations : System → CycleBasis → Type 0
HaveRelations lts basis = Each (λ t. (basis.relation t).d ≢ pos 0) (dependent_labels (labels lts) basis)

pub basis_relations : (lts : System) (arcs : List Arc) (basis : CycleBasis) → IsBasis lts arcs basis → HaveRelations lts basis
basis_relations lts arcs basis is t has =
    let (free, least, below) = where_is (λ u. not (is_in basis.members u)) 0 (labels lts) t has in
    positive_differs (basis.relation t).d (is.relations t (let b = below in omega arith) (not_in basis.members t (not-true (is_in basis.members t) free))).positive

-- ---- lists

pub each_append : {X : Type 0} (P : X → Type 0) (xs ys : List X) → Each P xs → Each P ys → Each P (xs ++ ys)
each_append P xs ys a b x has = by (Contains-append_cases xs ys x has)
  where
    by : Contains xs x ⊎ Contains ys x → P x
    by (inl in_xs) = a x in_xs
    by (inr in_ys) = b x in_ys

each_picked : (P : Ratio → Type 0) (test : ℕ → Bool) (fs : List ℕ) (numbers : List Ratio) → Each P numbers → Each P (pick test fs numbers)
each_picked P test [] numbers all = each_none P
each_picked P test (f ∷ fs) [] all = each_none P
each_picked P test (f ∷ fs) (r ∷ numbers) all = by (test f) (each_picked P test fs numbers (λ x has. all x (behind r x numbers has)))
  where
    by : (b : Bool) → Each P (pick test fs numbers) → Each P (if b then (r ∷ pick test fs numbers) else pick test fs numbers)
    by true rest = each_cons P r (pick test fs numbers) (all r (first r numbers)) rest
    by false rest = rest

each_column : (lts : System) (basis : CycleBasis) (class : Class) (start : ℤ) (free : List Ratio) → Each IsOver free → Each IsOver (columns_of lts basis class start free)
each_column lts basis class start free all = each_append IsOver (if has_start class then (whole start ∷ []) else [])
    (pick (λ t. has_label t lts.arcs) (free_labels (labels lts) basis) free) (by (has_start class))
    (each_picked IsOver (λ t. has_label t lts.arcs) (free_labels (labels lts) basis) free all)
  where
    by : (b : Bool) → Each IsOver (if b then (whole start ∷ []) else [])
    by true = each_cons IsOver (whole start) [] (whole_over start) (each_none IsOver)
    by false = each_none IsOver

-- ---- sums over the free labels

module _ (lts : System) (basis : CycleBasis) (related : HaveRelations lts basis) where
  dependent_some : (counts : ℕ → ℤ) (f : ℕ) → Each (λ t. HasSome (dependent_term basis counts f t)) (dependent_labels (labels lts) basis)
  dependent_some counts f t has = some_then (quotient ((basis.relation t).coefficient f) (basis.relation t).d) (λ k. mul (whole (counts t)) k)
      (some_quotient _ _ (related t has)) (λ k q. some_product (whole (counts t)) k (whole_over (counts t)) q.positive)

  dependent_over : (counts : ℕ → ℤ) (f : ℕ) → Each (λ t. Makes IsOver (dependent_term basis counts f t)) (dependent_labels (labels lts) basis)
  dependent_over counts f t has = makes_then IsOver (quotient ((basis.relation t).coefficient f) (basis.relation t).d) (λ k. mul (whole (counts t)) k) (λ k q. product_over (whole (counts t)) k)

  coefficient_some : (counts : ℕ → ℤ) (f : ℕ) → HasSome (coefficient_fold (labels lts) basis counts f)
  coefficient_some counts f = some_further IsOver add (dependent_term basis counts f) (whole (counts f))
      (dependent_labels (labels lts) basis) sums_join (whole_over (counts f)) (dependent_some counts f) (dependent_over counts f)

  coefficient_over : (counts : ℕ → ℤ) (f : ℕ) → Makes IsOver (coefficient_fold (labels lts) basis counts f)
  coefficient_over counts f = makes_further IsOver add (dependent_term basis counts f) (whole (counts f))
      (dependent_labels (labels lts) basis) sums_join (whole_over (counts f)) (dependent_over counts f)

  substitute_some : (counts : ℕ → ℤ) → HasSome (substitute_fold (labels lts) basis counts)
  substitute_some counts = some_each (coefficient_fold (labels lts) basis counts) (free_labels (labels lts) basis) (λ f has. coefficient_some counts f)

  substitute_over : (counts : ℕ → ℤ) → Makes (Each IsOver) (substitute_fold (labels lts) basis counts)
  substitute_over counts = makes_each IsOver (coefficient_fold (labels lts) basis counts) (free_labels (labels lts) basis) (λ f has. coefficient_over counts f)

-- ---- without denominators

pub some_scaled : (numbers : List Ratio) → Each IsOver numbers → HasSome (scaled_fold numbers)
some_scaled numbers over =
    some_then (multiple_of_all (map (λ r. r.bottom) numbers))
    (λ m. and_then (each (λ r. mul r (whole m)) numbers) (λ products. gives (record { multiple = m; numbers = map (λ r. r.top) products })))
    (some_multiple (map (λ r. r.bottom) numbers))
    (λ m _. some_then (each (λ r. mul r (whole m)) numbers) (λ products. gives (record { multiple = m; numbers = map (λ r. r.top) products }))
    (some_each (λ r. mul r (whole m)) numbers (λ r has. some_product r (whole m) (over r has) (whole_over m)))
    (λ products _. some_given (record { multiple = m; numbers = map (λ r. r.top) products })))

some_terms : (s : Setting) (terms : List Term) → HaveRelations s.lts s.basis → HasSome (terms_fold s terms)
some_terms s terms related =
    some_then (substitute_fold (labels s.lts) s.basis (count_of s.tree terms))
    (λ free. scaled_fold (columns_of s.lts s.basis s.class (start_of terms) free)) (substitute_some s.lts s.basis related (count_of s.tree terms))
    (λ free made. some_scaled (columns_of s.lts s.basis s.class (start_of terms) free)
    (each_column s.lts s.basis s.class (start_of terms) free (substitute_over s.lts s.basis related (count_of s.tree terms) free made)))

-- ---- divided by a common divisor

pub quotient_is : (d z : ℤ) → unsigned_abs d ∣ unsigned_abs z → z ≡ d *ℤ int_div z d
quotient_is d z divides = turned (int_div z d) (exact z d divides)
  where
    turned : (q : ℤ) → q *ℤ d ≡ z → z ≡ d *ℤ q
    turned q e = sym e ∙ *ℤ_comm q d

pub quotients : (d : ℤ) (xs : List ℤ) → Each (λ z. unsigned_abs d ∣ unsigned_abs z) xs → (ys : List ℤ) × (xs ≡ map (λ z. d *ℤ z) ys)
quotients d [] divides = ([], refl)
quotients d (x ∷ xs) divides =
    let (ys, e) = quotients d xs (λ z has. divides z (behind x z xs has)) in
    (int_div x d ∷ ys, ap₂ (λ y rest. y ∷ rest) (quotient_is d x (divides x (first x xs))) e)

pub divisor_divides : (numbers : List ℤ) (g : ℕ) → IsRowGcd numbers g → Each (λ z. unsigned_abs (pos (max g 1)) ∣ unsigned_abs z) numbers
divisor_divides numbers g is z (k, lt, e) = subst (λ n. max g 1 ∣ unsigned_abs n) (get_or_default numbers k (pos 0) z lt ∙ e) (by g (is.divides k lt))
  where
    by : (g : ℕ) → g ∣ unsigned_abs (number_at numbers k) → max g 1 ∣ unsigned_abs (number_at numbers k)
    by zero h = one-dvd (unsigned_abs (number_at numbers k))
    by (suc g) h = subst (λ n. n ∣ unsigned_abs (number_at numbers k)) (let e : suc g ≡ max (suc g) 1 = omega arith in e) h

some_divided : (name : RowName) (scaled : Scaled) (number : ℤ) → HasSome (divided name scaled number)
some_divided name scaled number =
    let (g, is) = gcd_below (length (scaled.numbers ++ number ∷ [])) (λ k. unsigned_abs (number_at (scaled.numbers ++ number ∷ []) k)) in
    let divides = divisor_divides (scaled.numbers ++ number ∷ []) g is in
    let (coeffs, e) = quotients (pos (max g 1)) scaled.numbers (λ z has. divides z (Contains-append_left scaled.numbers (number ∷ []) z has)) in
    let last = quotient_is (pos (max g 1)) number (divides number (Contains-append_right scaled.numbers (number ∷ []) number (first number []))) in
    let (factor, f) = some_ratio scaled.multiple (pos (max g 1)) (divisor_differs g) in (
      Ok (record {
        name = name;
        row = record { coeffs = coeffs; constant = int_div number (pos (max g 1)) };
        factor = factor;
      }),
      (refl, record { divisor = g; greatest = is; coeffs = e; constant = last; factor = f }),
    )

pub some_row : (s : Setting) (name : RowName) (e : Expression) → HaveRelations s.lts s.basis → HasSome (row_fold s name e)
some_row s name e related =
    some_then (terms_fold s e.terms) (λ scaled. and_then (mul (whole e.constant) (whole scaled.multiple)) (λ constant. divided name scaled constant.top)) (some_terms s e.terms related)
    (λ scaled _. some_then (mul (whole e.constant) (whole scaled.multiple)) (λ constant. divided name scaled constant.top)
    (some_product (whole e.constant) (whole scaled.multiple) (whole_over e.constant) (whole_over scaled.multiple))
    (λ constant _. some_divided name scaled constant.top))

-- ---- the first of equal rows

same_number : (a b : ℤ) → (a ≡ b) ⊎ ¬ (a ≡ b)
same_number (pos a) (pos b) = by (cases_eq a b)
  where
    by : (a ≡ b) ⊎ (a ≢ b) → (pos a ≡ pos b) ⊎ ¬ (pos a ≡ pos b)
    by (inl e) = inl (ap pos e)
    by (inr differ) = inr (λ e. differ (let f : a ≡ b = omega (arith, ints) in f))
same_number (pos a) (negsuc b) = inr (λ e. (omega (arith, ints)))
same_number (negsuc a) (pos b) = inr (λ e. (omega (arith, ints)))
same_number (negsuc a) (negsuc b) = by (cases_eq a b)
  where
    by : (a ≡ b) ⊎ (a ≢ b) → (negsuc a ≡ negsuc b) ⊎ ¬ (negsuc a ≡ negsuc b)
    by (inl e) = inl (ap negsuc e)
    by (inr differ) = inr (λ e. differ (let f : a ≡ b = omega (arith, ints) in f))

pub same_numbers : (xs ys : List ℤ) → (xs ≡ ys) ⊎ ¬ (xs ≡ ys)
same_numbers [] [] = inl refl
same_numbers [] (y ∷ ys) = inr (λ e. absurd cc)
same_numbers (x ∷ xs) [] = inr (λ e. absurd cc)
same_numbers (x ∷ xs) (y ∷ ys) = by (same_number x y) (same_numbers xs ys)
  where
    by : (x ≡ y) ⊎ ¬ (x ≡ y) → (xs ≡ ys) ⊎ ¬ (xs ≡ ys) → (x ∷ xs ≡ y ∷ ys) ⊎ ¬ (x ∷ xs ≡ y ∷ ys)
    by (inl e) (inl f) = inl (ap₂ (λ z rest. z ∷ rest) e f)
    by (inl e) (inr differ) = inr (λ f. differ cc)
    by (inr differ) _ = inr (λ f. differ cc)

same_row : (a b : LinearRow) → (a ≡ b) ⊎ ¬ (a ≡ b)
same_row a b = by (same_numbers a.coeffs b.coeffs) (same_number a.constant b.constant)
  where
    by : (a.coeffs ≡ b.coeffs) ⊎ ¬ (a.coeffs ≡ b.coeffs) → (a.constant ≡ b.constant) ⊎ ¬ (a.constant ≡ b.constant) → (a ≡ b) ⊎ ¬ (a ≡ b)
    by (inl e) (inl f) = inl (λ i. record { coeffs = e i; constant = f i })
    by (inl e) (inr differ) = inr (λ f. differ (ap (λ r. r.constant) f))
    by (inr differ) _ = inr (λ f. differ (ap (λ r. r.coeffs) f))

pub among : {K : Type 0} → ((a b : K) → (a ≡ b) ⊎ ¬ (a ≡ b)) → (seen : List K) (x : K) → Contains seen x ⊎ ¬ Contains seen x
among same [] x = inr (λ (k, lt, e). (omega arith))
among {K} same (y ∷ seen) x = by (same y x) (among same seen x)
  where
    neither : ¬ (y ≡ x) → ¬ Contains seen x → (y ≡ x) ⊎ Contains seen x → ⊥
    neither a b (inl e) = a e
    neither a b (inr h) = b h

    by : (y ≡ x) ⊎ ¬ (y ≡ x) → Contains seen x ⊎ ¬ Contains seen x → Contains (y ∷ seen) x ⊎ ¬ Contains (y ∷ seen) x
    by (inl e) _ = inl (subst (λ z. Contains (y ∷ seen) z) e (first y seen))
    by (inr differ) (inl has) = inl (behind y x seen has)
    by (inr differ) (inr lacks) = inr (λ has. neither differ lacks (Contains-cons_cases y x seen has))

pub all_zero : (numbers : List ℤ) → IsZeroVector numbers ⊎ ¬ IsZeroVector numbers
all_zero [] = inl (All-nil (λ z. z ≡ pos 0))
all_zero (z ∷ numbers) = by (same_number z (pos 0)) (all_zero numbers)
  where
    by : (z ≡ pos 0) ⊎ ¬ (z ≡ pos 0) → IsZeroVector numbers ⊎ ¬ IsZeroVector numbers → IsZeroVector (z ∷ numbers) ⊎ ¬ IsZeroVector (z ∷ numbers)
    by (inl e) (inl all) = inl (All-cons (λ z. z ≡ pos 0) z numbers e all)
    by (inl e) (inr some) = inr (λ all. some (λ k d lt. all (suc k) d (omega arith)))
    by (inr differ) _ = inr (λ all. differ (all 0 z (omega arith)))

idle : (k : KeptRow) → IsIdle k ⊎ ¬ IsIdle k
idle k = by (all_zero k.row.coeffs) k.row.constant refl
  where
    by : IsZeroVector k.row.coeffs ⊎ ¬ IsZeroVector k.row.coeffs → (c : ℤ) → k.row.constant ≡ c → IsIdle k ⊎ ¬ IsIdle k
    by (inl zeros) (pos n) e = inl (zeros, subst (λ c. pos 0 ≤ℤ c) (sym e) (omega (arith, ints)))
    by (inl zeros) (negsuc n) e = inr (λ (_, least). (let least' : pos 0 ≤ℤ negsuc n = subst (λ c. pos 0 ≤ℤ c) e least in omega (arith, ints)))
    by (inr some) c e = inr (λ (zeros, _). some zeros)

pub some_firsts : {X K : Type 0} (key : X → K) (Drops : X → Type 0) → ((x : X) → Drops x ⊎ ¬ Drops x) → ((a b : K) → (a ≡ b) ⊎ ¬ (a ≡ b))
    → (seen : List K) (xs : List X) → (kept : List X) × KeepsEqualRows key Drops seen xs kept
some_firsts key Drops drops same seen [] = ([], refl)
some_firsts {X} {K} key Drops drops same seen (x ∷ xs) = by (drops x) (among same seen (key x)) (some_firsts key Drops drops same seen xs) (some_firsts key Drops drops same (key x ∷ seen) xs)
  where
    by : Drops x ⊎ ¬ Drops x → Contains seen (key x) ⊎ ¬ Contains seen (key x) → (kept : List X) × KeepsEqualRows key Drops seen xs kept
        → (kept : List X) × KeepsEqualRows key Drops (key x ∷ seen) xs kept
        → (kept : List X) × KeepsEqualRows key Drops seen (x ∷ xs) kept
    by (inl dropped) _ (kept, keeps) _ = (kept, inl (inl dropped, keeps))
    by (inr stays) (inl has) (kept, keeps) _ = (kept, inl (inr has, keeps))
    by (inr stays) (inr lacks) _ (kept, keeps) = (x ∷ kept, inr (stays, lacks, (kept, refl, keeps)))

-- ---- the system

some_form : (s : Setting) (form : SplitForm) → HaveRelations s.lts s.basis → HasSome (form_fold s form)
some_form s form related =
    some_then (terms_fold s (plus (form_variable s.lts.initial form) ∷ []))
    (λ scaled. gives (record { scale = pos (step_of s.class form) *ℤ scaled.multiple; coeffs = scaled.numbers; low = form_low form; high = form_high s.lts s.class form }))
    (some_terms s (plus (form_variable s.lts.initial form) ∷ []) related)
    (λ scaled _. some_given (record { scale = pos (step_of s.class form) *ℤ scaled.multiple; coeffs = scaled.numbers; low = form_low form; high = form_high s.lts s.class form }))

pub some_system : (s : CaseSetting) → HaveRelations s.lts s.basis → HasSome (system_fold s)
some_system s related =
    some_then (each (λ name. row_fold s.setting name (row_expression s.lts s.class s.problem s.number [] name))
    (names_of s.lts s.class s.problem s.number))
    (λ all. and_then (each (form_fold s.setting) (split_forms s.lts s.class s.problem)) (λ forms. kept_of s.setting all forms))
    (some_each (λ name. row_fold s.setting name (row_expression s.lts s.class s.problem s.number [] name))
    (names_of s.lts s.class s.problem s.number) (λ name has. some_row s.setting name (row_expression s.lts s.class s.problem s.number [] name) related))
    (λ all _. some_then (each (form_fold s.setting) (split_forms s.lts s.class s.problem)) (λ forms. kept_of s.setting all forms)
    (some_each (form_fold s.setting) (split_forms s.lts s.class s.problem) (λ form has. some_form s.setting form related))
    (λ forms _. kept all forms))
  where
    kept : (all : List KeptRow) (forms : List Form) → HasSome (kept_of s.setting all forms)
    kept all forms = let (rows, keeps) = some_firsts (λ (k : KeptRow). k.row) IsIdle idle same_row [] all in
        (Ok (record { columns = column_count s.lts s.basis s.class; kept = rows; forms = forms }), (refl, keeps, refl))
