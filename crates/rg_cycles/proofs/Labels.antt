-- Lists of labels in order: the free labels among the members of a set.
use Rattle.std.proofs.lemmas.Bool.{false≢true, cases_lt}
use Rattle.std.proofs.Common.{◌≡◌, ◌⊎◌, ⊎_elim, ℕ, zero, suc, ◌+◌, ◌<◌, ◌≤◌, Bool, true, false, cond, nat_lt, ◌==◌, if◌then◌else◌, List, [], ◌∷◌, filter, Contains, ap, refl, subst, sym, ◌∙◌, inl, inr, arith, eqb-true, eq-eqb}
use Rattle.rg_linear.proofs.Members.{Contains-here, Contains-there, Contains-cons_cases, Contains-nil, IsInOrder}
use Rattle.rg_linear.proofs.Columns.{below_test, past_test}
use Rattle.rg_folds.specs.Substitution.{is_in, numbers_where}
use Rattle.rg_linear.proofs.Counting.{same_members as same_list}

-- ---- the test of membership

pub in_set : (xs : List ℕ) (m : ℕ) → Contains xs m → is_in xs m ≡ true
in_set [] m has = absurd (Contains-nil m has)
in_set (x ∷ xs) m has = go (x == m) refl (Contains-cons_cases x m xs has) (λ there. in_set xs m there)
  where
    go : (b : Bool) → (x == m) ≡ b → (x ≡ m) ⊎ Contains xs m → (Contains xs m → is_in xs m ≡ true) → (if b then true else is_in xs m) ≡ true
    go true e h next = refl
    go false e (inl is) next = absurd (false≢true (sym e ∙ (eq-eqb x m is)))
    go false e (inr there) next = next there

pub has_member : (xs : List ℕ) (m : ℕ) → is_in xs m ≡ true → Contains xs m
has_member [] m e = absurd (false≢true e)
has_member (x ∷ xs) m e = go (x == m) refl e (λ rest. has_member xs m rest)
  where
    go : (b : Bool) → (x == m) ≡ b → (if b then true else is_in xs m) ≡ true → (is_in xs m ≡ true → Contains xs m) → Contains (x ∷ xs) m
    go true is h next = subst (Contains (x ∷ xs)) (eqb-true x m is) (Contains-here x xs)
    go false is h next = Contains-there x m xs (next h)

pub not_in_set : (xs : List ℕ) (m : ℕ) → ¬ Contains xs m → is_in xs m ≡ false
not_in_set xs m lacks = go (is_in xs m) refl
  where
    go : (b : Bool) → is_in xs m ≡ b → b ≡ false
    go true e = absurd (lacks (has_member xs m e))
    go false e = refl

pub lacks_member : (xs : List ℕ) (m : ℕ) → is_in xs m ≡ false → ¬ Contains xs m
lacks_member xs m e has = false≢true (sym e ∙ (in_set xs m has))

-- ---- lists by a test

pub filter_has : (p : ℕ → Bool) (xs : List ℕ) (m : ℕ) → Contains xs m → p m ≡ true → Contains (filter p xs) m
filter_has p [] m has e = absurd (Contains-nil m has)
filter_has p (x ∷ xs) m has e = go (p x) refl (Contains-cons_cases x m xs has) (λ there. filter_has p xs m there e)
  where
    go : (b : Bool) → p x ≡ b → (x ≡ m) ⊎ Contains xs m → (Contains xs m → Contains (filter p xs) m) → Contains (cond b (x ∷ filter p xs) (filter p xs)) m
    go true is (inl same) next = subst (Contains (x ∷ filter p xs)) same (Contains-here x (filter p xs))
    go true is (inr there) next = Contains-there x m (filter p xs) (next there)
    go false is (inl same) next = absurd (false≢true (sym is ∙ (ap p same ∙ e)))
    go false is (inr there) next = next there

pub filter_from : (p : ℕ → Bool) (xs : List ℕ) (m : ℕ) → Contains (filter p xs) m → Contains xs m × (p m ≡ true)
filter_from p [] m has = absurd (Contains-nil m has)
filter_from p (x ∷ xs) m has = go (p x) refl has (λ h. filter_from p xs m h)
  where
    later : Contains xs m × (p m ≡ true) → Contains (x ∷ xs) m × (p m ≡ true)
    later (h, e) = (Contains-there x m xs h, e)

    go : (b : Bool) → p x ≡ b → Contains (cond b (x ∷ filter p xs) (filter p xs)) m → (Contains (filter p xs) m → Contains xs m × (p m ≡ true)) → Contains (x ∷ xs) m × (p m ≡ true)
    go true is h next = ⊎_elim (λ same. (subst (Contains (x ∷ xs)) same (Contains-here x xs), ap p (sym same) ∙ is)) (λ there. later (next there)) (Contains-cons_cases x m (filter p xs) h)
    go false is h next = later (next h)

pub filter_order : (p : ℕ → Bool) (xs : List ℕ) → IsInOrder xs → IsInOrder (filter p xs)
filter_order p [] h = tt
filter_order p (x ∷ xs) h = go (p x) (filter_order p xs h.1)
  where
    go : (b : Bool) → IsInOrder (filter p xs) → IsInOrder (cond b (x ∷ filter p xs) (filter p xs))
    go true rest = ((λ m has. h.0 m (filter_from p xs m has).0), rest)
    go false rest = rest

pub where_has : (test : ℕ → Bool) (a n t : ℕ) → a ≤ t → t < a + n → test t ≡ true → Contains (numbers_where test a n) t
where_has test a zero t le lt e = absurd (omega arith)
where_has test a (suc n) t le lt e = go (test a) refl (λ more. where_has test (suc a) n t more (omega arith) e)
  where
    at : (a ≡ t) ⊎ (suc a ≤ t)
    at = ⊎_elim (λ less. inr less) (λ most. inl (omega arith)) (cases_lt a t)

    go : (b : Bool) → test a ≡ b → (suc a ≤ t → Contains (numbers_where test (suc a) n) t) → Contains (if b then (a ∷ numbers_where test (suc a) n) else numbers_where test (suc a) n) t
    go true is next = ⊎_elim (λ same. subst (Contains (a ∷ numbers_where test (suc a) n)) same (Contains-here a (numbers_where test (suc a) n)))
        (λ more. Contains-there a t (numbers_where test (suc a) n) (next more)) at
    go false is next = ⊎_elim (λ same. absurd (false≢true (sym is ∙ (ap test same ∙ e)))) next at

-- what a number in the list is
pub record FromWhere (test : ℕ → Bool) (a n t : ℕ) : Type 0 where
  pub least : a ≤ t
  pub below : t < a + n
  pub passes : test t ≡ true

pub where_from : (test : ℕ → Bool) (a n t : ℕ) → Contains (numbers_where test a n) t → FromWhere test a n t
where_from test a zero t has = absurd (Contains-nil t has)
where_from test a (suc n) t has = go (test a) refl has (λ h. where_from test (suc a) n t h)
  where
    later : FromWhere test (suc a) n t → FromWhere test a (suc n) t
    later h = let l = h.least in let b = h.below in record { least = omega arith; below = omega arith; passes = h.passes }

    go : (b : Bool) → test a ≡ b → Contains (if b then (a ∷ numbers_where test (suc a) n) else numbers_where test (suc a) n) t
        → (Contains (numbers_where test (suc a) n) t → FromWhere test (suc a) n t) → FromWhere test a (suc n) t
    go true is h next = ⊎_elim (λ same. record { least = omega arith; below = omega arith; passes = ap test (sym same) ∙ is })
        (λ there. later (next there)) (Contains-cons_cases a t (numbers_where test (suc a) n) h)
    go false is h next = later (next h)

pub where_order : (test : ℕ → Bool) (a n : ℕ) → IsInOrder (numbers_where test a n)
where_order test a zero = tt
where_order test a (suc n) = go (test a) (where_order test (suc a) n)
  where
    go : (b : Bool) → IsInOrder (numbers_where test (suc a) n) → IsInOrder (if b then (a ∷ numbers_where test (suc a) n) else numbers_where test (suc a) n)
    go true rest = ((λ m has. (where_from test (suc a) n m has).least), rest)
    go false rest = rest

-- ---- two lists in order with the same elements are equal

pub below_from : (m n : ℕ) → nat_lt m n ≡ true → m < n
below_from m n e = ⊎_elim (λ lt. lt) (λ le. absurd (false≢true (sym (past_test m n le) ∙ e))) (cases_lt m n)

-- the members below the number of labels are the free labels
pub free_members : (members : List ℕ) (labels : ℕ) → IsInOrder members → filter (λ m. nat_lt m labels) members ≡ numbers_where (λ t. is_in members t) 0 labels
free_members members labels h = same_list (filter (λ m. nat_lt m labels) members) (numbers_where (λ t. is_in members t) 0 labels)
    (filter_order (λ m. nat_lt m labels) members h) (where_order (λ t. is_in members t) 0 labels)
    (λ m has. (let f = filter_from (λ n. nat_lt n labels) members m has in
    where_has (λ t. is_in members t) 0 labels m (omega arith) (let lt = below_from m labels f.1 in omega arith) (in_set members m f.0)))
    (λ m has. (let w = where_from (λ t. is_in members t) 0 labels m has in
    filter_has (λ n. nat_lt n labels) members m (has_member members m w.passes) (below_test m labels (let lt = w.below in omega arith))))
