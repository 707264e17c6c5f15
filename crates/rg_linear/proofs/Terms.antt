-- The terms of an exchange: whether they fit, and the first that doesn't.
use Rattle.std.proofs.Common.{◌≡◌, ◌≢◌, ◌⊎◌, ⊎_elim, ℕ, zero, suc, ◌<◌, ◌≤◌, List, [], ◌∷◌, Contains, Some, slice_get, ap, refl, subst, sym, ◌∙◌, inl, inr, arith}
use Rattle.std.specs.Prelude.{pos}
use Rattle.std.proofs.lemmas.Bool.{cases_lt}
use Rattle.std.proofs.lemmas.Option.{same_Some, none-some}
use Rattle.rg_linear.specs.System.{LinearSystem, variables}
use Rattle.rg_linear.specs.Dictionary.{Relation, DictionaryRow, HasDictionary}
use Rattle.rg_integers.specs.declared.term.Wide.{Wide}
use Rattle.rg_integers.specs.Term.{FitsTerm}
use Rattle.rg_linear.specs.Exchange.{terms, IsTerm, AllFit, IsBefore, FirstWide}
use Rattle.rg_integers.proofs.Order.{is_zero_or_not}
use Rattle.rg_integers.proofs.Ranges.{fits_or_not}
use Rattle.rg_linear.proofs.Members.{is_member, equal_or_not}
use Rattle.rg_linear.proofs.Unique.{same_relation}

-- the first term of a list that doesn't fit
pub record FirstIn (ts : List Wide) : Type 0 where
  pub n : ℕ
  pub t : Wide
  pub here : slice_get ts n ≡ Some t
  pub passes : ¬ FitsTerm t
  pub before : (n' : ℕ) (t' : Wide) → n' < n → slice_get ts n' ≡ Some t' → FitsTerm t'

first_in : (ts : List Wide) → ((n : ℕ) (t : Wide) → slice_get ts n ≡ Some t → FitsTerm t) ⊎ FirstIn ts
first_in [] = inl (λ n t e. absurd (none-some t e))
first_in (x ∷ ts) = go (fits_or_not x.a x.b x.c x.d) (first_in ts)
  where
    later : FitsTerm x → ((n : ℕ) (t : Wide) → slice_get ts n ≡ Some t → FitsTerm t) → (n : ℕ) (t : Wide) → slice_get (x ∷ ts) n ≡ Some t → FitsTerm t
    later f all zero t e = subst FitsTerm (same_Some x t e) f
    later f all (suc n) t e = all n t e

    shifted : FitsTerm x → (r : FirstIn ts) → (n' : ℕ) (t' : Wide) → n' < suc r.n → slice_get (x ∷ ts) n' ≡ Some t' → FitsTerm t'
    shifted f r zero t' lt e = subst FitsTerm (same_Some x t' e) f
    shifted f r (suc n') t' lt e = r.before n' t' (omega arith) e

    go : FitsTerm x ⊎ ¬ FitsTerm x → ((n : ℕ) (t : Wide) → slice_get ts n ≡ Some t → FitsTerm t) ⊎ FirstIn ts → ((n : ℕ) (t : Wide) → slice_get (x ∷ ts) n ≡ Some t → FitsTerm t) ⊎ FirstIn (x ∷ ts)
    go (inr bad) rest = inr (record { n = 0; t = x; here = refl; passes = bad; before = λ n' t' lt e. absurd (omega arith) })
    go (inl f) (inl all) = inl (later f all)
    go (inl f) (inr r) = inr (record { n = suc r.n; t = r.t; here = r.here; passes = r.passes; before = shifted f r })

-- a term that has these relations is in the list of these relations
term_in : (system : LinearSystem) (members : List ℕ) (i j w n : ℕ) (t : Wide) (k l : Relation) → DictionaryRow system members i k
    → DictionaryRow system members w l → IsTerm system members i j w n t → slice_get (terms members k j l) n ≡ Some t
term_in system members i j w n t k l row target is =
    subst (λ x. slice_get (terms members x j l) n ≡ Some t) (same_relation system members i is.k k is.pivot row)
    (subst (λ x. slice_get (terms members is.k j x) n ≡ Some t) (same_relation system members w is.l l is.target target) is.here)

-- all terms of one variable fit, or there is a first that doesn't
pub record FirstAt (system : LinearSystem) (members : List ℕ) (i j w : ℕ) : Type 0 where
  pub n : ℕ
  pub t : Wide
  pub term : IsTerm system members i j w n t
  pub passes : ¬ FitsTerm t
  pub before : (n' : ℕ) (t' : Wide) → n' < n → IsTerm system members i j w n' t' → FitsTerm t'

search_at : (system : LinearSystem) (members : List ℕ) (i j w : ℕ) (k : Relation) → HasDictionary system members → DictionaryRow system members i k
    → ((n : ℕ) (t : Wide) → IsTerm system members i j w n t → FitsTerm t) ⊎ FirstAt system members i j w
search_at system members i j w k has row = go (cases_lt w (variables system)) (is_member members w) (equal_or_not w i)
  where
    listed : (l : Relation) → DictionaryRow system members w l → l.coefficient j ≢ pos 0 → w ≢ i
        → ((n : ℕ) (t : Wide) → slice_get (terms members k j l) n ≡ Some t → FitsTerm t) ⊎ FirstIn (terms members k j l)
        → ((n : ℕ) (t : Wide) → IsTerm system members i j w n t → FitsTerm t) ⊎ FirstAt system members i j w
    listed l target named other (inl all) = inl (λ n t is. all n t (term_in system members i j w n t k l row target is))
    listed l target named other (inr r) = inr (record {
      n = r.n;
      t = r.t;
      term = record { k = k; l = l; pivot = row; target = target; other = other; named = named; here = r.here };
      passes = r.passes;
      before = λ n' t' lt is. r.before n' t' lt (term_in system members i j w n' t' k l row target is);
    })

    at : (l : Relation) → DictionaryRow system members w l → w ≢ i → (l.coefficient j ≡ pos 0) ⊎ (l.coefficient j ≢ pos 0)
        → ((n : ℕ) (t : Wide) → IsTerm system members i j w n t → FitsTerm t) ⊎ FirstAt system members i j w
    at l target other (inl e) = inl (λ n t is. absurd (is.named (subst (λ x. x.coefficient j ≡ pos 0) (same_relation system members w l is.l target is.target) e)))
    at l target other (inr ne) = listed l target ne other (first_in (terms members k j l))

    go : (w < variables system) ⊎ (variables system ≤ w) → Contains members w ⊎ ¬ Contains members w → (w ≡ i) ⊎ (w ≢ i)
        → ((n : ℕ) (t : Wide) → IsTerm system members i j w n t → FitsTerm t) ⊎ FirstAt system members i j w
    go (inr past) _ _ = inl (λ n t is. (let lt = is.target.variable in absurd (omega arith)))
    go (inl lt) (inl member) _ = inl (λ n t is. absurd (is.target.outside member))
    go (inl lt) (inr absent) (inl e) = inl (λ n t is. absurd (is.other e))
    go (inl lt) (inr absent) (inr ne) = let (l, target) = has.rows w lt absent in at l target ne (is_zero_or_not (l.coefficient j))

pub record HasWide (system : LinearSystem) (members : List ℕ) (i j : ℕ) : Type 0 where
  pub w : ℕ
  pub n : ℕ
  pub t : Wide
  pub first : FirstWide system members i j w n t

search_below : (system : LinearSystem) (members : List ℕ) (i j : ℕ) (k : Relation) → HasDictionary system members → DictionaryRow system members i k
    → (b : ℕ) → ((w n : ℕ) (t : Wide) → w < b → IsTerm system members i j w n t → FitsTerm t) ⊎ HasWide system members i j
search_below system members i j k has row zero = inl (λ w n t lt is. absurd (omega arith))
search_below system members i j k has row (suc b) = go (search_below system members i j k has row b) (search_at system members i j b k has row)
  where
    before : ((w n : ℕ) (t : Wide) → w < b → IsTerm system members i j w n t → FitsTerm t) → (r : FirstAt system members i j b)
        → (w' n' : ℕ) (t' : Wide) → IsBefore w' n' b r.n → IsTerm system members i j w' n' t' → FitsTerm t'
    before all r w' n' t' (inl lt) is = all w' n' t' lt is
    before all r w' n' t' (inr (e, lt)) is = r.before n' t' lt (subst (λ x. IsTerm system members i j x n' t') e is)

    go : ((w n : ℕ) (t : Wide) → w < b → IsTerm system members i j w n t → FitsTerm t) ⊎ HasWide system members i j
        → ((n : ℕ) (t : Wide) → IsTerm system members i j b n t → FitsTerm t) ⊎ FirstAt system members i j b
        → ((w n : ℕ) (t : Wide) → w < suc b → IsTerm system members i j w n t → FitsTerm t) ⊎ HasWide system members i j
    go (inr wide) _ = inr wide
    go (inl all) (inr r) = inr (record { w = b; n = r.n; t = r.t; first = record { term = r.term; passes = r.passes; first = before all r } })
    go (inl all) (inl here) = inl (λ w n t lt is. ⊎_elim (λ e. here n t (subst (λ x. IsTerm system members i j x n t) e is)) (λ ne. all w n t (omega arith) is) (equal_or_not w b))

-- all terms of an exchange fit, or there is a first that doesn't
pub fit_or_wide : (system : LinearSystem) (members : List ℕ) (i j : ℕ) (k : Relation) → HasDictionary system members
    → DictionaryRow system members i k → AllFit system members i j ⊎ HasWide system members i j
fit_or_wide system members i j k has row = ⊎_elim (λ all. inl (λ w n t is. all w n t is.target.variable is)) (λ wide. inr wide) (search_below system members i j k has row (variables system))

-- ---- the first is one

compare : (w n w' n' : ℕ) → IsBefore w n w' n' ⊎ (IsBefore w' n' w n ⊎ ((w ≡ w') × (n ≡ n')))
compare w n w' n' = go (cases_lt w w') (cases_lt w' w) (cases_lt n n') (cases_lt n' n)
  where
    go : (w < w') ⊎ (w' ≤ w) → (w' < w) ⊎ (w ≤ w') → (n < n') ⊎ (n' ≤ n) → (n' < n) ⊎ (n ≤ n') → IsBefore w n w' n' ⊎ (IsBefore w' n' w n ⊎ ((w ≡ w') × (n ≡ n')))
    go (inl lt) _ _ _ = inl (inl lt)
    go (inr ge) (inl lt) _ _ = inr (inl (inl lt))
    go (inr ge) (inr le) (inl lt) _ = inl (inr (omega arith, lt))
    go (inr ge) (inr le) (inr ge') (inl lt) = inr (inl (inr (omega arith, lt)))
    go (inr ge) (inr le) (inr ge') (inr le') = inr (inr (omega arith, omega arith))

-- where it stands, and its numbers
pub same_wide : (system : LinearSystem) (members : List ℕ) (i j w n w' n' : ℕ) (t t' : Wide) → FirstWide system members i j w n t
    → FirstWide system members i j w' n' t' → (w ≡ w') × (n ≡ n') × (t ≡ t')
same_wide system members i j w n w' n' t t' a b = go (compare w n w' n')
  where
    go : IsBefore w n w' n' ⊎ (IsBefore w' n' w n ⊎ ((w ≡ w') × (n ≡ n'))) → (w ≡ w') × (n ≡ n') × (t ≡ t')
    go (inl before) = absurd (a.passes (b.first w n t before a.term))
    go (inr (inl before)) = absurd (b.passes (a.first w' n' t' before b.term))
    go (inr (inr (ew, en))) = (
      ew,
      en,
      same_Some t t' (sym a.term.here ∙ ap (λ x. slice_get (terms members a.term.k j a.term.l) x) en
          ∙ term_in system members i j w n' t' a.term.k a.term.l a.term.pivot a.term.target (subst (λ x. IsTerm system members i j x n' t') (sym ew) b.term)),
    )
