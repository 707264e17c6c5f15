-- The table of sums: what stays when an entry changes, and when a variable is listed or taken off.
use Rattle.std.proofs.Common.{◌≡◌, ◌⊎◌, ℕ, ◌≤◌, Bool, true, false, if◌then◌else◌, List, [], ◌∷◌, ◌++◌, Option, Some, None, length, slice_get, get_or, All, IfSome, Contains, inl, inr, refl, sym, subst, ap, ◌∙◌, arith, pos}
use Rattle.std.proofs.lemmas.Int.{ints}
use Rattle.std.proofs.lemmas.List.Elements.{All-nil, All-push, All-contains, Contains-push, Contains-append_left, Contains-push_cases, Contains-get_or}
use Rattle.rg_theory.specs.System.{System, states, labels}
use Rattle.rg_cert_meaning.specs.Expression.{same_variable}
use Rattle.rg_integers.specs.Range.{greatest}
use Rattle.rg_verify.specs.declared.sums.Sum.{Sum}
use Rattle.rg_verify.specs.declared.sums.Sums.{Sums}
use Rattle.rg_verify.specs.Sums.{signed_of, size_of, entry_of, size_at, HasEntry, IsTidy, HasSameVariables, HasSameEntries, IsClear}
use Rattle.rg_verify.proofs.Places.{some_item}
use Rattle.rg_cert_meaning.proofs.Sums.{same_variable_is, same_variable_refl}
use Rattle.rg_cert_meaning.specs.declared.Variable.{Variable}
use Rattle.rg_cert_meaning.specs.declared.Variable.TheVariants.{Tokens, Effect}

-- ---- entries

pub signed_zero : (o : Option Sum) → size_of o ≡ 0 → signed_of o ≡ pos 0
signed_zero None e = refl
signed_zero (Some s) e = let w = s.within in omega (arith, ints)

pub size_small : (o : Option Sum) → size_of o ≤ greatest
size_small None = omega arith
size_small (Some s) = let w = s.small in omega arith

-- ---- variables of the table

pub has_entry : (old new : Sums) (v : Variable) → HasSameVariables old new → HasEntry old v → HasEntry new v
has_entry old new (Tokens q) same has = let e = same.tokens in omega arith
has_entry old new (Effect t) same has = let e = same.effects in omega arith

pub has_entries : (old new : Sums) (vs : List Variable) → HasSameVariables old new → All (HasEntry old) vs → All (HasEntry new) vs
has_entries old new vs same each = λ k d lt. has_entry old new (get_or vs k d) same (each k d lt)

pub same_lengths : (old new : Sums) → HasSameEntries old new → HasSameVariables old new
same_lengths old new same = record { tokens = ap length same.tokens; effects = ap length same.effects }

pub same_entry : (old new : Sums) (v : Variable) → HasSameEntries old new → entry_of new v ≡ entry_of old v
same_entry old new (Tokens q) same = ap (λ xs. slice_get xs q) same.tokens
same_entry old new (Effect t) same = ap (λ xs. slice_get xs t) same.effects

-- ---- what keeps a table tidy

-- the same entries and the same list
pub tidy_same : (old new : Sums) → IsTidy old → HasSameEntries old new → new.touched.items ≡ old.touched.items → IsTidy new
tidy_same old new tidy same listed = record {
  listed = subst (λ (vs : List Variable). All (HasEntry new) vs) (sym listed) (has_entries old new _ (same_lengths old new same) tidy.listed);
  others = λ v. subst (λ (vs : List Variable). Contains vs v ⊎ (size_at new v ≡ 0)) (sym listed) (by v (tidy.others v));
}
  where
    by : (v : Variable) → Contains old.touched.items v ⊎ (size_at old v ≡ 0) → Contains old.touched.items v ⊎ (size_at new v ≡ 0)
    by v (inl has) = inl has
    by v (inr zero) = inr (ap size_of (same_entry old new v same) ∙ zero)

-- one variable more in the list
pub tidy_pushed : (old new : Sums) (v : Variable) → IsTidy old → HasSameEntries old new → HasEntry old v → new.touched.items ≡ old.touched.items ++ v ∷ [] → IsTidy new
tidy_pushed old new v tidy same has listed =
    let names : new.touched.items ≡ old.touched.items ++ v ∷ [] = listed in
    let lengths = same_lengths old new same in
    record {
      listed = subst (All (HasEntry new)) (sym names) (All-push (HasEntry new) _ v (has_entries old new _ lengths tidy.listed) (has_entry old new v lengths has));
      others = λ w. subst (λ vs. Contains vs w ⊎ (size_at new w ≡ 0)) (sym names) (by w (tidy.others w));
    }
  where
    by : (w : Variable) → Contains old.touched.items w ⊎ (size_at old w ≡ 0) → Contains (old.touched.items ++ v ∷ []) w ⊎ (size_at new w ≡ 0)
    by w (inl there) = inl (Contains-append_left _ _ w there)
    by w (inr zero) = inr (ap size_of (same_entry old new w same) ∙ zero)

pub pushed_listed : (old new : List Variable) (v : Variable) → new ≡ old ++ v ∷ [] → Contains new v
pushed_listed old new v is = subst (λ vs. Contains vs v) (sym is) (Contains-push _ v)

pub popped_entry : (sums : Sums) (before : List Variable) (v : Variable) → IsTidy sums → sums.touched.items ≡ before ++ v ∷ [] → HasEntry sums v
popped_entry sums before v tidy is = All-contains (HasEntry sums) _ _ tidy.listed (pushed_listed before sums.touched.items v is)

-- another entry for a listed variable
pub tidy_set : (old new : Sums) (v : Variable) (sum : Sum) → IsTidy old → HasSameVariables old new → ((w : Variable) → entry_of new w ≡ (if same_variable v w then Some sum else entry_of old w))
    → new.touched.items ≡ old.touched.items → Contains old.touched.items v → IsTidy new
tidy_set old new v sum tidy same entries listed has = record {
  listed = subst (λ (vs : List Variable). All (HasEntry new) vs) (sym listed) (has_entries old new _ same tidy.listed);
  others = λ w. subst (λ (vs : List Variable). Contains vs w ⊎ (size_at new w ≡ 0)) (sym listed) (by w (same_variable v w) refl (tidy.others w));
}
  where
    by : (w : Variable) (b : Bool) → same_variable v w ≡ b → Contains old.touched.items w ⊎ (size_at old w ≡ 0) → Contains old.touched.items w ⊎ (size_at new w ≡ 0)
    by w true e there = inl (subst (Contains old.touched.items) (same_variable_is v w e) has)
    by w false e (inl there) = inl there
    by w false e (inr zero) = inr (ap size_of (entries w ∙ ap (λ b. if b then Some sum else entry_of old w) e) ∙ zero)

-- the last listed variable taken off, with the sum 0
pub tidy_popped : (old mid new : Sums) (v : Variable) (sum : Sum) → IsTidy old → HasSameEntries old mid → HasSameVariables mid new → old.touched.items ≡ mid.touched.items ++ v ∷ []
    → ((w : Variable) → entry_of new w ≡ (if same_variable v w then Some sum else entry_of mid w)) → sum.size ≡ 0 → new.touched.items ≡ mid.touched.items → IsTidy new
tidy_popped old mid new v sum tidy first second popped entries none listed =
    let names : old.touched.items ≡ mid.touched.items ++ v ∷ [] = popped in
    let within = subst (All (HasEntry old)) names tidy.listed in
    record {
      listed = subst (λ (vs : List Variable). All (HasEntry new) vs) (sym listed)
          (λ k d lt. has_entry mid new _ second (has_entry old mid _ (same_lengths old mid first)
          (All-contains (HasEntry old) _ _ within (Contains-append_left _ _ _ (Contains-get_or _ k d lt)))));
      others = λ w. subst (λ (vs : List Variable). Contains vs w ⊎ (size_at new w ≡ 0)) (sym listed)
          (by w (same_variable v w) refl (subst (λ vs. Contains vs w ⊎ (size_at old w ≡ 0)) names (tidy.others w)));
    }
  where
    at : (w : Variable) (b : Bool) → same_variable v w ≡ b → entry_of new w ≡ (if b then Some sum else entry_of mid w)
    at w b e = entries w ∙ ap (λ b. if b then Some sum else entry_of mid w) e

    by : (w : Variable) (b : Bool) → same_variable v w ≡ b → Contains (mid.touched.items ++ v ∷ []) w ⊎ (size_at old w ≡ 0) → Contains mid.touched.items w ⊎ (size_at new w ≡ 0)
    by w true e there = inr (ap size_of (at w true e) ∙ none)
    by w false e (inr zero) = inr (ap size_of (at w false e ∙ same_entry old mid w first) ∙ zero)
    by w false e (inl there) = here (Contains-push_cases _ v w there)
      where
        here : Contains mid.touched.items w ⊎ (v ≡ w) → Contains mid.touched.items w ⊎ (size_at new w ≡ 0)
        here (inl has) = inl has
        here (inr is) = let same = same_variable_refl w in let other = subst (λ u. same_variable u w ≡ false) is e in absurd cc

-- with nothing listed every sum is 0
pub zero_where_none : (sums : Sums) → IsTidy sums → sums.touched.items ≡ [] → (v : Variable) → size_at sums v ≡ 0
zero_where_none sums tidy none v = by (subst (λ (vs : List Variable). Contains vs v ⊎ (size_at sums v ≡ 0)) none (tidy.others v))
  where
    by : Contains [] v ⊎ (size_at sums v ≡ 0) → size_at sums v ≡ 0
    by (inl (k, lt, at)) = absurd (omega arith)
    by (inr zero) = zero

-- ---- a table with every sum 0

size_none : (xs : List Sum) (i : ℕ) → All (λ s. s.size ≡ 0) xs → size_of (slice_get xs i) ≡ 0
size_none xs i each = by (slice_get xs i) (some_item (λ (s : Sum). s.size ≡ 0) xs i each)
  where
    by : (o : Option Sum) → IfSome o (λ s. s.size ≡ 0) → size_of o ≡ 0
    by None h = refl
    by (Some s) h = h

pub clear_table : (lts : System) (sums : Sums) → length sums.tokens.items ≡ states lts → length sums.effects.items ≡ labels lts
    → All (λ s. s.size ≡ 0) sums.tokens.items → All (λ s. s.size ≡ 0) sums.effects.items
    → sums.touched.items ≡ [] → sums.constant.size ≡ 0 → IsClear lts sums
clear_table lts sums tokens effects no_tokens no_effects none constant = record {
  table = record { tokens = tokens; effects = effects; tidy = record { listed = subst (λ (vs : List Variable). All (HasEntry sums) vs) (sym none) (All-nil _); others = λ v. inr (sizes v) } };
  zero = record { sizes = sizes; constant = constant };
}
  where
    sizes : (v : Variable) → size_at sums v ≡ 0
    sizes (Tokens q) = size_none sums.tokens.items q no_tokens
    sizes (Effect t) = size_none sums.effects.items t no_effects
