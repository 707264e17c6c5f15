-- A net is of a class as far as markings show, or has a first break.
use Rattle.std.proofs.Common.{◌≡◌, ◌⊎◌, inl, inr, ℕ, zero, suc, ◌+◌, ◌*◌, ◌<◌, ◌≤◌}
use Rattle.std.proofs.Common.{IsTrue, List, length, Option, None, Some, IfSome, slice_get, refl, sym, subst, ◌∙◌, arith}
use Rattle.std.specs.Option.{IsSomeAnd}
use Rattle.std.proofs.lemmas.Bool.{cases_lt, cases_eq, cases_order}
use Rattle.std.proofs.lemmas.Option.{same_Some, none-some, slice_get_within}
use Rattle.rg_theory.specs.Net.{Place, Net, Marking, pre_weight, post_weight, tokens, IsPlaceAt}
use Rattle.rg_theory.specs.declared.Class.{Class}
use Rattle.rg_theory.specs.Class.{IsMultiple, AllowsStart, IsPlaceInClass}
use Rattle.rg_theory.proofs.Lists.{slice_get_some}
use Rattle.rg_theory.proofs.Deciding.{Decided, PairBefore, find_number, find_pair, less_or_not, true_or_not}
use Rattle.rg_net.specs.declared.class_break.ClassBreak.{ClassBreak}
use Rattle.rg_net.specs.declared.class_break.ClassBreak.TheVariants.{NotPure, NotPlain, Over, Branching, NotMultiple}
use Rattle.rg_net.specs.ClassBreaks.{AreInClass, IsBreak, IsFirstBreak, IsBreakBefore, place_of, kind_of, first_of, second_of}
use Rattle.rg_net.proofs.Breaking.{InClassBefore, first_break, in_class_more, in_class_all}

-- ---- numbers

at_most : (m n : ℕ) → ¬ (m < n) → n ≤ m
at_most m n none = by (cases_lt m n)
  where
    by : (m < n) ⊎ (n ≤ m) → n ≤ m
    by (inl less) = absurd (none less)
    by (inr more) = more

-- a number that so many times make is made by few times
few_times : (n m times : ℕ) → m ≡ times * n → (k : ℕ) × (k < suc m) × (m ≡ k * n)
few_times zero m times e = (0, omega arith, (let none : m ≡ 0 = omega arith in omega arith))
few_times (suc n) m times e = (times, omega arith, e)

multiple_or_not : (n m : ℕ) → Decided (IsMultiple n m)
multiple_or_not n m = by (find_number (λ k. m ≡ k * n) (λ k. cases_eq m (k * n)) (suc m))
  where
    by : ((k : ℕ) × (k < suc m) × (m ≡ k * n) × ((j : ℕ) → j < k → ¬ (m ≡ j * n))) ⊎ ((k : ℕ) → k < suc m → ¬ (m ≡ k * n)) → Decided (IsMultiple n m)
    by (inl (k, lt, e, before)) = inl (k, e)
    by (inr none) = inr (λ (times, e). (let (k, lt, e') = few_times n m times e in none k lt e'))

start_or_not : (o : Option ℕ) (start : ℕ) → IfSome o (λ n. IsMultiple n start) ⊎ IsSomeAnd o (λ n. ¬ IsMultiple n start)
start_or_not None start = inl tt
start_or_not (Some n) start = multiple_or_not n start

over_or_not : (o : Option ℕ) (n : ℕ) → IfSome o (λ k. n ≤ k) ⊎ IsSomeAnd o (λ k. k < n)
over_or_not None n = inl tt
over_or_not (Some k) n = by (cases_lt k n)
  where
    by : (k < n) ⊎ (n ≤ k) → (n ≤ k) ⊎ (k < n)
    by (inl less) = inr less
    by (inr more) = inl more

within_bound : (o : Option ℕ) (n : ℕ) → IfSome o (λ k. n ≤ k) → IsSomeAnd o (λ k. k < n) → ⊥
within_bound None n most over = over
within_bound (Some k) n most over = absurd (omega arith)

-- ---- one place

module _ (net : Net) (markings : List Marking) (class : Class) (i : ℕ) (p : Place) (at : IsPlaceAt net i p) where
  abbrev Breaks : ClassBreak → Type 0
  Breaks = IsBreak net markings class

  same_place : (q : Place) → IsPlaceAt net i q → p ≡ q
  same_place q at' = same_Some p q (sym at ∙ at')

  -- what breaks at the place first
  abbrev FirstHere : Type 0
  FirstHere = (b : ClassBreak) × (place_of b ≡ i) × Breaks b × ((a : ClassBreak) → place_of a ≡ i → IsBreakBefore a b → ¬ Breaks a)

  -- no break of an earlier kind, and none of a kind
  abbrev NoneBelow : ℕ → Type 0
  NoneBelow k = (a : ClassBreak) → place_of a ≡ i → kind_of a < k → ¬ Breaks a

  abbrev NoneOf : ℕ → Type 0
  NoneOf k = (a : ClassBreak) → place_of a ≡ i → kind_of a ≡ k → ¬ Breaks a

  none_more : (k : ℕ) → NoneBelow k → NoneOf k → NoneBelow (suc k)
  none_more k below here a is less = by (cases_lt (kind_of a) k)
    where
      by : (kind_of a < k) ⊎ (k ≤ kind_of a) → ¬ Breaks a
      by (inl lt) = below a is lt
      by (inr ge) = here a is (omega arith)

  first_here : (b : ClassBreak) → place_of b ≡ i → NoneBelow (kind_of b)
      → ((a : ClassBreak) → place_of a ≡ i → kind_of a ≡ kind_of b → (first_of a < first_of b) ⊎ ((first_of a ≡ first_of b) × (second_of a < second_of b)) → ¬ Breaks a)
      → (a : ClassBreak) → place_of a ≡ i → IsBreakBefore a b → ¬ Breaks a
  first_here b here below among a is (inl less) = absurd (omega arith)
  first_here b here below among a is (inr (same, inl less)) = below a is less
  first_here b here below among a is (inr (same, inr (kind, rest))) = among a is kind rest

  -- ---- pure

  pure_or_not : (t : ℕ) → Decided (Breaks (NotPure i t))
  pure_or_not t = by (true_or_not class.pure) (less_or_not t net.labels) (less_or_not 0 (pre_weight p t)) (less_or_not 0 (post_weight p t))
    where
      by : Decided (IsTrue class.pure) → Decided (t < net.labels) → Decided (0 < pre_weight p t) → Decided (0 < post_weight p t) → Decided (Breaks (NotPure i t))
      by (inl asked) (inl lt) (inl takes) (inl makes) = inl (asked, p, at, lt, takes, makes)
      by (inr none) _ _ _ = inr (λ (asked, q, at', lt, takes, makes). none asked)
      by (inl asked) (inr none) _ _ = inr (λ (asked', q, at', lt, takes, makes). none lt)
      by (inl asked) (inl lt) (inr none) _ = inr (λ (asked', q, at', lt', takes, makes). none (subst (λ (r : Place). 0 < pre_weight r t) (sym (same_place q at')) takes))
      by (inl asked) (inl lt) (inl takes) (inr none) = inr (λ (asked', q, at', lt', takes', makes). none (subst (λ (r : Place). 0 < post_weight r t) (sym (same_place q at')) makes))

  none_pure : ((t : ℕ) → ¬ Breaks (NotPure i t)) → NoneOf 0
  none_pure none (NotPure j t) is kind = subst (λ n. ¬ Breaks (NotPure n t)) (sym is) (none t)
  none_pure none (NotPlain j t) is kind = absurd (omega arith)
  none_pure none (Over j s) is kind = absurd (omega arith)
  none_pure none (Branching j t t') is kind = absurd (omega arith)
  none_pure none (NotMultiple j) is kind = absurd (omega arith)

  before_pure : (t : ℕ) → ((u : ℕ) → u < t → ¬ Breaks (NotPure i u)) → (a : ClassBreak) → place_of a ≡ i → kind_of a ≡ 0 → (first_of a < t) ⊎ ((first_of a ≡ t) × (second_of a < 0)) → ¬ Breaks a
  before_pure t before (NotPure j u) is kind (inl less) = subst (λ n. ¬ Breaks (NotPure n u)) (sym is) (before u less)
  before_pure t before (NotPure j u) is kind (inr (e, less)) = absurd (omega arith)
  before_pure t before (NotPlain j u) is kind less = absurd (omega arith)
  before_pure t before (Over j s) is kind less = absurd (omega arith)
  before_pure t before (Branching j u u') is kind less = absurd (omega arith)
  before_pure t before (NotMultiple j) is kind less = absurd (omega arith)

  -- ---- plain

  plain_or_not : (t : ℕ) → Decided (Breaks (NotPlain i t))
  plain_or_not t = by (true_or_not class.plain) (less_or_not t net.labels) (less_or_not 1 (pre_weight p t)) (less_or_not 1 (post_weight p t))
    where
      neither : ¬ (1 < pre_weight p t) → ¬ (1 < post_weight p t) → (q : Place) → p ≡ q → (1 < pre_weight q t) ⊎ (1 < post_weight q t) → ⊥
      neither few few' q e (inl many) = few (subst (λ (r : Place). 1 < pre_weight r t) (sym e) many)
      neither few few' q e (inr many) = few' (subst (λ (r : Place). 1 < post_weight r t) (sym e) many)

      by : Decided (IsTrue class.plain) → Decided (t < net.labels) → Decided (1 < pre_weight p t) → Decided (1 < post_weight p t) → Decided (Breaks (NotPlain i t))
      by (inr none) _ _ _ = inr (λ (asked, q, at', lt, many). none asked)
      by (inl asked) (inr none) _ _ = inr (λ (asked', q, at', lt, many). none lt)
      by (inl asked) (inl lt) (inl many) _ = inl (asked, p, at, lt, inl many)
      by (inl asked) (inl lt) (inr few) (inl many) = inl (asked, p, at, lt, inr many)
      by (inl asked) (inl lt) (inr few) (inr few') = inr (λ (asked', q, at', lt', many). neither few few' q (same_place q at') many)

  none_plain : ((t : ℕ) → ¬ Breaks (NotPlain i t)) → NoneOf 1
  none_plain none (NotPlain j t) is kind = subst (λ n. ¬ Breaks (NotPlain n t)) (sym is) (none t)
  none_plain none (NotPure j t) is kind = absurd (omega arith)
  none_plain none (Over j s) is kind = absurd (omega arith)
  none_plain none (Branching j t t') is kind = absurd (omega arith)
  none_plain none (NotMultiple j) is kind = absurd (omega arith)

  before_plain : (t : ℕ) → ((u : ℕ) → u < t → ¬ Breaks (NotPlain i u)) → (a : ClassBreak) → place_of a ≡ i → kind_of a ≡ 1 → (first_of a < t) ⊎ ((first_of a ≡ t) × (second_of a < 0)) → ¬ Breaks a
  before_plain t before (NotPlain j u) is kind (inl less) = subst (λ n. ¬ Breaks (NotPlain n u)) (sym is) (before u less)
  before_plain t before (NotPlain j u) is kind (inr (e, less)) = absurd (omega arith)
  before_plain t before (NotPure j u) is kind less = absurd (omega arith)
  before_plain t before (Over j s) is kind less = absurd (omega arith)
  before_plain t before (Branching j u u') is kind less = absurd (omega arith)
  before_plain t before (NotMultiple j) is kind less = absurd (omega arith)

  -- ---- the bound

  bound_or_not : (s : ℕ) → Decided (Breaks (Over i s))
  bound_or_not s = by (slice_get markings s) refl
    where
      marked : (m : Marking) → slice_get markings s ≡ Some m → IfSome class.bound (λ k. tokens m i ≤ k) ⊎ IsSomeAnd class.bound (λ k. k < tokens m i) → Decided (Breaks (Over i s))
      marked m has (inr over) = inl (m, has, slice_get_within net.places i p at, over)
      marked m has (inl most) = inr (λ (m', has', lt, over). within_bound class.bound (tokens m i) most
          (subst (λ (n : Marking). IsSomeAnd class.bound (λ k. k < tokens n i)) (same_Some m' m (sym has' ∙ has)) over))

      by : (o : Option Marking) → slice_get markings s ≡ o → Decided (Breaks (Over i s))
      by None has = inr (λ (m, has', lt, over). none-some m (sym has ∙ has'))
      by (Some m) has = marked m has (over_or_not class.bound (tokens m i))

  bounded_here : ((s : ℕ) → ¬ Breaks (Over i s)) → (s : ℕ) (m : Marking) → slice_get markings s ≡ Some m → IfSome class.bound (λ k. tokens m i ≤ k)
  bounded_here none s m has = by (over_or_not class.bound (tokens m i))
    where
      by : IfSome class.bound (λ k. tokens m i ≤ k) ⊎ IsSomeAnd class.bound (λ k. k < tokens m i) → IfSome class.bound (λ k. tokens m i ≤ k)
      by (inl most) = most
      by (inr over) = absurd (none s (m, has, slice_get_within net.places i p at, over))

  none_over : ((s : ℕ) → ¬ Breaks (Over i s)) → NoneOf 2
  none_over none (Over j s) is kind = subst (λ n. ¬ Breaks (Over n s)) (sym is) (none s)
  none_over none (NotPure j t) is kind = absurd (omega arith)
  none_over none (NotPlain j t) is kind = absurd (omega arith)
  none_over none (Branching j t t') is kind = absurd (omega arith)
  none_over none (NotMultiple j) is kind = absurd (omega arith)

  before_over : (s : ℕ) → ((r : ℕ) → r < s → ¬ Breaks (Over i r)) → (a : ClassBreak) → place_of a ≡ i → kind_of a ≡ 2 → (first_of a < s) ⊎ ((first_of a ≡ s) × (second_of a < 0)) → ¬ Breaks a
  before_over s before (Over j r) is kind (inl less) = subst (λ n. ¬ Breaks (Over n r)) (sym is) (before r less)
  before_over s before (Over j r) is kind (inr (e, less)) = absurd (omega arith)
  before_over s before (NotPure j u) is kind less = absurd (omega arith)
  before_over s before (NotPlain j u) is kind less = absurd (omega arith)
  before_over s before (Branching j u u') is kind less = absurd (omega arith)
  before_over s before (NotMultiple j) is kind less = absurd (omega arith)

  -- ---- nonbranching

  branching_or_not : (t t' : ℕ) → Decided (Breaks (Branching i t t'))
  branching_or_not t t' = by (true_or_not class.nonbranching) (less_or_not t t') (less_or_not t' net.labels) (less_or_not 0 (pre_weight p t)) (less_or_not 0 (pre_weight p t'))
    where
      by : Decided (IsTrue class.nonbranching) → Decided (t < t') → Decided (t' < net.labels) → Decided (0 < pre_weight p t) → Decided (0 < pre_weight p t') → Decided (Breaks (Branching i t t'))
      by (inl asked) (inl less) (inl lt) (inl takes) (inl takes') = inl (asked, p, at, less, lt, takes, takes')
      by (inr none) _ _ _ _ = inr (λ (asked, q, at', less, lt, takes, takes'). none asked)
      by (inl asked) (inr none) _ _ _ = inr (λ (asked', q, at', less, lt, takes, takes'). none less)
      by (inl asked) (inl less) (inr none) _ _ = inr (λ (asked', q, at', less', lt, takes, takes'). none lt)
      by (inl asked) (inl less) (inl lt) (inr none) _ = inr (λ (asked', q, at', less', lt', takes, takes'). none (subst (λ (r : Place). 0 < pre_weight r t) (sym (same_place q at')) takes))
      by (inl asked) (inl less) (inl lt) (inl takes) (inr none) =
          inr (λ (asked', q, at', less', lt', takes'', takes'). none (subst (λ (r : Place). 0 < pre_weight r t') (sym (same_place q at')) takes'))

  branching_bounded : (t t' : ℕ) → Breaks (Branching i t t') → (t < net.labels) × (t' < net.labels)
  branching_bounded t t' (asked, q, at', less, lt, takes, takes') = (omega arith, lt)

  none_branching : ((t t' : ℕ) → ¬ Breaks (Branching i t t')) → NoneOf 3
  none_branching none (Branching j t t') is kind = subst (λ n. ¬ Breaks (Branching n t t')) (sym is) (none t t')
  none_branching none (NotPure j t) is kind = absurd (omega arith)
  none_branching none (NotPlain j t) is kind = absurd (omega arith)
  none_branching none (Over j s) is kind = absurd (omega arith)
  none_branching none (NotMultiple j) is kind = absurd (omega arith)

  before_branching : (t t' : ℕ) → ((u u' : ℕ) → PairBefore u u' t t' → ¬ Breaks (Branching i u u')) → (a : ClassBreak) → place_of a ≡ i → kind_of a ≡ 3
      → (first_of a < t) ⊎ ((first_of a ≡ t) × (second_of a < t')) → ¬ Breaks a
  before_branching t t' before (Branching j u u') is kind less = subst (λ n. ¬ Breaks (Branching n u u')) (sym is) (before u u' less)
  before_branching t t' before (NotPure j u) is kind less = absurd (omega arith)
  before_branching t t' before (NotPlain j u) is kind less = absurd (omega arith)
  before_branching t t' before (Over j s) is kind less = absurd (omega arith)
  before_branching t t' before (NotMultiple j) is kind less = absurd (omega arith)

  -- ---- the start

  before_multiple : (a : ClassBreak) → place_of a ≡ i → kind_of a ≡ 4 → (first_of a < 0) ⊎ ((first_of a ≡ 0) × (second_of a < 0)) → ¬ Breaks a
  before_multiple a is kind (inl less) = absurd (omega arith)
  before_multiple a is kind (inr (e, less)) = absurd (omega arith)

  -- ---- all of the place

  abbrev IsFine : Type 0
  IsFine = IsPlaceInClass class net.labels p × ((s : ℕ) (m : Marking) → slice_get markings s ≡ Some m → IfSome class.bound (λ k. tokens m i ≤ k))

  fine_weights : ((t : ℕ) → ¬ Breaks (NotPure i t)) → ((t : ℕ) → ¬ Breaks (NotPlain i t)) → ((t t' : ℕ) → ¬ Breaks (Branching i t t')) → AllowsStart class p.start → IsPlaceInClass class net.labels p
  fine_weights pure plain branching start = record {
    pure = λ asked t lt takes makes. pure t (asked, p, at, lt, takes, makes);
    plain = λ asked t lt. (
      at_most 1 (pre_weight p t) (λ many. plain t (asked, p, at, lt, inl many)),
      at_most 1 (post_weight p t) (λ many. plain t (asked, p, at, lt, inr many)),
    );
    marking = start;
    nonbranching = λ asked t t' lt lt' takes takes'. only asked t t' lt lt' takes takes' (cases_order t t');
  }
    where
      only : IsTrue class.nonbranching → (t t' : ℕ) → t < net.labels → t' < net.labels → 0 < pre_weight p t → 0 < pre_weight p t' → (t ≡ t') ⊎ ((t < t') ⊎ (t' < t)) → t ≡ t'
      only asked t t' lt lt' takes takes' (inl e) = e
      only asked t t' lt lt' takes takes' (inr (inl less)) = absurd (branching t t' (asked, p, at, less, lt', takes, takes'))
      only asked t t' lt lt' takes takes' (inr (inr more)) = absurd (branching t' t (asked, p, at, more, lt, takes', takes))

  -- the first label or marking of a kind, or none
  abbrev Finds : (ℕ → ClassBreak) → Type 0
  Finds make = ((t : ℕ) × Breaks (make t) × ((u : ℕ) → u < t → ¬ Breaks (make u))) ⊎ ((t : ℕ) → ¬ Breaks (make t))

  finds : (make : ℕ → ClassBreak) → ((t : ℕ) → Decided (Breaks (make t))) → (n : ℕ) → ((t : ℕ) → Breaks (make t) → t < n) → Finds make
  finds make decide n bound = by (find_number (λ t. Breaks (make t)) decide n)
    where
      by : ((t : ℕ) × (t < n) × Breaks (make t) × ((u : ℕ) → u < t → ¬ Breaks (make u))) ⊎ ((t : ℕ) → t < n → ¬ Breaks (make t)) → Finds make
      by (inl (t, lt, breaks, before)) = inl (t, breaks, before)
      by (inr none) = inr (λ t breaks. none t (bound t breaks) breaks)

  none_at_first : NoneBelow 0
  none_at_first a is less = absurd (omega arith)

  pub place_or_break : IsFine ⊎ FirstHere
  place_or_break = by_pure (finds (λ t. NotPure i t) pure_or_not net.labels (λ t (asked, q, at', lt, takes, makes). lt))
    where
      by_start : NoneBelow 4 → ((t : ℕ) → ¬ Breaks (NotPure i t)) → ((t : ℕ) → ¬ Breaks (NotPlain i t)) → ((s : ℕ) → ¬ Breaks (Over i s)) → ((t t' : ℕ) → ¬ Breaks (Branching i t t'))
          → IfSome class.marking (λ n. IsMultiple n p.start) ⊎ IsSomeAnd class.marking (λ n. ¬ IsMultiple n p.start) → IsFine ⊎ FirstHere
      by_start below pure plain over branching (inl start) = inl (fine_weights pure plain branching start, bounded_here over)
      by_start below pure plain over branching (inr none) = inr (NotMultiple i, refl, (p, at, none), first_here (NotMultiple i) refl below before_multiple)

      by_branching : NoneBelow 3 → ((t : ℕ) → ¬ Breaks (NotPure i t)) → ((t : ℕ) → ¬ Breaks (NotPlain i t)) → ((s : ℕ) → ¬ Breaks (Over i s))
          → ((t : ℕ) × (t' : ℕ) × Breaks (Branching i t t') × ((u u' : ℕ) → PairBefore u u' t t' → ¬ Breaks (Branching i u u'))) ⊎ ((t t' : ℕ) → ¬ Breaks (Branching i t t')) → IsFine ⊎ FirstHere
      by_branching below pure plain over (inl (t, t', breaks, before)) = inr (Branching i t t', refl, breaks, first_here (Branching i t t') refl below (before_branching t t' before))
      by_branching below pure plain over (inr none) = by_start (none_more 3 below (none_branching none)) pure plain over none (start_or_not class.marking p.start)

      by_over : NoneBelow 2 → ((t : ℕ) → ¬ Breaks (NotPure i t)) → ((t : ℕ) → ¬ Breaks (NotPlain i t)) → Finds (λ s. Over i s) → IsFine ⊎ FirstHere
      by_over below pure plain (inl (s, breaks, before)) = inr (Over i s, refl, breaks, first_here (Over i s) refl below (before_over s before))
      by_over below pure plain (inr none) =
          by_branching (none_more 2 below (none_over none)) pure plain none (find_pair (λ t t'. Breaks (Branching i t t')) branching_or_not net.labels net.labels branching_bounded)

      by_plain : NoneBelow 1 → ((t : ℕ) → ¬ Breaks (NotPure i t)) → Finds (λ t. NotPlain i t) → IsFine ⊎ FirstHere
      by_plain below pure (inl (t, breaks, before)) = inr (NotPlain i t, refl, breaks, first_here (NotPlain i t) refl below (before_plain t before))
      by_plain below pure (inr none) =
          by_over (none_more 1 below (none_plain none)) pure none (finds (λ s. Over i s) bound_or_not (length markings) (λ s (m, has, lt, over). slice_get_within markings s m has))

      by_pure : Finds (λ t. NotPure i t) → IsFine ⊎ FirstHere
      by_pure (inl (t, breaks, before)) = inr (NotPure i t, refl, breaks, first_here (NotPure i t) refl none_at_first (before_pure t before))
      by_pure (inr none) = by_plain (none_more 0 none_at_first (none_pure none)) none (finds (λ t. NotPlain i t) plain_or_not net.labels (λ t (asked, q, at', lt, many). lt))

-- ---- all places

module _ (net : Net) (markings : List Marking) (class : Class) where
  abbrev Outcome : Type 0
  Outcome = AreInClass net markings class ⊎ ((b : ClassBreak) × IsFirstBreak net markings class b)

  from_place : (left i : ℕ) → i + left ≡ length net.places → InClassBefore net markings class i → Outcome
  from_place zero i all before = inl (in_class_all net markings class i (omega arith) before)
  from_place (suc left) i all before =
      let (p, at) = slice_get_some net.places i (omega arith) in
      by p at (place_or_break net markings class i p at) (λ before'. from_place left (i + 1) (omega arith) before')
    where
      by : (p : Place) (at : IsPlaceAt net i p) → IsFine net markings class i p at ⊎ FirstHere net markings class i p at → (InClassBefore net markings class (i + 1) → Outcome) → Outcome
      by p at (inl (weights, bounded)) next = next (in_class_more net markings class i p before at weights bounded)
      by p at (inr (b, here, breaks, first)) next = inr (b, first_break net markings class i b before breaks here first)

  pub class_or_break : AreInClass net markings class ⊎ ((b : ClassBreak) × IsFirstBreak net markings class b)
  class_or_break = from_place (length net.places) 0 (omega arith) (record { weights = λ j p lt at. absurd (omega arith); bounded = λ j p lt at s m has. absurd (omega arith) })
