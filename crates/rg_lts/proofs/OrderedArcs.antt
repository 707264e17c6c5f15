-- Lists of arcs in order, by recursion: such a list is one by its members, takes one arc more, and comes of any list.
use Rattle.std.proofs.Common.{◌≡◌, ℕ, zero, suc, ◌+◌, ◌<◌, ◌⊎◌, inl, inr, ⊎_elim, List, [], ◌∷◌, length, get_or, Contains, AllPairs, refl, sym, ap, subst, ◌∙◌, arith}
use Rattle.std.proofs.lemmas.Bool.{cases_order}
use Rattle.rg_theory.specs.declared.Arc.{Arc}
use Rattle.rg_theory.specs.System.{IsArcBefore}

pub before_itself : (a : Arc) → IsArcBefore a a → ⊥
before_itself a (inl lt) = omega arith
before_itself a (inr (e, inl lt)) = omega arith
before_itself a (inr (e, inr (f, lt))) = omega arith

pub before_back : (a b : Arc) → IsArcBefore a b → IsArcBefore b a → ⊥
before_back a b (inl x) (inl y) = omega arith
before_back a b (inl x) (inr y) = let e = y.0 in omega arith
before_back a b (inr x) (inl y) = let e = x.0 in omega arith
before_back a b (inr (e, inl x)) (inr (f, inl y)) = omega arith
before_back a b (inr (e, inl x)) (inr (f, inr y)) = let g = y.0 in omega arith
before_back a b (inr (e, inr x)) (inr (f, inl y)) = let g = x.0 in omega arith
before_back a b (inr (e, inr x)) (inr (f, inr y)) = let g = x.1 in let h = y.1 in omega arith

-- members by recursion
abbrev pub Has : List Arc → Arc → Type 0
Has [] a = ⊥
Has (b ∷ more) a = (b ≡ a) ⊎ Has more a

pub has_from : (arcs : List Arc) (a : Arc) → Contains arcs a → Has arcs a
has_from [] a c = omega (arith, c.1)
has_from (b ∷ more) a (zero, lt, e) = inl e
has_from (b ∷ more) a (suc k, lt, e) = inr (has_from more a (k, omega arith, e))

pub contains_from : (arcs : List Arc) (a : Arc) → Has arcs a → Contains arcs a
contains_from [] a h = absurd h
contains_from (b ∷ more) a (inl e) = (zero, omega arith, e)
contains_from (b ∷ more) a (inr h) = let c = contains_from more a h in (suc c.0, omega (arith, c.1), c.2)

-- arcs in order, by recursion
abbrev pub AllAfter : Arc → List Arc → Type 0
AllAfter a [] = Unit {0}
AllAfter a (b ∷ more) = IsArcBefore a b × AllAfter a more

abbrev pub Ordered : List Arc → Type 0
Ordered [] = Unit {0}
Ordered (a ∷ more) = AllAfter a more × Ordered more

all_after : (a : Arc) (more : List Arc) → ((j : ℕ) (d : Arc) → j < length more → IsArcBefore a (get_or more j d)) → AllAfter a more
all_after a [] h = tt
all_after a (b ∷ more) h = (h zero b (omega arith), all_after a more (λ j d lt. h (suc j) d (omega arith)))

pub ordered_from : (arcs : List Arc) → AllPairs IsArcBefore arcs → Ordered arcs
ordered_from [] h = tt
ordered_from (a ∷ more) h =
    (all_after a more (λ j d lt. h zero (suc j) d (omega arith) (omega arith)), ordered_from more (λ i j d lt in'. h (suc i) (suc j) d (omega arith) (omega arith)))

pub after_has : (a b : Arc) (more : List Arc) → AllAfter a more → Has more b → IsArcBefore a b
after_has a b [] all h = absurd h
after_has a b (c ∷ more) all (inl e) = subst (IsArcBefore a) e all.0
after_has a b (c ∷ more) all (inr h) = after_has a b more all.1 h

same_heads : (a b : Arc) (xs ys : List Arc) → AllAfter a xs → AllAfter b ys → Has (b ∷ ys) a → Has (a ∷ xs) b → a ≡ b
same_heads a b xs ys x y (inl e) h = sym e
same_heads a b xs ys x y (inr g) (inl e) = e
same_heads a b xs ys x y (inr g) (inr h) = absurd (before_back a b (after_has a b xs x h) (after_has b a ys y g))

without_head : (a c : Arc) (xs : List Arc) (ys : List Arc) → AllAfter a xs → Has xs c → Has (a ∷ ys) c → Has ys c
without_head a c xs ys all h (inl e) = absurd (before_itself a (subst (IsArcBefore a) (sym e) (after_has a c xs all h)))
without_head a c xs ys all h (inr g) = g

-- lists in order with the same members are one
pub one_order : (xs ys : List Arc) → Ordered xs → Ordered ys → ((c : Arc) → Has xs c → Has ys c) → ((c : Arc) → Has ys c → Has xs c) → xs ≡ ys
one_order [] [] x y to from = refl
one_order [] (b ∷ ys) x y to from = absurd (from b (inl refl))
one_order (a ∷ xs) [] x y to from = absurd (to a (inl refl))
one_order (a ∷ xs) (b ∷ ys) x y to from =
    let same = same_heads a b xs ys x.0 y.0 (to a (inl refl)) (from b (inl refl)) in
    let rest = one_order xs ys x.1 y.1
    (λ c h. without_head a c xs ys x.0 h (subst (λ d. Has (d ∷ ys) c) (sym same) (to c (inr h))))
    (λ c h. without_head b c ys xs y.0 h (subst (λ d. Has (d ∷ xs) c) same (from c (inr h)))) in
    ap (λ d. d ∷ xs) same ∙ ap (λ l. b ∷ l) rest

-- of two arcs one comes first, or they are the same
abbrev Compared : Arc → Arc → Type 0
Compared a b = IsArcBefore a b ⊎ ((a ≡ b) ⊎ IsArcBefore b a)

pub compared : (a b : Arc) → Compared a b
compared a b = by (cases_order a.from b.from) (cases_order a.label b.label) (cases_order a.to b.to)
  where
    by : (a.from ≡ b.from) ⊎ ((a.from < b.from) ⊎ (b.from < a.from)) → (a.label ≡ b.label) ⊎ ((a.label < b.label) ⊎ (b.label < a.label))
        → (a.to ≡ b.to) ⊎ ((a.to < b.to) ⊎ (b.to < a.to)) → Compared a b
    by (inr (inl lt)) y z = inl (inl lt)
    by (inr (inr gt)) y z = inr (inr (inl gt))
    by (inl e) (inr (inl lt)) z = inl (inr (e, inl lt))
    by (inl e) (inr (inr gt)) z = inr (inr (inr (sym e, inl gt)))
    by (inl e) (inl f) (inr (inl lt)) = inl (inr (e, inr (f, lt)))
    by (inl e) (inl f) (inr (inr gt)) = inr (inr (inr (sym e, inr (sym f, gt))))
    by (inl e) (inl f) (inl g) = inr (inl (λ i. record { from = e i; label = f i; to = g i }))

pub before_trans : (a b c : Arc) → IsArcBefore a b → IsArcBefore b c → IsArcBefore a c
before_trans a b c (inl x) (inl y) = inl (omega arith)
before_trans a b c (inl x) (inr y) = let e = y.0 in inl (omega arith)
before_trans a b c (inr x) (inl y) = let e = x.0 in inl (omega arith)
before_trans a b c (inr (e, inl x)) (inr (f, inl y)) = inr (e ∙ f, inl (omega arith))
before_trans a b c (inr (e, inl x)) (inr (f, inr y)) = let g = y.0 in inr (e ∙ f, inl (omega arith))
before_trans a b c (inr (e, inr x)) (inr (f, inl y)) = let g = x.0 in inr (e ∙ f, inl (omega arith))
before_trans a b c (inr (e, inr x)) (inr (f, inr y)) = let lt = x.1 in let lt' = y.1 in inr (e ∙ f, inr (x.0 ∙ y.0, omega arith))

all_after_trans : (a b : Arc) (more : List Arc) → IsArcBefore a b → AllAfter b more → AllAfter a more
all_after_trans a b [] lt all = tt
all_after_trans a b (c ∷ more) lt all = (before_trans a b c lt all.0, all_after_trans a b more lt all.1)

-- a list in order with one arc more
pub record Inserted (a : Arc) (ys zs : List Arc) : Type 0 where
  pub ordered : Ordered zs
  pub after : (x : Arc) → IsArcBefore x a → AllAfter x ys → AllAfter x zs
  pub to : (c : Arc) → Has zs c → (a ≡ c) ⊎ Has ys c
  pub from : (c : Arc) → (a ≡ c) ⊎ Has ys c → Has zs c
  pub longer : (Has ys a → ⊥) → length zs ≡ length ys + 1

pub inserted : (a : Arc) (ys : List Arc) → Ordered ys → (zs : List Arc) × Inserted a ys zs
inserted a [] ordered = (a ∷ [], record { ordered = (tt, tt); after = λ x lt all. (lt, tt); to = λ c h. h; from = λ c h. h; longer = λ new. omega arith })
inserted a (b ∷ ys) ordered = by (compared a b) (inserted a ys ordered.1)
  where
    by : Compared a b → (zs : List Arc) × Inserted a ys zs → (zs : List Arc) × Inserted a (b ∷ ys) zs
    by (inl lt) more = (
      a ∷ b ∷ ys,
      record {
        ordered = ((lt, all_after_trans a b ys lt ordered.0), ordered);
        after = λ x lt' all. (lt', all);
        to = λ c h. h;
        from = λ c h. h;
        longer = λ new. omega arith;
      },
    )
    by (inr (inl e)) more = (
      b ∷ ys,
      record {
        ordered = ordered;
        after = λ x lt' all. all;
        to = λ c h. inr h;
        from = λ c h. ⊎_elim (λ here. inl (sym e ∙ here)) (λ later. later) h;
        longer = λ new. absurd (new (inl (sym e)));
      },
    )
    by (inr (inr gt)) more = (
      b ∷ more.0,
      record {
        ordered = (more.1.after b gt ordered.0, more.1.ordered);
        after = λ x lt' all. (all.0, more.1.after x lt' all.1);
        to = λ c h. ⊎_elim (λ here. inr (inl here)) (λ later. ⊎_elim (λ e. inl e) (λ l. inr (inr l)) (more.1.to c later)) h;
        from = λ c h. ⊎_elim (λ e. inr (more.1.from c (inl e))) (λ l. ⊎_elim (λ here. inl here) (λ m. inr (more.1.from c (inr m))) l) h;
        longer = λ new. omega (arith, more.1.longer (λ h. new (inr h)));
      },
    )

pub record SortedOf (xs ys : List Arc) : Type 0 where
  pub ordered : Ordered ys
  pub to : (c : Arc) → Has ys c → Has xs c
  pub from : (c : Arc) → Has xs c → Has ys c

pub sorted_of : (xs : List Arc) → (ys : List Arc) × SortedOf xs ys
sorted_of [] = ([], record { ordered = tt; to = λ c h. h; from = λ c h. h })
sorted_of (x ∷ xs) =
    let more = sorted_of xs in
    let one = inserted x more.0 more.1.ordered in (
      one.0,
      record {
        ordered = one.1.ordered;
        to = λ c h. ⊎_elim (λ e. inl e) (λ l. inr (more.1.to c l)) (one.1.to c h);
        from = λ c h. one.1.from c (⊎_elim (λ e. inl e) (λ l. inr (more.1.from c l)) h);
      },
    )

after_at : (a : Arc) (more : List Arc) (j : ℕ) (d : Arc) → AllAfter a more → j < length more → IsArcBefore a (get_or more j d)
after_at a [] j d all lt = absurd (omega arith)
after_at a (b ∷ more) zero d all lt = all.0
after_at a (b ∷ more) (suc j) d all lt = after_at a more j d all.1 (omega arith)

pub pairs_from : (xs : List Arc) → Ordered xs → AllPairs IsArcBefore xs
pairs_from [] ordered i j d lt in' = absurd (omega arith)
pairs_from (x ∷ xs) ordered zero zero d lt in' = absurd (omega arith)
pairs_from (x ∷ xs) ordered zero (suc j) d lt in' = after_at x xs j d ordered.0 (omega arith)
pairs_from (x ∷ xs) ordered (suc i) zero d lt in' = absurd (omega arith)
pairs_from (x ∷ xs) ordered (suc i) (suc j) d lt in' = pairs_from xs ordered.1 i j d (omega arith) (omega arith)
