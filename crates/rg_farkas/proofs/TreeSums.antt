-- The multipliers of the tree's arcs make the tokens of every state but the initial one cancel.
use Rattle.std.proofs.Common.{◌≡◌, ◌≢◌, ⊎_elim, ℕ, ◌==◌, Bool, true, false, if◌then◌else◌, List, [], ◌∷◌, ◌++◌, map, reverse, Result, Ok, Contains, ap, ap₂, refl, subst, sym, ◌∙◌, arith, eq-eqb, ne_eqb, append_assoc}
use Rattle.std.specs.Prelude.{ℤ, pos, negsuc, neg_ℤ, ◌+ℤ◌, ◌-ℤ◌, ◌*ℤ◌}
use Rattle.std.proofs.lemmas.Int.{ints}
use Rattle.std.proofs.lemmas.Bool.{cases_eq}
use Rattle.std.proofs.lemmas.List.{append-nil, reverse-append, reverse-reverse}
use Rattle.std.proofs.lemmas.List.Elements.{Contains-push, Contains-push_cases, Contains-append_left}
use Rattle.rg_theory.specs.declared.Arc.{Arc}
use Rattle.rg_theory.specs.System.{arc, System}
use Rattle.rg_theory.specs.Tree.{Grows}
use Rattle.rg_theory.proofs.Lists.{Contains-cons_cases}
use Rattle.rg_theory.proofs.Trees.{source_met}
use Rattle.rg_integers.specs.Sum.{sum_over}
use Rattle.rg_integers.proofs.ListSums.{sum_over-append, sum_over-map}
use Rattle.rg_integers.specs.declared.term.Wide.{Wide}
use Rattle.rg_cert_meaning.specs.Expression.{Expression, plus, minus, sum_of, coefficient_in}
use Rattle.rg_cert_meaning.specs.declared.RowName.{RowName}
use Rattle.rg_cert_meaning.specs.Refutes.{NamedRow}
use Rattle.rg_folds.specs.Fold.{further, joined, whole_sum, whole_product}
use Rattle.rg_case_folds.specs.Spreading.{ArcTimes, arc_name, Addend, Addend.number, Addend.product, addend_fold, leaving, addends_at, tree_fold}
use Rattle.rg_cert_meaning.specs.declared.Variable.TheVariants.{Tokens, Effect}

-- ---- sums of whole numbers

pub whole_sum_is : (x y m : ℤ) → whole_sum x y (Ok m) → m ≡ x +ℤ y
whole_sum_is x y m (_, e) = e ∙ close x y
  where
    close : (x y : ℤ) → (x *ℤ pos 1) -ℤ (neg_ℤ y *ℤ pos 1) ≡ x +ℤ y
    close x y = omega (arith, ints)

pub whole_product_is : (x y m : ℤ) → whole_product x y (Ok m) → m ≡ x *ℤ y
whole_product_is x y m (_, e) = e ∙ close (x *ℤ y)
  where
    close : (p : ℤ) → p -ℤ (pos 0 *ℤ pos 0) ≡ p
    close p = omega (arith, ints)

pub further_whole : {A : Type 0} (make : A → Result ℤ Wide → Type 0) (y : A → ℤ) → ((a : A) (k : ℤ) → make a (Ok k) → k ≡ y a)
    → (f h : ℤ) (items : List A) → further whole_sum make f items (Ok h) → h ≡ f +ℤ sum_over y items
further_whole make y made f h [] e = e ∙ none f
  where
    none : (z : ℤ) → z ≡ z +ℤ pos 0
    none z = omega (arith, ints)
further_whole make y made f h (a ∷ items) (k, is, (g, added, rest)) =
    further_whole make y made g h items rest ∙ ap (λ z. z +ℤ sum_over y items) (whole_sum_is f k g added ∙ ap (λ z. f +ℤ z) (made a k is))
    ∙ assoc f (y a) (sum_over y items)
  where
    assoc : (x y z : ℤ) → (x +ℤ y) +ℤ z ≡ x +ℤ (y +ℤ z)
    assoc x y z = omega (arith, ints)

pub joined_whole : {A : Type 0} (make : A → Result ℤ Wide → Type 0) (y : A → ℤ) → ((a : A) (k : ℤ) → make a (Ok k) → k ≡ y a)
    → (h : ℤ) (items : List A) → joined whole_sum make (pos 0) items (Ok h) → h ≡ sum_over y items
joined_whole make y made h [] e = e
joined_whole make y made h (a ∷ items) (k, is, rest) = further_whole make y made k h items rest ∙ ap (λ z. z +ℤ sum_over y items) (made a k is)

abbrev pub addend_value : Addend → ℤ
addend_value (number z) = z
addend_value (product x y) = x *ℤ y

addend_is : (a : Addend) (k : ℤ) → addend_fold a (Ok k) → k ≡ addend_value a
addend_is (number z) k e = e
addend_is (product x y) k h = whole_product_is x y k h

-- ---- the arcs, each with its multiplier

-- the multiplier of each arc is the sum at its target, over the rows and the arcs behind it
abbrev pub Balanced : (RowName → Expression) → List NamedRow → List ArcTimes → Type 0
Balanced expression rows [] = Unit {0}
Balanced expression rows (x ∷ later) = (x.multiplier ≡ sum_over addend_value (addends_at expression rows later x.arc.to)) × Balanced expression rows later

pub record Runs (expression : RowName → Expression) (rows : List NamedRow) (tree : List Arc) (arcs : List ArcTimes) : Type 0 where
  pub balanced : Balanced expression rows arcs
  pub arcs_are : map (λ x. x.arc) arcs ≡ tree

runs : (expression : RowName → Expression) (rows : List NamedRow) (done : List ArcTimes) (last_first : List Arc) (arcs : List ArcTimes)
    → Balanced expression rows done → tree_fold expression rows done last_first (Ok arcs) → Runs expression rows (reverse last_first ++ map (λ x. x.arc) done) arcs
runs expression rows done [] arcs balanced e = record { balanced = subst (Balanced expression rows) (sym e) balanced; arcs_are = ap (map (λ x. x.arc)) e }
runs expression rows done (a ∷ last_first) arcs balanced (m, sum, rest) =
    let ih = runs expression rows (record { arc = a; multiplier = m } ∷ done) last_first arcs
    (joined_whole addend_fold addend_value addend_is m (addends_at expression rows done a.to) sum, balanced) rest in
    record {
      balanced = ih.balanced;
      arcs_are = ih.arcs_are
          ∙ sym (ap (λ l. l ++ map (λ x. x.arc) done) (reverse_more a last_first) ∙ append_assoc (reverse last_first) (a ∷ []) (map (λ x. x.arc) done));
    }
  where
    reverse_more : (a : Arc) (xs : List Arc) → reverse (a ∷ xs) ≡ reverse xs ++ a ∷ []
    reverse_more a xs = reverse-append (a ∷ []) xs

pub tree_runs : (expression : RowName → Expression) (rows : List NamedRow) (tree : List Arc) (arcs : List ArcTimes)
    → tree_fold expression rows [] (reverse tree) (Ok arcs) → Runs expression rows tree arcs
tree_runs expression rows tree arcs h =
    let all = runs expression rows [] (reverse tree) arcs tt h in
    record { balanced = all.balanced; arcs_are = all.arcs_are ∙ append-nil (reverse (reverse tree)) ∙ reverse-reverse tree }

-- ---- one state

-- the row of an arc says what the arc does
abbrev pub SaysArcs : (RowName → Expression) → Type 0
SaysArcs expression = (a : Arc) → expression (arc_name a) ≡ sum_of (plus (Tokens a.from) ∷ plus (Effect a.label) ∷ minus (Tokens a.to) ∷ []) (pos 0)

-- what the arc's row has for the tokens at s
abbrev pub arc_at : ℕ → Arc → ℤ
arc_at s a = (if a.from == s then pos 1 else pos 0) -ℤ (if a.to == s then pos 1 else pos 0)

pub arc_coefficient : (expression : RowName → Expression) → SaysArcs expression → (a : Arc) (s : ℕ) → coefficient_in (expression (arc_name a)).terms (Tokens s) ≡ arc_at s a
arc_coefficient expression says a s = ap (λ (e : Expression). coefficient_in e.terms (Tokens s)) (says a) ∙ close (a.from == s) (a.to == s)
  where
    close : (b c : Bool) → (if b then pos 1 else pos 0) +ℤ (pos 0 +ℤ ((if c then negsuc 0 else pos 0) +ℤ pos 0)) ≡ (if b then pos 1 else pos 0) -ℤ (if c then pos 1 else pos 0)
    close true true = refl
    close true false = refl
    close false true = refl
    close false false = refl

-- the arcs that leave s, as numbers
leaving_sum : (s : ℕ) (arcs : List ArcTimes) → sum_over addend_value (leaving s arcs) ≡ sum_over (λ x. x.multiplier *ℤ (if x.arc.from == s then pos 1 else pos 0)) arcs
leaving_sum s [] = refl
leaving_sum s (x ∷ arcs) = go (x.arc.from == s) (leaving_sum s arcs)
  where
    go : (b : Bool) → sum_over addend_value (leaving s arcs) ≡ sum_over (λ y. y.multiplier *ℤ (if y.arc.from == s then pos 1 else pos 0)) arcs
        → sum_over addend_value (if b then (number x.multiplier ∷ leaving s arcs) else leaving s arcs) ≡ (x.multiplier *ℤ (if b then pos 1 else pos 0)) +ℤ sum_over
        (λ y. y.multiplier *ℤ (if y.arc.from == s then pos 1 else pos 0)) arcs
    go true ih = ap₂ ◌+ℤ◌ (times_one x.multiplier) ih
      where
        times_one : (z : ℤ) → z ≡ z *ℤ pos 1
        times_one z = omega (arith, ints)
    go false ih = ih ∙ none x.multiplier _
      where
        none : (z y : ℤ) → y ≡ (z *ℤ pos 0) +ℤ y
        none z y = omega (arith, ints)

-- arcs that don't lead to a state that is met
later_sum : (lts : System) (met : List ℕ) (s : ℕ) (arcs : List ArcTimes) → Grows lts met (map (λ x. x.arc) arcs) → Contains met s
    → sum_over (λ x. x.multiplier *ℤ arc_at s x.arc) arcs ≡ sum_over (λ x. x.multiplier *ℤ (if x.arc.from == s then pos 1 else pos 0)) arcs
later_sum lts met s [] g has = refl
later_sum lts met s (x ∷ arcs) (j, g) has = ap₂ ◌+ℤ◌
    (ap (λ b. x.multiplier *ℤ ((if x.arc.from == s then pos 1 else pos 0) -ℤ (if b then pos 1 else pos 0))) (ne_eqb x.arc.to s not_met)
    ∙ ap (λ z. x.multiplier *ℤ z) (less_none (if x.arc.from == s then pos 1 else pos 0)))
    (later_sum lts (met ++ x.arc.to ∷ []) s arcs g (Contains-append_left met (x.arc.to ∷ []) s has))
  where
    not_met : x.arc.to ≢ s
    not_met e = j.fresh (subst (Contains met) (sym e) has)

    less_none : (z : ℤ) → z -ℤ pos 0 ≡ z
    less_none z = omega (arith, ints)

-- the sum of rows at a state, and the multipliers of the arcs that leave and enter it
pub state_sum : (lts : System) (expression : RowName → Expression) (rows : List NamedRow) (met : List ℕ) (s : ℕ) (arcs : List ArcTimes)
    → Grows lts met (map (λ x. x.arc) arcs) → Balanced expression rows arcs → ¬ Contains met s → Contains (map (λ a. a.to) (map (λ x. x.arc) arcs)) s
    → sum_over (λ r. r.multiplier *ℤ coefficient_in (expression r.name).terms (Tokens s)) rows +ℤ sum_over (λ x. x.multiplier *ℤ arc_at s x.arc) arcs ≡ pos 0
state_sum lts expression rows met s [] g balanced lacks (k, lt, e) = absurd (omega arith)
state_sum lts expression rows met s (x ∷ arcs) (j, g) (own, balanced) lacks has =
    ⊎_elim here (λ ne. other ne (state_sum lts expression rows (met ++ x.arc.to ∷ []) s arcs g balanced (lacks' ne) (has' ne))) (cases_eq x.arc.to s)
  where
    from_differs : x.arc.from ≢ s
    from_differs e = lacks (subst (Contains met) e (source_met lts met x.arc j))

    here : x.arc.to ≡ s → sum_over (λ r. r.multiplier *ℤ coefficient_in (expression r.name).terms (Tokens s)) rows
        +ℤ ((x.multiplier *ℤ arc_at s x.arc) +ℤ sum_over (λ y. y.multiplier *ℤ arc_at s y.arc) arcs) ≡ pos 0
    here e = close _ _ _ _ _ own_sum (ap₂ (λ b c. x.multiplier *ℤ ((if b then pos 1 else pos 0) -ℤ (if c then pos 1 else pos 0))) (ne_eqb x.arc.from s from_differs)
        (eq-eqb x.arc.to s e)) (later_sum lts (met ++ x.arc.to ∷ []) s arcs g (subst (Contains (met ++ x.arc.to ∷ [])) e (Contains-push met x.arc.to)))
      where
        own_sum : x.multiplier ≡ sum_over (λ r. r.multiplier *ℤ coefficient_in (expression r.name).terms (Tokens s)) rows
            +ℤ sum_over (λ y. y.multiplier *ℤ (if y.arc.from == s then pos 1 else pos 0)) arcs
        own_sum =
            own
            ∙ ap (λ u. sum_over addend_value (addends_at expression rows arcs u)) e
            ∙ sum_over-append addend_value (map (λ r. product r.multiplier (coefficient_in (expression r.name).terms (Tokens s))) rows) (leaving s arcs)
            ∙ ap₂ ◌+ℤ◌ (sum_over-map addend_value (λ r. product r.multiplier (coefficient_in (expression r.name).terms (Tokens s))) rows) (leaving_sum s arcs)

        close : (m rows later arc l : ℤ) → m ≡ rows +ℤ l → arc ≡ m *ℤ (pos 0 -ℤ pos 1) → later ≡ l → rows +ℤ (arc +ℤ later) ≡ pos 0
        close m rows later arc l p q r = let e : m *ℤ (pos 0 -ℤ pos 1) ≡ neg_ℤ m = omega (arith, ints) in omega (arith, ints)

    lacks' : x.arc.to ≢ s → ¬ Contains (met ++ x.arc.to ∷ []) s
    lacks' ne h = ⊎_elim (λ old. lacks old) (λ e. ne e) (Contains-push_cases met x.arc.to s h)

    has' : x.arc.to ≢ s → Contains (map (λ a. a.to) (map (λ y. y.arc) arcs)) s
    has' ne = ⊎_elim (λ e. absurd (ne e)) (λ h. h) (Contains-cons_cases x.arc.to s (map (λ a. a.to) (map (λ y. y.arc) arcs)) has)

    other : x.arc.to ≢ s → sum_over (λ r. r.multiplier *ℤ coefficient_in (expression r.name).terms (Tokens s)) rows +ℤ sum_over
        (λ y. y.multiplier *ℤ arc_at s y.arc) arcs ≡ pos 0 → sum_over (λ r. r.multiplier *ℤ coefficient_in (expression r.name).terms (Tokens s)) rows +ℤ
        ((x.multiplier *ℤ arc_at s x.arc) +ℤ sum_over (λ y. y.multiplier *ℤ arc_at s y.arc) arcs) ≡ pos 0
    other ne ih = close _ _ _ (ap₂ (λ b c. x.multiplier *ℤ ((if b then pos 1 else pos 0) -ℤ (if c then pos 1 else pos 0)))
        (ne_eqb x.arc.from s from_differs) (ne_eqb x.arc.to s ne) ∙ none x.multiplier) ih
      where
        none : (z : ℤ) → z *ℤ (pos 0 -ℤ pos 0) ≡ pos 0
        none z = omega (arith, ints)

        close : (rows arc later : ℤ) → arc ≡ pos 0 → rows +ℤ later ≡ pos 0 → rows +ℤ (arc +ℤ later) ≡ pos 0
        close rows arc later p q = omega (arith, ints)
