-- The names of a case stand, and name labels of the system.
use Rattle.std.proofs.Common.{◌≡◌, ◌≢◌, ⊎_elim, ℕ, zero, suc, ◌<◌, ◌==◌, ◌&&◌, not, is_some, Bool, true, false, if◌then◌else◌, List, [], ◌∷◌, ◌++◌, map, Contains, inl, inr, refl, sym, subst, ap, ◌∙◌, arith, eq-eqb}
use Rattle.std.proofs.lemmas.Bool.{true≢false, and_parts, eqb-true}
use Rattle.rg_theory.specs.declared.Arc.{Arc}
use Rattle.rg_theory.specs.declared.Class.{Class}
use Rattle.rg_theory.specs.declared.Problem.{Problem}
use Rattle.rg_theory.specs.declared.Problem.TheVariants.{Event, States}
use Rattle.rg_theory.specs.System.{System, states, labels}
use Rattle.rg_theory.proofs.Lists.{Contains-cons_cases, map_from}
use Rattle.rg_cert_meaning.specs.declared.RowName.{RowName}
use Rattle.rg_cert_meaning.specs.Row.{HasArcAt, RowStands, row_expression, apart_expression}
use Rattle.rg_cert_meaning.specs.Row.{order_of, case_consumer}
use Rattle.rg_cert_meaning.specs.Refutes.{IsSeparationProblem}
use Rattle.rg_folds.specs.Substitution.{numbers_where}
use Rattle.rg_case_folds.specs.Rewriting.{has_label, has_label_at, used_labels, has_start, all_numbers, states_with, problem_rows, names_of}
use Rattle.rg_case_folds.specs.Values.{NamesLabels}
use Rattle.std.proofs.lemmas.List.Elements.{Contains-append_cases}
use Rattle.rg_case_folds.proofs.Lists.{nothing, first, behind, where_is, of_if, of_optional, InOneOf, in_one_of}
use Rattle.rg_cert_meaning.specs.declared.RowName.TheVariants as row_name

-- a state with an arc of the label
pub found_at : (q t : ℕ) (arcs : List Arc) → has_label_at q t arcs ≡ true → (q' : ℕ) × Contains arcs (record { from = q; label = t; to = q' })
found_at q t [] e = absurd (true≢false (sym e))
found_at q t (a ∷ arcs) e = go ((a.from == q) && (a.label == t)) refl e (λ h. found_at q t arcs h)
  where
    same : (a.from == q) ≡ true → (a.label == t) ≡ true → a ≡ record { from = q; label = t; to = a.to }
    same f l = λ i. record { from = eqb-true a.from q f i; label = eqb-true a.label t l i; to = a.to }

    go : (b : Bool) → ((a.from == q) && (a.label == t)) ≡ b → (if b then true else has_label_at q t arcs) ≡ true
        → (has_label_at q t arcs ≡ true → (q' : ℕ) × Contains arcs (record { from = q; label = t; to = q' }))
        → (q' : ℕ) × Contains (a ∷ arcs) (record { from = q; label = t; to = q' })
    go true is e next = (a.to, (let (f, l) = and_parts (a.from == q) (a.label == t) is in subst (λ x. Contains (a ∷ arcs) x) (same f l) (first a arcs)))
    go false is e next = let (q', has) = next e in (q', behind a (record { from = q; label = t; to = q' }) arcs has)

-- ---- the names, part by part

abbrev pub tokens_names : System → Class → List RowName
tokens_names lts class = if has_start class then map row_name.Tokens (all_numbers (states lts)) else []

abbrev pub cap_names : System → Class → List RowName
cap_names lts class = if is_some class.bound then map row_name.Cap (all_numbers (states lts)) else []

abbrev pub effect_names : System → Class → List RowName
effect_names lts class = if class.plain then (map row_name.Up (used_labels lts) ++ map row_name.Down (used_labels lts)) else []

abbrev pub may_make : System → Problem → ℕ → ℕ → Bool
may_make lts problem number u = has_label u lts.arcs && not (u == case_consumer lts problem number)

abbrev pub makers : System → Problem → ℕ → List ℕ
makers lts problem number = numbers_where (may_make lts problem number) 0 (labels lts)

abbrev pub makes_names : System → Class → Problem → ℕ → List RowName
makes_names lts class problem number = if class.nonbranching then map row_name.Makes (makers lts problem number) else []

abbrev pub plain_names : System → ℕ → List RowName
plain_names lts t = row_name.Empty ∷ map row_name.Full (states_with lts t) ++ row_name.Keep ∷ []

abbrev pub impure_names : System → Class → ℕ → List RowName
impure_names lts class t = if class.plain then plain_names lts t else map row_name.Stop (states_with lts t)

-- one of the parts has the name
abbrev pub IsPart : System → Class → Problem → ℕ → RowName → Type 0
IsPart lts class problem number name =
    InOneOf (problem_rows lts class problem) (tokens_names lts class) (cap_names lts class) (effect_names lts class) (makes_names lts class problem number) name

-- what holds of the rows of the problem holds of each of its names
pub each_problem_name : (lts : System) (class : Class) (s t : ℕ) (P : RowName → Type 0)
    → (class.pure ≡ true → P row_name.Block)
    → (class.pure ≡ false → class.plain ≡ true → P row_name.Empty)
    → (class.pure ≡ false → class.plain ≡ true → (q : ℕ) → Contains (states_with lts t) q → P (row_name.Full q))
    → (class.pure ≡ false → class.plain ≡ true → P row_name.Keep)
    → (class.pure ≡ false → class.plain ≡ false → (q : ℕ) → Contains (states_with lts t) q → P (row_name.Stop q))
    → (name : RowName) → Contains (problem_rows lts class (Event s t)) name → P name
each_problem_name lts class s t P block empty full keep stop name has =
    ⊎_elim
    (λ (pure, h). subst P (only row_name.Block h) (block pure))
    (λ (pure, h).
    ⊎_elim
    (λ (plain, h'). plain_name pure plain h')
    (λ (plain, h'). (let (q, has', is) = map_from row_name.Stop (states_with lts t) name h' in subst P is (stop pure plain q has')))
    (of_if class.plain (plain_names lts t) (map row_name.Stop (states_with lts t)) name h))
    (of_if class.pure (row_name.Block ∷ []) (impure_names lts class t) name has)
  where
    only : (x : RowName) → Contains (x ∷ []) name → x ≡ name
    only x h = ⊎_elim (λ is. is) (λ there. absurd (nothing name there)) (Contains-cons_cases x name [] h)

    plain_name : class.pure ≡ false → class.plain ≡ true → Contains (plain_names lts t) name → P name
    plain_name pure plain h =
        ⊎_elim
        (λ is. subst P is (empty pure plain))
        (λ there.
        ⊎_elim
        (λ among. (let (q, has', is) = map_from row_name.Full (states_with lts t) name among in subst P is (full pure plain q has')))
        (λ last. subst P (only row_name.Keep last) (keep pure plain))
        (Contains-append_cases (map row_name.Full (states_with lts t)) (row_name.Keep ∷ []) name there))
        (Contains-cons_cases row_name.Empty name (map row_name.Full (states_with lts t) ++ row_name.Keep ∷ []) h)

-- what holds of each kind of row holds of each name
pub each_name : (lts : System) (class : Class) (problem : Problem) (number : ℕ) (P : RowName → Type 0)
    → ((name : RowName) → Contains (problem_rows lts class problem) name → P name)
    → (has_start class ≡ true → (q : ℕ) → q < states lts → P (row_name.Tokens q))
    → (is_some class.bound ≡ true → (q : ℕ) → q < states lts → P (row_name.Cap q))
    → (class.plain ≡ true → (u : ℕ) → u < labels lts → has_label u lts.arcs ≡ true → P (row_name.Up u))
    → (class.plain ≡ true → (u : ℕ) → u < labels lts → has_label u lts.arcs ≡ true → P (row_name.Down u))
    → (class.nonbranching ≡ true → (u : ℕ) → u < labels lts → has_label u lts.arcs ≡ true → u ≢ case_consumer lts problem number → P (row_name.Makes u))
    → (name : RowName) → Contains (names_of lts class problem number) name → P name
each_name lts class problem number P of_problem tokens cap up down makes name has =
    parts
    (in_one_of (problem_rows lts class problem) (tokens_names lts class) (cap_names lts class) (effect_names lts class) (makes_names lts class problem number) name has)
  where
    of_states : (row : ℕ → RowName) → ((q : ℕ) → q < states lts → P (row q)) → Contains (map row (all_numbers (states lts))) name → P name
    of_states row each h =
        let (q, has', is) = map_from row (all_numbers (states lts)) name h in
        let (_, _, lt) = where_is (λ q. true) 0 (states lts) q has' in
        subst P is (each q (omega arith))

    of_labels : (test : ℕ → Bool) (row : ℕ → RowName) → ((u : ℕ) → u < labels lts → test u ≡ true → P (row u)) → Contains (map row (numbers_where test 0 (labels lts))) name → P name
    of_labels test row each h =
        let (u, has', is) = map_from row (numbers_where test 0 (labels lts)) name h in
        let (e, _, lt) = where_is test 0 (labels lts) u has' in
        subst P is (each u (omega arith) e)

    differs : (u v : ℕ) (b : Bool) → b && not (u == v) ≡ true → u ≢ v
    differs u v b e same = let (_, not_equal) = and_parts b (not (u == v)) e in absurd (true≢false (sym not_equal ∙ ap not (eq-eqb u v same)))

    parts : IsPart lts class problem number name → P name
    parts (inl h) = of_problem name h
    parts (inr (inl h)) = let (c, h') = of_optional (has_start class) (map row_name.Tokens (all_numbers (states lts))) name h in of_states row_name.Tokens (tokens c) h'
    parts (inr (inr (inl h))) = let (c, h') = of_optional (is_some class.bound) (map row_name.Cap (all_numbers (states lts))) name h in of_states row_name.Cap (cap c) h'
    parts (inr (inr (inr (inl h)))) =
        let (c, h') = of_optional class.plain (map row_name.Up (used_labels lts) ++ map row_name.Down (used_labels lts)) name h in
        ⊎_elim
        (λ l. of_labels (λ t. has_label t lts.arcs) row_name.Up (up c) l)
        (λ r. of_labels (λ t. has_label t lts.arcs) row_name.Down (down c) r)
        (Contains-append_cases (map row_name.Up (used_labels lts)) (map row_name.Down (used_labels lts)) name h')
    parts (inr (inr (inr (inr h)))) =
        let (c, h') = of_optional class.nonbranching (map row_name.Makes (makers lts problem number)) name h in
        of_labels (may_make lts problem number) row_name.Makes
        (λ u lt e. makes c u lt (and_parts (has_label u lts.arcs) (not (u == case_consumer lts problem number)) e).0 (differs u
        (case_consumer lts problem number) (has_label u lts.arcs) e)) h'

-- ---- they stand

problem_names_stand : (lts : System) (class : Class) (s t number : ℕ) (name : RowName) → Contains (problem_rows lts class (Event s t)) name → RowStands lts class (Event s t) number [] name
problem_names_stand lts class s t number name has =
    each_problem_name lts class s t (λ n. RowStands lts class (Event s t) number [] n)
    (λ pure. pure)
    (λ pure plain. (plain, pure))
    (λ pure plain q has'. (plain, pure, arc_at q has'))
    (λ pure plain. (plain, pure))
    (λ pure plain q has'. (pure, plain, arc_at q has'))
    name has
  where
    arc_at : (q : ℕ) → Contains (states_with lts t) q → HasArcAt lts q t
    arc_at q has' = let (e, _, _) = where_is (λ q. has_label_at q t lts.arcs) 0 (states lts) q has' in found_at q t lts.arcs e

pub names_stand : (lts : System) (class : Class) (problem : Problem) (number : ℕ) (name : RowName) → Contains (names_of lts class problem number) name → RowStands lts class problem number [] name
names_stand lts class (Event s t) number name has =
    each_name lts class (Event s t) number (λ n. RowStands lts class (Event s t) number [] n)
    (problem_names_stand lts class s t number)
    (λ c q lt. tt)
    (λ c q lt. (lt, c))
    (λ c u lt _. (lt, c))
    (λ c u lt _. (lt, c))
    (λ c u lt _ differ. (lt, c, differ))
    name has
names_stand lts class (States s s') number name has =
    each_name lts class (States s s') number (λ n. RowStands lts class (States s s') number [] n)
    (λ n h. ⊎_elim (λ is. subst (λ m. RowStands lts class (States s s') number [] m) is tt) (λ there. absurd (nothing n there)) (Contains-cons_cases row_name.Apart n [] h))
    (λ c q lt. tt)
    (λ c q lt. (lt, c))
    (λ c u lt _. (lt, c))
    (λ c u lt _. (lt, c))
    (λ c u lt _ differ. (lt, c, differ))
    name has

-- ---- they name labels

apart_names : (n s s' order : ℕ) → NamesLabels n (apart_expression s s' order).terms
apart_names n s s' zero = tt
apart_names n s s' (suc order) = tt

pub names_labels : (lts : System) (class : Class) (problem : Problem) (number : ℕ) (name : RowName) → IsSeparationProblem lts problem
    → Contains (names_of lts class problem number) name → NamesLabels (labels lts) (row_expression lts class problem number [] name).terms
names_labels lts class (Event s t) number name (_, label, _) has =
    each_name lts class (Event s t) number (λ n. NamesLabels (labels lts) (row_expression lts class (Event s t) number [] n).terms)
    (λ n h. each_problem_name lts class s t (λ n. NamesLabels (labels lts) (row_expression lts class (Event s t) number [] n).terms)
    (λ pure. (label, tt)) (λ pure plain. tt) (λ pure plain q has'. tt) (λ pure plain. (label, tt)) (λ pure plain q has'. tt) n h)
    (λ c q lt. tt)
    (λ c q lt. tt)
    (λ c u lt _. (lt, tt))
    (λ c u lt _. (lt, tt))
    (λ c u lt _ differ. (lt, tt))
    name has
names_labels lts class (States s s') number name asked has =
    each_name lts class (States s s') number (λ n. NamesLabels (labels lts) (row_expression lts class (States s s') number [] n).terms)
    (λ n h. ⊎_elim (λ is. subst (λ m. NamesLabels (labels lts) (row_expression lts class (States s s') number [] m).terms) is
    (apart_names (labels lts) s s' (order_of lts class number))) (λ there. absurd (nothing n there)) (Contains-cons_cases row_name.Apart n [] h))
    (λ c q lt. tt)
    (λ c q lt. tt)
    (λ c u lt _. (lt, tt))
    (λ c u lt _. (lt, tt))
    (λ c u lt _ differ. (lt, tt))
    name has
