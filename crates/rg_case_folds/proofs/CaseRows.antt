-- The named rows of a case and its system, at Start and effects that follow the relations.
use Rattle.std.proofs.Common.{◌≡◌, ⊎_elim, ◌↔◌, ℕ, false, List, [], Contains, sym, subst, ◌∙◌, arith}
use Rattle.std.specs.Prelude.{ℤ, pos, negsuc, ◌+ℤ◌, ◌*ℤ◌, ◌≤ℤ◌, ◌<ℤ◌}
use Rattle.std.proofs.lemmas.Int.{ints}
use Rattle.std.proofs.lemmas.Bool.{true≢false}
use Rattle.rg_theory.specs.declared.Arc.{Arc}
use Rattle.rg_theory.specs.declared.Class.{Class}
use Rattle.rg_theory.specs.declared.Problem.{Problem}
use Rattle.rg_theory.specs.declared.Problem.TheVariants.{Event, States}
use Rattle.rg_theory.specs.System.{System, arc, HasArc}
use Rattle.rg_theory.proofs.Lists.{Contains-cons_cases}
use Rattle.rg_cert_meaning.specs.declared.Variable.{Variable}
use Rattle.rg_cert_meaning.specs.Row.{RowStands, Says}
use Rattle.rg_cert_meaning.specs.declared.RowName.{RowName}
use Rattle.rg_case_folds.specs.Setting.{CaseSetting}
use Rattle.rg_case_folds.specs.Potentials.{potential}
use Rattle.rg_case_folds.specs.Rewriting.{has_start, problem_rows, names_of, CaseSystem}
use Rattle.rg_case_folds.specs.Values.{numbers_along, UnusedAreZero}
use Rattle.rg_case_folds.proofs.ChordRows.{effects_exact}
use Rattle.rg_case_folds.specs.Meaning.{IsLeftOut, RowHolds, KeepsRowsOver, IsTokensRow, IsCaseOver, AreEffects}
use Rattle.rg_case_folds.proofs.Lists.{nothing}
use Rattle.rg_case_folds.proofs.Names.{each_problem_name, each_name}
use Rattle.rg_cert_meaning.specs.declared.RowName.TheVariants as row_name
use Rattle.rg_cert_meaning.specs.declared.Variable.TheVariants.{Tokens}

-- ---- what rows say

abbrev pub IsArcRow : RowName → Type 0
IsArcRow (row_name.Arc a) = Unit {0}
IsArcRow name = ⊥

-- of a row but an arc's: its value is at least 0
pub says : (name : RowName) (z : ℤ) → ¬ IsArcRow name → pos 0 ≤ℤ z → Says name z
says (row_name.Arc a) z not_arc h = absurd (not_arc tt)
says name z not_arc h = h

pub said : (name : RowName) (z : ℤ) → Says name z → pos 0 ≤ℤ z
said (row_name.Arc a) z h = omega (arith, ints)
said name z h = h

-- the names of a case's rows are not of arcs
problem_name_no_arc : (lts : System) (class : Class) (problem : Problem) (name : RowName) → Contains (problem_rows lts class problem) name → ¬ IsArcRow name
problem_name_no_arc lts class (Event s t) name has =
    each_problem_name lts class s t (λ n. ¬ IsArcRow n) (λ pure h. h) (λ pure plain h. h) (λ pure plain q has h. h) (λ pure plain h. h) (λ pure plain q has h. h) name has
problem_name_no_arc lts class (States s s') name has = ⊎_elim (λ is. subst (λ n. ¬ IsArcRow n) is (λ h. h)) (λ there. absurd (nothing name there)) (Contains-cons_cases row_name.Apart name [] has)

pub name_no_arc : (lts : System) (class : Class) (problem : Problem) (number : ℕ) (name : RowName) → Contains (names_of lts class problem number) name → ¬ IsArcRow name
name_no_arc lts class problem number name has =
    each_name lts class problem number (λ n. ¬ IsArcRow n) (problem_name_no_arc lts class problem) (λ c q lt h. h) (λ c q lt h. h)
    (λ c u lt used h. h) (λ c u lt used h. h) (λ c u lt used differ h. h) name has

-- where Start is no column they are not of tokens
problem_name_no_tokens : (lts : System) (class : Class) (problem : Problem) (name : RowName) → Contains (problem_rows lts class problem) name → ¬ IsTokensRow name
problem_name_no_tokens lts class (Event s t) name has =
    each_problem_name lts class s t (λ n. ¬ IsTokensRow n) (λ pure h. h) (λ pure plain h. h) (λ pure plain q has h. h) (λ pure plain h. h) (λ pure plain q has h. h) name has
problem_name_no_tokens lts class (States s s') name has =
    ⊎_elim (λ is. subst (λ n. ¬ IsTokensRow n) is (λ h. h)) (λ there. absurd (nothing name there)) (Contains-cons_cases row_name.Apart name [] has)

pub name_no_tokens : (lts : System) (class : Class) (problem : Problem) (number : ℕ) (name : RowName) → has_start class ≡ false → Contains (names_of lts class problem number) name → ¬ IsTokensRow name
name_no_tokens lts class problem number name none has =
    each_name lts class problem number (λ n. ¬ IsTokensRow n) (problem_name_no_tokens lts class problem) (λ c q lt h. true≢false (sym c ∙ none))
    (λ c q lt h. h) (λ c u lt used h. h) (λ c u lt used h. h) (λ c u lt used differ h. h) name has

-- ---- rows of arcs

pub arc_stands : (lts : System) (class : Class) (problem : Problem) (number q t q' : ℕ) → RowStands lts class problem number [] (row_name.Arc (arc q t q')) → HasArc lts q t q'
arc_stands lts class (Event s u) number q t q' h = h
arc_stands lts class (States s s') number q t q' h = h

pub arcs_hold : (it : CaseSetting) (case : CaseSystem) (start : ℤ) (effect : ℕ → ℤ) (scale : ℤ) (q t q' : ℕ) → IsCaseOver it case
    → AreEffects it.lts it.tree it.basis effect → HasArc it.lts q t q'
    → RowHolds it.lts it.class it.problem it.number scale (numbers_along it.lts it.tree start effect) (row_name.Arc (arc q t q'))
arcs_hold it case start effect scale q t q' c e has = by it.problem
  where
    kept : potential it.lts it.tree start effect q +ℤ effect t ≡ potential it.lts it.tree start effect q'
    kept = (effects_exact it.lts it.tree it.basis start effect c.in_range c.is_tree c.is_basis).1 e.follows (arc q t q') has

    zero_row : (a e b k : ℤ) → a +ℤ e ≡ b → ((pos 1 *ℤ a) +ℤ ((pos 1 *ℤ e) +ℤ ((negsuc 0 *ℤ b) +ℤ pos 0))) +ℤ (pos 0 *ℤ k) ≡ pos 0
    zero_row a e b k p = omega (arith, ints)

    by : (p : Problem) → RowHolds it.lts it.class p it.number scale (numbers_along it.lts it.tree start effect) (row_name.Arc (arc q t q'))
    by (Event s u) = zero_row (potential it.lts it.tree start effect q) (effect t) (potential it.lts it.tree start effect q') scale kept
    by (States s s') = zero_row (potential it.lts it.tree start effect q) (effect t) (potential it.lts it.tree start effect q') scale kept

-- ---- rows that are left out

-- rows of effects of labels without an arc hold
pub effect_holds : (lts : System) (tree : List Arc) (class : Class) (problem : Problem) (number : ℕ) (start : ℤ) (effect : ℕ → ℤ) (scale : ℤ) (name : RowName)
    → UnusedAreZero lts effect → pos 0 <ℤ scale → RowStands lts class problem number [] name → IsLeftOut lts class name → ¬ IsArcRow name → ¬ IsTokensRow name
    → RowHolds lts class problem number scale (numbers_along lts tree start effect) name
effect_holds lts tree class (Event s u) number start effect scale (row_name.Up t) unused positive stands out no_arc no_tokens = let e = unused t out in omega (arith, ints)
effect_holds lts tree class (Event s u) number start effect scale (row_name.Down t) unused positive stands out no_arc no_tokens = let e = unused t out in omega (arith, ints)
effect_holds lts tree class (Event s u) number start effect scale (row_name.Makes t) unused positive stands out no_arc no_tokens = let e = unused t out in omega (arith, ints)
effect_holds lts tree class (States s s') number start effect scale (row_name.Up t) unused positive stands out no_arc no_tokens = let e = unused t out in omega (arith, ints)
effect_holds lts tree class (States s s') number start effect scale (row_name.Down t) unused positive stands out no_arc no_tokens = let e = unused t out in omega (arith, ints)
effect_holds lts tree class (States s s') number start effect scale (row_name.Makes t) unused positive stands out no_arc no_tokens = let e = unused t out in omega (arith, ints)
effect_holds lts tree class problem number start effect scale (row_name.Arc a) unused positive stands out no_arc no_tokens = absurd (no_arc tt)
effect_holds lts tree class problem number start effect scale (row_name.Tokens q) unused positive stands out no_arc no_tokens = absurd (no_tokens tt)
effect_holds lts tree class problem number start effect scale name unused positive stands out no_arc no_tokens = absurd out

-- the row of the tokens of q
pub tokens_row_holds : (lts : System) (class : Class) (problem : Problem) (number : ℕ) (scale : ℤ) (x : Variable → ℤ) (q : ℕ)
    → (pos 0 ≤ℤ x (Tokens q)) ↔ RowHolds lts class problem number scale x (row_name.Tokens q)
tokens_row_holds lts class problem number scale x q = by problem
  where
    there : (z k : ℤ) → pos 0 ≤ℤ z → pos 0 ≤ℤ (((pos 1 *ℤ z) +ℤ pos 0) +ℤ (pos 0 *ℤ k))
    there z k h = omega (arith, ints)

    back : (z k : ℤ) → pos 0 ≤ℤ (((pos 1 *ℤ z) +ℤ pos 0) +ℤ (pos 0 *ℤ k)) → pos 0 ≤ℤ z
    back z k h = omega (arith, ints)

    by : (p : Problem) → (pos 0 ≤ℤ x (Tokens q)) ↔ RowHolds lts class p number scale x (row_name.Tokens q)
    by (Event s t) = (there (x (Tokens q)) scale, back (x (Tokens q)) scale)
    by (States s s') = (there (x (Tokens q)) scale, back (x (Tokens q)) scale)

pub tokens_stand : (lts : System) (class : Class) (problem : Problem) (number q : ℕ) → RowStands lts class problem number [] (row_name.Tokens q)
tokens_stand lts class (Event s t) number q = tt
tokens_stand lts class (States s s') number q = tt

-- numbers that keep all rows leave no tokens below 0
pub kept_tokens : (lts : System) (class : Class) (problem : Problem) (number : ℕ) (scale : ℤ) (x : Variable → ℤ) → KeepsRowsOver lts class problem number scale x
    → (q : ℕ) → pos 0 ≤ℤ x (Tokens q)
kept_tokens lts class problem number scale x keeps q = (tokens_row_holds lts class problem number scale x q).1 (keeps (row_name.Tokens q) (tokens_stand lts class problem number q))

-- by kinds: of arcs, of tokens, and others
pub each_kind : (P : RowName → Type 0) → ((name : RowName) → IsArcRow name → P name) → ((name : RowName) → IsTokensRow name → P name)
    → ((name : RowName) → ¬ IsArcRow name → ¬ IsTokensRow name → P name) → (name : RowName) → P name
each_kind P arcs tokens rest (row_name.Arc a) = arcs (row_name.Arc a) tt
each_kind P arcs tokens rest (row_name.Tokens q) = tokens (row_name.Tokens q) tt
each_kind P arcs tokens rest name = rest name (λ h. h) (λ h. h)
