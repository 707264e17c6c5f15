-- The kept rows make a system.
use Rattle.std.proofs.Common.{◌≡◌, ℕ, zero, suc, ◌+◌, ◌*◌, ◌^◌, ◌<◌, ◌≤◌, ◌==◌, ◌&&◌, not, is_some, Bool, true, false, if◌then◌else◌, List, [], ◌∷◌, ◌++◌, map, length, All, Contains, ap, refl, subst, sym, ◌∙◌, arith}
use Rattle.std.specs.Prelude.{pos}
use Rattle.std.proofs.lemmas.List.{length-map, length-append}
use Rattle.std.proofs.lemmas.List.Elements.{Contains-get_or}
use Rattle.rg_integers.specs.Range.{InRange}
use Rattle.rg_theory.specs.declared.Class.{Class}
use Rattle.rg_theory.specs.declared.Problem.{Problem}
use Rattle.rg_theory.specs.declared.Problem.TheVariants.{Event, States}
use Rattle.rg_theory.specs.System.{System, states, labels}
use Rattle.rg_cert_meaning.specs.Row.{case_consumer}
use Rattle.rg_cert_meaning.specs.declared.RowName.{RowName}
use Rattle.rg_linear.specs.System.{LinearRow, row_at}
use Rattle.rg_linear.specs.Firsts.{KeepsEqualRows}
use Rattle.rg_linear.proofs.Firsts.{kept_is, kept_count}
use Rattle.rg_folds.specs.Substitution.{numbers_where}
use Rattle.rg_case_folds.specs.Rewriting.{used_labels, has_label, has_label_at, states_with, has_start, problem_rows, names_of, KeptRow, IsIdle}
use Rattle.rg_linear.specs.declared.row.Row.{Row}
use Rattle.rg_linear.specs.View.{linear_row, linear_system, IsWellFormed}
use Rattle.rg_rows.specs.declared.case_row.CaseRow.{CaseRow}
use Rattle.rg_rows.specs.View.{kept_row}
use Rattle.rg_rows.specs.Sharing.{shared_names}
use Rattle.rg_case_parts.proofs.Picking.{where_few}
use Rattle.rg_cert_meaning.specs.declared.RowName.TheVariants as row_name

-- ---- how many rows are named

few_if : (b : Bool) (make : ℕ → RowName) (test : ℕ → Bool) (n : ℕ) → length (if b then map make (numbers_where test 0 n) else []) ≤ n
few_if true make test n = let h = where_few test 0 n in let e = length-map (numbers_where test 0 n) make in omega arith
few_if false make test n = omega arith

problem_few : (lts : System) (class : Class) (problem : Problem) → length (problem_rows lts class problem) ≤ states lts + 2
problem_few lts class (Event s t) = go class.pure class.plain
  where
    go : (pure plain : Bool) → length (if pure then (row_name.Block ∷ []) else
        (if plain then (row_name.Empty ∷ map row_name.Full (states_with lts t) ++ row_name.Keep ∷ []) else map row_name.Stop (states_with lts t))) ≤ states lts + 2
    go true plain = omega arith
    go false true = let h = few_if true row_name.Full (λ q. has_label_at q t lts.arcs) (states lts) in let e = length-append (map row_name.Full (states_with lts t)) (row_name.Keep ∷ []) in omega arith
    go false false = let h = few_if true row_name.Stop (λ q. has_label_at q t lts.arcs) (states lts) in omega arith
problem_few lts class (States s s') = omega arith

sides_few : (lts : System) (b : Bool) → length (if b then (map row_name.Up (used_labels lts) ++ map row_name.Down (used_labels lts)) else []) ≤ 2 * labels lts
sides_few lts true = let h = few_if true row_name.Up (λ t. has_label t lts.arcs) (labels lts) in let k =
    few_if true row_name.Down (λ t. has_label t lts.arcs) (labels lts) in let e =
    length-append (map row_name.Up (used_labels lts)) (map row_name.Down (used_labels lts)) in omega arith
sides_few lts false = omega arith

pub shared_few : (lts : System) (class : Class) → length (shared_names lts class) ≤ 2 * states lts + 2 * labels lts
shared_few lts class =
    let tokens = few_if (has_start class) row_name.Tokens (λ q. true) (states lts) in
    let caps = few_if (is_some class.bound) row_name.Cap (λ q. true) (states lts) in
    let sides = sides_few lts class.plain in
    simp length-append (omega arith)

pub names_few : (lts : System) (class : Class) (problem : Problem) (number : ℕ) → length (names_of lts class problem number) ≤ 3 * states lts + 3 * labels lts + 2
names_few lts class problem number =
    let own = problem_few lts class problem in
    let tokens = few_if (has_start class) row_name.Tokens (λ q. true) (states lts) in
    let caps = few_if (is_some class.bound) row_name.Cap (λ q. true) (states lts) in
    let sides = sides_few lts class.plain in
    let makes = few_if class.nonbranching row_name.Makes (λ u. has_label u lts.arcs && not (u == case_consumer lts problem number)) (labels lts) in
    simp length-append (omega arith)

-- ---- the rows are over the columns, and in range

record Fits (columns : ℕ) (r : LinearRow) : Type 0 where
  pub one_each : length r.coeffs ≡ columns
  pub coeffs : All InRange r.coeffs
  pub constant : InRange r.constant

pub from_map : {A B : Type 0} (f : A → B) (xs : List A) (y : B) → Contains (map f xs) y → (x : A) × Contains xs x × (f x ≡ y)
from_map f [] y (k, lt, e) = absurd (omega arith)
from_map f (x ∷ xs) y (zero, lt, e) = (x, (0, omega arith, refl), e)
from_map f (x ∷ xs) y (suc k, lt, e) = let (z, (j, below, is), same) = from_map f xs y (k, omega arith, e) in (z, (suc j, omega arith, is), same)

module _ (columns : ℕ) (all : List CaseRow) (rows : List Row) (kept : List KeptRow) (shown : map linear_row rows ≡ map (λ k. k.row) kept)
    (firsts : KeepsEqualRows (λ k. k.row) IsIdle [] (map kept_row all) kept) (lengths : All (λ r. length r.coeffs.items ≡ columns) all) where
  named_fits : (r : CaseRow) → Contains all r → Fits columns (kept_row r).row
  named_fits r (k, lt, is) = record { one_each = subst (λ (x : CaseRow). length x.coeffs.items ≡ columns) is (lengths k r lt); coeffs = r.coeffs_in_range; constant = r.constant_in_range }

  row_fits : (r : LinearRow) → Contains (map linear_row rows) r → Fits columns r
  row_fits r has =
      let (k, in_kept, same) = from_map (λ (x : KeptRow). x.row) kept r (subst (λ l. Contains l r) shown has) in
      let (n, in_all, is) = from_map kept_row all k (kept_is (λ (x : KeptRow). x.row) IsIdle [] (map kept_row all) kept k firsts in_kept) in
      subst (Fits columns) (ap (λ (x : KeptRow). x.row) is ∙ same) (named_fits n in_all)

  pub well_formed : columns + length all < 2 ^ 32 → IsWellFormed (linear_system columns rows)
  well_formed few = record {
    few = let h = kept_count (λ (x : KeptRow). x.row) IsIdle [] (map kept_row all) kept firsts in let e = ap length shown in let f =
        length-map kept (λ (x : KeptRow). x.row) in let g = length-map all kept_row in omega arith;
    one_each = λ i lt. (each i lt).one_each;
    coeffs = λ i j lt lt'. (each i lt).coeffs j (pos 0) (subst (λ n. j < n) (sym (each i lt).one_each) lt');
    constants = λ i lt. (each i lt).constant;
  }
    where
      each : (i : ℕ) → i < length (map linear_row rows) → Fits columns (row_at (linear_system columns rows) i)
      each i lt = row_fits (row_at (linear_system columns rows) i) (Contains-get_or (map linear_row rows) i _ lt)
