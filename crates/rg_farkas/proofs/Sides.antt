-- The rows of the sides of splits.
use Rattle.std.proofs.Common.{◌≡◌, ℕ, zero, suc, ◌<◌, true, List, [], ◌∷◌, length, map, Contains, Some, ap₂, refl, subst, sym, ◌∙◌, arith}
use Rattle.std.specs.Prelude.{ℤ, neg_ℤ, ◌+ℤ◌, ◌*ℤ◌, slice_get, slice_index_or}
use Rattle.std.proofs.lemmas.Int.{ints}
use Rattle.rg_theory.specs.declared.Class.{Class}
use Rattle.rg_theory.specs.declared.Problem.{Problem}
use Rattle.rg_theory.specs.declared.Problem.TheVariants.{Event, States}
use Rattle.rg_theory.specs.System.{System, states}
use Rattle.rg_integers.specs.Sum.{dot}
use Rattle.rg_integers.proofs.Ring.{ring}
use Rattle.rg_cert_meaning.specs.Row.{form_variable, FormStands, SideStands, RowStands, row_expression, Side, side_expression}
use Rattle.rg_cert_meaning.specs.declared.Form.{Form}
use Rattle.rg_cert_meaning.specs.declared.RowName.{RowName}
use Rattle.rg_case_folds.specs.Rewriting.{has_start, split_forms}
use Rattle.rg_case_folds.proofs.Forms.{IsSplitOf, split_is, split_starts, start_split}
use Rattle.rg_farkas.proofs.Names.{IsUsed}
use Rattle.rg_cert_meaning.specs.declared.RowName.TheVariants as row_name
use Rattle.rg_cert_meaning.specs.declared.Form.TheVariants as split_form

-- ---- expressions below sides

-- the sides say nothing of the rows that stand without them
pub same_expression : (lts : System) (class : Class) (problem : Problem) (number : ℕ) (above : List Side) (name : RowName)
    → RowStands lts class problem number [] name → row_expression lts class problem number above name ≡ row_expression lts class problem number [] name
same_expression lts class (Event s u) number above (row_name.Arc a) h = refl
same_expression lts class (Event s u) number above (row_name.Tokens q) h = refl
same_expression lts class (Event s u) number above (row_name.Cap q) h = refl
same_expression lts class (Event s u) number above (row_name.Up t) h = refl
same_expression lts class (Event s u) number above (row_name.Down t) h = refl
same_expression lts class (Event s u) number above (row_name.Makes t) h = refl
same_expression lts class (Event s u) number above (row_name.Stop q) h = refl
same_expression lts class (Event s u) number above row_name.Block h = refl
same_expression lts class (Event s u) number above row_name.Empty h = refl
same_expression lts class (Event s u) number above (row_name.Full q) h = refl
same_expression lts class (Event s u) number above row_name.Keep h = refl
same_expression lts class (Event s u) number above row_name.Apart h = refl
same_expression lts class (Event s u) number above (row_name.Above d) h = absurd h
same_expression lts class (States s u) number above (row_name.Arc a) h = refl
same_expression lts class (States s u) number above (row_name.Tokens q) h = refl
same_expression lts class (States s u) number above (row_name.Cap q) h = refl
same_expression lts class (States s u) number above (row_name.Up t) h = refl
same_expression lts class (States s u) number above (row_name.Down t) h = refl
same_expression lts class (States s u) number above (row_name.Makes t) h = refl
same_expression lts class (States s u) number above (row_name.Stop q) h = refl
same_expression lts class (States s u) number above row_name.Block h = refl
same_expression lts class (States s u) number above row_name.Empty h = refl
same_expression lts class (States s u) number above (row_name.Full q) h = refl
same_expression lts class (States s u) number above row_name.Keep h = refl
same_expression lts class (States s u) number above row_name.Apart h = refl
same_expression lts class (States s u) number above (row_name.Above d) h = absurd h

pub stands_below : (lts : System) (class : Class) (problem : Problem) (number : ℕ) (above : List Side) (name : RowName)
    → RowStands lts class problem number [] name → RowStands lts class problem number above name
stands_below lts class (Event s u) number above (row_name.Arc a) h = h
stands_below lts class (Event s u) number above (row_name.Tokens q) h = h
stands_below lts class (Event s u) number above (row_name.Cap q) h = h
stands_below lts class (Event s u) number above (row_name.Up t) h = h
stands_below lts class (Event s u) number above (row_name.Down t) h = h
stands_below lts class (Event s u) number above (row_name.Makes t) h = h
stands_below lts class (Event s u) number above (row_name.Stop q) h = h
stands_below lts class (Event s u) number above row_name.Block h = h
stands_below lts class (Event s u) number above row_name.Empty h = h
stands_below lts class (Event s u) number above (row_name.Full q) h = h
stands_below lts class (Event s u) number above row_name.Keep h = h
stands_below lts class (Event s u) number above row_name.Apart h = h
stands_below lts class (Event s u) number above (row_name.Above d) h = absurd h
stands_below lts class (States s u) number above (row_name.Arc a) h = h
stands_below lts class (States s u) number above (row_name.Tokens q) h = h
stands_below lts class (States s u) number above (row_name.Cap q) h = h
stands_below lts class (States s u) number above (row_name.Up t) h = h
stands_below lts class (States s u) number above (row_name.Down t) h = h
stands_below lts class (States s u) number above (row_name.Makes t) h = h
stands_below lts class (States s u) number above (row_name.Stop q) h = h
stands_below lts class (States s u) number above row_name.Block h = h
stands_below lts class (States s u) number above row_name.Empty h = h
stands_below lts class (States s u) number above (row_name.Full q) h = h
stands_below lts class (States s u) number above row_name.Keep h = h
stands_below lts class (States s u) number above row_name.Apart h = h
stands_below lts class (States s u) number above (row_name.Above d) h = absurd h

-- a side's own row
pub above_expression : (lts : System) (class : Class) (problem : Problem) (number : ℕ) (above : List Side) (d : ℕ)
    → row_expression lts class problem number above (row_name.Above d) ≡ side_expression class lts.initial (slice_get above d)
above_expression lts class (Event s t) number above d = refl
above_expression lts class (States s s') number above d = refl

pub above_stands : (lts : System) (class : Class) (problem : Problem) (number : ℕ) (above : List Side) (d : ℕ) (side : Side)
    → slice_get above d ≡ Some side → FormStands class side.form → RowStands lts class problem number above (row_name.Above d)
above_stands lts class (Event s t) number above d side e stands = subst (SideStands class) (sym e) stands
above_stands lts class (States s s') number above d side e stands = subst (SideStands class) (sym e) stands

-- ---- lists

pub get-map : {A B : Type 0} (f : A → B) (xs : List A) (i : ℕ) (d : A) → i < length xs → slice_get (map f xs) i ≡ Some (f (slice_index_or xs i d))
get-map f [] i d lt = absurd (omega arith)
get-map f (x ∷ xs) zero d lt = refl
get-map f (x ∷ xs) (suc i) d lt = get-map f xs i d (omega arith)

pub dot-neg : (xs ys : List ℤ) → dot (map neg_ℤ xs) ys ≡ neg_ℤ (dot xs ys)
dot-neg [] ys = refl
dot-neg (x ∷ xs) [] = refl
dot-neg (x ∷ xs) (y ∷ ys) = ap₂ ◌+ℤ◌ (turn x y) (dot-neg xs ys) ∙ both (x *ℤ y) (dot xs ys)
  where
    turn : (x y : ℤ) → neg_ℤ x *ℤ y ≡ neg_ℤ (x *ℤ y)
    turn x y = simp ring

    both : (a b : ℤ) → neg_ℤ a +ℤ neg_ℤ b ≡ neg_ℤ (a +ℤ b)
    both a b = omega (arith, ints)

-- ---- which variables have a form

pub form_used : (lts : System) (class : Class) (problem : Problem) (split : Form) → lts.initial < states lts
    → Contains (split_forms lts class problem) split → IsUsed lts (form_variable lts.initial split) × (has_start class ≡ true) × FormStands class split
form_used lts class problem split first has = let own = split_is lts class problem split has in (by split own, split_starts lts class problem split own, stands split own)
  where
    by : (split : Form) → IsSplitOf lts class problem split → IsUsed lts (form_variable lts.initial split)
    by (split_form.Tokens q) (bound, lt) = lt
    by (split_form.Effect t) (bound, plain, used, lt) = (lt, used)
    by split_form.Start splits = first

    stands : (split : Form) → IsSplitOf lts class problem split → FormStands class split
    stands (split_form.Tokens q) h = tt
    stands (split_form.Effect t) h = tt
    stands split_form.Start splits = (start_split class problem splits).0
