-- Descents that go on with further rows.
use Rattle.std.proofs.Common.{◌≡◌, ℕ, ◌+◌, ◌-◌, ◌^◌, ◌<◌, ◌≤◌, Bool, List, [], ◌∷◌, ◌++◌, length, length-append, append-nil, append_assoc, reverse, Result, Ok, Err, IfOk, ap, subst, sym, ◌∙◌, arith, le_refl}
use Rattle.std.specs.Prelude.{ℤ}
use Rattle.std.proofs.lemmas.List.{get_or_append_left}
use Rattle.rg_linear.specs.System.{LinearSystem, LinearRow, row_at, with_rows}
use Rattle.rg_linear.specs.Descent.{Outcome, DescentFrom, DescentFromStart}
use Rattle.rg_linear.specs.Stack.{limit, Resumes, Resumes.last}
use Rattle.rg_linear.proofs.Descending.{LeadsTo}
use Rattle.rg_revised.specs.Basis.{HasNorms}
use Rattle.rg_revised.specs.State.{HasRoomIn, IsRow, IsTableauOf}
use Rattle.rg_revised.specs.Reaching.{Extends, Reaches, HasCome, IsCopyWith, IsSavedAt}
use Rattle.rg_revised.specs.View.{TableauState, SavedState, saved_of}

-- ---- the larger systems

pub extends_itself : (system : LinearSystem) (norm : ℕ) → HasNorms system norm → Extends system norm system
extends_itself system norm norms = record { further = []; is = ap (λ rows. record { columns = system.columns; rows = rows }) (sym (append-nil system.rows)); norms = norms }

module _ (smaller : LinearSystem) (norm : ℕ) (system : LinearSystem) (larger : Extends smaller norm system) where
  pub extended_columns : system.columns ≡ smaller.columns
  extended_columns = ap (λ (s : LinearSystem). s.columns) larger.is

  pub extended_length : length smaller.rows ≤ length system.rows
  extended_length =
      let e = ap (λ (s : LinearSystem). length s.rows) larger.is in
      let l = length-append smaller.rows larger.further in
      omega arith

  pub extended_row : (i : ℕ) (coeffs : List ℤ) (constant : ℤ) → IsRow smaller i coeffs constant → IsRow system i coeffs constant
  extended_row i coeffs constant row = record {
    inside = (let le = extended_length in let lt = row.inside in omega arith);
    coeffs_are = ap (λ (r : LinearRow). r.coeffs) same ∙ row.coeffs_are;
    constant_is = ap (λ (r : LinearRow). r.constant) same ∙ row.constant_is;
    each = row.each ∙ sym extended_columns;
  }
    where
      same : row_at system i ≡ row_at smaller i
      same = ap (λ s. row_at s i) larger.is ∙ get_or_append_left smaller.rows larger.further _ i row.inside

  pub extended_room : (most : ℕ) (long : Bool) → HasRoomIn smaller norm most long → HasRoomIn system norm most long
  extended_room most long room = record { norms = larger.norms; norm_fits = room.norm_fits; some = room.some; most_fits = room.most_fits; short = room.short }

  -- a row before the fixed one, or before all rows
  pub extended_limit : (i : ℕ) (stack : List ℕ) → i < limit smaller stack → i < limit system stack
  extended_limit i [] lt = let le = extended_length in omega arith
  extended_limit i (s ∷ stack) lt = lt

-- ---- the loop over the rows

pub begins_to : (system : LinearSystem) (members stack : List ℕ) (from : ℕ) → stack ≡ [] → Reaches system members from → LeadsTo system members stack from
begins_to system members stack from none reaches o rest = go (subst (λ xs. Resumes system (reverse xs) members from o) none rest)
  where
    go : Resumes system [] members from o → DescentFromStart system o
    go (last rows) = reaches o rows

-- ---- one row more

-- a system with further rows after the last one is one with further rows after those before
pub after_front : (system : LinearSystem) (front : List LinearRow) (last_row : LinearRow) (norm : ℕ) (larger : LinearSystem)
    → Extends (with_rows system (front ++ last_row ∷ [])) norm larger → Extends (with_rows system front) norm larger
after_front system front last_row norm larger e = record {
  further = last_row ∷ e.further;
  is = e.is ∙ ap (λ rows. record { columns = system.columns; rows = rows }) joined;
  norms = e.norms;
}
  where
    joined : (system.rows ++ (front ++ last_row ∷ [])) ++ e.further ≡ (system.rows ++ front) ++ last_row ∷ e.further
    joined = ap (λ xs. xs ++ e.further) (sym (append_assoc system.rows front (last_row ∷ []))) ∙ append_assoc (system.rows ++ front) (last_row ∷ []) e.further

pub comes_to_last : (system : LinearSystem) (front : List LinearRow) (last_row : LinearRow) (t : TableauState) (count : ℕ) → count ≡ length (with_rows system (front ++ last_row ∷ [])).rows
    → HasNorms (with_rows system (front ++ last_row ∷ [])) t.norm → HasCome (with_rows system front) (length (with_rows system front).rows) t
    → HasCome (with_rows system (front ++ last_row ∷ [])) (count - 1) t
comes_to_last system front last_row t count is norms come = record {
  norms = norms;
  norm_fits = come.norm_fits;
  comes = λ larger e. subst (λ i. (members : List ℕ) × IsTableauOf larger members t × Reaches larger members i) (sym one_less)
      (come.comes larger (after_front system front last_row t.norm larger e));
}
  where
    one_less : count - 1 ≡ length (system.rows ++ front)
    one_less =
        let a = length-append system.rows (front ++ last_row ∷ []) in
        let b = length-append front (last_row ∷ []) in
        let c = length-append system.rows front in
        omega arith

-- ---- copies

pub saved_from : (smaller : LinearSystem) (t : TableauState) (s : SavedState) → s ≡ saved_of t → HasCome smaller (length smaller.rows) t → IsSavedAt smaller s
saved_from smaller t s is come = subst (IsSavedAt smaller) (sym is) (record {
  norms = come.norms;
  norm_fits = come.norm_fits;
  comes = λ system larger. (let (members, held, reaches) = come.comes system larger in (members, record { held = held.held; room = held.room }, reaches));
})

pub come_back : (smaller : LinearSystem) (s : SavedState) (t : TableauState) → t.norm ≡ s.norm
    → ((system : LinearSystem) (members : List ℕ) → IsCopyWith system members s → IsTableauOf system members t) → IsSavedAt smaller s → HasCome smaller (length smaller.rows) t
come_back smaller s t norm restored saved = record {
  norms = subst (HasNorms smaller) (sym norm) saved.norms;
  norm_fits = subst (λ n. n < 2 ^ 63) (sym norm) saved.norm_fits;
  comes = λ system larger. (let (members, copy, reaches) = saved.comes system (subst (λ n. Extends smaller n system) norm larger) in
      (members, restored system members copy, reaches));
}

pub saved_if : {E : Type 0} → (result : Result SavedState E) (t : TableauState) → IfOk result (λ s. s ≡ saved_of t)
    → IfOk result (λ s. (smaller : LinearSystem) → HasCome smaller (length smaller.rows) t → IsSavedAt smaller s)
saved_if (Ok s) t is = λ smaller come. saved_from smaller t s is come
saved_if (Err e) t is = tt
