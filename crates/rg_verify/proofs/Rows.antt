-- Rows added to the table, one after another.
use Rattle.std.proofs.Common.{◌≡◌, ℕ, ◌+◌, ◌*◌, ◌<◌, List, [], ◌∷◌, ◌++◌, map, length, take, drop, get_or, All, inl, inr, sym, subst, ap, ◌∙◌, arith, ℤ, pos, ◌*ℤ◌, nat_abs}
use Rattle.std.proofs.lemmas.Int.{ints, unsigned_abs-mul}
use Rattle.std.proofs.lemmas.List.{map-append, drop_more, take-append-drop}
use Rattle.std.proofs.lemmas.List.Elements.{All-weaker}
use Rattle.std.proofs.lemmas.List.Sums.{sum_by-append, sum_by-cons}
use Rattle.rg_integers.proofs.ListSums.{sum_over-append}
use Rattle.rg_theory.specs.System.{System, states, labels}
use Rattle.rg_cert_meaning.specs.Expression as linear
use Rattle.rg_cert_meaning.specs.Expression.{coefficient_in}
use Rattle.rg_cert_meaning.specs.declared.RowName.{RowName}
use Rattle.rg_cert_meaning.specs.Row.{Side}
use Rattle.rg_cert_meaning.specs.Refutes.{NamedRow, IsSmall}
use Rattle.rg_integers.specs.Range.{InRange}
use Rattle.rg_cert_data.specs.Certificates.{IsRowOf, IsFormOf, IsTermWithin}
use Rattle.rg_cert_data.specs.Trees.{named_row}
use Rattle.rg_cert_data.specs.declared.sum.Expression.{Expression}
use Rattle.rg_verify.specs.declared.sums.Sums.{Sums}
use Rattle.rg_verify.proofs.Places.{image_at}
use Rattle.rg_verify.specs.Terms.{size_in, IsReducedSum, IsExpressionOf}
use Rattle.rg_verify.specs.Sides.{IsSideOf}
use Rattle.rg_cert_data.specs.Sums.{terms_in, expression_of}
use Rattle.rg_verify.specs.Sums.{IsTidy, HasSameVariables, IsTableOf, AreSumsOf, AddsRow, PassesByRow}
use Rattle.rg_cert_meaning.specs.declared.Variable.{Variable}
use Rattle.rg_cert_meaning.specs.declared.RowName.TheVariants as row_name

-- what a loop over rows reads past their end
abbrev pub no_row : RowName × ℤ
no_row = (row_name.Arc (record { from = 0; label = 0; to = 0 }), pos 0)

pub table_kept : (lts : System) (old new : Sums) → IsTableOf lts old → HasSameVariables old new → IsTidy new → IsTableOf lts new
table_kept lts old new table same tidy = record { tokens = same.tokens ∙ table.tokens; effects = same.effects ∙ table.effects; tidy = tidy }

-- the sides' forms are of states and labels of the system
pub all_forms : (lts : System) (above : List Side) → All (IsSideOf lts) above → All (λ s. IsFormOf lts s.form) above
all_forms lts above each = All-weaker (IsSideOf lts) (λ s. IsFormOf lts s.form) (λ s is. is.0) above each

-- an expression without opposite terms is that of its row
pub reduced_row : (lts : System) (e new : Expression) (row : linear.Expression) → expression_of e ≡ row
    → IsReducedSum (terms_in e.terms) (terms_in new.terms) → new.constant ≡ e.constant → All (IsTermWithin (states lts) (labels lts)) row.terms
    → IsExpressionOf lts new row
reduced_row lts e new row is reduced constant within =
    let terms : terms_in e.terms ≡ row.terms = ap (λ (x : linear.Expression). x.terms) is in record {
      in_range = reduced.within (states lts) (labels lts) (subst (All (IsTermWithin (states lts) (labels lts))) (sym terms) within);
      coefficients = λ v. reduced.coefficients v ∙ ap (λ ts. coefficient_in ts v) terms;
      sizes = λ v. reduced.sizes v ∙ ap (λ ts. nat_abs (coefficient_in ts v)) terms;
      constant = constant ∙ ap (λ (x : linear.Expression). x.constant) is;
    }

-- what a row adds to a sum of absolute values
added_size : (lts : System) (e : Expression) (row : linear.Expression) (k : ℤ) (v : Variable) → IsExpressionOf lts e row
    → nat_abs k * size_in (terms_in e.terms) v ≡ nat_abs (k *ℤ coefficient_in row.terms v)
added_size lts e row k v is = ap (λ n. nat_abs k * n) (is.sizes v) ∙ sym (unsigned_abs-mul k (coefficient_in row.terms v))

-- the sums with one row more
pub sums_more : (lts : System) (expression : RowName → linear.Expression) (rows : List NamedRow) (r : NamedRow) (e : Expression) (old new : Sums)
    → AreSumsOf expression rows old → IsExpressionOf lts e (expression r.name)
    → AddsRow r.multiplier (terms_in e.terms) e.constant old new → AreSumsOf expression (rows ++ r ∷ []) new
sums_more lts expression rows r e old new sums is adds = record {
  coefficients = λ v.
      let a = adds.signed v in let b = sums.coefficients v in
      let d = ap (λ z. r.multiplier *ℤ z) (is.coefficients v) in
      rw (sum_over-append (λ (x : NamedRow). x.multiplier *ℤ coefficient_in (expression x.name).terms v) rows (r ∷ [])) (omega (arith, ints));
  sizes = λ v.
      let a = adds.sizes v in let b = sums.sizes v in let d = added_size lts e (expression r.name) r.multiplier v is in
      rw (sum_by-append (λ (x : NamedRow). nat_abs (x.multiplier *ℤ coefficient_in (expression x.name).terms v)) rows (r ∷ [])) (omega arith);
  constant =
      let a = adds.constant in let b = sums.constant in
      let d = ap (λ z. r.multiplier *ℤ z) is.constant in
      rw (sum_over-append (λ (x : NamedRow). x.multiplier *ℤ (expression x.name).constant) rows (r ∷ [])) (omega (arith, ints));
  constant_size =
      let a = adds.constant_size in let b = sums.constant_size in
      let d = ap (λ z. nat_abs (r.multiplier *ℤ z)) is.constant in
      rw (sum_by-append (λ (x : NamedRow). nat_abs (x.multiplier *ℤ (expression x.name).constant)) rows (r ∷ [])) (omega arith);
}

-- where a sum passes with one row more, the sums of all rows aren't small
passes_more : (lts : System) (expression : RowName → linear.Expression) (rows rest : List NamedRow) (r : NamedRow) (e : Expression) (old : Sums)
    → AreSumsOf expression rows old → IsExpressionOf lts e (expression r.name)
    → PassesByRow r.multiplier (terms_in e.terms) e.constant old → IsSmall expression (rows ++ (r ∷ rest)) → ⊥
passes_more lts expression rows rest r e old sums is (inl (v, more)) small =
    let a = sums.sizes v in let d = added_size lts e (expression r.name) r.multiplier v is in
    let s = small.coefficients v in
    let t = sum_by-append (λ (x : NamedRow). nat_abs (x.multiplier *ℤ coefficient_in (expression x.name).terms v)) rows (r ∷ rest) in
    let u = sum_by-cons (λ (x : NamedRow). nat_abs (x.multiplier *ℤ coefficient_in (expression x.name).terms v)) r rest in
    omega (arith, a, d, s, t, u, more)
passes_more lts expression rows rest r e old sums is (inr more) small =
    let a = sums.constant_size in let d = ap (λ z. nat_abs (r.multiplier *ℤ z)) is.constant in
    let s = small.constants in
    let t = sum_by-append (λ (x : NamedRow). nat_abs (x.multiplier *ℤ (expression x.name).constant)) rows (r ∷ rest) in
    let u = sum_by-cons (λ (x : NamedRow). nat_abs (x.multiplier *ℤ (expression x.name).constant)) r rest in
    omega (arith, a, d, s, t, u, more)

-- the same for rows of the code, at a place among all
pub passes_among : {X : Type 0} (lts : System) (expression : RowName → linear.Expression) (named : X → NamedRow) (rows : List X) (i : ℕ) (d : X)
    (e : Expression) (old : Sums) → i < length rows → AreSumsOf expression (map named (take i rows)) old
    → IsExpressionOf lts e (expression (named (get_or rows i d)).name) → PassesByRow (named (get_or rows i d)).multiplier (terms_in e.terms) e.constant old → IsSmall expression (map named rows) → ⊥
passes_among lts expression named rows i d e old lt sums is passes small =
    let around : map named rows ≡ map named (take i rows) ++ (named (get_or rows i d) ∷ map named (drop (i + 1) rows)) =
    ap (map named) (sym (take-append-drop i rows)) ∙ map-append named (take i rows) (drop i rows) ∙ ap (λ ys. map named (take i rows) ++ map named ys) (drop_more rows i d lt) in
    passes_more lts expression (map named (take i rows)) (map named (drop (i + 1) rows)) (named (get_or rows i d)) e old sums is passes (subst (IsSmall expression) around small)

-- the multiplier of a row is in range
pub multiplier_at : (lts : System) (rows : List (RowName × ℤ)) (i : ℕ) → All (IsRowOf lts) (map named_row rows) → i < length rows → InRange (get_or rows i no_row).1
multiplier_at lts rows i each lt = let h = (image_at (IsRowOf lts) named_row rows i no_row each lt).multiplier in omega (arith, h)
