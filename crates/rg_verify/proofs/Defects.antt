-- What is wrong with the rows of a leaf.
use Rattle.std.proofs.Common.{ℕ, ◌<◌, List, Option, Some, None, MatchOption, map, length, take, get_or, All, option_map, sym, subst, ap, ◌∙◌, pos, ◌<ℤ◌, arith}
use Rattle.std.proofs.lemmas.List.{take-map}
use Rattle.std.proofs.lemmas.Option.{slice_get-map, slice_get-get_or}
use Rattle.rg_theory.specs.System.{System}
use Rattle.rg_cert_meaning.specs.Expression as linear
use Rattle.rg_cert_meaning.specs.declared.RowName.{RowName}
use Rattle.rg_cert_meaning.specs.Refutes.{NamedRow, IsSmall, LeafRefutes}
use Rattle.rg_cert_data.specs.Certificates.{IsVariableOf, IsRowOf}
use Rattle.rg_verify.specs.declared.verdict.Defect.{Defect}
use Rattle.rg_verify.specs.declared.verdict.Defect.TheVariants.{WrongRow, NotPositive, LeftOver, NoContradiction, SumPasses, WrongForm, CaseMissing, NotSo}
use Rattle.rg_verify.specs.declared.sums.Sums.{Sums}
use Rattle.rg_verify.specs.Judged.{IsReached, IsRightRow, IsDefectOf}
use Rattle.rg_verify.specs.Sums.{entry_of, HasEntry, IsTableOf, AreSumsOf, HasNoDefect, IsSumDefect}
use Rattle.rg_verify.proofs.Tables.{size_small}
use Rattle.rg_cert_meaning.specs.declared.Variable.{Variable}
use Rattle.rg_cert_meaning.specs.declared.Variable.TheVariants.{Tokens, Effect}

-- the item at a place, where the fact holds of the images of all items before
pub reached_at : {X Y : Type 0} (P : Y → Type 0) (f : X → Y) (xs : List X) (i : ℕ) (d : X) → i < length xs → All P (map f (take i xs)) → IsReached P (map f xs) i (f (get_or xs i d))
reached_at P f xs i d lt before = record {
  here = slice_get-map f xs i ∙ ap (option_map f) (slice_get-get_or xs i d lt);
  before = subst (All P) (sym (take-map f i xs)) before;
}

-- sums in the table don't pass
small_sums : (lts : System) (expression : RowName → linear.Expression) (rows : List NamedRow) (sums : Sums) → All (IsRowOf lts) rows → AreSumsOf expression rows sums → IsSmall expression rows
small_sums lts expression rows sums each are = record {
  multipliers = λ k d lt. (each k d lt).multiplier;
  coefficients = λ v. let a = are.sizes v in let b = size_small (entry_of sums v) in omega arith;
  constants = let a = are.constant_size in let b = sums.constant.small in omega arith;
}

in_range : (lts : System) (sums : Sums) (v : Variable) → IsTableOf lts sums → HasEntry sums v → IsVariableOf lts v
in_range lts sums (Tokens q) table has = let e = table.tokens in omega arith
in_range lts sums (Effect t) table has = let e = table.effects in omega arith

-- what is wrong with the sums is what is wrong with the rows
pub leaf_judged : (lts : System) (stands : RowName → Type 0) (expression : RowName → linear.Expression) (rows : List NamedRow) (sums : Sums)
    (o : Option Defect) → All (IsRightRow stands) rows → All (IsRowOf lts) rows → IsTableOf lts sums → AreSumsOf expression rows sums
    → MatchOption o (HasNoDefect sums) (IsSumDefect sums) → MatchOption o (LeafRefutes stands expression rows) (IsDefectOf lts stands expression rows)
leaf_judged lts stands expression rows sums None right each table are none = record {
  stand = λ k d lt. (right k d lt).0;
  positive = λ k d lt. (right k d lt).1;
  small = small_sums lts expression rows sums each are;
  cancels = λ v. sym (are.coefficients v) ∙ none.cancels v;
  contradicts = subst (λ z. z <ℤ pos 0) are.constant none.contradicts;
}
leaf_judged lts stands expression rows sums (Some (LeftOver v)) right each table are left = (
  record { right = right; small = small_sums lts expression rows sums each are },
  record {
    in_range = in_range lts sums v table left.in_table;
    left = λ e. left.left (are.coefficients v ∙ e);
    first = λ w before. sym (are.coefficients w) ∙ left.first w before;
  },
)
leaf_judged lts stands expression rows sums (Some NoContradiction) right each table are (cancels, not) = (
  record { right = right; small = small_sums lts expression rows sums each are },
  λ v. sym (are.coefficients v) ∙ cancels v,
  λ less. not (subst (λ z. z <ℤ pos 0) (sym are.constant) less),
)
leaf_judged lts stands expression rows sums (Some WrongRow) right each table are wrong = absurd wrong
leaf_judged lts stands expression rows sums (Some NotPositive) right each table are wrong = absurd wrong
leaf_judged lts stands expression rows sums (Some SumPasses) right each table are wrong = absurd wrong
leaf_judged lts stands expression rows sums (Some WrongForm) right each table are wrong = absurd wrong
leaf_judged lts stands expression rows sums (Some CaseMissing) right each table are wrong = absurd wrong
leaf_judged lts stands expression rows sums (Some NotSo) right each table are wrong = absurd wrong
