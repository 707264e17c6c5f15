-- One case more that is tried.
use Rattle.std.proofs.Common.{◌≡◌, ◌⊎◌, inl, inr, ℕ, ◌+◌, ◌<◌, ◌≤◌, List, [], ◌∷◌, ◌++◌, length, length-append, get_or, Option, Some, None, IfSome, slice_get, unwrap_or, sym, ap, subst, ◌∙◌, arith}
use Rattle.std.proofs.lemmas.Bool.{cases_lt}
use Rattle.std.proofs.lemmas.Option.{slice_get-get_or, slice_get_within, get_or_from_slice_get}
use Rattle.std.proofs.lemmas.List.{get_or_append_left, get_or_push}
use Rattle.rg_theory.specs.System.{System}
use Rattle.rg_theory.specs.declared.Class.{Class}
use Rattle.rg_theory.specs.declared.Problem.{Problem}
use Rattle.rg_case_folds.specs.Shown.{ShownWide}
use Rattle.rg_cert_data.specs.declared.certificate.Case.{Case}
use Rattle.rg_separate.specs.declared.problem.Tried.{Tried}
use Rattle.rg_cert_data.specs.declared.wide_at.WideAt.{WideAt}
use Rattle.rg_separate.specs.View.{shown_of}
use Rattle.rg_separate.specs.Deciding.{RefutesCase, AreTried}

-- all cases before, and one more
pub case_more : (P : ℕ → Case → Type 0) (xs : List Case) (x : Case) → ((i : ℕ) (y : Case) → slice_get xs i ≡ Some y → P i y) → P (length xs) x
    → (i : ℕ) (y : Case) → slice_get (xs ++ x ∷ []) i ≡ Some y → P i y
case_more P xs x each here i y at = go (cases_lt i (length xs))
  where
    lt : i < length (xs ++ x ∷ [])
    lt = slice_get_within (xs ++ x ∷ []) i y at

    same : get_or (xs ++ x ∷ []) i x ≡ y
    same = get_or_from_slice_get (xs ++ x ∷ []) i y x at

    go : (i < length xs) ⊎ (length xs ≤ i) → P i y
    go (inl less) =
        let left = get_or_append_left xs (x ∷ []) x i less in
        each i y (slice_get-get_or xs i x less ∙ ap Some (sym left ∙ same))
    go (inr more) =
        let e : length xs ≡ i = (let l = length-append xs (x ∷ []) in let below = lt in omega arith) in
        subst (P i) (sym (get_or_push xs x x i e) ∙ same) (subst (λ k. P k x) e here)

pub tried_refuted : (lts : System) (class : Class) (problem : Problem) (n : ℕ) (before after : Tried) (case : Case) → AreTried lts class problem n before
    → after.refuted.items ≡ before.refuted.items ++ case ∷ [] → after.passed ≡ before.passed → RefutesCase lts class problem n case → AreTried lts class problem
    (n + 1) after
tried_refuted lts class problem n before after case tried items same refutes = record {
  all = λ none. ap length items ∙ length-append before.refuted.items (case ∷ []) ∙ (let e = tried.all (sym same ∙ none) in omega arith);
  refuted = λ none i other at. case_more (RefutesCase lts class problem) before.refuted.items case (tried.refuted (sym same ∙ none))
      (subst (λ k. RefutesCase lts class problem k case) (sym (tried.all (sym same ∙ none))) refutes) i other (subst (λ xs. slice_get xs i ≡ Some other) items at);
  passed = subst (λ o. IfSome o (λ w. ShownWide lts class (shown_of w))) (sym same) tried.passed;
}

pub tried_passed : (lts : System) (class : Class) (problem : Problem) (n m : ℕ) (before after : Tried) (at : WideAt)
    → AreTried lts class problem n before → after.passed ≡ Some (unwrap_or before.passed at) → ShownWide lts class (shown_of at) → AreTried lts class problem m after
tried_passed lts class problem n m before after at tried is shown = record {
  all = λ none. absurd (let e = sym is ∙ none in cc);
  refuted = λ none. absurd (let e = sym is ∙ none in cc);
  passed = subst (λ o. IfSome o (λ w. ShownWide lts class (shown_of w))) (sym is) (first before.passed tried.passed);
}
  where
    first : (o : Option WideAt) → IfSome o (λ w. ShownWide lts class (shown_of w)) → ShownWide lts class (shown_of (unwrap_or o at))
    first None h = shown
    first (Some w) h = h
