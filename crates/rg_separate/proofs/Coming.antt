-- One case more of which it is told what it comes to, and what the cases come to together.
use Rattle.std.proofs.Common.{◌≡◌, ◌⊎◌, inl, inr, ℕ, ◌+◌, ◌<◌, ◌≤◌, List, [], ◌∷◌, ◌++◌, map, length, length-append, Option, Some, None, IfSome, option_map, slice_get, unwrap_or, refl, sym, ap, subst, ◌∙◌, arith}
use Rattle.std.proofs.lemmas.Bool.{cases_lt}
use Rattle.std.proofs.lemmas.Option.{slice_get-map}
use Rattle.std.proofs.lemmas.List.{length-map}
use Rattle.rg_theory.specs.declared.Problem.{Problem}
use Rattle.rg_theory.specs.declared.Problem.TheVariants.{Event, States}
use Rattle.rg_theory.specs.Net.{Place}
use Rattle.rg_cert_meaning.specs.Row.{cases_of}
use Rattle.rg_cert_meaning.specs.Refutes.{Tree}
use Rattle.rg_case_folds.specs.Setting.{Setting as ShownSetting, case_at}
use Rattle.rg_case_folds.specs.Shown.{Shown, IsLive}
use Rattle.rg_cert_data.specs.declared.certificate.Case.{Case}
use Rattle.rg_cert_data.specs.Certificates.{case_tree}
use Rattle.rg_outcome.specs.Casing.{CaseResult, CaseComes, CaseResult.makes, CaseResult.refutes, CaseResult.passes}
use Rattle.rg_outcome.specs.Solving as solved
use Rattle.rg_outcome.specs.Solving.{Solved, ProblemComes, NoneMakes, NonePasses, CasesCome, CasesCome.first_place, CasesCome.all_refuted, CasesCome.first_term, Solved.placed, Solved.passed}
use Rattle.rg_separate.specs.declared.problem.Tried.{Tried}
use Rattle.rg_cert_data.specs.declared.wide_at.WideAt.{WideAt}
use Rattle.rg_separate.specs.View.{shown_of}
use Rattle.rg_separate.specs.Deciding.{HaveCome}
use Rattle.rg_separate.proofs.Trying.{case_more}

module _ (comes : ℕ → CaseResult → Type 0) (one : (i : ℕ) (r r' : CaseResult) → comes i r → comes i r' → r ≡ r') where
  -- a case that is refuted or shows a term makes no place
  makes_more : (n : ℕ) (r : CaseResult) → comes n r → ((p : Place) → makes p ≡ r → ⊥) → NoneMakes comes n → NoneMakes comes (n + 1)
  makes_more n r come differs before i p lt makes_it = go (cases_lt i n)
    where
      go : (i < n) ⊎ (n ≤ i) → ⊥
      go (inl less) = before i p less makes_it
      go (inr more) = let e : i ≡ n = omega arith in differs p (one n (makes p) r (subst (λ k. comes k (makes p)) e makes_it) come)

  passes_more : (n : ℕ) (t : Tree) → comes n (refutes t) → NonePasses comes n → NonePasses comes (n + 1)
  passes_more n t come before i w lt passes_it = go (cases_lt i n)
    where
      clash : (w : Shown) (t : Tree) → passes w ≡ refutes t → ⊥
      clash w t e = absurd cc

      go : (i < n) ⊎ (n ≤ i) → ⊥
      go (inl less) = before i w less passes_it
      go (inr more) = let e : i ≡ n = omega arith in clash w t (one n (passes w) (refutes t) (subst (λ k. comes k (passes w)) e passes_it) come)

  pub refuted_more : (n : ℕ) (before after : Tried) (case : Case) → HaveCome comes n before → after.refuted.items ≡ before.refuted.items ++ case ∷ []
      → after.passed ≡ before.passed → comes n (refutes (case_tree case)) → HaveCome comes (n + 1) after
  refuted_more n before after case have items same come = record {
    none_makes = makes_more n (refutes (case_tree case)) come (λ p e. clash p (case_tree case) e) have.none_makes;
    none_passes = λ none. passes_more n (case_tree case) come (have.none_passes (sym same ∙ none));
    all = λ none. ap length items ∙ length-append before.refuted.items (case ∷ []) ∙ (let e = have.all (sym same ∙ none) in omega arith);
    refuted = λ none i other at. case_more (λ k c. comes k (refutes (case_tree c))) before.refuted.items case (have.refuted (sym same ∙ none))
        (subst (λ k. comes k (refutes (case_tree case))) (sym (have.all (sym same ∙ none))) come) i other (subst (λ xs. slice_get xs i ≡ Some other) items at);
    passed = subst (λ o. IfSome o (λ w. (i : ℕ) × (i < n + 1) × comes i (passes (shown_of w)) × NonePasses comes i)) (sym same) (later before.passed have.passed);
  }
    where
      clash : (p : Place) (t : Tree) → makes p ≡ refutes t → ⊥
      clash p t e = absurd cc

      later : (o : Option WideAt) → IfSome o (λ w. (i : ℕ) × (i < n) × comes i (passes (shown_of w)) × NonePasses comes i)
          → IfSome o (λ w. (i : ℕ) × (i < n + 1) × comes i (passes (shown_of w)) × NonePasses comes i)
      later None h = tt
      later (Some w) (i, lt, come, none) = (i, (let l = lt in omega arith), come, none)

  pub passed_more : (n : ℕ) (before after : Tried) (at : WideAt) → HaveCome comes n before → after.passed ≡ Some (unwrap_or before.passed at)
      → comes n (passes (shown_of at)) → HaveCome comes (n + 1) after
  passed_more n before after at have is come = record {
    none_makes = makes_more n (passes (shown_of at)) come (λ p e. clash p (shown_of at) e) have.none_makes;
    none_passes = λ none. absurd (let e = sym is ∙ none in cc);
    all = λ none. absurd (let e = sym is ∙ none in cc);
    refuted = λ none. absurd (let e = sym is ∙ none in cc);
    passed = subst (λ o. IfSome o (λ w. (i : ℕ) × (i < n + 1) × comes i (passes (shown_of w)) × NonePasses comes i)) (sym is) (first before.passed have.passed have.none_passes);
  }
    where
      clash : (p : Place) (w : Shown) → makes p ≡ passes w → ⊥
      clash p w e = absurd cc

      first : (o : Option WideAt) → IfSome o (λ w. (i : ℕ) × (i < n) × comes i (passes (shown_of w)) × NonePasses comes i)
          → (o ≡ None → NonePasses comes n) → (i : ℕ) × (i < n + 1) × comes i (passes (shown_of (unwrap_or o at))) × NonePasses comes i
      first None h none = (n, omega arith, come, none refl)
      first (Some w) (i, lt, old, none) other = (i, (let l = lt in omega arith), old, none)

  -- what all cases come to
  tree_here : (cases : List Case) (i : ℕ) (t : Tree) → slice_get (map case_tree cases) i ≡ Some t → (case : Case) × (slice_get cases i ≡ Some case) × (case_tree case ≡ t)
  tree_here cases i t e = by (slice_get cases i) refl (sym (slice_get-map case_tree cases i) ∙ e)
    where
      by : (o : Option Case) → slice_get cases i ≡ o → option_map case_tree o ≡ Some t → (case : Case) × (slice_get cases i ≡ Some case) × (case_tree case ≡ t)
      by None is e = absurd cc
      by (Some case) is e = (case, is, cc)

  pub refuted_come : (n : ℕ) (tried : Tried) → HaveCome comes n tried → tried.passed ≡ None → CasesCome comes n (solved.Solved.refuted (map case_tree tried.refuted.items))
  refuted_come n tried have none = all_refuted (map case_tree tried.refuted.items) (length-map tried.refuted.items case_tree ∙ have.all none)
      (λ i t at. (let (case, here, is) = tree_here tried.refuted.items i t at in subst (λ x. comes i (refutes x)) is (have.refuted none i case here)))

  pub term_comes : (n : ℕ) (tried : Tried) (at : WideAt) → HaveCome comes n tried → tried.passed ≡ Some at → CasesCome comes n (passed (shown_of at))
  term_comes n tried at have is =
      let (i, lt, come, none) = subst (λ o. IfSome o (λ w. (i : ℕ) × (i < n) × comes i (passes (shown_of w)) × NonePasses comes i)) is have.passed in
      first_term i (shown_of at) lt come none have.none_makes

  pub place_first : (n total : ℕ) (tried : Tried) (p : Place) → HaveCome comes n tried → n < total → comes n (makes p) → CasesCome comes total (placed p)
  place_first n total tried p have lt come = first_place n p lt come have.none_makes

-- the cases of a problem whose label has an arc are what it comes to
pub live_comes : (it : ShownSetting) (problem : Problem) (r : Solved) → IsLive it.lts problem
    → CasesCome (λ i. CaseComes (case_at it problem i)) (cases_of it.lts it.class problem) r → ProblemComes it problem r
live_comes it (Event s t) r live come = inr (live, come)
live_comes it (States s s') r live come = come
