-- A problem comes to one result.
use Rattle.std.proofs.Common.{◌≡◌, ◌⊎◌, inl, inr, ℕ, ◌<◌, ◌≤◌, List, [], length, get_or, sym, ap, subst, ◌∙◌, arith}
use Rattle.std.proofs.lemmas.Bool.{cases_lt}
use Rattle.std.proofs.lemmas.List.{ext_get_or}
use Rattle.std.proofs.lemmas.Option.{get_or_from_slice_get}
use Rattle.std.specs.Prelude.{slice_get, Some}
use Rattle.rg_theory.specs.Net.{Place}
use Rattle.rg_theory.specs.declared.Problem.TheVariants.{Event, States}
use Rattle.rg_theory.proofs.Lists.{slice_get_some}
use Rattle.rg_cert_meaning.specs.Row.{cases_of}
use Rattle.rg_cert_meaning.specs.Refutes.{Tree}
use Rattle.rg_case_folds.specs.Setting.{Setting, case_at}
use Rattle.rg_branch_trees.specs.Trees.{Tree.leaf}
use Rattle.rg_case_folds.specs.Shown.{Shown}
use Rattle.rg_outcome.specs.Casing.{CaseResult, CaseResult.makes, CaseResult.refutes, CaseResult.passes, CaseComes}
use Rattle.rg_outcome.specs.Solving.{Solved, Solved.placed, Solved.refuted, Solved.passed, CasesCome, CasesCome.first_place, CasesCome.all_refuted, CasesCome.first_term, ProblemComes}
use Rattle.rg_outcome.specs.Coming.{IsOneResult}
use Rattle.rg_outcome.proofs.Cases.{same_result}

same_place : (p p' : Place) → makes p ≡ makes p' → p ≡ p'
same_place p p' e = cc

same_refutation : (t t' : Tree) → refutes t ≡ refutes t' → t ≡ t'
same_refutation t t' e = cc

same_term : (w w' : Shown) → passes w ≡ passes w' → w ≡ w'
same_term w w' e = cc

makes_or_refutes : (p : Place) (t : Tree) → makes p ≡ refutes t → ⊥
makes_or_refutes p t e = cc

passes_or_refutes : (w : Shown) (t : Tree) → passes w ≡ refutes t → ⊥
passes_or_refutes w t e = cc

module _ (comes : ℕ → CaseResult → Type 0) (n : ℕ) (one : (i : ℕ) (r r' : CaseResult) → comes i r → comes i r' → r ≡ r') where
  -- the first number is one
  same_number : (X : Type 0) (make : X → CaseResult) (i i' : ℕ) (x x' : X) → comes i (make x) → comes i' (make x')
      → ((j : ℕ) (y : X) → j < i → ¬ comes j (make y)) → ((j : ℕ) (y : X) → j < i' → ¬ comes j (make y)) → i ≡ i'
  same_number X make i i' x x' has has' none none' = go (cases_lt i i') (cases_lt i' i)
    where
      go : (i < i') ⊎ (i' ≤ i) → (i' < i) ⊎ (i ≤ i') → i ≡ i'
      go (inl less) _ = absurd (none' i x less has)
      go (inr more) (inl less) = absurd (none i' x' less has')
      go (inr more) (inr most) = omega arith

  -- a case below n is refuted, where all are
  refuted_at : (trees : List Tree) → length trees ≡ n → ((i : ℕ) (t : Tree) → slice_get trees i ≡ Some t → comes i (refutes t)) → (i : ℕ) → i < n → (t : Tree) × comes i (refutes t)
  refuted_at trees long each i lt = let (t, at) = slice_get_some trees i (omega arith) in (t, each i t at)

  not_placed : (trees : List Tree) → length trees ≡ n → ((i : ℕ) (t : Tree) → slice_get trees i ≡ Some t → comes i (refutes t)) → (i : ℕ) (p : Place) → i < n → ¬ comes i (makes p)
  not_placed trees long each i p lt has = let (t, is) = refuted_at trees long each i lt in makes_or_refutes p t (one i (makes p) (refutes t) has is)

  not_passed : (trees : List Tree) → length trees ≡ n → ((i : ℕ) (t : Tree) → slice_get trees i ≡ Some t → comes i (refutes t)) → (i : ℕ) (w : Shown) → i < n → ¬ comes i (passes w)
  not_passed trees long each i w lt has = let (t, is) = refuted_at trees long each i lt in passes_or_refutes w t (one i (passes w) (refutes t) has is)

  same_trees : (trees trees' : List Tree) → length trees ≡ n → length trees' ≡ n
      → ((i : ℕ) (t : Tree) → slice_get trees i ≡ Some t → comes i (refutes t))
      → ((i : ℕ) (t : Tree) → slice_get trees' i ≡ Some t → comes i (refutes t)) → trees ≡ trees'
  same_trees trees trees' long long' each each' = ext_get_or (leaf []) trees trees' (long ∙ sym long') at
    where
      at : (i : ℕ) → i < length trees → get_or trees i (leaf []) ≡ get_or trees' i (leaf [])
      at i lt =
          let (t, is) = slice_get_some trees i lt in
          let (t', is') = slice_get_some trees' i (omega arith) in
          let same : t ≡ t' = same_refutation t t' (one i (refutes t) (refutes t') (each i t is) (each' i t' is')) in
          get_or_from_slice_get trees i t (leaf []) is ∙ same ∙ sym (get_or_from_slice_get trees' i t' (leaf []) is')

  pub same_cases : (r r' : Solved) → CasesCome comes n r → CasesCome comes n r' → r ≡ r'
  same_cases r r' (first_place i p lt has none) (first_place i' p' lt' has' none') =
      let same : i ≡ i' = same_number Place makes i i' p p' has has' none none' in
      ap placed (same_place p p' (one i' (makes p) (makes p') (subst (λ j. comes j (makes p)) same has) has'))
  same_cases r r' (first_place i p lt has none) (all_refuted trees long each) = absurd (not_placed trees long each i p lt has)
  same_cases r r' (first_place i p lt has none) (first_term i' w lt' has' none' makes_none) = absurd (makes_none i p lt has)
  same_cases r r' (all_refuted trees long each) (first_place i p lt has none) = absurd (not_placed trees long each i p lt has)
  same_cases r r' (all_refuted trees long each) (all_refuted trees' long' each') = ap refuted (same_trees trees trees' long long' each each')
  same_cases r r' (all_refuted trees long each) (first_term i w lt has none makes_none) = absurd (not_passed trees long each i w lt has)
  same_cases r r' (first_term i w lt has none makes_none) (first_place i' p lt' has' none') = absurd (makes_none i' p lt' has')
  same_cases r r' (first_term i w lt has none makes_none) (all_refuted trees long each) = absurd (not_passed trees long each i w lt has)
  same_cases r r' (first_term i w lt has none makes_none) (first_term i' w' lt' has' none' makes_none') =
      let same : i ≡ i' = same_number Shown passes i i' w w' has has' none none' in
      ap passed (same_term w w' (one i' (passes w) (passes w') (subst (λ j. comes j (passes w)) same has) has'))

module _ (it : Setting) where
  pub same_solved : IsOneResult (ProblemComes it)
  same_solved (Event s t) r r' (inl (dead, e)) (inl (dead', e')) = e ∙ sym e'
  same_solved (Event s t) r r' (inl (dead, e)) (inr (live, c)) = absurd (live dead)
  same_solved (Event s t) r r' (inr (live, c)) (inl (dead, e)) = absurd (live dead)
  same_solved (Event s t) r r' (inr (live, c)) (inr (live', c')) =
      same_cases (λ i. CaseComes (case_at it (Event s t) i)) (cases_of it.lts it.class (Event s t)) (λ i. same_result (case_at it (Event s t) i)) r r' c c'
  same_solved (States s s') r r' c c' = same_cases (λ i. CaseComes (case_at it (States s s') i)) (cases_of it.lts it.class (States s s')) (λ i. same_result (case_at it (States s s') i)) r r' c c'
