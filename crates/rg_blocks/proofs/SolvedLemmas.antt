-- What is said of all problems of a block, and its last one.
use Rattle.std.proofs.Common.{◌≡◌, ℕ, suc, ◌+◌, ◌-◌, ◌<◌, List, [], ◌∷◌, length, get_or, All, Option, Some, Result, Ok, Err, IfOk, refl, sym, ap, ap₂, subst, ◌∙◌, arith}
use Rattle.std.specs.Prelude.{slice_get}
use Rattle.std.proofs.lemmas.Option.{slice_get-get_or, same_Some}
use Rattle.std.proofs.lemmas.List.Elements.{All-cons}
use Rattle.rg_theory.specs.System.{System}
use Rattle.rg_theory.specs.Net.{Place}
use Rattle.rg_theory.specs.declared.Problem.{Problem}
use Rattle.rg_theory.specs.Problem.{IsProblem}
use Rattle.rg_outcome.specs.Coming.{IsLeft, IsBehind, IsDone}
use Rattle.rg_outcome.specs.Blocks.{IsBlock, last_of}
use Rattle.rg_outcome.proofs.BlockLemmas.{behind_too}
use Rattle.rg_phase.specs.Answers.{AreAnswers}
use Rattle.rg_blocks.specs.declared.solving.SolvedProblem.{SolvedProblem}
use Rattle.rg_blocks.specs.Blocks.{most_in_block}
use Rattle.rg_blocks.specs.Taking.{problems_of}

-- no kept place separates a problem of a block
pub block_is_left : (lts : System) (kept : List Place) (last : Option Problem) (block : List Problem) → IsBlock lts kept last block → All (IsLeft lts kept) block
block_is_left lts kept last [] is = λ i d lt. absurd (omega arith)
block_is_left lts kept last (p ∷ block) is = All-cons (IsLeft lts kept) p block is.0.0.0 (block_is_left lts kept (Some p) block is.1)

-- where a block is empty, none is left after the last problem
pub empty_is_done : (lts : System) (kept : List Place) (last : Option Problem) (block : List Problem) → length block ≡ 0
    → (length block < most_in_block → IsDone lts kept (last_of last block)) → IsDone lts kept last
empty_is_done lts kept last [] none end = end (omega arith)
empty_is_done lts kept last (p ∷ block) none end = absurd (omega arith)

-- what holds of the problems holds of what was solved
pub of_solved : (P : Problem → Type 0) (solved : List SolvedProblem) → All P (problems_of solved) → All (λ s. P s.problem) solved
of_solved P [] all = λ i d lt. absurd (omega arith)
of_solved P (s ∷ solved) all = All-cons (λ x. P x.problem) s solved (all 0 s.problem (omega arith)) (of_solved P solved (λ i d lt. all (suc i) d (omega arith)))

-- one outcome for each number is one for each problem, in order
pub in_order : (problems : List Problem) (solved : List SolvedProblem) → length solved ≡ length problems
    → ((i : ℕ) (s : SolvedProblem) → slice_get solved i ≡ Some s → slice_get problems i ≡ Some s.problem) → problems_of solved ≡ problems
in_order [] [] n each = refl
in_order [] (s ∷ solved) n each = absurd (omega arith)
in_order (p ∷ problems) [] n each = absurd (omega arith)
in_order (p ∷ problems) (s ∷ solved) n each = ap₂ ◌∷◌ (sym (same_Some p s.problem (each 0 s refl))) (in_order problems solved (omega arith) (λ i x at. each (suc i) x at))

pub all_in_order : {V E : Type 0} (items : V → List SolvedProblem) (r : Result V E) (problems : List Problem) (P : SolvedProblem → Type 0)
    → IfOk r (λ v. AreAnswers (λ i s. (slice_get problems i ≡ Some s.problem) × P s) 0 (length problems - 0) (items v))
    → IfOk r (λ v. All P (items v)) × IfOk r (λ v. problems_of (items v) ≡ problems)
all_in_order items (Ok v) problems P are = (
  λ i d lt. (are.each i (get_or (items v) i d) (slice_get-get_or (items v) i d lt)).1,
  in_order problems (items v) (let n = are.one_each in omega arith) (λ i s at. let e : 0 + i ≡ i = omega arith in subst (λ k. slice_get problems k ≡ Some s.problem) e (are.each i s at).0),
)
all_in_order items (Err e) problems P are = (tt, tt)

-- the last problem of a block
pub end_of : (lts : System) (kept : List Place) (last : Option Problem) (block : List Problem) (d : Problem) → IsBlock lts kept last block → 0 < length block
    → (last_of last block ≡ Some (get_or block (length block - 1) d)) × IsProblem lts (get_or block (length block - 1) d) × IsBehind last (get_or block (length block - 1) d)
end_of lts kept last [] d is some = absurd (omega arith)
end_of lts kept last (p ∷ []) d is some = (refl, is.0.0.0.0, is.0.0.1)
end_of lts kept last (p ∷ q ∷ block) d is some =
    let (e, has, behind) = end_of lts kept (Some p) (q ∷ block) d is.1 (omega arith) in
    let place : length (q ∷ block) ≡ length (p ∷ q ∷ block) - 1 = omega arith in
    let place' : suc (length (q ∷ block) - 1) ≡ length (p ∷ q ∷ block) - 1 = omega arith in
    let same : get_or (q ∷ block) (length (q ∷ block) - 1) d ≡ get_or (p ∷ q ∷ block) (length (p ∷ q ∷ block) - 1) d = ap (λ k. get_or (p ∷ q ∷ block) k d) place' in
    (e ∙ ap Some same, subst (IsProblem lts) same has, subst (IsBehind last) same (behind_too last p _ is.0.0.1 behind))

pub end_is : (lts : System) (kept : List Place) (last : Option Problem) (block : List Problem) (x : Problem) (n : ℕ) → IsBlock lts kept last block
    → 0 < length block → n ≡ length block → x ≡ get_or block (n - 1) x
    → (last_of last block ≡ Some x) × IsProblem lts x × IsBehind last x
end_is lts kept last block x n is some e at =
    let (f, has, behind) = end_of lts kept last block x is some in
    let same : get_or block (length block - 1) x ≡ x = ap (λ k. get_or block (k - 1) x) (sym e) ∙ sym at in
    (f ∙ ap Some same, subst (IsProblem lts) same has, subst (IsBehind last) same behind)
