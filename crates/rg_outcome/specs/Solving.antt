-- What one problem comes to. Nothing here knows of the places that are kept, so a problem may be solved at any time.
use Rattle.std.specs.Prelude.{◌≡◌, ◌⊎◌, ℕ, ◌<◌, List, length, slice_get, Some}
use Rattle.rg_theory.specs.System.{labels, IsDead}
use Rattle.rg_theory.specs.Net.{Place}
use Rattle.rg_theory.specs.Region.{blocking}
use Rattle.rg_theory.specs.declared.Problem.{Problem}
use Rattle.rg_theory.specs.declared.Problem.TheVariants.{Event, States}
use Rattle.rg_cert_meaning.specs.Row.{cases_of}
use Rattle.rg_cert_meaning.specs.Refutes.{Tree}
use Rattle.rg_case_folds.specs.Setting.{Setting, case_at}
use Rattle.rg_case_folds.specs.Shown.{Shown}
use Rattle.rg_outcome.specs.Casing.{CaseResult, CaseResult.makes, CaseResult.refutes, CaseResult.passes, CaseComes}

-- a place, a tree for each case, or the term out of range that is shown
pub data Solved : Type 0 where
  placed : Place → Solved
  refuted : List Tree → Solved
  passed : Shown → Solved

-- no case before this one makes a place; none shows a term out of range
abbrev pub NoneMakes : (ℕ → CaseResult → Type 0) → ℕ → Type 0
NoneMakes comes n = (i : ℕ) (p : Place) → i < n → ¬ comes i (makes p)

abbrev pub NonePasses : (ℕ → CaseResult → Type 0) → ℕ → Type 0
NonePasses comes n = (i : ℕ) (w : Shown) → i < n → ¬ comes i (passes w)

-- what n cases come to together: the place of the first case that makes one; else, where none shows a term out of range, the trees
-- of all; else the term of the first case that shows one
pub data CasesCome (comes : ℕ → CaseResult → Type 0) (n : ℕ) : Solved → Type 0 where
  first_place : (i : ℕ) (p : Place) → i < n → comes i (makes p) → NoneMakes comes i → CasesCome comes n (placed p)
  all_refuted : (trees : List Tree) → length trees ≡ n → ((i : ℕ) (t : Tree) → slice_get trees i ≡ Some t → comes i (refutes t)) → CasesCome comes n (refuted trees)
  first_term : (i : ℕ) (w : Shown) → i < n → comes i (passes w) → NonePasses comes i → NoneMakes comes n → CasesCome comes n (passed w)

-- what a problem comes to; that of a label without an arc has a place of its own
abbrev pub ProblemComes : Setting → Problem → Solved → Type 0
ProblemComes s (Event q t) r =
    (IsDead s.lts t × (r ≡ placed (blocking (labels s.lts) t)))
    ⊎ (¬ IsDead s.lts t × CasesCome (λ i. CaseComes (case_at s (Event q t) i)) (cases_of s.lts s.class (Event q t)) r)
ProblemComes s (States q q') r = CasesCome (λ i. CaseComes (case_at s (States q q') i)) (cases_of s.lts s.class (States q q')) r
