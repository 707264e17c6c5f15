-- What a case and a problem come to.
use Rattle.std.specs.Prelude.{◌≡◌, ℕ, ◌<◌, List, [], length, None, Some, IfSome, slice_get}
use Rattle.rg_theory.specs.System.{System}
use Rattle.rg_theory.specs.declared.Class.{Class}
use Rattle.rg_theory.specs.declared.Problem.{Problem}
use Rattle.rg_cert_meaning.specs.Refutes.{Tree, Reason.refuted, TreeRefutes, Accepts}
use Rattle.rg_net.specs.Shown.{shown_place}
use Rattle.rg_case_folds.specs.Setting.{case_at}
use Rattle.rg_case_folds.specs.Shown.{ShownWide}
use Rattle.rg_outcome.specs.Casing.{CaseResult, CaseResult.makes, CaseResult.refutes, CaseResult.passes, CaseComes}
use Rattle.rg_outcome.specs.Solving as solved
use Rattle.rg_outcome.specs.Solving.{Solved.placed, Solved.passed, NoneMakes, NonePasses, ProblemComes}
use Rattle.rg_cert_data.specs.declared.certificate.Case.{Case}
use Rattle.rg_cert_data.specs.declared.certificate.Reason.{Reason}
use Rattle.rg_cert_data.specs.Certificates.{case_tree, reason_of, IsWhole, IsTreeOf, IsCertificateOf}
use Rattle.rg_places.specs.RegionPlaces.{IsRegionPlace, PlaceSeparates}
use Rattle.rg_case_parts.specs.SettingViews.{shown_setting, shown_case}
use Rattle.rg_separate.specs.declared.case.CaseAnswer.{CaseAnswer}
use Rattle.rg_separate.specs.declared.case.CaseAnswer.TheVariants as answer
use Rattle.rg_separate.specs.declared.problem.ProblemAnswer.{ProblemAnswer}
use Rattle.rg_separate.specs.declared.problem.ProblemAnswer.TheVariants as problem_answer
use Rattle.rg_separate.specs.declared.problem.Tried.{Tried}
use Rattle.rg_case_parts.specs.declared.setting.CaseSetting.{CaseSetting}
use Rattle.rg_case_parts.specs.declared.setting.Setting.{Setting}
use Rattle.rg_separate.specs.View.{shown_of}

-- the nodes are those of one whole tree, which refutes the case, and its numbers are in range
pub record RefutesCase (lts : System) (class : Class) (problem : Problem) (number : ℕ) (case : Case) : Type 0 where
  pub whole : IsWhole case
  pub refutes : TreeRefutes lts class problem number [] (case_tree case)
  pub in_range : IsTreeOf lts (case_tree case)

-- what a case comes to
abbrev pub CaseTells : System → Class → Problem → ℕ → CaseAnswer → Type 0
CaseTells lts class problem number (answer.Place r) = IsRegionPlace lts class r × PlaceSeparates problem r
CaseTells lts class problem number (answer.Refuted case) = RefutesCase lts class problem number case
CaseTells lts class problem number (answer.Wide w) = ShownWide lts class (shown_of w)

-- the same, in the words of the one answer
abbrev pub case_result : CaseAnswer → CaseResult
case_result (answer.Place r) = makes (shown_place r.place)
case_result (answer.Refuted case) = refutes (case_tree case)
case_result (answer.Wide w) = passes (shown_of w)

abbrev pub CaseComesTo : CaseSetting → CaseAnswer → Type 0
CaseComesTo c a = CaseComes (shown_case c) (case_result a)

-- the first cases, so many, were tried: each is refuted, or the first term that passes is kept
pub record AreTried (lts : System) (class : Class) (problem : Problem) (number : ℕ) (tried : Tried) : Type 0 where
  pub all : tried.passed ≡ None → length tried.refuted.items ≡ number
  pub refuted : tried.passed ≡ None → (i : ℕ) (case : Case) → slice_get tried.refuted.items i ≡ Some case → RefutesCase lts class problem i case
  pub passed : IfSome tried.passed (λ w. ShownWide lts class (shown_of w))

-- the first cases, so many, come to no place; to the trees that are kept, or to the first term that passes
pub record HaveCome (comes : ℕ → CaseResult → Type 0) (number : ℕ) (tried : Tried) : Type 0 where
  pub none_makes : NoneMakes comes number
  pub none_passes : tried.passed ≡ None → NonePasses comes number
  pub all : tried.passed ≡ None → length tried.refuted.items ≡ number
  pub refuted : tried.passed ≡ None → (i : ℕ) (case : Case) → slice_get tried.refuted.items i ≡ Some case → comes i (refutes (case_tree case))
  pub passed : IfSome tried.passed (λ w. (i : ℕ) × (i < number) × comes i (passes (shown_of w)) × NonePasses comes i)

abbrev pub CasesCameTo : Setting → Problem → ℕ → Tried → Type 0
CasesCameTo s problem number tried = HaveCome (λ i. CaseComes (case_at (shown_setting s) problem i)) number tried

-- the reason holds, and its numbers are in range
pub record IsGoodReason (lts : System) (class : Class) (reason : Reason) : Type 0 where
  pub holds : Accepts lts class (reason_of reason)
  pub in_range : IsCertificateOf lts (record { class = class; reason = reason })

-- what a problem comes to
abbrev pub ProblemTells : System → Class → Problem → ProblemAnswer → Type 0
ProblemTells lts class problem (problem_answer.Place r) = IsRegionPlace lts class r × PlaceSeparates problem r
ProblemTells lts class problem (problem_answer.Refuted reason) = IsGoodReason lts class reason
ProblemTells lts class problem (problem_answer.Wide w) = ShownWide lts class (shown_of w)

-- the same, in the words of the one answer: of a reason also that it is that of the problem and its trees
abbrev pub ProblemComesTo : Setting → Problem → ProblemAnswer → Type 0
ProblemComesTo s problem (problem_answer.Place r) = ProblemComes (shown_setting s) problem (placed (shown_place r.place))
ProblemComesTo s problem (problem_answer.Refuted reason) = (trees : List Tree) × (reason_of reason ≡ refuted problem trees) × ProblemComes (shown_setting s) problem (solved.Solved.refuted trees)
ProblemComesTo s problem (problem_answer.Wide w) = ProblemComes (shown_setting s) problem (passed (shown_of w))

-- the problem is refuted, and this is the reason
abbrev pub ProvesRefuted : Setting → Problem → Reason → Type 0
ProvesRefuted s problem reason = ProblemTells s.lts.now s.class problem (problem_answer.Refuted reason) × ProblemComesTo s problem (problem_answer.Refuted reason)
