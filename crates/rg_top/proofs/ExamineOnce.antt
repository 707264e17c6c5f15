-- `examine` ends in one way for a system.
use Rattle.std.proofs.Common.{◌≡◌, refl, ap}
use Rattle.rg_theory.specs.System.{System}
use Rattle.rg_report.specs.declared.examination.Examination.{Examination}
use Rattle.rg_report.specs.Examined.{IsExamined}
use Rattle.rg_report.specs.Facts.{facts_of}
use Rattle.rg_commands.specs.declared.examining.ExamineOutput.{ExamineOutput}
use Rattle.rg_top.specs.End.{End, says_yes, HasStatus}
use Rattle.rg_top.specs.Examine.{report_text, ExamineEnds, reported, ExamineIsDue, always}
use Rattle.rg_top.specs.declared.status.Status.{Status}

-- two examinations of a system find the same
abbrev pub OneExamination : Type 0
OneExamination = (lts : System) (e f : Examination) → IsExamined lts e → IsExamined lts f → e ≡ f

pub examine_due : (output : ExamineOutput) (lts : System) (e : End) (s : Status) → ExamineEnds output lts e → ExamineIsDue s → HasStatus e s
examine_due output lts _ _ (reported e is) always = refl

pub examine_once : OneExamination → (output : ExamineOutput) (lts : System) (e e' : End) → ExamineEnds output lts e → ExamineEnds output lts e' → e ≡ e'
examine_once one output lts _ _ (reported e is) (reported f also) = ap (λ x. says_yes (report_text output (facts_of lts x))) (one lts e f is also)
