-- How `examine FILE` ends where FILE spells a system.
use Rattle.std.specs.Prelude.{ℕ, List}
use Rattle.rg_theory.specs.System.{System}
use Rattle.rg_report.specs.declared.examination.Examination.{Examination}
use Rattle.rg_report.specs.Examined.{IsExamined}
use Rattle.rg_report.specs.Facts.{Facts, facts_of, lines_of, json_of}
use Rattle.rg_commands.specs.declared.examining.ExamineOutput.{ExamineOutput}
use Rattle.rg_commands.specs.declared.examining.ExamineOutput.TheVariants as output
use Rattle.rg_top.specs.End.{End, says_yes}
use Rattle.rg_top.specs.declared.status.Status.{Status}
use Rattle.rg_top.specs.declared.status.Status.TheVariants.{Done}

-- one report, as lines or as JSON
abbrev pub report_text : ExamineOutput → Facts → List ℕ
report_text output.Lines facts = lines_of facts
report_text output.Json facts = json_of facts

-- the end is the report on what is found of the system
pub data ExamineEnds (how : ExamineOutput) (lts : System) : End → Type 0 where
  reported : (e : Examination) → IsExamined lts e → ExamineEnds how lts (says_yes (report_text how (facts_of lts e)))

-- when each status is expected: always that of a report
pub data ExamineIsDue : Status → Type 0 where
  always : ExamineIsDue Done
