-- How words and files end, and why.
use Rattle.std.specs.Prelude.{ℕ, List, Option}
use Rattle.rg_ports.specs.Shelf.{Files}
use Rattle.rg_theory.specs.System.{System}
use Rattle.rg_lts.specs.WellFormed.{IsWellFormed}
use Rattle.rg_commands.specs.declared.request.Request.{Request}
use Rattle.rg_commands.specs.declared.request.Request.TheVariants.{OfSystem, Generate, SelfTest}
use Rattle.rg_commands.specs.declared.request.Work.{Work}
use Rattle.rg_commands.specs.declared.request.Work.TheVariants.{Synthesize, Verify, Check, Convert, Factor, Split, Isomorphic, Examine}
use Rattle.rg_commands.specs.Says.{Ask, AreRefused}
use Rattle.rg_commands.specs.declared.usage.Usage.{Usage}
use Rattle.rg_commands.specs.declared.forms.Form.{Form}
use Rattle.rg_messages.specs.declared.fault.Fault.{Fault}
use Rattle.rg_top.specs.Given.{IsNoSystem, IsSystemFile}
use Rattle.rg_top.specs.Second.{first_fault}
use Rattle.rg_top.specs.Synthesize.{SynthesizeEnds}
use Rattle.rg_top.specs.Verify.{VerifyEnds}
use Rattle.rg_top.specs.Check.{CheckEnds}
use Rattle.rg_top.specs.Convert.{ConvertEnds}
use Rattle.rg_top.specs.Factor.{FactorEnds}
use Rattle.rg_top.specs.Split.{SplitEnds}
use Rattle.rg_top.specs.Isomorphic.{IsomorphicEnds}
use Rattle.rg_top.specs.Examine.{ExamineEnds}
use Rattle.rg_top.specs.Generate.{GenerateEnds}
use Rattle.rg_top.specs.SelfTest.{SelfTestEnds}
use Rattle.rg_top.specs.End.{End, refuses_words, refuses_file}

-- how work on a system ends where the file spells the system, by any number of jobs
abbrev pub EndsOn : Option Files → Work (List ℕ) → System → End → Type 0
EndsOn files (Synthesize class _) lts = SynthesizeEnds class lts
EndsOn files (Verify cert) lts = VerifyEnds files cert lts
EndsOn files (Check class net) lts = CheckEnds files class net lts
EndsOn files (Convert target) lts = ConvertEnds lts target
EndsOn files (Factor class _) lts = FactorEnds lts class
EndsOn files (Split output _) lts = SplitEnds lts output
EndsOn files (Isomorphic second form) lts = IsomorphicEnds files second form lts
EndsOn files (Examine output) lts = ExamineEnds output lts

-- how work on the system of a file ends: the file is not that of a system, or it is
pub data FileEnds (files : Option Files) (work : Work (List ℕ)) (file : List ℕ) (form : Form) : End → Type 0 where
  no_system : (fault : Fault) → IsNoSystem files form file fault → FileEnds files work file form (refuses_file (first_fault fault))
  on_system : (lts : System) (end : End) → IsSystemFile files form file lts → IsWellFormed lts → EndsOn files work lts end → FileEnds files work file form end

-- how a request ends
abbrev pub EndsOf : Option Files → Request (List ℕ) → End → Type 0
EndsOf files (OfSystem work file form) = FileEnds files work file form
EndsOf files (Generate kind n) = GenerateEnds kind n
EndsOf files (SelfTest n) = SelfTestEnds n

-- how words end: they are refused, or they ask for something
pub data Answers (words : List (List ℕ)) (files : Option Files) : End → Type 0 where
  refused : (usage : Usage) → AreRefused words usage → Answers words files (refuses_words usage)
  asked : (request : Request (List ℕ)) (end : End) → Ask words request → EndsOf files request end → Answers words files end
