-- Which status the words and the files determine: never that of a fault or of want of memory.
use Rattle.std.specs.Prelude.{ℕ, List, Option, Some}
use Rattle.rg_ports.specs.Shelf.{Files}
use Rattle.rg_theory.specs.System.{System}
use Rattle.rg_theory.specs.declared.Class.{Class}
use Rattle.rg_case_folds.specs.Shown.{Shown}
use Rattle.rg_outcome.specs.Outcome.{Out, Answer.too_wide as of_term}
use Rattle.rg_commands.specs.declared.request.Request.{Request}
use Rattle.rg_commands.specs.declared.request.Request.TheVariants.{OfSystem, Generate, SelfTest}
use Rattle.rg_commands.specs.declared.request.Work.{Work}
use Rattle.rg_commands.specs.declared.request.Work.TheVariants.{Synthesize, Verify, Check, Convert, Factor, Split, Isomorphic, Examine}
use Rattle.rg_commands.specs.Says.{Ask, AreRefused}
use Rattle.rg_commands.specs.declared.usage.Usage.{Usage}
use Rattle.rg_commands.specs.declared.forms.Form.{Form}
use Rattle.rg_messages.specs.declared.fault.Fault.{Fault}
use Rattle.rg_top.specs.Given.{IsNoSystem, IsSystemFile}
use Rattle.rg_top.specs.Second.{first_fault}
use Rattle.rg_top.specs.Synthesize.{SynthesizeIsDue}
use Rattle.rg_top.specs.Verify.{VerifyIsDue}
use Rattle.rg_top.specs.Check.{CheckIsDue}
use Rattle.rg_top.specs.Convert.{ConvertIsDue}
use Rattle.rg_product.specs.Product as product
use Rattle.rg_top.specs.FactorsAnswer.{IsBehindNets}
use Rattle.rg_top.specs.Factor.{FactorIsDue, HasFactors}
use Rattle.rg_top.specs.Split.{SplitIsDue}
use Rattle.rg_split.specs.Rounds.{labelling, Splitting.too_wide as passes, SplitsTo}
use Rattle.rg_commands.specs.declared.splitting.SplitOutput.{SplitOutput}
use Rattle.rg_top.specs.Terms.{Term, of_net, of_factor, of_split}
use Rattle.rg_top.specs.Isomorphic.{IsomorphicIsDue}
use Rattle.rg_top.specs.Examine.{ExamineIsDue}
use Rattle.rg_top.specs.Generate.{GenerateIsDue}
use Rattle.rg_top.specs.SelfTest.{TrialsPass, SelfTestIsDue}
use Rattle.rg_top.specs.declared.status.Status.{Status}
use Rattle.rg_top.specs.declared.status.Status.TheVariants.{Usage as Refuses, File}

-- the expected status of work on a system, where the file spells the system
abbrev pub DueOn : Option Files → Work (List ℕ) → System → Status → Type 0
DueOn files (Synthesize class _) lts = SynthesizeIsDue class lts
DueOn files (Verify cert) lts = VerifyIsDue files cert lts
DueOn files (Check class net) lts = CheckIsDue files class net lts
DueOn files (Convert target) lts = ConvertIsDue lts target
DueOn files (Factor class _) lts = FactorIsDue lts class
DueOn files (Split output _) lts = SplitIsDue lts
DueOn files (Isomorphic second form) lts = IsomorphicIsDue files second form lts
DueOn files (Examine output) lts = ExamineIsDue

-- the expected status of work on the system of a file
pub data FileDue (files : Option Files) (work : Work (List ℕ)) (file : List ℕ) (form : Form) : Status → Type 0 where
  no_system : (fault : Fault) → IsNoSystem files form file fault → FileDue files work file form (File (first_fault fault))
  on_system : (lts : System) (status : Status) → IsSystemFile files form file lts → DueOn files work lts status → FileDue files work file form status

-- the expected status of a request
abbrev pub DueOf : Option Files → Request (List ℕ) → Status → Type 0
DueOf files (OfSystem work file form) = FileDue files work file form
DueOf files (Generate kind n) = GenerateIsDue
DueOf files (SelfTest n) = SelfTestIsDue n

-- the expected status of the words
pub data IsDue (words : List (List ℕ)) (files : Option Files) : Status → Type 0 where
  refused : (usage : Usage) → AreRefused words usage → IsDue words files (Refuses usage)
  asked : (request : Request (List ℕ)) (status : Status) → Ask words request → DueOf files request status → IsDue words files status

-- the term is out of range, and decides the work on the system: it is the answer for the system and the class where a net is asked for; that
-- for the first factor whose answer is no net where nets for factors are; that of the last round where labels are split
pub data Decides (lts : System) : Work (List ℕ) → Term → Type 0 where
  for_a_net : {jobs : ℕ} (class : Class) (w : Shown) → Out lts class (of_term w) → Decides lts (Synthesize class jobs) (of_net w)
  for_factors : {jobs : ℕ} (class : Class) (fs : List product.Factor) (i : ℕ) (f : product.Factor) (w : Shown) → HasFactors lts fs → IsBehindNets class fs i f → Out f.lts class (of_term w)
      → Decides lts (Factor (Some class) jobs) (of_factor i w)
  for_labels : {jobs : ℕ} (output : SplitOutput) (system : System) (old : List ℕ) (w : Shown) → SplitsTo lts (passes (labelling system old) w) → Decides lts (Split output jobs) (of_split system w)

-- the term decides what is asked of the file of a system, or the answers of a self test
abbrev pub DecidesAsked : Option Files → Request (List ℕ) → Term → Type 0
DecidesAsked files (OfSystem work file form) w = (lts : System) × IsSystemFile files form file lts × Decides lts work w
DecidesAsked files (Generate kind n) w = ⊥
DecidesAsked files (SelfTest n) (of_net w) = TrialsPass n w
DecidesAsked files (SelfTest n) _ = ⊥

-- the words ask for what the term decides
pub record IsPassed (words : List (List ℕ)) (files : Option Files) (w : Term) : Type 0 where
  pub request : Request (List ℕ)
  pub ask : Ask words request
  pub decides : DecidesAsked files request w
