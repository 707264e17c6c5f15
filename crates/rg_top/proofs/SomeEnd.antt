-- All words and files determine a status, or a term out of range decides.
use Rattle.std.proofs.Common.{◌⊎◌, inl, inr, ℕ, List, Some, Ok, Err}
use Rattle.rg_ports.specs.Shelf.{Files}
use Rattle.rg_theory.specs.System.{System}
use Rattle.rg_lts.specs.WellFormed.{IsWellFormed}
use Rattle.rg_case_folds.specs.Shown.{Shown}
use Rattle.rg_commands.specs.declared.forms.Form.{Form}
use Rattle.rg_commands.specs.declared.request.Request.{Request}
use Rattle.rg_commands.specs.declared.request.Request.TheVariants.{OfSystem, Generate, SelfTest}
use Rattle.rg_commands.specs.declared.request.Work.{Work}
use Rattle.rg_commands.specs.declared.request.Work.TheVariants.{Synthesize, Verify, Check, Convert, Factor, Split, Isomorphic, Examine}
use Rattle.rg_commands.specs.Requests.{HasWorkBounds, HasBounds}
use Rattle.rg_commands.specs.Says.{Said, WordsSay, Ask}
use Rattle.rg_top.specs.Given.{IsSystemFile}
use Rattle.rg_top.specs.Second.{first_fault}
use Rattle.rg_top.specs.Due.{DueOf, no_system as due_no_system, on_system as due_on_system, IsDue, refused as due_refused, asked as due_asked, DecidesAsked, IsPassed}
use Rattle.rg_top.specs.Examine.{always}
use Rattle.rg_top.specs.Generate.{always as generated}
use Rattle.rg_top.specs.SelfTest.{TrialsPass, SelfTestIsDue}
use Rattle.rg_top.specs.Terms.{Term, Term.of_net as of_net_term}
use Rattle.rg_top.specs.declared.status.Status.{Status}
use Rattle.rg_top.specs.declared.status.Status.TheVariants.{Done, Usage as Refuses, File}
use Rattle.rg_top.proofs.Something.{SomethingOn}
use Rattle.rg_top.proofs.SomeFile.{SomeReading, WhichSystem, of_none, of_one, which_system}
use Rattle.rg_top.proofs.SomeJudged.{SomeJudgement, SomeVerdict, verify_some, check_some}
use Rattle.rg_top.proofs.SomePair.{SomeComparison, convert_some, isomorphic_some}
use Rattle.rg_top.proofs.SomeNets.{SomeSplitting, some_net, some_split}
use Rattle.rg_top.proofs.SomeFactors.{SomeFactoring, some_factors}
use Rattle.rg_top.proofs.SomeTrials.{SomeTrials, some_self_test}
use Rattle.rg_top.proofs.VerifyOnce.{OneJudgement}

-- something comes of all: words, with numbers in range, what is read, what is judged, factors, labels, two systems, families
pub record SomeOfAll : Type 0 where
  pub words : (words : List (List ℕ)) → (said : Said) × WordsSay words said
  pub bounds : (words : List (List ℕ)) (asked : Request (List ℕ)) → Ask words asked → HasBounds asked
  pub reading : SomeReading
  pub judgement : SomeJudgement
  pub verdict : SomeVerdict
  pub factoring : SomeFactoring
  pub splitting : SomeSplitting
  pub comparison : SomeComparison
  pub trials : SomeTrials

-- ---- a request

on_some : OneJudgement → SomeOfAll → (files : Files) (work : Work (List ℕ)) (lts : System) → IsWellFormed lts → HasWorkBounds work → SomethingOn files work lts
on_some one some files (Synthesize class jobs) lts formed (numbers, are) = some_net some.factoring.out files class jobs lts formed.in_range numbers
on_some one some files (Verify cert) lts formed numbers = inl (verify_some one some.judgement files cert lts formed)
on_some one some files (Check class name) lts formed numbers = inl (check_some some.verdict files class name lts formed.in_range)
on_some one some files (Convert target) lts formed numbers = inl (convert_some lts target)
on_some one some files (Factor class jobs) lts formed (numbers, are) = some_factors some.factoring files class jobs lts formed.in_range numbers
on_some one some files (Split output jobs) lts formed numbers = some_split some.splitting files output jobs lts formed
on_some one some files (Isomorphic named form) lts formed numbers = inl (isomorphic_some some.reading some.comparison files named form lts formed)
on_some one some files (Examine output) lts formed numbers = inl (Done, always)

-- a status is expected of the request, or a term decides
abbrev SomethingOf : Files → Request (List ℕ) → Type 0
SomethingOf files asked = ((s : Status) × DueOf (Some files) asked s) ⊎ ((w : Term) × DecidesAsked (Some files) asked w)

file_some : OneJudgement → SomeOfAll → (files : Files) (work : Work (List ℕ)) (file : List ℕ) (form : Form) → HasWorkBounds work → SomethingOf files (OfSystem work file form)
file_some one some files work file form numbers = by (which_system some.reading files form file)
  where
    on : (lts : System) → IsSystemFile (Some files) form file lts → SomethingOn files work lts → SomethingOf files (OfSystem work file form)
    on lts spelled (inl (s, due)) = inl (s, due_on_system lts s spelled due)
    on lts spelled (inr (w, decides)) = inr (w, (lts, spelled, decides))

    by : WhichSystem files form file → SomethingOf files (OfSystem work file form)
    by (of_none fault h) = inl (File (first_fault fault), due_no_system fault h)
    by (of_one lts spelled formed) = on lts spelled (on_some one some files work lts formed numbers)

trials_some : SomeOfAll → (files : Files) (n : ℕ) → HasBounds (SelfTest n) → SomethingOf files (SelfTest n)
trials_some some files n number = by (some_self_test some.trials n number)
  where
    by : ((s : Status) × SelfTestIsDue n s) ⊎ ((w : Shown) × TrialsPass n w) → SomethingOf files (SelfTest n)
    by (inl (s, due)) = inl (s, due)
    by (inr (w, passes)) = inr (of_net_term w, passes)

of_some : OneJudgement → SomeOfAll → (files : Files) (asked : Request (List ℕ)) → HasBounds asked → SomethingOf files asked
of_some one some files (OfSystem work file form) bounds = file_some one some files work file form bounds
of_some one some files (Generate kind n) bounds = inl (Done, generated)
of_some one some files (SelfTest n) bounds = trials_some some files n bounds

-- ---- words

pub answers_some : OneJudgement → SomeOfAll → (words : List (List ℕ)) (files : Files) → ((due : Status) × IsDue words (Some files) due) ⊎ ((w : Term) × IsPassed words (Some files) w)
answers_some one some words files = let (said, says) = some.words words in by said says
  where
    requested : (asked : Request (List ℕ)) → Ask words asked → SomethingOf files asked → ((due : Status) × IsDue words (Some files) due) ⊎ ((w : Term) × IsPassed words (Some files) w)
    requested asked ask (inl (s, due)) = inl (s, due_asked asked s ask due)
    requested asked ask (inr (w, decides)) = inr (w, record { request = asked; ask = ask; decides = decides })

    by : (said : Said) → WordsSay words said → ((due : Status) × IsDue words (Some files) due) ⊎ ((w : Term) × IsPassed words (Some files) w)
    by (Ok asked) ask = requested asked ask (of_some one some files asked (some.bounds words asked ask))
    by (Err usage) refused = inl (Refuses usage, due_refused usage refused)
