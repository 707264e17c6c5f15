-- Words and files have one end.
use Rattle.std.proofs.Common.{◌≡◌, inl, inr, ℕ, List, Option, Some, None, Ok, Err, ap, subst}
use Rattle.rg_ports.specs.Shelf.{Files}
use Rattle.rg_theory.specs.System.{System}
use Rattle.rg_lts.specs.WellFormed.{IsWellFormed}
use Rattle.rg_commands.specs.declared.request.Request.{Request}
use Rattle.rg_commands.specs.declared.request.Request.TheVariants.{OfSystem, Generate, SelfTest}
use Rattle.rg_commands.specs.declared.request.Work.{Work}
use Rattle.rg_commands.specs.declared.request.Work.TheVariants.{Synthesize, Verify, Check, Convert, Factor, Split, Isomorphic, Examine}
use Rattle.rg_commands.specs.Says.{Said, WordsSay, Ask, AreRefused}
use Rattle.rg_commands.specs.declared.usage.Usage.{Usage}
use Rattle.rg_commands.specs.declared.forms.Form.{Form}
use Rattle.rg_top.specs.Second.{first_fault}
use Rattle.rg_top.specs.End.{End, refuses_words, refuses_file, shows_term, HasStatus}
use Rattle.rg_top.specs.Ends.{EndsOn, FileEnds, EndsOf, no_system as ends_no_system, on_system as ends_on_system, Answers, refused as ends_refused, asked as ends_asked}
use Rattle.rg_top.specs.Due.{DueOn, FileDue, DueOf, no_system as due_no_system, on_system as due_on_system, IsDue, refused as due_refused, asked as due_asked, Decides, for_a_net, for_factors, for_labels, DecidesAsked, IsPassed}
use Rattle.rg_top.specs.Run.{IsDecided}
use Rattle.rg_top.specs.Terms.{Term, of_net, of_factor, of_split, of_check}
use Rattle.rg_top.specs.Given.{IsSystemFile}
use Rattle.rg_top.specs.SelfTest.{SelfTestEnds}
use Rattle.rg_top.specs.One.{OneAnswer}
use Rattle.rg_top.specs.declared.status.Status.{Status}
use Rattle.rg_top.specs.declared.status.Status.TheVariants.{Usage as Refuses, File}
use Rattle.rg_top.proofs.OneFile.{OneReading, one_no_system, system_or_none, one_system}
use Rattle.rg_top.proofs.SynthesizeOnce.{OneOut, synthesize_due, synthesize_once, synthesize_term}
use Rattle.rg_top.proofs.VerifyOnce.{OneJudgement, verify_due, verify_once}
use Rattle.rg_top.proofs.CheckOnce.{OneVerdict, check_due, check_once}
use Rattle.rg_top.proofs.ConvertOnce.{convert_due, convert_once}
use Rattle.rg_top.proofs.FactorOnce.{OneFactoring, factor_due, factor_once, factor_term}
use Rattle.rg_top.proofs.SplitOnce.{OneSplitting, split_due, split_once, split_term}
use Rattle.rg_top.proofs.IsomorphicOnce.{OneComparison, isomorphic_due, isomorphic_once}
use Rattle.rg_top.proofs.ExamineOnce.{OneExamination, examine_due, examine_once}
use Rattle.rg_top.proofs.GenerateOnce.{OneOfFamily, generate_due, generate_once}
use Rattle.rg_top.proofs.SelfTestOnce.{OneOfTrials, self_test_due, self_test_once, self_test_term}
use Rattle.rg_top.proofs.SomeEnd.{SomeOfAll, answers_some}

-- what is one: what words say, what is read, the system of a family, what comes out, what is judged
pub record OneOfAll : Type 0 where
  pub words : (words : List (List ℕ)) (a b : Said) → WordsSay words a → WordsSay words b → a ≡ b
  pub reading : OneReading
  pub system : OneOfFamily
  pub out : OneOut
  pub judgement : OneJudgement
  pub verdict : OneVerdict
  pub factoring : OneFactoring
  pub splitting : OneSplitting
  pub comparison : OneComparison
  pub examination : OneExamination

-- ---- work on a system

on_due : OneOfAll → (files : Files) (work : Work (List ℕ)) (lts : System) (e : End) (s : Status) → IsWellFormed lts → EndsOn (Some files) work lts e → DueOn (Some files) work lts s → HasStatus e s
on_due one files (Synthesize class _) lts e s formed x y = synthesize_due one.out class lts e s x y
on_due one files (Verify cert) lts e s formed x y = verify_due files cert lts e s x y
on_due one files (Check class name) lts e s formed x y = check_due one.verdict files class name lts e s formed.in_range x y
on_due one files (Convert target) lts e s formed x y = convert_due lts target e s x y
on_due one files (Factor class _) lts e s formed x y = factor_due one.factoring lts class e s formed.in_range x y
on_due one files (Split output _) lts e s formed x y = split_due one.splitting lts output e s x y
on_due one files (Isomorphic named form) lts e s formed x y = isomorphic_due one.reading files named form lts e s x y
on_due one files (Examine output) lts e s formed x y = examine_due output lts e s x y

on_once : OneOfAll → (files : Files) (work : Work (List ℕ)) (lts : System) (e e' : End) → IsWellFormed lts → EndsOn (Some files) work lts e → EndsOn (Some files) work lts e' → e ≡ e'
on_once one files (Synthesize class _) lts e e' formed x y = synthesize_once one.out class lts e e' x y
on_once one files (Verify cert) lts e e' formed x y = verify_once one.judgement files cert lts e e' formed x y
on_once one files (Check class name) lts e e' formed x y = check_once one.verdict files class name lts e e' formed.in_range x y
on_once one files (Convert target) lts e e' formed x y = convert_once lts target e e' x y
on_once one files (Factor class _) lts e e' formed x y = factor_once one.factoring lts class e e' formed.in_range x y
on_once one files (Split output _) lts e e' formed x y = split_once one.splitting lts output e e' x y
on_once one files (Isomorphic named form) lts e e' formed x y = isomorphic_once one.reading one.comparison files named form lts e e' formed x y
on_once one files (Examine output) lts e e' formed x y = examine_once one.examination output lts e e' x y

on_term : OneOfAll → (files : Files) (work : Work (List ℕ)) (lts : System) (w : Term) (e : End) → IsWellFormed lts → Decides lts work w → EndsOn (Some files) work lts e → e ≡ shows_term w
on_term one files _ lts _ e formed (for_a_net class w answer) x = synthesize_term one.out class lts w e x answer
on_term one files _ lts _ e formed (for_factors class fs i f w has first answer) x = factor_term one.factoring lts class fs i f w e formed.in_range x has first answer
on_term one files _ lts _ e formed (for_labels output system old w comes) x = split_term one.splitting lts output system old w e x comes

-- ---- work on the system of a file

file_due : OneOfAll → (files : Files) (work : Work (List ℕ)) (file : List ℕ) (form : Form) (e : End) (s : Status) → FileEnds (Some files) work file form e → FileDue (Some files) work file form s
    → HasStatus e s
file_due one files work file form _ _ (ends_no_system f h) (due_no_system g k) = ap (λ x. File (first_fault x)) (one_no_system one.reading files form file g f k h)
file_due one files work file form _ _ (ends_no_system f h) (due_on_system lts s k y) = absurd (system_or_none one.reading files form file f lts h k)
file_due one files work file form _ _ (ends_on_system lts e h formed x) (due_no_system g k) = absurd (system_or_none one.reading files form file g lts k h)
file_due one files work file form _ _ (ends_on_system lts e h formed x) (due_on_system other s k y) =
    let same = one_system one.reading files form file other lts k h in
    on_due one files work lts e s formed x (subst (λ l. DueOn (Some files) work l s) same y)

file_once : OneOfAll → (files : Files) (work : Work (List ℕ)) (file : List ℕ) (form : Form) (e e' : End) → FileEnds (Some files) work file form e → FileEnds (Some files) work file form e' → e ≡ e'
file_once one files work file form _ _ (ends_no_system f h) (ends_no_system g k) = ap (λ x. refuses_file (first_fault x)) (one_no_system one.reading files form file f g h k)
file_once one files work file form _ _ (ends_no_system f h) (ends_on_system lts e k formed y) = absurd (system_or_none one.reading files form file f lts h k)
file_once one files work file form _ _ (ends_on_system lts e h formed x) (ends_no_system g k) = absurd (system_or_none one.reading files form file g lts k h)
file_once one files work file form _ _ (ends_on_system lts e h formed x) (ends_on_system other e' k formed' y) =
    let same = one_system one.reading files form file other lts k h in
    on_once one files work lts e e' formed x (subst (λ l. EndsOn (Some files) work l e') same y)

file_term : OneOfAll → (files : Files) (work : Work (List ℕ)) (file : List ℕ) (form : Form) (w : Term) (e : End) (lts : System) → IsSystemFile (Some files) form file lts → Decides lts work w
    → FileEnds (Some files) work file form e → e ≡ shows_term w
file_term one files work file form w _ lts spelled decides (ends_no_system f h) = absurd (system_or_none one.reading files form file f lts h spelled)
file_term one files work file form w _ lts spelled decides (ends_on_system other e h formed x) =
    let same = one_system one.reading files form file lts other spelled h in
    on_term one files work other w e formed (subst (λ l. Decides l work w) same decides) x

-- ---- a request, where the shelf shows its files or the words name none

trials_of : OneOfAll → OneOfTrials
trials_of one = record { system = one.system; out = one.out }

asked_due : OneOfAll → (words : List (List ℕ)) (files : Option Files) (asked : Request (List ℕ)) (e : End) (s : Status) → IsDecided words files → Ask words asked → EndsOf files asked e
    → DueOf files asked s → HasStatus e s
asked_due one words (Some files) (OfSystem work file form) e s decided ask x y = file_due one files work file form e s x y
asked_due one words None (OfSystem work file form) e s (inl told) ask x y = let none : ⊥ = cc in absurd none
asked_due one words None (OfSystem work file form) e s (inr no_file) ask x y = absurd (no_file.none work file form ask)
asked_due one words files (Generate kind n) e s decided ask x y = generate_due kind n e s x y
asked_due one words files (SelfTest n) e s decided ask x y = self_test_due (trials_of one) n e s x y

asked_once : OneOfAll → (words : List (List ℕ)) (files : Option Files) (asked : Request (List ℕ)) (e e' : End) → IsDecided words files → Ask words asked → EndsOf files asked e
    → EndsOf files asked e' → e ≡ e'
asked_once one words (Some files) (OfSystem work file form) e e' decided ask x y = file_once one files work file form e e' x y
asked_once one words None (OfSystem work file form) e e' (inl told) ask x y = let none : ⊥ = cc in absurd none
asked_once one words None (OfSystem work file form) e e' (inr no_file) ask x y = absurd (no_file.none work file form ask)
asked_once one words files (Generate kind n) e e' decided ask x y = generate_once one.system kind n e e' x y
asked_once one words files (SelfTest n) e e' decided ask x y = self_test_once (trials_of one) n e e' x y

-- the term of the trials of a self test
trials_shown : OneOfAll → (files : Option Files) (n : ℕ) (w : Term) (e : End) → DecidesAsked files (SelfTest n) w → SelfTestEnds n e → e ≡ shows_term w
trials_shown one files n (of_net w) e passes x = self_test_term (trials_of one) n w e x passes
trials_shown one files n (of_factor i w) e passes x = absurd passes
trials_shown one files n (of_split system w) e passes x = absurd passes
trials_shown one files n (of_check at) e passes x = absurd passes

asked_term : OneOfAll → (words : List (List ℕ)) (files : Option Files) (asked : Request (List ℕ)) (w : Term) (e : End) → IsDecided words files → Ask words asked → EndsOf files asked e
    → DecidesAsked files asked w → e ≡ shows_term w
asked_term one words (Some files) (OfSystem work file form) w e decided ask x (lts, spelled, decides) = file_term one files work file form w e lts spelled decides x
asked_term one words None (OfSystem work file form) w e (inl told) ask x decides = let none : ⊥ = cc in absurd none
asked_term one words None (OfSystem work file form) w e (inr no_file) ask x decides = absurd (no_file.none work file form ask)
asked_term one words files (Generate kind n) w e decided ask x decides = absurd decides
asked_term one words files (SelfTest n) w e decided ask x decides = trials_shown one files n w e decides x

-- ---- words

same_asked : OneOfAll → (words : List (List ℕ)) (a b : Request (List ℕ)) → Ask words a → Ask words b → a ≡ b
same_asked one words a b x y = let e = one.words words (Ok a) (Ok b) x y in cc

same_usage : OneOfAll → (words : List (List ℕ)) (a b : Usage) → AreRefused words a → AreRefused words b → a ≡ b
same_usage one words a b x y = let e = one.words words (Err a) (Err b) x y in cc

not_both : OneOfAll → (words : List (List ℕ)) (a : Request (List ℕ)) (b : Usage) → Ask words a → AreRefused words b → ⊥
not_both one words a b x y = let e = one.words words (Ok a) (Err b) x y in cc

answers_due : OneOfAll → (words : List (List ℕ)) (files : Option Files) (e : End) (s : Status) → IsDecided words files → Answers words files e → IsDue words files s → HasStatus e s
answers_due one words files _ _ decided (ends_refused u is) (due_refused v also) = ap Refuses (same_usage one words v u also is)
answers_due one words files _ _ decided (ends_refused u is) (due_asked asked s ask y) = absurd (not_both one words asked u ask is)
answers_due one words files _ _ decided (ends_asked asked e ask x) (due_refused v also) = absurd (not_both one words asked v ask also)
answers_due one words files _ _ decided (ends_asked asked e ask x) (due_asked other s ask' y) =
    asked_due one words files asked e s decided ask x (subst (λ a. DueOf files a s) (same_asked one words other asked ask' ask) y)

answers_once : OneOfAll → (words : List (List ℕ)) (files : Option Files) (e e' : End) → IsDecided words files → Answers words files e → Answers words files e' → e ≡ e'
answers_once one words files _ _ decided (ends_refused u is) (ends_refused v also) = ap refuses_words (same_usage one words u v is also)
answers_once one words files _ _ decided (ends_refused u is) (ends_asked asked e ask y) = absurd (not_both one words asked u ask is)
answers_once one words files _ _ decided (ends_asked asked e ask x) (ends_refused v also) = absurd (not_both one words asked v ask also)
answers_once one words files _ _ decided (ends_asked asked e ask x) (ends_asked other e' ask' y) =
    asked_once one words files asked e e' decided ask x (subst (λ a. EndsOf files a e') (same_asked one words other asked ask' ask) y)

answers_term : OneOfAll → (words : List (List ℕ)) (files : Option Files) (w : Term) (e : End) → IsDecided words files → Answers words files e → IsPassed words files w → e ≡ shows_term w
answers_term one words files w _ decided (ends_refused u is) passed = absurd (not_both one words passed.request u passed.ask is)
answers_term one words files w _ decided (ends_asked asked e ask x) passed =
    asked_term one words files asked w e decided ask x (subst (λ a. DecidesAsked files a w) (same_asked one words passed.request asked passed.ask ask) passed.decides)

pub all_one : OneOfAll → SomeOfAll → OneAnswer
all_one one some = record { once = answers_once one; due = answers_due one; term = answers_term one; some = answers_some one.judgement some }
