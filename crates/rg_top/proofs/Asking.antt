-- Which files were asked for, and read.
use Rattle.std.specs.Option.{option_to_list}
use Rattle.std.proofs.Common.{◌≡◌, ◌⊎◌, inl, inr, ℕ, ◌<◌, Bool, List, [], ◌∷◌, ◌++◌, Option, Some, None, option_map, Ok, Err, append-nil, append_assoc, refl, sym, ap, subst, ◌∙◌, arith}
use Rattle.rg_text.specs.Limits.{most_bytes}
use Rattle.rg_ports.specs.Calls.{LastCall, finds_end, fails, finds_none, breaks_off, ReadsFile}
use Rattle.rg_ports.specs.Count.{HasRisen}
use Rattle.rg_ports.specs.Shelf.{Files, asked_with}
use Rattle.rg_theory.specs.System.{System}
use Rattle.rg_commands.specs.declared.request.Request.{Request}
use Rattle.rg_commands.specs.declared.request.Request.TheVariants.{OfSystem, Generate, SelfTest}
use Rattle.rg_commands.specs.declared.request.Work.{Work}
use Rattle.rg_commands.specs.Requests.{second_file}
use Rattle.rg_commands.specs.Says.{Ask}
use Rattle.rg_commands.specs.declared.forms.Form.{Form}
use Rattle.rg_top.specs.Given.{IsSystemFile}
use Rattle.rg_top.specs.End.{HasStatus}
use Rattle.rg_top.specs.Requests.{end_of, asked_more, ReadsMore, AsksOf, HasCause, ReadsOf, IsOfFile}
use Rattle.rg_top.specs.Second.{first_fault}
use Rattle.rg_top.specs.declared.answer.Answer.{Answer}
use Rattle.rg_top.specs.declared.answer.Stop.TheVariants as stop
use Rattle.rg_top.specs.declared.status.Status.{Status}
use Rattle.rg_top.specs.declared.status.Status.TheVariants.{File, WriteFault}
use Rattle.rg_top.specs.Run.{Change, IsReadFault, AsksFiles, AsksAtMost, Cause, is_refused, lacks_memory, MayHaveCause, ReadsFiles, part, only_one, refused, no_memory, both, ReadsAtMost}

none_more : {A : Type 0} → (1 < 1 → A)
none_more lt = absurd (omega (arith, lt))

-- the first alone
pub asks_first : (files : Option Files) (work : Work (List ℕ)) (file : List ℕ) (form : Form) (before after : Option (List (List ℕ)))
    → after ≡ asked_with before file → AsksFiles files work file form before after
asks_first files work file form before after is = (file ∷ [], option_to_list (second_file work), refl, is, none_more)

more_names : (before : Option (List (List ℕ))) (file : List ℕ) (more : List (List ℕ)) → option_map (λ all. all ++ more) (asked_with before file) ≡ option_map (λ all. all ++ (file ∷ more)) before
more_names None file more = refl
more_names (Some names) file more =
    let e : (names ++ file ∷ []) ++ more ≡ names ++ (file ∷ more) = rw append_assoc in
    ap Some e

-- all, where the first spells a system
pub asks_all : (files : Option Files) (work : Work (List ℕ)) (file : List ℕ) (form : Form) (lts : System) (before between after : Option (List (List ℕ)))
    → IsSystemFile files form file lts → between ≡ asked_with before file → after ≡ asked_more between (second_file work) → AsksFiles files work file form before after
asks_all files work file form lts before between after system first second = (
  file ∷ option_to_list (second_file work),
  [],
  sym (append-nil (file ∷ option_to_list (second_file work))),
  second ∙ ap (λ names. asked_more names (second_file work)) first ∙ more_names before file (option_to_list (second_file work)),
  (λ lt. (lts, system)),
)

-- ---- the calls that read the files

module _ {S : Type 0} (finds : S → List ℕ → Option Bool → S → Type 0) (hands : S → ℕ → Option ℕ → S → Type 0) (files : Option Files)
    (work : Work (List ℕ)) (file : List ℕ) (form : Form) where
  -- those that read the first file, to its end, and those that read the others
  pub reads_all : (may_have : Cause → Type 0) (s m t : S) (lts : System) → ReadsFile finds hands most_bytes file s finds_end m → IsSystemFile files form file lts
      → ReadsMore finds hands (second_file work) m t → ReadsFiles finds hands files work file form may_have s t
  reads_all may_have s m t lts first system more = by (second_file work) refl more
    where
      by : (second : Option (List ℕ)) → second_file work ≡ second → ReadsMore finds hands second m t → ReadsFiles finds hands files work file form may_have s t
      by None is same = only_one s t (subst (λ x. ReadsFile finds hands most_bytes file s finds_end x) (sym same) first) (ap (λ o. file ∷ option_to_list o) is)
      by (Some second) is (last, reads) = both second s m t lts last (ap (λ o. file ∷ option_to_list o) is) first system reads

  -- those that read the first file, with a reason to stop if its end was found
  pub reads_first : (may_have : Cause → Type 0) (s t : S) (last : LastCall) → ReadsFile finds hands most_bytes file s last t
      → (ReadsFile finds hands most_bytes file s finds_end t → ReadsFiles finds hands files work file form may_have s t) → ReadsFiles finds hands files work file form may_have s t
  reads_first may_have s t finds_end reads stop = stop reads
  reads_first may_have s t fails reads stop = part s t fails (λ e. absurd cc) reads
  reads_first may_have s t finds_none reads stop = part s t finds_none (λ e. absurd cc) reads
  reads_first may_have s t breaks_off reads stop = part s t breaks_off (λ e. absurd cc) reads

  reads_by : (P Q : Cause → Type 0) → ((cause : Cause) → P cause → Q cause) → (s t : S) → ReadsFiles finds hands files work file form P s t
      → ReadsFiles finds hands files work file form Q s t
  reads_by P Q more _ _ (part s t last other reads) = part s t last other reads
  reads_by P Q more _ _ (only_one s t reads one) = only_one s t reads one
  reads_by P Q more _ _ (refused s t fault reads none may) = refused s t fault reads none (more (is_refused fault) may)
  reads_by P Q more _ _ (no_memory s t reads may) = no_memory s t reads (more lacks_memory may)
  reads_by P Q more _ _ (both second s m t lts last two first system reads) = both second s m t lts last two first system reads

pub no_cause : (cause : Cause) → HasCause (Err stop.ReadFault) cause → ⊥
no_cause (is_refused fault) is = is
no_cause lacks_memory is = is

-- what may be the cause of an answer may be one of the status that is written for it
pub reads_at_most_by : {S : Type 0} (finds : S → List ℕ → Option Bool → S → Type 0) (hands : S → ℕ → Option ℕ → S → Type 0) (words : List (List ℕ))
    (files : Option Files) (P Q : Cause → Type 0) → ((cause : Cause) → P cause → Q cause) → (s t : S) → ReadsAtMost finds hands words files P s t → ReadsAtMost finds hands words files Q s t
reads_at_most_by finds hands words files P Q more s t (inl same) = inl same
reads_at_most_by finds hands words files P Q more s t (inr (work, file, form, ask, reads)) = inr (work, file, form, ask, reads_by finds hands files work file form P Q more s t reads)

-- the status of an answer that is written, or whose writing failed
pub cause_of_status : {A B : Type 0} (answer : Answer) (status result : Status) → HasStatus (end_of answer) status → ((result ≡ status) × A) ⊎ ((result ≡ WriteFault) × B)
    → (cause : Cause) → HasCause (Ok answer) cause → MayHaveCause result cause
cause_of_status answer status result has (inl (same, _)) (is_refused fault) is =
    let shown : status ≡ File (first_fault fault) = subst (λ e. HasStatus e status) is has in
    subst (λ s. MayHaveCause s (is_refused fault)) (sym (same ∙ shown)) refl
cause_of_status answer status result has (inr (same, _)) (is_refused fault) is = subst (λ s. MayHaveCause s (is_refused fault)) (sym same) tt
cause_of_status answer status result has written lacks_memory is = absurd is

-- ---- the calls for what words ask

pub asks_at_most : (words : List (List ℕ)) (files : Option Files) (asked : Request (List ℕ)) (before after : Option (List (List ℕ)))
    → Ask words asked → AsksOf files asked before after → AsksAtMost words files before after
asks_at_most words files (OfSystem work file form) before after ask asks = inr (work, file, form, ask, asks)
asks_at_most words files (Generate kind n) before after ask same = inl same
asks_at_most words files (SelfTest n) before after ask same = inl same

pub reads_at_most : {S : Type 0} (finds : S → List ℕ → Option Bool → S → Type 0) (hands : S → ℕ → Option ℕ → S → Type 0) (words : List (List ℕ))
    (files : Option Files) (asked : Request (List ℕ)) (may_have : Cause → Type 0) (s t : S) → Ask words asked → ReadsOf finds hands files asked may_have s t
    → ReadsAtMost finds hands words files may_have s t
reads_at_most finds hands words files (OfSystem work file form) may_have s t ask reads = inr (work, file, form, ask, reads)
reads_at_most finds hands words files (Generate kind n) may_have s t ask same = inl same
reads_at_most finds hands words files (SelfTest n) may_have s t ask same = inl same

pub read_fault : (words : List (List ℕ)) (faults : Change ℕ) (asked : Request (List ℕ)) → Ask words asked → IsOfFile asked → HasRisen faults.before faults.after → IsReadFault words faults
read_fault words faults (OfSystem work file form) ask of_file risen = record { work = work; file = file; form = form; ask = ask; risen = risen }
read_fault words faults (Generate kind n) ask of_file risen = absurd of_file
read_fault words faults (SelfTest n) ask of_file risen = absurd of_file
