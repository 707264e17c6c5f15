-- What is seen of one run, and how it may end.
use Rattle.std.specs.Prelude.{◌≡◌, ◌≢◌, ◌⊎◌, ℕ, ◌<◌, Bool, true, false, List, [], ◌∷◌, ◌++◌, length, Option, option_map, IsSome}
use Rattle.rg_text.specs.Limits.{most_bytes}
use Rattle.rg_ports.specs.Calls.{LastCall, finds_end, ReadsFile}
use Rattle.rg_ports.specs.Count.{HasRisen}
use Rattle.rg_ports.specs.Offer.{Offers}
use Rattle.rg_ports.specs.Shelf.{Files}
use Rattle.rg_ports.specs.Sink.{taken_with, TakesPart}
use Rattle.rg_theory.specs.System.{System}
use Rattle.rg_commands.specs.declared.request.Request.TheVariants.{OfSystem}
use Rattle.rg_commands.specs.declared.request.Work.{Work}
use Rattle.rg_commands.specs.Requests.{file_words}
use Rattle.rg_commands.specs.Says.{Ask}
use Rattle.rg_commands.specs.declared.forms.Form.{Form}
use Rattle.rg_messages.specs.declared.fault.Fault.{Fault}
use Rattle.rg_top.specs.Given.{IsNoSystem, IsSystemFile}
use Rattle.rg_top.specs.Second.{first_fault}
use Rattle.rg_top.specs.Ends.{Answers}
use Rattle.rg_top.specs.Due.{IsDue, IsPassed}
use Rattle.rg_top.specs.End.{End, Output, to_out, to_err, output_of, HasStatus}
use Rattle.rg_top.specs.Terms.{Term, term_of, ShowsTerm}
use Rattle.rg_top.specs.declared.status.Status.{Status}
use Rattle.rg_top.specs.declared.status.Status.TheVariants.{File, TooWide, ReadFault, WriteFault, NoMemory}

-- a value before the run and after it
pub record Change (A : Type 0) : Type 0 where
  pub before : A
  pub after : A

-- what is seen of a sink: what was taken and how often a call failed, before the run and after it, and which runs of writes lead
-- from its state before the run to that after it: those that offer these bytes, each time all that are left, to the end or not
pub record Writes : Type 1 where
  pub taken : Change (Option (List ℕ))
  pub faults : Change ℕ
  pub offers : List ℕ → Bool → Type 0

-- the words, what the shelf shows of its files, how often its calls failed, and what is seen of both sinks
pub record Run : Type 1 where
  pub words : List (List ℕ)
  pub files : Option Files
  pub shelf_faults : Change ℕ
  pub out : Writes
  pub err : Writes

abbrev pub change : {A : Type 0} → A → A → Change A
change before after = record { before = before; after = after }

-- what is seen of a sink with these meanings, whose state was s before the run and is t after it
abbrev pub writes : {S : Type 0} (taken : S → Option (List ℕ)) (faults : S → ℕ) (gives : S → List ℕ → Option ℕ → S → Type 0) → S → S → Writes
writes taken faults gives s t = record {
  taken = change (taken s) (taken t);
  faults = change (faults s) (faults t);
  offers = λ bytes whole. Offers gives s bytes whole t;
}

abbrev pub seen : List (List ℕ) → Option Files → Change ℕ → Writes → Writes → Run
seen words files shelf_faults out err = record { words = words; files = files; shelf_faults = shelf_faults; out = out; err = err }

-- the sink was offered these bytes, each time all that it hadn't taken, and took them after what it had
pub record Takes (sink : Writes) (bytes : List ℕ) : Type 0 where
  pub taken : sink.taken.after ≡ taken_with sink.taken.before bytes
  pub offered : sink.offers bytes true

-- the sink was offered nothing, and took nothing
pub record IsLeft (sink : Writes) : Type 0 where
  pub taken : sink.taken.after ≡ sink.taken.before
  pub offered : sink.offers [] true

-- the sink was offered the bytes, each time all that it hadn't taken, and failed after a proper prefix
pub record Breaks (sink : Writes) (bytes : List ℕ) : Type 0 where
  pub part : TakesPart sink.taken.before bytes sink.taken.after
  pub risen : HasRisen sink.faults.before sink.faults.after
  pub offered : sink.offers bytes false

-- the sink of the output was offered its bytes and took them, and the other was offered nothing
abbrev pub TakesOutput : Run → Output → Type 0
TakesOutput run (to_out bytes) = Takes run.out bytes × IsLeft run.err
TakesOutput run (to_err bytes) = IsLeft run.out × Takes run.err bytes

-- the sink of the output failed after a proper prefix of its bytes, and the other was offered nothing
abbrev pub BreaksOutput : Run → Output → Type 0
BreaksOutput run (to_out bytes) = Breaks run.out bytes × IsLeft run.err
BreaksOutput run (to_err bytes) = IsLeft run.out × Breaks run.err bytes

-- the words and the files end so, with this status, and all that the end writes was taken
pub record Says (run : Run) (status : Status) : Type 0 where
  pub end : End
  pub due : Answers run.words run.files end
  pub has : HasStatus end status
  pub taken : TakesOutput run (output_of end)

-- a fault of the shelf: the words name files, and its count of faults has risen
pub record IsReadFault (words : List (List ℕ)) (faults : Change ℕ) : Type 0 where
  pub work : Work (List ℕ)
  pub file : List ℕ
  pub form : Form
  pub ask : Ask words (OfSystem work file form)
  pub risen : HasRisen faults.before faults.after

-- a file that the words name couldn't be read; nothing was written
pub record FailsToRead (run : Run) : Type 0 where
  pub fault : IsReadFault run.words run.shelf_faults
  pub out : IsLeft run.out
  pub err : IsLeft run.err

-- the words and the files end so, with this status, and the sink to which that end writes failed after a proper prefix; the other sink took
-- nothing
pub record FailsToWrite (run : Run) : Type 0 where
  pub status : Status
  pub end : End
  pub due : Answers run.words run.files end
  pub has : HasStatus end status
  pub broken : BreaksOutput run (output_of end)

-- there was no memory; nothing was written
pub record LacksMemory (run : Run) : Type 0 where
  pub out : IsLeft run.out
  pub err : IsLeft run.err

-- how the run ended, for each status
abbrev pub Ends : Run → Status → Type 0
Ends run ReadFault = FailsToRead run
Ends run WriteFault = FailsToWrite run
Ends run NoMemory = LacksMemory run
Ends run status = Says run status

-- the shelf was asked for some first ones of the files of the work, each once and in order, and for the second one only where the
-- first spells a system
abbrev pub AsksFiles : Option Files → Work (List ℕ) → List ℕ → Form → Option (List (List ℕ)) → Option (List (List ℕ)) → Type 0
AsksFiles files work file form before after =
    (names left : List (List ℕ)) × (file_words (OfSystem work file form) ≡ names ++ left) × (after ≡ option_map (λ all. all ++ names) before)
    × (1 < length names → (lts : System) × IsSystemFile files form file lts)

-- the shelf was asked for some first ones of the files that the words name, or for nothing
abbrev pub AsksAtMost : List (List ℕ) → Option Files → Option (List (List ℕ)) → Option (List (List ℕ)) → Type 0
AsksAtMost words files before after =
    (after ≡ before) ⊎ ((work : Work (List ℕ)) × (file : List ℕ) × (form : Form) × Ask words (OfSystem work file form) × AsksFiles files work file form before after)

-- why a second file that is named isn't read after the end of the first was found: the first is refused for this fault, or memory ran out
pub data Cause : Type 0 where
  is_refused : Fault → Cause
  lacks_memory : Cause

-- a run that ends with the status may have that cause: the refusal is written or breaks off, or there was no memory
abbrev pub MayHaveCause : Status → Cause → Type 0
MayHaveCause (File found) (is_refused fault) = found ≡ first_fault fault
MayHaveCause WriteFault (is_refused fault) = Unit {0}
MayHaveCause NoMemory cause = Unit {0}
MayHaveCause _ _ = ⊥

-- the calls that read the system's file, each handing out at most one byte more than a file may have: they stop before its end is found; or the
-- work names no other file, the file is refused, or memory ran out; or the file spells a system, and the second one is read
pub data ReadsFiles {S : Type 0} (finds : S → List ℕ → Option Bool → S → Type 0) (hands : S → ℕ → Option ℕ → S → Type 0)
    (files : Option Files) (work : Work (List ℕ)) (file : List ℕ) (form : Form) (may_have : Cause → Type 0) : S → S → Type 0 where
  part : (s t : S) (last : LastCall) → last ≢ finds_end → ReadsFile finds hands most_bytes file s last t → ReadsFiles finds hands files work file form may_have s t
  only_one : (s t : S) → ReadsFile finds hands most_bytes file s finds_end t → file_words (OfSystem work file form) ≡ file ∷ []
      → ReadsFiles finds hands files work file form may_have s t
  refused : (s t : S) (fault : Fault) → ReadsFile finds hands most_bytes file s finds_end t → IsNoSystem files form file fault → may_have (is_refused fault)
      → ReadsFiles finds hands files work file form may_have s t
  no_memory : (s t : S) → ReadsFile finds hands most_bytes file s finds_end t → may_have lacks_memory → ReadsFiles finds hands files work file form may_have s t
  both : (second : List ℕ) (s m t : S) (lts : System) (last : LastCall) → file_words (OfSystem work file form) ≡ file ∷ second ∷ []
      → ReadsFile finds hands most_bytes file s finds_end m → IsSystemFile files form file lts
      → ReadsFile finds hands most_bytes second m last t → ReadsFiles finds hands files work file form may_have s t

-- no call of the shelf, or those that read the files that the words name; none after the end of a file was found
abbrev pub ReadsAtMost : {S : Type 0} (finds : S → List ℕ → Option Bool → S → Type 0) (hands : S → ℕ → Option ℕ → S → Type 0)
    → List (List ℕ) → Option Files → (Cause → Type 0) → S → S → Type 0
ReadsAtMost finds hands words files may_have s t =
    (t ≡ s) ⊎ ((work : Work (List ℕ)) × (file : List ℕ) × (form : Form) × Ask words (OfSystem work file form) × ReadsFiles finds hands files work file form may_have s t)

-- a fault, or want of memory
abbrev pub IsMishap : Status → Type 0
IsMishap ReadFault = Unit {0}
IsMishap WriteFault = Unit {0}
IsMishap NoMemory = Unit {0}
IsMishap _ = ⊥

-- the words ask for no work on a file
pub record NameNoFile (words : List (List ℕ)) : Type 0 where
  pub none : (work : Work (List ℕ)) (file : List ℕ) (form : Form) → Ask words (OfSystem work file form) → ⊥

-- it is decided which status is expected: the shelf shows its files, or the words name none
abbrev pub IsDecided : List (List ℕ) → Option Files → Type 0
IsDecided words files = IsSome files ⊎ NameNoFile words

-- the status is the expected one, or shows the same term
abbrev pub IsTheOne : Status → Status → Type 0
IsTheOne (TooWide cause) result = ShowsTerm (term_of cause) result
IsTheOne due result = result ≡ due

-- where it is decided which status is expected, the status that the words and the files determine is returned, unless a fault or want
-- of memory comes in its place
abbrev pub ComesIfDue : List (List ℕ) → Option Files → Status → Status → Type 0
ComesIfDue words files due result = IsDecided words files → IsDue words files due → IsTheOne due result ⊎ IsMishap result

-- where nets are asked for, it is decided which status is expected, and what decides is a term that is out of range, the status shows
-- that term, unless a fault or want of memory comes in its place
abbrev pub ComesIfPassed : List (List ℕ) → Option Files → Term → Status → Type 0
ComesIfPassed words files w result = IsDecided words files → IsPassed words files w → ShowsTerm w result ⊎ IsMishap result
