-- What the parts of the answer say. Contracts of the crate's private functions cite it.
use Rattle.std.specs.Prelude.{◌≡◌, ◌⊎◌, ◌++◌, ℕ, Bool, List, Option, None, Some, option_map, Result, Ok, Err}
use Rattle.std.specs.Option.{option_to_list}
use Rattle.rg_text.specs.Limits.{most_bytes}
use Rattle.rg_ports.specs.Calls.{LastCall, ReadsFile}
use Rattle.rg_ports.specs.Shelf.{Files}
use Rattle.rg_integers.specs.Range.{greatest}
use Rattle.rg_theory.specs.System.{System}
use Rattle.rg_theory.specs.Net.{Net}
use Rattle.rg_theory.specs.Solves.{Solves}
use Rattle.rg_theory.specs.Class.{IsBounded, InClass, NoNet}
use Rattle.rg_theory.specs.declared.Class.{Class}
use Rattle.rg_cert_data.specs.Certificates.{Claim}
use Rattle.rg_cert.specs.Spells.{Spells}
use Rattle.rg_verify.specs.Judged.{Holds}
use Rattle.rg_netfile.specs.Spells.{Spells as NetSpells}
use Rattle.rg_net_verdict.specs.declared.verdict.CheckWide.{CheckWide}
use Rattle.rg_net_verdict.specs.declared.verdict.NetNo.{NetNo}
use Rattle.rg_net_verdict.specs.declared.verdict.NetVerdict.TheVariants as verdict_of
use Rattle.rg_net_verdict.specs.Verdict.{IsVerdict}
use Rattle.rg_commands.specs.declared.request.Request.{Request}
use Rattle.rg_commands.specs.declared.request.Request.TheVariants.{OfSystem}
use Rattle.rg_messages.specs.CheckedTexts.{yes_line, no_line}
use Rattle.rg_messages.specs.JudgedTexts.{accepted_line, refused_line}
use Rattle.rg_messages.specs.declared.fault.Fault.{Fault}
use Rattle.rg_top.specs.Check.{IsNetFault}
use Rattle.rg_top.specs.Second.{first_fault, second_fault}
use Rattle.rg_top.specs.Verify.{IsRefusedFor}
use Rattle.rg_top.specs.Run.{Writes, Takes, Breaks, AsksFiles, Cause, is_refused, lacks_memory, ReadsFiles}
use Rattle.rg_top.specs.End.{End, says_yes, says_no, refuses_words, refuses_file, shows_term, to_out, to_err, output_of, HasStatus}
use Rattle.rg_top.specs.Terms.{of_check, term_of}
use Rattle.rg_top.specs.declared.status.Status.{Status}
use Rattle.rg_top.specs.declared.status.Status.TheVariants.{WriteFault}
use Rattle.rg_top.specs.declared.answer.Answer.{Answer}
use Rattle.rg_top.specs.declared.answer.Answer.TheVariants as answer
use Rattle.rg_top.specs.declared.answer.Stop.{Stop}
use Rattle.rg_top.specs.declared.answer.Stop.TheVariants as stop
use Rattle.rg_top.specs.declared.output.Output.{Output}
use Rattle.rg_top.specs.declared.output.Output.TheVariants as output

-- the end that an answer is
abbrev pub end_of : Answer → End
end_of (answer.Yes text) = says_yes text.items
end_of (answer.No text) = says_no text.items
end_of (answer.Usage usage) = refuses_words usage
end_of (answer.File fault) = refuses_file fault
end_of (answer.TooWide cause) = shows_term (term_of cause)

-- the output has the status of the end, and the bytes for its sink
abbrev pub IsOutputOf : End → Output → Type 0
IsOutputOf end (output.Out status text) = HasStatus end status × (output_of end ≡ to_out text.items)
IsOutputOf end (output.Err status line) = HasStatus end status × (output_of end ≡ to_err line.items)

-- the sink took the bytes and this is the status, or it failed
abbrev pub IsWritten : Writes → List ℕ → Status → Status → Type 0
IsWritten sink bytes status result = ((result ≡ status) × Takes sink bytes) ⊎ ((result ≡ WriteFault) × Breaks sink bytes)

-- the calls of a request: those for its files, or none
abbrev pub AsksOf : Option Files → Request (List ℕ) → Option (List (List ℕ)) → Option (List (List ℕ)) → Type 0
AsksOf files (OfSystem work file form) before after = AsksFiles files work file form before after
AsksOf files _ before after = after ≡ before

abbrev pub ReadsOf : {S : Type 0} (finds : S → List ℕ → Option Bool → S → Type 0) (hands : S → ℕ → Option ℕ → S → Type 0)
    → Option Files → Request (List ℕ) → (Cause → Type 0) → S → S → Type 0
ReadsOf finds hands files (OfSystem work file form) may_have s t = ReadsFiles finds hands files work file form may_have s t
ReadsOf finds hands files _ may_have s t = t ≡ s

-- what is answered, if anything, has the cause: the answer refuses the first file for the fault, or there was no memory
abbrev pub HasCause : Result Answer Stop → Cause → Type 0
HasCause (Ok answer) (is_refused fault) = end_of answer ≡ refuses_file (first_fault fault)
HasCause (Err stop.NoMemory) lacks_memory = Unit {0}
HasCause _ _ = ⊥

-- the request is for work on the system of a file
abbrev pub IsOfFile : Request (List ℕ) → Type 0
IsOfFile (OfSystem work file form) = Unit {0}
IsOfFile _ = ⊥

-- the names asked for, with that of the second file, where there is one
abbrev pub asked_more : Option (List (List ℕ)) → Option (List ℕ) → Option (List (List ℕ))
asked_more before second = option_map (λ all. all ++ option_to_list second) before

-- the calls that read the second file, where there is one
abbrev pub ReadsMore : {S : Type 0} (finds : S → List ℕ → Option Bool → S → Type 0) (hands : S → ℕ → Option ℕ → S → Type 0) → Option (List ℕ) → S → S → Type 0
ReadsMore finds hands None s t = t ≡ s
ReadsMore finds hands (Some second) s t = (last : LastCall) × ReadsFile finds hands most_bytes second s last t

-- how `verify` ends where the second file has these bytes
pub data JudgesBytes (bytes : List ℕ) (lts : System) : End → Type 0 where
  accepted : (claim : Claim) → Spells bytes lts claim → Holds lts claim → NoNet lts claim.class → JudgesBytes bytes lts (says_yes (accepted_line claim.class))
  refused : (why : List ℕ) → ((claim : Claim) → Spells bytes lts claim → ¬ Holds lts claim) → IsRefusedFor bytes lts why → JudgesBytes bytes lts (says_no (refused_line why))

-- how `check` ends for a net
pub data TellsNet (told : Net) (class : Class) (lts : System) : End → Type 0 where
  yes : IsVerdict lts told class (Ok verdict_of.Yes) → Solves told lts → InClass told class → IsBounded told greatest → TellsNet told class lts (says_yes yes_line)
  no : (found : NetNo) → IsVerdict lts told class (Ok (verdict_of.No found)) → (Solves told lts → ¬ InClass told class) → TellsNet told class lts (says_no (no_line lts found))
  passes : (w : CheckWide) → IsVerdict lts told class (Err w) → TellsNet told class lts (shows_term (of_check w))

-- how `check` ends where the second file has these bytes
pub data TellsBytes (bytes : List ℕ) (class : Class) (lts : System) : End → Type 0 where
  faulty : (fault : Fault) → IsNetFault bytes lts fault → TellsBytes bytes class lts (refuses_file (second_fault fault))
  spelled : (told : Net) (end : End) → NetSpells bytes lts told → TellsNet told class lts end → TellsBytes bytes class lts end
