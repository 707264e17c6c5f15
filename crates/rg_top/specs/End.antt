-- How a command ends: with a text on out, or with a line on err.
use Rattle.std.specs.Prelude.{◌≡◌, ℕ, List}
use Rattle.rg_commands.specs.declared.usage.Usage.{Usage}
use Rattle.rg_messages.specs.Usages.{usage_line}
use Rattle.rg_messages.specs.Files.{file_line}
use Rattle.rg_messages.specs.declared.fault.FileFault.{FileFault}
use Rattle.rg_top.specs.Terms.{Term, term_line, ShowsTerm}
use Rattle.rg_top.specs.declared.status.Status.{Status}
use Rattle.rg_top.specs.declared.status.Status.TheVariants.{Done, No, Usage as Refuses, File}

-- the command's yes or its no, with the text that says it; why the words or a file are refused; or the term that is out of range
pub data End : Type 0 where
  says_yes : List ℕ → End
  says_no : List ℕ → End
  refuses_words : Usage → End
  refuses_file : FileFault → End
  shows_term : Term → End

-- the one sink to which something is written, and the bytes
pub data Output : Type 0 where
  to_out : List ℕ → Output
  to_err : List ℕ → Output

-- what an end writes
abbrev pub output_of : End → Output
output_of (says_yes text) = to_out text
output_of (says_no text) = to_out text
output_of (refuses_words usage) = to_err (usage_line usage)
output_of (refuses_file fault) = to_err (file_line fault)
output_of (shows_term term) = to_err (term_line term)

-- the status of an end; each status that shows the term is one of its end
abbrev pub HasStatus : End → Status → Type 0
HasStatus (says_yes text) status = status ≡ Done
HasStatus (says_no text) status = status ≡ No
HasStatus (refuses_words usage) status = status ≡ Refuses usage
HasStatus (refuses_file fault) status = status ≡ File fault
HasStatus (shows_term term) status = ShowsTerm term status
