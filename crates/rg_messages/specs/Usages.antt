-- The lines that refuse words, written to err.
use Rattle.std.specs.Prelude.{ℕ, List, ◌++◌, codes, decimal}
use Rattle.rg_theory.specs.declared.class_words.ClassFault.{ClassFault}
use Rattle.rg_theory.specs.declared.class_words.ClassFault.TheVariants.{UnknownWord, BadNumber, Repeated}
use Rattle.rg_commands.specs.declared.usage.Usage.{Usage}
use Rattle.rg_commands.specs.declared.usage.Usage.TheVariants.{NoCommand, UnknownCommand, Words, ClassWord, FormWord, KindWord, FromWord, JobsWord, NumberWord}

-- the number of a refused class word
abbrev pub refused_number : ClassFault → ℕ
refused_number (UnknownWord i) = i
refused_number (BadNumber i) = i
refused_number (Repeated i) = i

-- why a class word is refused
abbrev pub class_fault_words : ClassFault → List ℕ
class_fault_words (UnknownWord i) = codes "unknown"
class_fault_words (BadNumber i) = codes "bad number"
class_fault_words (Repeated i) = codes "repeated"

-- why the words are refused
abbrev pub usage_text : Usage → List ℕ
usage_text NoCommand = codes "no command"
usage_text UnknownCommand = codes "unknown command"
usage_text Words = codes "words refused"
usage_text (ClassWord fault) = codes "class word " ++ decimal (refused_number fault) ++ codes ": " ++ class_fault_words fault
usage_text FormWord = codes "form is apt or graph"
usage_text KindWord = codes "kind is grid, doubling or lock"
usage_text FromWord = codes "--from is apt, graph or words"
usage_text JobsWord = codes "--jobs is 1 to 16"
usage_text NumberWord = codes "number out of range"

abbrev pub usage_line : Usage → List ℕ
usage_line usage = codes "usage: " ++ usage_text usage ++ codes "\n"
