-- Values of words, or why there are none.
use Rattle.std.specs.Prelude.{ℕ, nat_le, Bool, ◌&&◌, List, [], Option, None, Some, Result, Ok, Err, codes, length, unwrap_or, if◌then◌else◌}
use Rattle.std.specs.Option.{ok_or}
use Rattle.std.specs.List.{list_all}
use Rattle.std.specs.Char.{is_ascii_digit}
use Rattle.std.specs.Str.{bytes_eq}
use Rattle.std.specs.Str.Parse.{digits_value}
use Rattle.clap.specs.Words.{Row, first_of}
use Rattle.rg_theory.specs.declared.Class.{Class}
use Rattle.rg_theory.specs.declared.class_words.ClassFault.{ClassFault}
use Rattle.rg_theory.specs.ClassWords.{NamesClass, FirstRefusedWord}
use Rattle.rg_families.specs.declared.Kind.{Kind}
use Rattle.rg_families.specs.declared.Kind.TheVariants.{Grid, Doubling, Lock}
use Rattle.rg_commands.specs.declared.usage.Usage.{Usage}
use Rattle.rg_commands.specs.declared.usage.Usage.TheVariants.{ClassWord, FormWord, KindWord, FromWord, JobsWord, NumberWord}
use Rattle.rg_commands.specs.declared.forms.Form.{Form}
use Rattle.rg_commands.specs.declared.forms.Form.TheVariants.{Apt, Graph, Words}
use Rattle.rg_commands.specs.declared.forms.Target.{Target}
use Rattle.rg_commands.specs.declared.forms.Target.TheVariants as target
use Rattle.rg_commands.specs.declared.splitting.SplitOutput.{SplitOutput}
use Rattle.rg_commands.specs.declared.splitting.SplitOutput.TheVariants as split
use Rattle.rg_commands.specs.declared.examining.ExamineOutput.{ExamineOutput}
use Rattle.rg_commands.specs.declared.examining.ExamineOutput.TheVariants as examine

-- what is made of a value, or why there is none
abbrev pub with_value : {A B : Type 0} → Result A Usage → (A → Result B Usage) → Result B Usage
with_value (Ok value) make = make value
with_value (Err usage) make = Err usage

-- the value of a word that must be there
abbrev pub text_in : List ℕ → List Row → List ℕ
text_in id rows = unwrap_or (first_of id rows) []

-- the name of the system's file
abbrev pub file_in : List Row → List ℕ
file_in rows = text_in (codes "FILE") rows

-- whether a flag is there: its value is then `true`, which clap gives it
abbrev pub is_given : List ℕ → List Row → Bool
is_given id rows = bytes_eq (text_in id rows) (codes "true")

-- ---- classes

-- what a text says: the class that it names, or its first refused word
abbrev pub ClassSays : List ℕ → Result Class ClassFault → Type 0
ClassSays text (Ok class) = NamesClass text class
ClassSays text (Err fault) = FirstRefusedWord text fault

abbrev pub class_asked : Result Class ClassFault → Result Class Usage
class_asked (Ok class) = Ok class
class_asked (Err fault) = Err (ClassWord fault)

-- the class of an option that may be left out
abbrev pub class_if_any : Option (List ℕ) → Result Class ClassFault → Result (Option Class) Usage
class_if_any None told = Ok None
class_if_any (Some text) told = with_value (class_asked told) (λ class. Ok (Some class))

-- ---- forms and families

-- the form that a word names; without one that of APT
abbrev pub form_in : Option (List ℕ) → Option Form
form_in None = Some Apt
form_in (Some word) =
    if bytes_eq word (codes "apt") then Some Apt
    else (if bytes_eq word (codes "graph") then Some Graph
    else (if bytes_eq word (codes "words") then Some Words else None))

-- the form to read that an option names
abbrev pub form_asked : List ℕ → List Row → Result Form Usage
form_asked id rows = ok_or (form_in (first_of id rows)) FromWord

-- the form to write that a word names
abbrev pub target_in : List ℕ → Option Target
target_in word =
    if bytes_eq word (codes "apt") then Some target.Apt
    else (if bytes_eq word (codes "graph") then Some target.Graph else None)

abbrev pub target_asked : List Row → Result Target Usage
target_asked rows = ok_or (target_in (text_in (codes "FORM") rows)) FormWord

-- the family that a word names
abbrev pub kind_in : List ℕ → Option Kind
kind_in word =
    if bytes_eq word (codes "grid") then Some Grid
    else (if bytes_eq word (codes "doubling") then Some Doubling
    else (if bytes_eq word (codes "lock") then Some Lock else None))

abbrev pub kind_asked : List Row → Result Kind Usage
kind_asked rows = ok_or (kind_in (text_in (codes "KIND") rows)) KindWord

-- ---- what is written

-- by `split`
abbrev pub split_output : List Row → SplitOutput
split_output rows = if is_given (codes "system") rows then split.System else split.Net

-- by `examine`
abbrev pub examine_output : List Row → ExamineOutput
examine_output rows = if is_given (codes "json") rows then examine.Json else examine.Lines

-- ---- numbers

-- the most jobs
abbrev pub most_jobs : ℕ
most_jobs = 16

-- the greatest number of a self test
abbrev pub most_self_test : ℕ
most_self_test = 40

-- the most digits of a number
abbrev pub most_digits : ℕ
most_digits = 9

-- digits, one at least and no more than that
abbrev pub is_number_word : List ℕ → Bool
is_number_word word = (nat_le 1 (length word) && nat_le (length word) most_digits) && list_all is_ascii_digit word

-- the number that they spell, where it is from 1 to most
abbrev pub number_up_to : ℕ → List ℕ → Option ℕ
number_up_to most word =
    if is_number_word word && (nat_le 1 (digits_value 10 word) && nat_le (digits_value 10 word) most) then Some (digits_value 10 word) else None

-- the number of a family's system or of a self test
abbrev pub number_asked : ℕ → List Row → Result ℕ Usage
number_asked most rows = ok_or (number_up_to most (text_in (codes "N") rows)) NumberWord

-- how many jobs a word asks for; without one it is 1
abbrev pub jobs_in : Option (List ℕ) → Option ℕ
jobs_in word = number_up_to most_jobs (unwrap_or word (codes "1"))

abbrev pub jobs_asked : List Row → Result ℕ Usage
jobs_asked rows = ok_or (jobs_in (first_of (codes "jobs") rows)) JobsWord
