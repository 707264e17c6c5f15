-- What words ask for, or the first reason in order for which they are refused.
use Rattle.std.specs.Prelude.{◌≡◌, ℕ, List, [], ◌∷◌, Result, Ok, Err, codes, slice_get}
use Rattle.std.specs.Option.{ok_or}
use Rattle.std.specs.Result.{result_unwrap_or}
use Rattle.clap.specs.Words.{Kinds, Row, fault_of, first_of, matches_of}
use Rattle.rg_theory.specs.declared.Class.{Class}
use Rattle.rg_theory.specs.declared.class_words.ClassFault.{ClassFault}
use Rattle.rg_families.specs.Families.{greatest}
use Rattle.rg_commands.specs.declared.usage.Usage.{Usage}
use Rattle.rg_commands.specs.declared.usage.Usage.TheVariants.{NoCommand, UnknownCommand, Words}
use Rattle.rg_commands.specs.declared.usage.WordsStop.{WordsStop}
use Rattle.rg_commands.specs.declared.usage.WordsStop.TheVariants as stop
use Rattle.rg_commands.specs.declared.table.Command.{Command}
use Rattle.rg_commands.specs.declared.table.Command.TheVariants as command
use Rattle.rg_commands.specs.declared.request.Request.{Request}
use Rattle.rg_commands.specs.declared.request.Request.TheVariants.{OfSystem, Generate, SelfTest}
use Rattle.rg_commands.specs.declared.request.Work.TheVariants.{Synthesize, Verify, Check, Convert, Factor, Split, Isomorphic, Examine}
use Rattle.rg_commands.specs.Table.{command_named, app_for}
use Rattle.rg_commands.specs.Values.{with_value, text_in, file_in, ClassSays, class_asked, class_if_any, form_asked, target_asked, kind_asked, split_output, examine_output, number_asked, jobs_asked, most_self_test}

-- what words say: what they ask for, or why they are refused
abbrev pub Said : Type 0
Said = Result (Request (List ℕ)) Usage

-- why the words give nothing: they are refused for this reason, or there is no memory
abbrev pub IsStopOf : (Usage → Type 0) → WordsStop → Type 0
IsStopOf Refuses (stop.Refused usage) = Refuses usage
IsStopOf Refuses stop.NoMemory = Unit {0}

-- ---- the values of the words, by clap's definitions

-- the command that the first word names
abbrev pub command_asked : List (List ℕ) → Result Command Usage
command_asked words = with_value (ok_or (slice_get words 0) NoCommand) (λ name. ok_or (command_named name) UnknownCommand)

abbrev pub if_no_fault : Kinds → List Row → Result (List Row) Usage
if_no_fault [] rows = Ok rows
if_no_fault (kind ∷ more) rows = Err Words

-- the values of the words of a command
abbrev pub values_asked : Command → List (List ℕ) → Result (List Row) Usage
values_asked command words = if_no_fault (fault_of (app_for command) words) (matches_of (app_for command) words)

-- what is made of the command and the values of the words, or why there are none
abbrev pub with_values : {A : Type 0} → List (List ℕ) → (Command → List Row → Result A Usage) → Result A Usage
with_values words make = with_value (command_asked words) (λ command. with_value (values_asked command words) (λ rows. make command rows))

-- ---- what the values of each command ask for, where `told` is what its class word says

abbrev pub synthesize_says : Result Class ClassFault → List Row → Said
synthesize_says told rows =
    with_value (class_asked told) (λ class. with_value (form_asked (codes "from") rows) (λ form. with_value (jobs_asked rows) (λ jobs.
    Ok (OfSystem (Synthesize class jobs) (file_in rows) form))))

abbrev pub verify_says : List Row → Said
verify_says rows = with_value (form_asked (codes "from") rows) (λ form. Ok (OfSystem (Verify (text_in (codes "CERT") rows)) (file_in rows) form))

abbrev pub check_says : Result Class ClassFault → List Row → Said
check_says told rows =
    with_value (class_asked told) (λ class. with_value (form_asked (codes "from") rows) (λ form.
    Ok (OfSystem (Check class (text_in (codes "NET") rows)) (file_in rows) form)))

abbrev pub convert_says : List Row → Said
convert_says rows =
    with_value (target_asked rows) (λ target. with_value (form_asked (codes "from") rows) (λ form. Ok (OfSystem (Convert target) (file_in rows) form)))

abbrev pub generate_says : List Row → Said
generate_says rows = with_value (kind_asked rows) (λ kind. with_value (number_asked (greatest kind) rows) (λ n. Ok (Generate kind n)))

abbrev pub selftest_says : List Row → Said
selftest_says rows = with_value (number_asked most_self_test rows) (λ n. Ok (SelfTest n))

abbrev pub factor_says : Result Class ClassFault → List Row → Said
factor_says told rows =
    with_value (class_if_any (first_of (codes "class") rows) told) (λ class. with_value (form_asked (codes "from") rows) (λ form. with_value (jobs_asked rows) (λ jobs.
    Ok (OfSystem (Factor class jobs) (file_in rows) form))))

abbrev pub split_says : List Row → Said
split_says rows =
    with_value (form_asked (codes "from") rows) (λ form. with_value (jobs_asked rows) (λ jobs. Ok (OfSystem (Split (split_output rows) jobs) (file_in rows) form)))

abbrev pub isomorphic_says : List Row → Said
isomorphic_says rows =
    with_value (form_asked (codes "from") rows) (λ form. with_value (form_asked (codes "from2") rows) (λ second.
    Ok (OfSystem (Isomorphic (text_in (codes "FILE2") rows) second) (file_in rows) form)))

abbrev pub examine_says : List Row → Said
examine_says rows = with_value (form_asked (codes "from") rows) (λ form. Ok (OfSystem (Examine (examine_output rows)) (file_in rows) form))

-- those of any command
abbrev pub command_says : Command → Result Class ClassFault → List Row → Said
command_says command.Synthesize told rows = synthesize_says told rows
command_says command.Verify told rows = verify_says rows
command_says command.Check told rows = check_says told rows
command_says command.Convert told rows = convert_says rows
command_says command.Generate told rows = generate_says rows
command_says command.SelfTest told rows = selftest_says rows
command_says command.Factor told rows = factor_says told rows
command_says command.Split told rows = split_says rows
command_says command.Isomorphic told rows = isomorphic_says rows
command_says command.Examine told rows = examine_says rows

-- the class word among the values of a command; a command without one has an empty text
abbrev pub class_word_in : Command → List Row → List ℕ
class_word_in command.Synthesize rows = text_in (codes "CLASS") rows
class_word_in command.Check rows = text_in (codes "CLASS") rows
class_word_in command.Factor rows = text_in (codes "class") rows
class_word_in _ rows = []

-- ---- what the words say

-- the class word among words
abbrev pub class_word : List (List ℕ) → List ℕ
class_word words = result_unwrap_or (with_values words (λ command rows. Ok (class_word_in command rows))) []

-- what words ask for, or why they are refused, where `told` is what their class word says
abbrev pub says : Result Class ClassFault → List (List ℕ) → Said
says told words = with_values words (λ command rows. command_says command told rows)

-- words say this
pub record WordsSay (words : List (List ℕ)) (said : Said) : Type 0 where
  pub told : Result Class ClassFault
  pub class : ClassSays (class_word words) told
  pub same : said ≡ says told words

-- the words ask for it
abbrev pub Ask : List (List ℕ) → Request (List ℕ) → Type 0
Ask words request = WordsSay words (Ok request)

-- the words are refused for this reason
abbrev pub AreRefused : List (List ℕ) → Usage → Type 0
AreRefused words usage = WordsSay words (Err usage)
