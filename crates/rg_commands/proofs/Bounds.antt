-- What words ask for has its numbers in range.
use Rattle.std.proofs.Common.{◌≡◌, refl, sym, subst, ℕ, ◌≤◌, nat_le, Bool, true, false, cond, ◌&&◌, List, Option, None, Some, IfSome, Result, Ok, Err, IfOk, codes, ok_or, unwrap_or, arith}
use Rattle.std.proofs.lemmas.Bool.Decides.{nat_tests}
use Rattle.std.specs.Str.Parse.{digits_value}
use Rattle.clap.specs.Words.{Row, first_of}
use Rattle.rg_theory.specs.declared.Class.{Class}
use Rattle.rg_theory.specs.declared.class_words.ClassFault.{ClassFault}
use Rattle.rg_theory.specs.ClassWords.{HasNumbersInRange}
use Rattle.rg_theory.proofs.ClassBytes.{named_bound}
use Rattle.rg_families.specs.Families.{greatest}
use Rattle.rg_commands.specs.declared.table.Command.{Command}
use Rattle.rg_commands.specs.declared.table.Command.TheVariants.{Synthesize, Verify, Check, Convert, Generate, SelfTest, Factor, Split, Isomorphic, Examine}
use Rattle.rg_commands.specs.declared.usage.Usage.{Usage}
use Rattle.rg_commands.specs.declared.usage.Usage.TheVariants.{NumberWord, JobsWord}
use Rattle.rg_commands.specs.declared.request.Request.{Request}
use Rattle.rg_commands.specs.Values.{with_value, text_in, ClassSays, class_asked, class_if_any, form_asked, target_asked, kind_asked, is_number_word, number_up_to, number_asked, jobs_asked, most_jobs, most_self_test}
use Rattle.rg_commands.specs.Requests.{IsJobs, HasBounds}
use Rattle.rg_commands.specs.Says.{command_asked, values_asked, with_values, command_says, class_word, Ask}

-- what is made of a value has the property where what is made of each value that is there has it
if_value : {A B : Type 0} (P : B → Type 0) (value : Result A Usage) (make : A → Result B Usage) → ((a : A) → value ≡ Ok a → IfOk (make a) P) → IfOk (with_value value make) P
if_value P (Ok a) make each = each a refl
if_value P (Err usage) make each = tt

-- ---- numbers

all_three : (a b c : Bool) (v n : ℕ) (usage : Usage) → ok_or (cond (a && (b && c)) (Some v) None) usage ≡ Ok n → (b ≡ true) × (c ≡ true) × (v ≡ n)
all_three true true true v n usage e = (refl, refl, cc)
all_three true true false v n usage e = absurd cc
all_three true false c v n usage e = absurd cc
all_three false b c v n usage e = absurd cc

number_in_range : (most : ℕ) (word : List ℕ) (usage : Usage) (n : ℕ) → ok_or (number_up_to most word) usage ≡ Ok n → (1 ≤ n) × (n ≤ most)
number_in_range most word usage n e =
    let v = digits_value 10 word in
    let (least, greatest, same) = all_three (is_number_word word) (nat_le 1 v) (nat_le v most) v n usage e in
    let low : 1 ≤ v = grind (arith, nat_tests) in
    let high : v ≤ most = grind (arith, nat_tests) in
    (omega (arith, low, same), omega (arith, high, same))

asked_in_range : (most : ℕ) (rows : List Row) (n : ℕ) → number_asked most rows ≡ Ok n → (1 ≤ n) × (n ≤ most)
asked_in_range most rows n e = number_in_range most (text_in (codes "N") rows) NumberWord n e

jobs_in_range : (rows : List Row) (jobs : ℕ) → jobs_asked rows ≡ Ok jobs → IsJobs jobs
jobs_in_range rows jobs e = number_in_range most_jobs (unwrap_or (first_of (codes "jobs") rows) (codes "1")) JobsWord jobs e

-- ---- classes

-- each class that is told has its numbers in range
abbrev AreInRange : Result Class ClassFault → Type 0
AreInRange told = IfOk told HasNumbersInRange

class_in_range : (told : Result Class ClassFault) (class : Class) → AreInRange told → class_asked told ≡ Ok class → HasNumbersInRange class
class_in_range (Ok told) class numbers e = let same : told ≡ class = cc in subst HasNumbersInRange same numbers
class_in_range (Err fault) class numbers e = absurd cc

if_any_in_range : (text : Option (List ℕ)) (told : Result Class ClassFault) (class : Option Class) → AreInRange told → class_if_any text told ≡ Ok class → IfSome class HasNumbersInRange
if_any_in_range text told None numbers e = tt
if_any_in_range None told (Some class) numbers e = absurd cc
if_any_in_range (Some word) (Ok told) (Some class) numbers e = let same : told ≡ class = cc in subst HasNumbersInRange same numbers
if_any_in_range (Some word) (Err fault) (Some class) numbers e = absurd cc

-- ---- by command

says_in_range : (command : Command) (told : Result Class ClassFault) (rows : List Row) → AreInRange told → IfOk (command_says command told rows) HasBounds
says_in_range Synthesize told rows numbers =
    if_value HasBounds (class_asked told) _ (λ class is. if_value HasBounds (form_asked (codes "from") rows) _ (λ form is'. if_value HasBounds (jobs_asked rows) _ (λ jobs are.
    (class_in_range told class numbers is, jobs_in_range rows jobs are))))
says_in_range Verify told rows numbers = if_value HasBounds (form_asked (codes "from") rows) _ (λ form is. tt)
says_in_range Check told rows numbers =
    if_value HasBounds (class_asked told) _ (λ class is. if_value HasBounds (form_asked (codes "from") rows) _ (λ form is'. class_in_range told class numbers is))
says_in_range Convert told rows numbers = if_value HasBounds (target_asked rows) _ (λ target is. if_value HasBounds (form_asked (codes "from") rows) _ (λ form is'. tt))
says_in_range Generate told rows numbers =
    if_value HasBounds (kind_asked rows) _ (λ kind is. if_value HasBounds (number_asked (greatest kind) rows) _ (λ n is'. asked_in_range (greatest kind) rows n is'))
says_in_range SelfTest told rows numbers = if_value HasBounds (number_asked most_self_test rows) _ (λ n is. asked_in_range most_self_test rows n is)
says_in_range Factor told rows numbers =
    if_value HasBounds (class_if_any (first_of (codes "class") rows) told) _ (λ class is. if_value HasBounds (form_asked (codes "from") rows) _ (λ form is'.
    if_value HasBounds (jobs_asked rows) _ (λ jobs are. (if_any_in_range (first_of (codes "class") rows) told class numbers is, jobs_in_range rows jobs are))))
says_in_range Split told rows numbers = if_value HasBounds (form_asked (codes "from") rows) _ (λ form is. if_value HasBounds (jobs_asked rows) _ (λ jobs are. jobs_in_range rows jobs are))
says_in_range Isomorphic told rows numbers = if_value HasBounds (form_asked (codes "from") rows) _ (λ form is. if_value HasBounds (form_asked (codes "from2") rows) _ (λ second is'. tt))
says_in_range Examine told rows numbers = if_value HasBounds (form_asked (codes "from") rows) _ (λ form is. tt)

-- ---- words

named_in_range : (text : List ℕ) (told : Result Class ClassFault) → ClassSays text told → AreInRange told
named_in_range text (Ok class) says = named_bound text class says
named_in_range text (Err fault) says = tt

pub words_in_range : (words : List (List ℕ)) (request : Request (List ℕ)) → Ask words request → HasBounds request
words_in_range words request ask =
    let numbers = named_in_range (class_word words) ask.told ask.class in
    let all : IfOk (with_values words (λ command rows. command_says command ask.told rows)) HasBounds =
    if_value HasBounds (command_asked words) _ (λ command is. if_value HasBounds (values_asked command words) _ (λ rows is'. says_in_range command ask.told rows numbers)) in
    subst (λ said. IfOk said HasBounds) (sym ask.same) all
