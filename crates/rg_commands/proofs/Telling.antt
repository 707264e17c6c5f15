-- What a class word tells, and what words say by it.
use Rattle.std.proofs.Common.{◌≡◌, ◌∙◌, ap, sym, subst, inl, inr, ℕ, List, [], Result, Ok, Err, refl}
use Rattle.std.specs.Result.{result_unwrap_or}
use Rattle.clap.specs.Words.{Row}
use Rattle.rg_theory.specs.declared.Class.{Class}
use Rattle.rg_theory.specs.declared.class_words.ClassFault.{ClassFault}
use Rattle.rg_theory.specs.ClassWords.{IsClassTold}
use Rattle.rg_theory.proofs.ClassTold.{one_class, one_fault, not_both}
use Rattle.rg_theory.proofs.ClassSome.{class_told}
use Rattle.rg_commands.specs.declared.usage.Usage.{Usage}
use Rattle.rg_commands.specs.declared.table.Command.{Command}
use Rattle.rg_commands.specs.Values.{with_value, ClassSays}
use Rattle.rg_commands.specs.Says.{Said, command_asked, values_asked, with_values, command_says, class_word_in, class_word, says, WordsSay, AreRefused}

-- a text tells one thing, and something
pub one_told : (text : List ℕ) (a b : Result Class ClassFault) → ClassSays text a → ClassSays text b → a ≡ b
one_told text (Ok a) (Ok b) x y = ap (λ c. Ok c) (one_class text a b x y)
one_told text (Ok a) (Err g) x y = absurd (not_both text a g x y)
one_told text (Err f) (Ok b) x y = absurd (not_both text b f y x)
one_told text (Err f) (Err g) x y = ap (λ e. Err e) (one_fault text f g x y)

some_told : (text : List ℕ) → (told : Result Class ClassFault) × ClassSays text told
some_told text = by (class_told text)
  where
    by : IsClassTold text → (told : Result Class ClassFault) × ClassSays text told
    by (inl (class, names)) = (Ok class, names)
    by (inr (fault, refused)) = (Err fault, refused)

-- and so do words
pub one_said : (words : List (List ℕ)) (a b : Said) → WordsSay words a → WordsSay words b → a ≡ b
one_said words a b x y = x.same ∙ ap (λ told. says told words) (one_told (class_word words) x.told y.told x.class y.class) ∙ sym y.same

pub some_said : (words : List (List ℕ)) → (said : Said) × WordsSay words said
some_said words = let (told, tells) = some_told (class_word words) in (says told words, record { told = told; class = tells; same = refl })

-- ---- by command

with_values-named : {A : Type 0} (words : List (List ℕ)) (command : Command) (make : Command → List Row → Result A Usage) → Ok command ≡ command_asked words
    → with_values words make ≡ with_value (values_asked command words) (λ rows. make command rows)
with_values-named words command make named = ap (λ c. with_value c (λ command. with_value (values_asked command words) (λ rows. make command rows))) (sym named)

-- what is made of the words of a command and their values
pub with_values-taken : {A : Type 0} (words : List (List ℕ)) (command : Command) (rows : List Row) (make : Command → List Row → Result A Usage)
    → Ok command ≡ command_asked words → values_asked command words ≡ Ok rows → with_values words make ≡ make command rows
with_values-taken words command rows make named taken = with_values-named words command make named ∙ ap (λ r. with_value r (λ rows. make command rows)) taken

-- the words say what their values do
pub values_say : (words : List (List ℕ)) (command : Command) (rows : List Row) (said : Said) → Ok command ≡ command_asked words → values_asked command words ≡ Ok rows
    → ((told : Result Class ClassFault) → ClassSays (class_word_in command rows) told → said ≡ command_says command told rows) → WordsSay words said
values_say words command rows said named taken so =
    let (told, tells) = some_told (class_word_in command rows) in
    let word = ap (λ r. result_unwrap_or r []) (with_values-taken words command rows (λ c r. Ok (class_word_in c r)) named taken) in
    record {
      told = told;
      class = subst (λ text. ClassSays text told) (sym word) tells;
      same = so told tells ∙ sym (with_values-taken words command rows (λ c r. command_says c told r) named taken);
    }

-- ---- refused before

refused_so : (words : List (List ℕ)) (usage : Usage) → ((told : Result Class ClassFault) → says told words ≡ Err usage) → AreRefused words usage
refused_so words usage so = let (told, tells) = some_told (class_word words) in record { told = told; class = tells; same = sym (so told) }

pub no_command : (words : List (List ℕ)) (usage : Usage) → Err usage ≡ command_asked words → AreRefused words usage
no_command words usage none =
    refused_so words usage (λ told. ap (λ c. with_value c (λ command. with_value (values_asked command words) (λ rows. command_says command told rows))) (sym none))

pub no_values : (words : List (List ℕ)) (command : Command) (usage : Usage) → Ok command ≡ command_asked words → values_asked command words ≡ Err usage → AreRefused words usage
no_values words command usage named none =
    refused_so words usage (λ told. with_values-named words command (λ c r. command_says c told r) named ∙ ap (λ r. with_value r (λ rows. command_says command told rows)) none)
