-- Simple commands of `clap`.
use Rattle.std.specs.Prelude.{ℕ, true, List, Some, fold}
use Rattle.clap.specs.Words.{App, Rule, new_app, new_rule, with_rule}
use Rattle.clap.specs.declared.builder.ArgAction.TheVariants.{Set, SetTrue}

-- a word that must be there
abbrev pub positional : List ℕ → Rule
positional id = record (new_rule id) { required = true; action = Some Set }

-- an option by its long name, with one value
abbrev pub long_option : List ℕ → Rule
long_option id = record (new_rule id) { long = Some id; action = Some Set }

-- a flag by its long name, with no value
abbrev pub long_flag : List ℕ → Rule
long_flag id = record (new_rule id) { long = Some id; action = Some SetTrue }

abbrev pub with_word : App → List ℕ → App
with_word app id = with_rule app (positional id)

abbrev pub with_option : App → List ℕ → App
with_option app id = with_rule app (long_option id)

abbrev pub with_flag : App → List ℕ → App
with_flag app id = with_rule app (long_flag id)

-- the command of this name with these words, in order, these options and these flags
abbrev pub command_app : List ℕ → List (List ℕ) → List (List ℕ) → List (List ℕ) → App
command_app name words options flags = fold with_flag (fold with_option (fold with_word (new_app name) words) options) flags
