-- What clap's definitions say of words that are written out.
use Rattle.std.proofs.Common.{◌≡◌, ◌≢◌, ℕ, List, [], ◌∷◌, Option, None, Some, codes, refl}
use Rattle.clap.specs.Words.{App, fault_of, first_of, matches_of}
use Rattle.clap.proofs.OnLiterals.{clap_on_literals}
use Rattle.rg_commands.specs.Table.{synthesize_app, verify_app, check_app, convert_app, factor_app, split_app, isomorphic_app, examine_app}

-- no fault, and this value
abbrev Gives : App → List (List ℕ) → List ℕ → Option (List ℕ) → Type 0
Gives app words id value = (fault_of app words ≡ []) × (first_of id (matches_of app words) ≡ value)

-- an option stands before the words, between them or after them, with its value behind `=` or as the next word
before : Gives synthesize_app (codes "synthesize" ∷ codes "--from=words" ∷ codes "none" ∷ codes "f" ∷ []) (codes "from") (Some (codes "words"))
unfolding clap_on_literals
before = (refl, refl)

between : Gives synthesize_app (codes "synthesize" ∷ codes "none" ∷ codes "--from" ∷ codes "graph" ∷ codes "f" ∷ []) (codes "FILE") (Some (codes "f"))
unfolding clap_on_literals
between = (refl, refl)

behind : Gives verify_app (codes "verify" ∷ codes "f" ∷ codes "c" ∷ codes "--from" ∷ codes "graph" ∷ []) (codes "from") (Some (codes "graph"))
unfolding clap_on_literals
behind = (refl, refl)

-- without the option there is no value
absent : Gives convert_app (codes "convert" ∷ codes "apt" ∷ codes "f" ∷ []) (codes "from") None
unfolding clap_on_literals
absent = (refl, refl)

-- an empty value is a value, and so is one that begins with a `-`, behind `=`
empty_value : Gives verify_app (codes "verify" ∷ codes "f" ∷ codes "c" ∷ codes "--from=" ∷ []) (codes "from") (Some [])
unfolding clap_on_literals
empty_value = (refl, refl)

minus_value : Gives synthesize_app (codes "synthesize" ∷ codes "--jobs=-1" ∷ codes "none" ∷ codes "f" ∷ []) (codes "jobs") (Some (codes "-1"))
unfolding clap_on_literals
minus_value = (refl, refl)

equals_value : Gives verify_app (codes "verify" ∷ codes "f" ∷ codes "c" ∷ codes "--from==words" ∷ []) (codes "from") (Some (codes "=words"))
unfolding clap_on_literals
equals_value = (refl, refl)

-- `-` alone, an empty word and `help` are words as any other
dash : Gives verify_app (codes "verify" ∷ codes "-" ∷ codes "c" ∷ []) (codes "FILE") (Some (codes "-"))
unfolding clap_on_literals
dash = (refl, refl)

empty_word : Gives verify_app (codes "verify" ∷ [] ∷ codes "c" ∷ []) (codes "FILE") (Some [])
unfolding clap_on_literals
empty_word = (refl, refl)

help_word : Gives verify_app (codes "verify" ∷ codes "help" ∷ codes "c" ∷ []) (codes "FILE") (Some (codes "help"))
unfolding clap_on_literals
help_word = (refl, refl)

-- behind `--` each word is one of the words, also a second `--`
dashes : Gives convert_app (codes "convert" ∷ codes "apt" ∷ codes "--" ∷ codes "--from=x" ∷ []) (codes "FILE") (Some (codes "--from=x"))
unfolding clap_on_literals
dashes = (refl, refl)

second_dashes : Gives convert_app (codes "convert" ∷ codes "apt" ∷ codes "--" ∷ codes "--" ∷ []) (codes "FILE") (Some (codes "--"))
unfolding clap_on_literals
second_dashes = (refl, refl)

option_then_dashes : Gives convert_app (codes "convert" ∷ codes "--from" ∷ codes "words" ∷ codes "--" ∷ codes "apt" ∷ codes "-f" ∷ []) (codes "FILE") (Some (codes "-f"))
unfolding clap_on_literals
option_then_dashes = (refl, refl)

-- a flag that is there has the value `true`, wherever it stands, and one that isn't has `false`
flag_before : Gives split_app (codes "split" ∷ codes "--system" ∷ codes "f" ∷ []) (codes "system") (Some (codes "true"))
unfolding clap_on_literals
flag_before = (refl, refl)

flag_behind : Gives examine_app (codes "examine" ∷ codes "f" ∷ codes "--from" ∷ codes "words" ∷ codes "--json" ∷ []) (codes "json") (Some (codes "true"))
unfolding clap_on_literals
flag_behind = (refl, refl)

no_flag : Gives examine_app (codes "examine" ∷ codes "f" ∷ []) (codes "json") (Some (codes "false"))
unfolding clap_on_literals
no_flag = (refl, refl)

flag_is_a_word : Gives split_app (codes "split" ∷ codes "--" ∷ codes "--system" ∷ []) (codes "system") (Some (codes "false"))
unfolding clap_on_literals
flag_is_a_word = (refl, refl)

-- two options of which one's name begins with the other's
second_alone : Gives isomorphic_app (codes "isomorphic" ∷ codes "f" ∷ codes "g" ∷ codes "--from2" ∷ codes "words" ∷ []) (codes "from") None
unfolding clap_on_literals
second_alone = (refl, refl)

-- an empty class word is there
empty_class : Gives factor_app (codes "factor" ∷ codes "f" ∷ codes "--class=" ∷ []) (codes "class") (Some [])
unfolding clap_on_literals
empty_class = (refl, refl)

-- ---- refused

abbrev Refuses : App → List (List ℕ) → Type 0
Refuses app words = fault_of app words ≢ []

help : Refuses convert_app (codes "convert" ∷ codes "--help" ∷ [])
unfolding clap_on_literals
help e = cc

short_help : Refuses verify_app (codes "verify" ∷ codes "f" ∷ codes "-h" ∷ [])
unfolding clap_on_literals
short_help e = cc

version : Refuses check_app (codes "check" ∷ codes "--version" ∷ [])
unfolding clap_on_literals
version e = cc

too_few : Refuses check_app (codes "check" ∷ codes "none" ∷ codes "f" ∷ [])
unfolding clap_on_literals
too_few e = cc

too_many : Refuses verify_app (codes "verify" ∷ codes "f" ∷ codes "c" ∷ codes "d" ∷ [])
unfolding clap_on_literals
too_many e = cc

other_option : Refuses convert_app (codes "convert" ∷ codes "apt" ∷ codes "f" ∷ codes "--to=apt" ∷ [])
unfolding clap_on_literals
other_option e = cc

jobs_of_verify : Refuses verify_app (codes "verify" ∷ codes "f" ∷ codes "c" ∷ codes "--jobs=2" ∷ [])
unfolding clap_on_literals
jobs_of_verify e = cc

twice : Refuses verify_app (codes "verify" ∷ codes "f" ∷ codes "c" ∷ codes "--from=apt" ∷ codes "--from=apt" ∷ [])
unfolding clap_on_literals
twice e = cc

shortened : Refuses verify_app (codes "verify" ∷ codes "f" ∷ codes "c" ∷ codes "--fro=apt" ∷ [])
unfolding clap_on_literals
shortened e = cc

no_value : Refuses verify_app (codes "verify" ∷ codes "f" ∷ codes "c" ∷ codes "--from" ∷ [])
unfolding clap_on_literals
no_value e = cc

value_is_an_option : Refuses synthesize_app (codes "synthesize" ∷ codes "none" ∷ codes "f" ∷ codes "--from" ∷ codes "--jobs=2" ∷ [])
unfolding clap_on_literals
value_is_an_option e = cc

minus_next : Refuses synthesize_app (codes "synthesize" ∷ codes "none" ∷ codes "f" ∷ codes "--jobs" ∷ codes "-1" ∷ [])
unfolding clap_on_literals
minus_next e = cc

minus_word : Refuses convert_app (codes "convert" ∷ codes "apt" ∷ codes "-f" ∷ [])
unfolding clap_on_literals
minus_word e = cc

value_is_dashes : Refuses verify_app (codes "verify" ∷ codes "f" ∷ codes "--from" ∷ codes "--" ∷ codes "c" ∷ [])
unfolding clap_on_literals
value_is_dashes e = cc

flag_with_value : Refuses examine_app (codes "examine" ∷ codes "f" ∷ codes "--json=true" ∷ [])
unfolding clap_on_literals
flag_with_value e = cc

flag_twice : Refuses split_app (codes "split" ∷ codes "f" ∷ codes "--system" ∷ codes "--system" ∷ [])
unfolding clap_on_literals
flag_twice e = cc
