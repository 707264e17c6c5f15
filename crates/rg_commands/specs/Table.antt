-- The commands: the name of each, the words that it must have, in order, its options and its flags.
use Rattle.std.specs.Prelude.{ℕ, List, [], ◌∷◌, Option, None, Some, codes, if◌then◌else◌}
use Rattle.std.specs.Str.{bytes_eq}
use Rattle.clap.specs.Words.{App}
use Rattle.rg_commands.specs.declared.table.Command.{Command}
use Rattle.rg_commands.specs.declared.table.Command.TheVariants.{Synthesize, Verify, Check, Convert, Generate, SelfTest, Factor, Split, Isomorphic, Examine}
use Rattle.rg_commands.specs.Command.{command_app}

-- the command of this name
abbrev pub command_named : List ℕ → Option Command
command_named name =
    if bytes_eq name (codes "synthesize") then Some Synthesize
    else (if bytes_eq name (codes "verify") then Some Verify
    else (if bytes_eq name (codes "check") then Some Check
    else (if bytes_eq name (codes "convert") then Some Convert
    else (if bytes_eq name (codes "generate") then Some Generate
    else (if bytes_eq name (codes "selftest") then Some SelfTest
    else (if bytes_eq name (codes "factor") then Some Factor
    else (if bytes_eq name (codes "split") then Some Split
    else (if bytes_eq name (codes "isomorphic") then Some Isomorphic
    else (if bytes_eq name (codes "examine") then Some Examine else None)))))))))

-- `synthesize CLASS FILE [--from F] [--jobs J]`
abbrev pub synthesize_app : App
synthesize_app = command_app (codes "synthesize") (codes "CLASS" ∷ codes "FILE" ∷ []) (codes "from" ∷ codes "jobs" ∷ []) []

-- `verify FILE CERT [--from F]`
abbrev pub verify_app : App
verify_app = command_app (codes "verify") (codes "FILE" ∷ codes "CERT" ∷ []) (codes "from" ∷ []) []

-- `check CLASS FILE NET [--from F]`
abbrev pub check_app : App
check_app = command_app (codes "check") (codes "CLASS" ∷ codes "FILE" ∷ codes "NET" ∷ []) (codes "from" ∷ []) []

-- `convert FORM FILE [--from F]`
abbrev pub convert_app : App
convert_app = command_app (codes "convert") (codes "FORM" ∷ codes "FILE" ∷ []) (codes "from" ∷ []) []

-- `generate KIND N`
abbrev pub generate_app : App
generate_app = command_app (codes "generate") (codes "KIND" ∷ codes "N" ∷ []) [] []

-- `selftest N`
abbrev pub selftest_app : App
selftest_app = command_app (codes "selftest") (codes "N" ∷ []) [] []

-- `factor FILE [--from F] [--class CLASS] [--jobs J]`
abbrev pub factor_app : App
factor_app = command_app (codes "factor") (codes "FILE" ∷ []) (codes "from" ∷ codes "class" ∷ codes "jobs" ∷ []) []

-- `split FILE [--from F] [--jobs J] [--system]`
abbrev pub split_app : App
split_app = command_app (codes "split") (codes "FILE" ∷ []) (codes "from" ∷ codes "jobs" ∷ []) (codes "system" ∷ [])

-- `isomorphic FILE FILE2 [--from F] [--from2 F]`
abbrev pub isomorphic_app : App
isomorphic_app = command_app (codes "isomorphic") (codes "FILE" ∷ codes "FILE2" ∷ []) (codes "from" ∷ codes "from2" ∷ []) []

-- `examine FILE [--from F] [--json]`
abbrev pub examine_app : App
examine_app = command_app (codes "examine") (codes "FILE" ∷ []) (codes "from" ∷ []) (codes "json" ∷ [])

-- the table
abbrev pub app_for : Command → App
app_for Synthesize = synthesize_app
app_for Verify = verify_app
app_for Check = check_app
app_for Convert = convert_app
app_for Generate = generate_app
app_for SelfTest = selftest_app
app_for Factor = factor_app
app_for Split = split_app
app_for Isomorphic = isomorphic_app
app_for Examine = examine_app
