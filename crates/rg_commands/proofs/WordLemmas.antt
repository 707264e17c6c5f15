-- From clap's clauses to those of this crate.
use Rattle.std.proofs.Common.{◌≡◌, List, [], ◌∷◌, true, Err, refl}
use Rattle.clap.specs.Words.{App, Kinds, Row, IsAmong, is_simple, is_simple_and_free}
use Rattle.clap.specs.declared.error.kind.ErrorKind.{ErrorKind}
use Rattle.rg_commands.specs.declared.table.Command.{Command}
use Rattle.rg_commands.specs.declared.table.Command.TheVariants.{Synthesize, Verify, Check, Convert, Generate, SelfTest, Factor, Split, Isomorphic, Examine}
use Rattle.rg_commands.specs.declared.usage.Usage.{Usage}
use Rattle.rg_commands.specs.declared.usage.Usage.TheVariants.{Words}
use Rattle.rg_commands.specs.Table.{app_for}
use Rattle.rg_commands.specs.declared.usage.WordsStop.{WordsStop}
use Rattle.rg_commands.specs.declared.usage.WordsStop.TheVariants as stop
use Rattle.rg_commands.specs.Says.{if_no_fault, IsStopOf}
use Rattle.rg_theory.proofs.ClassTold.{and_left as first_so}

pub simple_of : (app : App) → is_simple_and_free app ≡ true → is_simple app ≡ true
simple_of app e = first_so (is_simple app) _ e

-- each command of the table is simple, and no argument has a rule on another
pub simple_app : (command : Command) → is_simple_and_free (app_for command) ≡ true
simple_app Synthesize = refl
simple_app Verify = refl
simple_app Check = refl
simple_app Convert = refl
simple_app Generate = refl
simple_app SelfTest = refl
simple_app Factor = refl
simple_app Split = refl
simple_app Isomorphic = refl
simple_app Examine = refl

-- words with a fault are refused
pub some_fault : (kinds : Kinds) (kind : ErrorKind) (rows : List Row) → IsAmong kind kinds → if_no_fault kinds rows ≡ Err Words
some_fault [] kind rows among = absurd among
some_fault (first ∷ more) kind rows among = refl

-- why there are no values is why the words give nothing
pub stop_goes_on : (Refuses Others : Usage → Type 0) (why : WordsStop) → ((usage : Usage) → Refuses usage → Others usage) → IsStopOf Refuses why → IsStopOf Others why
stop_goes_on Refuses Others (stop.Refused usage) on is = on usage is
stop_goes_on Refuses Others stop.NoMemory on is = tt
