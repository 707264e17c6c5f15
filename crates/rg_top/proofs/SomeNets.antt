-- Something comes of the search for a net of a system, and of splitting its labels.
use Rattle.std.proofs.Common.{inl, inr, ℕ}
use Rattle.rg_ports.specs.Shelf.{Files}
use Rattle.rg_theory.specs.System.{System, IsInRange}
use Rattle.rg_theory.specs.declared.Class.{Class}
use Rattle.rg_theory.specs.ClassWords.{HasNumbersInRange}
use Rattle.rg_lts.specs.WellFormed.{IsWellFormed}
use Rattle.rg_outcome.specs.Outcome.{Out, Answer, Answer.net as of_net, Answer.unsolvable as of_reason, Answer.too_wide as of_term}
use Rattle.rg_split.specs.Rounds.{Splitting, Splitting.done as done, Splitting.unreachable as unreachable, Splitting.full as full, Splitting.too_wide as passes, SplitsTo}
use Rattle.rg_split.specs.Right.{IsRight}
use Rattle.rg_commands.specs.declared.request.Work.TheVariants.{Synthesize, Split}
use Rattle.rg_commands.specs.declared.splitting.SplitOutput.{SplitOutput}
use Rattle.rg_top.specs.Synthesize.{by_net, by_reason}
use Rattle.rg_top.specs.Split.{for_a_net as due_for_a_net, for_a_state, for_room}
use Rattle.rg_top.specs.Due.{for_a_net, for_labels}
use Rattle.rg_top.specs.Terms.{Term.of_net as of_net_term, of_split}
use Rattle.rg_top.specs.declared.status.Status.TheVariants.{Done, No}
use Rattle.rg_top.proofs.Something.{SomethingOn}

-- a system in range and a class have an answer
abbrev pub SomeOut : Type 0
SomeOut = (lts : System) (class : Class) → IsInRange lts → HasNumbersInRange class → (a : Answer) × Out lts class a

pub some_net : SomeOut → (files : Files) (class : Class) (jobs : ℕ) (lts : System) → IsInRange lts → HasNumbersInRange class → SomethingOn files (Synthesize class jobs) lts
some_net some files class jobs lts fine numbers = by (some lts class fine numbers)
  where
    by : (a : Answer) × Out lts class a → SomethingOn files (Synthesize class jobs) lts
    by (of_net places, out) = inl (Done, by_net places out)
    by (of_reason reason, out) = inl (No, by_reason reason out)
    by (of_term w, out) = inr (of_net_term w, for_a_net class w out)

-- splitting has a result, and a state in it is the least that can't be reached
pub record SomeSplitting : Type 0 where
  pub some : (lts : System) → IsWellFormed lts → (r : Splitting) × SplitsTo lts r
  pub right : (lts : System) (r : Splitting) → IsWellFormed lts → SplitsTo lts r → IsRight lts r

pub some_split : SomeSplitting → (files : Files) (output : SplitOutput) (jobs : ℕ) (lts : System) → IsWellFormed lts → SomethingOn files (Split output jobs) lts
some_split some files output jobs lts formed = by (some.some lts formed)
  where
    by : (r : Splitting) × SplitsTo lts r → SomethingOn files (Split output jobs) lts
    by (done now places, comes) = inl (Done, due_for_a_net now places comes)
    by (unreachable s, comes) = inl (No, for_a_state s (some.right lts (unreachable s) formed comes))
    by (full now reason, comes) = inl (No, for_room now reason comes)
    by (passes now w, comes) = inr (of_split now.system w, for_labels output now.system now.old w comes)
