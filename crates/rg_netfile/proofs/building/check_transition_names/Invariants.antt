use Rattle.std.proofs.Common.{◌≡◌, ◌↔◌, ℕ, List, true, Contains, map, take}
use Rattle.std.specs.BTreeSet.{contains_text}
use Rattle.rg_text.proofs.Left.{LeftAt}
use Rattle.rg_net_grammar.specs.View.{transition_in, transitions_in}
use Rattle.rg_netfile.specs.Contents.{transition_fault}
use Rattle.rg_netfile.specs.Built.{AreApart}
use Rattle.rg_netfile.proofs.EntryFaults.{name_of}
use Rattle.rg_netfile.proofs.building.check_transition_names.Given as goal

-- the names so far are seen, without a fault
abbrev pub invariant-loop-transition : goal.invariant-loop-transition
invariant-loop-transition l = record {
  seen : (name : List ℕ) → (contains_text l.seen name ≡ true) ↔ Contains (map name_of (transitions_in l.bytes (take l.transition-index l.transitions))) name;
  apart : AreApart (map name_of (transitions_in l.bytes (take l.transition-index l.transitions)));
  left : LeftAt (transition_in l.bytes) transition_fault l.transitions l.transition-index;
}
