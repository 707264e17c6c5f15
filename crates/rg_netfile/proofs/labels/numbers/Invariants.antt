use Rattle.std.proofs.Common.{◌<◌, take, All}
use Rattle.rg_theory.specs.System.{labels}
use Rattle.rg_net_grammar.specs.View.{transitions_in}
use Rattle.rg_netfile.specs.Built.{AreNumbers}
use Rattle.rg_netfile.proofs.labels.numbers.Given as goal

-- the numbers so far
abbrev pub invariant-loop-transition : goal.invariant-loop-transition
invariant-loop-transition l = record {
  numbers : AreNumbers l.lts.label_names (transitions_in l.bytes (take l.transition-index l.transitions)) l.found.items;
  within : All (λ t. t < labels l.lts) l.found.items;
}
