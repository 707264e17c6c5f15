use Rattle.std.proofs.Common.{◌≤◌, IfSome}
use Rattle.rg_net.specs.ClassBreaks.{shown_markings}
use Rattle.rg_net.proofs.Breaking.{InClassBefore}
use Rattle.rg_net.proofs.class_break.in_class.Given as goal

-- the places so far are of the class, and the first place with more tokens than the bound isn't among them
abbrev pub invariant-loop-i : goal.invariant-loop-i
invariant-loop-i l = record {
  before : InClassBefore l.net (shown_markings l.markings) l.class l.i;
  ahead : IfSome l.over (λ f. l.i ≤ f.0);
}
