use Rattle.std.proofs.Common.{map, take}
use Rattle.rg_net_grammar.specs.View.{members_in}
use Rattle.rg_netfile.specs.Contents.{Cell, adds}
use Rattle.rg_netfile.specs.Built.{IsSlotFor, SameSize, Passes}
use Rattle.rg_netfile.proofs.filling.add_members.Given as goal

-- the members so far are added
abbrev pub invariant-loop-member : goal.invariant-loop-member
invariant-loop-member l = record {
  same : SameSize l.fn.sums l.sums;
  passes : (cell : Cell) → IsSlotFor l.known l.slot cell → Passes l.known (map (adds cell) (members_in l.bytes (take l.member-index l.members))) l.fn.sums l.sums;
}
