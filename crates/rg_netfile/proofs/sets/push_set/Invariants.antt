use Rattle.std.proofs.Common.{◌≡◌, ◌++◌, drop, codes, false}
use Rattle.rg_netfile.proofs.Listed.{listed_text}
use Rattle.rg_netfile.proofs.sets.push_set.Given as goal

-- the text so far, and the members that are left
abbrev pub invariant-loop-member : goal.invariant-loop-member
invariant-loop-member l =
    l.text.items ++ listed_text l.prefix l.later (drop l.member-index l.members) ≡ l.fn.text.items ++ (codes "{" ++ listed_text l.prefix false l.members)
