use Rattle.std.proofs.Common.{◌≤◌, All, take, get_or}
use Rattle.rg_net_verdict.proofs.moves.allows.Given as goal

abbrev pub invariant-loop-f : goal.invariant-loop-f
invariant-loop-f l = All (λ f. f.pre ≤ get_or l.row f.place 0) (take l.f-index l.flow)
