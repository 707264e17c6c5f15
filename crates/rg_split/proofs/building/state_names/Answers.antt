use Rattle.std.proofs.Common.{ℕ, List, Bor, refl}
use Rattle.rg_split.proofs.RoundSteps.{names_taken}
use Rattle.rg_split.proofs.building.state_names.Goals as goal

pub loop-s-preserved : goal.loop-s-preserved
loop-s-preserved c =
    names_taken (λ (n : Bor (List ℕ)). n.now) c.args.of.now.state_names c.loop-s.s c.loop-s.names.items c.push.new.self.items c.state_name.result c.state_name.result.now
    c.state_name.ensures refl c.in_ok-push.ensures.items c.loop-s.invariant
