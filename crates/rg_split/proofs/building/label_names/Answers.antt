use Rattle.std.proofs.Common.{ℕ, List, Bor, refl}
use Rattle.rg_split.proofs.RoundSteps.{names_taken}
use Rattle.rg_split.proofs.building.label_names.Goals as goal

pub loop-t-preserved : goal.loop-t-preserved
loop-t-preserved c =
    names_taken (λ (n : Bor (List ℕ)). n.now) c.args.of.now.label_names c.loop-t.t c.loop-t.names.items c.push.new.self.items c.label_name.result c.label_name.result.now
    c.label_name.ensures refl c.in_ok-push.ensures.items c.loop-t.invariant
