use Rattle.std.proofs.Common.{[], string_bytes}
use Rattle.rg_families.specs.Named.{names_of}
use Rattle.rg_families.specs.Doubling.{step}
use Rattle.rg_families.proofs.Lists.{one_more}
use Rattle.rg_families.proofs.Pushed.{pushed}
use Rattle.rg_families.proofs.doubling.labels.Goals as goal

pub loop-i-preserved : goal.loop-i-preserved
loop-i-preserved c =
    one_more [] c.loop-i.i step (names_of c.loop-i.names.items) (names_of c.push.new.self.items)
    (pushed string_bytes c.loop-i.names.items c.push.new.self.items c.in_ok-step.field-0 (step c.loop-i.i) c.in_ok-push.ensures.items c.in_ok-step.ensures) c.loop-i.invariant
