use Rattle.std.proofs.Common.{◌≡◌, subst}
use Rattle.rg_net_verdict.specs.Verdict.{IsVerdict}
use Rattle.rg_top.proofs.net_laws.written_net_gets_yes.Goals as goal

pub returns-clause-net : goal.returns-clause-net
returns-clause-net c = λ class lts out v fine written told.
    c.solving_net_gets_yes.ensures lts written.net class v fine written.right.solves.transitions written.right.solves written.right.in_class written.right.narrow told

pub returns-clause-read : goal.returns-clause-read
returns-clause-read c = λ class lts out net v fine written few spelled told.
    (let same : net ≡ written.net = c.one_answer.ensures.one_net out lts net written.net spelled (written.spelled few) in
    c.solving_net_gets_yes.ensures lts written.net class v fine written.right.solves.transitions written.right.solves written.right.in_class
    written.right.narrow (subst (λ n. IsVerdict lts n class v) same told))
