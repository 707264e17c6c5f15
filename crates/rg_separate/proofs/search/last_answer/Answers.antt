use Rattle.std.proofs.Common.{rules, ◌≡◌, subst}
use Rattle.std.specs.Prelude.{IfSome}
use Rattle.rg_separate.specs.Deciding.{ProblemComesTo, ProvesRefuted}
use Rattle.rg_separate.specs.declared.problem.ProblemAnswer.TheVariants.{Refuted}
use Rattle.rg_separate.proofs.search.last_answer.Goals as goal

pub returns-then-eq-clause-comes : goal.returns-then-eq-clause-comes
returns-then-eq-clause-comes c =
    let proves = subst (λ o. IfSome o (λ p. ProvesRefuted c.args.problems.setting p.0 p.1)) c.in-Some.is c.requires.proves in
    let same : c.in-Some.proved ≡ c.args.problem = search rules in
    subst (λ q. ProblemComesTo c.args.problems.setting q (Refuted c.in-Some.reason)) same proves.1
