use Rattle.std.proofs.Common.{ℕ, List, length, ap, ◌∙◌, sym, subst, ◌≡◌, Some, slice_get}
use Rattle.rg_theory.specs.declared.Problem.{Problem}
use Rattle.rg_theory.specs.Problem.{IsProblem}
use Rattle.rg_cert_meaning.specs.Row.{cases_of}
use Rattle.rg_cert_data.specs.declared.certificate.Case.{Case}
use Rattle.rg_separate.specs.Deciding.{RefutesCase}
use Rattle.rg_separate.proofs.Reasons.{refuted_all, refuted_one}
use Rattle.rg_separate.proofs.problem.reason.Goals as goal

pub returns-in-States-clause-good : goal.returns-in-States-clause-good
returns-in-States-clause-good c =
    let lts = c.args.lts.now in
    let class = c.args.class in
    refuted_all lts class c.in-States.s c.in-States.other c.args.cases c.is_well_formed.ensures.in_range c.requires.reachable c.requires.bound
    (subst (IsProblem lts) c.in-States.is c.requires.has)
    (subst (λ (p : Problem). length c.args.cases.items ≡ cases_of lts class p) c.in-States.is c.requires.all)
    (subst (λ (p : Problem). (i : ℕ) (case : Case) → slice_get c.args.cases.items i ≡ Some case → RefutesCase lts class p i case) c.in-States.is c.requires.refuted)

pub returns-in-Some-clause-good : goal.returns-in-Some-clause-good
returns-in-Some-clause-good c =
    let lts = c.args.lts.now in
    let class = c.args.class in
    refuted_one lts class c.in-Event.s c.in-Event.t c.in-Some.case c.requires.bound
    (subst (IsProblem lts) c.in-Event.is c.requires.has)
    (subst (λ (p : Problem). (i : ℕ) (case : Case) → slice_get c.args.cases.items i ≡ Some case → RefutesCase lts class p i case) c.in-Event.is
    c.requires.refuted 0 c.in-Some.case (ap (λ (xs : List Case). slice_get xs 0) (sym c.into_iter.ensures.rest ∙ c.in-Some.ensures.items)))
