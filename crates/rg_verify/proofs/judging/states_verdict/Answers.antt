use Rattle.std.proofs.Common.{refl, sym, subst}
use Rattle.rg_theory.specs.declared.Problem.TheVariants.{States}
use Rattle.rg_cert_data.specs.declared.certificate.Case.{Case}
use Rattle.rg_cert_data.specs.Certificates.{IsTreeOf, case_tree}
use Rattle.rg_verify.proofs.Places.{image_at}
use Rattle.rg_verify.proofs.Verdicts.{more_refute, defect_states, refuted_states}
use Rattle.rg_verify.proofs.judging.states_verdict.Goals as goal

pub returns-then-not-has_all_cases : goal.returns-then-not-has_all_cases
returns-then-not-has_all_cases c =
    rw c.refusal_of-then-not-has_all_cases.ensures (
      refl,
      refl,
      (c.requires.state, c.requires.other, c.if-s-other.false),
      λ all. absurd (let e = (c.has_all_cases.ensures.exact c.args.s c.args.other).1 all in let f = c.if-not-has_all_cases.true in cc),
    )

pub case_defect-requires-clause-in_range : goal.case_defect-requires-clause-in_range
case_defect-requires-clause-in_range c =
    subst (λ (case : Case). IsTreeOf c.args.lts.now (case_tree case)) (sym c.index-cases-number.is)
    (image_at (IsTreeOf c.args.lts.now) case_tree c.args.cases.now c.loop-number.number c.index-cases-number.result c.requires.in_range c.loop-number-test.true)

pub returns-in-Some : goal.returns-in-Some
returns-in-Some c =
    let judged = rw c.in-Some.is at c.in_ok-found.ensures.judged in
    rw c.refusal_of-in-Some.ensures (defect_states c.args.lts.now c.args.class
    (States c.args.s c.args.other) case_tree c.args.cases.now c.loop-number.number c.index-cases-number.result c.in-Some.found.node c.in-Some.found.defect
    (c.requires.state, c.requires.other, c.if-s-other.false)
    ((c.has_all_cases.ensures.exact c.args.s c.args.other).0 c.if-not-has_all_cases.false) c.loop-number-test.true c.index-cases-number.is
    c.loop-number.invariant.before judged)

pub loop-number-preserved : goal.loop-number-preserved
loop-number-preserved c = record {
  clear = c.in_ok-found.ensures.clear;
  before = more_refute c.args.lts.now c.args.class
      (States c.args.s c.args.other) case_tree c.args.cases.now c.loop-number.number c.index-cases-number.result c.loop-number-test.true
      c.index-cases-number.is c.loop-number.invariant.before
      (rw c.in_default.is at c.in_ok-found.ensures.judged);
}

pub returns : goal.returns
returns c =
    refuted_states c.args.lts.now c.args.class (States c.args.s c.args.other) case_tree c.args.cases.now c.loop-number.number (c.requires.state, c.requires.other, c.if-s-other.false)
    ((c.has_all_cases.ensures.exact c.args.s c.args.other).0 c.if-not-has_all_cases.false) c.loop-number-test.false c.loop-number.invariant.before
