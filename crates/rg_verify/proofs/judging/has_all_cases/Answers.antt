use Rattle.rg_cert_data.specs.Certificates.{case_tree}
use Rattle.rg_verify.proofs.Verdicts.{all_cases_iff}
use Rattle.rg_verify.proofs.judging.has_all_cases.Goals as goal

pub returns-then-not-is_empty-clause-exact : goal.returns-then-not-is_empty-clause-exact
returns-then-not-is_empty-clause-exact c = λ s other.
    all_cases_iff c.args.lts.now c.args.class s other case_tree c.args.cases.now c.case_count.result c.is_empty.result (c.case_count.ensures.value s other) c.is_empty.ensures c.if-not-is_empty.true
