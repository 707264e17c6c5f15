use Rattle.std.proofs.Common.{map}
use Rattle.rg_cert_meaning.specs.Row.{cases_of}
use Rattle.rg_cert_data.specs.Certificates.{case_tree}
use Rattle.rg_outcome.specs.Casing.{CaseComes}
use Rattle.rg_outcome.specs.Solving.{Solved.refuted, Solved.passed}
use Rattle.rg_outcome.proofs.Cases.{same_result}
use Rattle.rg_case_parts.specs.SettingViews.{shown_setting}
use Rattle.rg_separate.specs.View.{shown_of}
use Rattle.rg_separate.proofs.Coming.{refuted_come, term_comes, live_comes}
use Rattle.rg_separate.proofs.problem.without_place.Goals as goal
use Rattle.rg_case_folds.specs.Setting.{case_at}

pub reason-requires-clause-refuted : goal.reason-requires-clause-refuted
reason-requires-clause-refuted c = c.requires.tried.refuted c.in-None.is

pub returns-in-Some-clause-comes : goal.returns-in-Some-clause-comes
returns-in-Some-clause-comes c =
    let setting = c.args.setting in
    let n = cases_of setting.lts.now setting.class c.args.problem in
    live_comes (shown_setting setting) c.args.problem (passed (shown_of c.in-Some.at)) c.requires.live
    (term_comes (λ i. CaseComes (case_at (shown_setting setting) c.args.problem i))
    (λ i r r'. same_result (case_at (shown_setting setting) c.args.problem i) r r') n c.args.tried c.in-Some.at c.requires.come c.in-Some.is)

pub returns-in-None-clause-comes : goal.returns-in-None-clause-comes
returns-in-None-clause-comes c =
    let setting = c.args.setting in
    let n = cases_of setting.lts.now setting.class c.args.problem in (
      map case_tree c.args.tried.refuted.items,
      c.reason.ensures.trees,
      live_comes (shown_setting setting) c.args.problem (refuted (map case_tree c.args.tried.refuted.items)) c.requires.live
          (refuted_come (λ i. CaseComes (case_at (shown_setting setting) c.args.problem i))
          (λ i r r'. same_result (case_at (shown_setting setting) c.args.problem i) r r') n c.args.tried c.requires.come c.in-None.is),
    )
