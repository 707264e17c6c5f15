use Rattle.std.proofs.Common.{◌≡◌, ℕ, ◌+◌, ◌<◌, ◌∙◌, refl, sym, subst}
use Rattle.rg_net.specs.Shown.{shown_place}
use Rattle.rg_cert_meaning.specs.Row.{cases_of}
use Rattle.rg_outcome.specs.Solving.{Solved.placed}
use Rattle.rg_outcome.specs.Casing.{CaseResult, CaseComes}
use Rattle.rg_outcome.proofs.Cases.{same_result}
use Rattle.rg_case_parts.specs.SettingViews.{shown_setting}
use Rattle.rg_separate.specs.declared.problem.Tried.{Tried}
use Rattle.rg_separate.specs.Deciding.{CaseTells, CaseComesTo, AreTried, CasesCameTo}
use Rattle.rg_separate.proofs.Coming.{refuted_more, passed_more, place_first, live_comes}
use Rattle.rg_separate.proofs.Trying.{tried_refuted, tried_passed}
use Rattle.rg_separate.proofs.problem.solve_live.Goals as goal
use Rattle.rg_separate.proofs.problem.solve_live.Goals.{in-Refuted+in_ok-push-in-Refuted, in-Wide}
use Rattle.rg_case_folds.specs.Setting.{case_at}

pub returns-in-Place-clause-comes : goal.returns-in-Place-clause-comes
returns-in-Place-clause-comes c =
    let setting = c.args.problems.setting in
    let comes : ℕ → CaseResult → Type 0 = λ i. CaseComes (case_at (shown_setting setting) c.args.problem i) in
    let lt : c.loop-case.case < cases_of setting.lts.now setting.class c.args.problem = subst (λ (n : ℕ). c.loop-case.case < n) c.cases-case-end.ensures.value c.loop-case-test.true in
    live_comes (shown_setting setting) c.args.problem (placed (shown_place c.in-Place.region.place)) c.requires.live
    (place_first comes (λ i r r'. same_result (case_at (shown_setting setting) c.args.problem i) r r') c.loop-case.case
    (cases_of setting.lts.now setting.class c.args.problem) c.loop-case.tried (shown_place c.in-Place.region.place) c.loop-case.invariant.come lt
    (subst (CaseComesTo (record { setting = setting; problem = c.args.problem; number = c.loop-case.case })) c.in-Place.is c.in_ok-region.ensures.comes))

pub loop-case-preserved : goal.loop-case-preserved
loop-case-preserved c =
    let setting = c.args.problems.setting in
    let lts = c.args.problems.setting.lts.now in
    let class = c.args.problems.setting.class in
    let n = c.loop-case.case in
    let comes : ℕ → CaseResult → Type 0 = λ i. CaseComes (case_at (shown_setting setting) c.args.problem i) in
    let one : (i : ℕ) (r r' : CaseResult) → comes i r → comes i r' → r ≡ r' = λ i r r'. same_result (case_at (shown_setting setting) c.args.problem i) r r' in
    elim c.match-branch-2.branch [
      | in-Refuted+in_ok-push-in-Refuted w ↦
          (let after : Tried = record { refuted = w.push.new.self; passed = c.loop-case.tried.passed } in
          record {
            tried = subst (λ (t : Tried). AreTried lts class c.args.problem (n + 1) t) (sym w.tried-is)
                (tried_refuted lts class c.args.problem n c.loop-case.tried after w.in-Refuted.case c.loop-case.invariant.tried w.in_ok-push-in-Refuted.ensures.items refl
                (subst (CaseTells lts class c.args.problem n) w.in-Refuted.is c.in_ok-region.ensures.tells));
            come = subst (λ (t : Tried). CasesCameTo setting c.args.problem (n + 1) t) (sym w.tried-is)
                (refuted_more comes one n c.loop-case.tried after w.in-Refuted.case c.loop-case.invariant.come w.in_ok-push-in-Refuted.ensures.items refl
                (subst (CaseComesTo (record { setting = setting; problem = c.args.problem; number = n })) w.in-Refuted.is c.in_ok-region.ensures.comes));
            same = c.solve_case.ensures.same ∙ c.loop-case.invariant.same;
          })
      | in-Wide w ↦
          record {
            tried = subst (λ (t : Tried). AreTried lts class c.args.problem (n + 1) t) (sym w.tried-is)
                (tried_passed lts class c.args.problem n (n + 1) c.loop-case.tried w.note.new.self w.in-Wide.at c.loop-case.invariant.tried w.note.ensures.passed
                (subst (CaseTells lts class c.args.problem n) w.in-Wide.is c.in_ok-region.ensures.tells));
            come = subst (λ (t : Tried). CasesCameTo setting c.args.problem (n + 1) t) (sym w.tried-is)
                (passed_more comes one n c.loop-case.tried w.note.new.self w.in-Wide.at c.loop-case.invariant.come w.note.ensures.passed
                (subst (CaseComesTo (record { setting = setting; problem = c.args.problem; number = n })) w.in-Wide.is c.in_ok-region.ensures.comes));
            same = c.solve_case.ensures.same ∙ c.loop-case.invariant.same;
          }
    ]
