use Rattle.std.proofs.Common.{ℕ, List, IfOk, sym, subst}
use Rattle.std.specs.Borrow.{Bor}
use Rattle.rg_commands.specs.declared.request.Work.{Work}
use Rattle.rg_commands.specs.Requests.{named_work}
use Rattle.rg_top.specs.Ends.{EndsOn}
use Rattle.rg_top.specs.Requests.{end_of}
use Rattle.rg_top.proofs.answer.system_answer.Goals as goal

pub returns-in_ok-net_answer-in-Synthesize-clause-ok : goal.returns-in_ok-net_answer-in-Synthesize-clause-ok
returns-in_ok-net_answer-in-Synthesize-clause-ok g c =
    let made = c.in_ok-net_answer-in-Synthesize in
    subst (λ (w : Work (Bor (List ℕ))). EndsOn (g.H.Shelf.files c.args.shelf.now) (named_work w) c.args.lts.now (end_of made.field-0)) (sym c.in-Synthesize.is) made.ensures

pub returns-in-Verify-clause-ok : goal.returns-in-Verify-clause-ok
returns-in-Verify-clause-ok g c =
    subst (λ (w : Work (Bor (List ℕ))). IfOk c.judgement_answer.result (λ a. EndsOn (g.H.Shelf.files c.args.shelf.now) (named_work w) c.args.lts.now (end_of a)))
    (sym c.in-Verify.is) c.judgement_answer.ensures.ok

pub returns-in-Check-clause-ok : goal.returns-in-Check-clause-ok
returns-in-Check-clause-ok g c =
    subst (λ (w : Work (Bor (List ℕ))). IfOk c.verdict_answer.result (λ a. EndsOn (g.H.Shelf.files c.args.shelf.now) (named_work w) c.args.lts.now (end_of a)))
    (sym c.in-Check.is) c.verdict_answer.ensures.ok

pub returns-in_ok-conversion_answer-in-Convert-clause-ok : goal.returns-in_ok-conversion_answer-in-Convert-clause-ok
returns-in_ok-conversion_answer-in-Convert-clause-ok g c =
    let made = c.in_ok-conversion_answer-in-Convert in
    subst (λ (w : Work (Bor (List ℕ))). EndsOn (g.H.Shelf.files c.args.shelf.now) (named_work w) c.args.lts.now (end_of made.field-0)) (sym c.in-Convert.is) made.ensures

pub returns-in_ok-factor_answer-in-Factor-clause-ok : goal.returns-in_ok-factor_answer-in-Factor-clause-ok
returns-in_ok-factor_answer-in-Factor-clause-ok g c =
    let made = c.in_ok-factor_answer-in-Factor in
    subst (λ (w : Work (Bor (List ℕ))). EndsOn (g.H.Shelf.files c.args.shelf.now) (named_work w) c.args.lts.now (end_of made.field-0)) (sym c.in-Factor.is) made.ensures

pub returns-in_ok-split_answer-in-Split-clause-ok : goal.returns-in_ok-split_answer-in-Split-clause-ok
returns-in_ok-split_answer-in-Split-clause-ok g c =
    let made = c.in_ok-split_answer-in-Split in
    subst (λ (w : Work (Bor (List ℕ))). EndsOn (g.H.Shelf.files c.args.shelf.now) (named_work w) c.args.lts.now (end_of made.field-0)) (sym c.in-Split.is) made.ensures

pub returns-in-Isomorphic-clause-ok : goal.returns-in-Isomorphic-clause-ok
returns-in-Isomorphic-clause-ok g c =
    subst (λ (w : Work (Bor (List ℕ))). IfOk c.comparison_answer.result (λ a. EndsOn (g.H.Shelf.files c.args.shelf.now) (named_work w) c.args.lts.now (end_of a)))
    (sym c.in-Isomorphic.is) c.comparison_answer.ensures.ok

pub returns-in_ok-report_answer-in-Examine-clause-ok : goal.returns-in_ok-report_answer-in-Examine-clause-ok
returns-in_ok-report_answer-in-Examine-clause-ok g c =
    let made = c.in_ok-report_answer-in-Examine in
    subst (λ (w : Work (Bor (List ℕ))). EndsOn (g.H.Shelf.files c.args.shelf.now) (named_work w) c.args.lts.now (end_of made.field-0)) (sym c.in-Examine.is) made.ensures
