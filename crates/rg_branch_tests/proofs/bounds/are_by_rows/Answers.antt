use Rattle.std.proofs.Common.{refl}
use Rattle.rg_branch_tests.proofs.Bounding.{one_more_by_rows, not_each}
use Rattle.rg_branch_tests.proofs.bounds.are_by_rows.Goals as goal

pub returns-then-not-is_by_rows-clause-not_shown : goal.returns-then-not-is_by_rows-clause-not_shown
returns-then-not-is_by_rows-clause-not_shown c = λ e.
    not_each c.args.system.now c.args.before c.args.forms.now c.args.tops.now c.loop-f.f c.index-forms-f.result c.loop-f-test.true c.index-forms-f.is
    (c.if-not-is_by_rows.ensures.not_shown refl)

pub loop-f-preserved : goal.loop-f-preserved
loop-f-preserved c =
    one_more_by_rows c.args.system.now c.args.before c.args.forms.now c.args.tops.now c.loop-f.f c.index-forms-f.result c.loop-f-test.true c.requires.one_each
    c.index-forms-f.is (c.if-not-is_by_rows.ensures.shown refl) c.loop-f.invariant
