use Rattle.std.proofs.Common.{◌≤◌, ap, subst, sym, ◌∙◌}
use Rattle.rg_theory.specs.Limits.{most_labels}
use Rattle.rg_case_folds.specs.Rewriting.{column_count}
use Rattle.rg_rows.proofs.common.Common.column_count.Goals as goal

pub count-requires-clause-labels : goal.count-requires-clause-labels
count-requires-clause-labels c = let (s, common, labels, few) = c.requires in common.columns.used.one_each ∙ sym labels

pub count-requires-clause-few : goal.count-requires-clause-few
count-requires-clause-few c = let (s, common, labels, few) = c.requires in subst (λ n. n ≤ most_labels) (sym common.columns.used.one_each) few

pub returns : goal.returns
returns c = λ s is basis.
    let (s', common, labels, few) = c.requires in
    let same = sym is.columns.used.one_each ∙ common.columns.used.one_each ∙ sym labels in
    c.count.ensures s.lts s.class same is.columns ∙ ap (λ b. column_count s.lts b s.class) basis
