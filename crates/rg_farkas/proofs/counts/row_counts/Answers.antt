use Rattle.std.proofs.Common.{map, ◌∙◌, ap}
use Rattle.rg_theory.specs.System.{labels}
use Rattle.rg_case_parts.specs.SettingViews.{shown_case}
use Rattle.rg_folds.specs.Substitution.{dependent_labels}
use Rattle.rg_case_folds.specs.Spreading.{pairs_of}
use Rattle.rg_farkas.specs.Leaves.{share_of, said_in}
use Rattle.rg_farkas.specs.View.{counted_of, pair_count}
use Rattle.rg_farkas.proofs.Pairs.{all_below, row_within, counts_next}
use Rattle.rg_farkas.proofs.counts.row_counts.Goals as goal

pub push_counts-requires-clause-labels : goal.push_counts-requires-clause-labels
push_counts-requires-clause-labels c =
    let s = shown_case c.args.c in
    all_below (labels s.lts) c.args.c.setting.tree.now.labels s.basis c.deref.result.now c.in_ok-labels.labels.items c.deref.ensures.value
    (c.in_ok-labels.ensures ∙ ap (λ n. dependent_labels n s.basis) c.labels.ensures.value) c.requires.tree.labels

pub push_counts-requires-clause-within : goal.push_counts-requires-clause-within
push_counts-requires-clause-within c =
    let s = shown_case c.args.c in
    let says = said_in s c.args.above.now in
    row_within s.lts says c.args.named.now c.loop-name.name-index c.loop-name-item.result c.loop-name-test.true c.loop-name-item.is
    c.args.c.setting.tree.now.states c.args.c.setting.tree.now.labels c.case_expression-row.result c.requires.within
    c.requires.tree.states c.requires.tree.labels c.case_expression-row.ensures

pub loop-name-preserved : goal.loop-name-preserved
loop-name-preserved c =
    let s = shown_case c.args.c in
    let says = said_in s c.args.above.now in
    let shares = map share_of c.args.named.now in
    let ts = dependent_labels (labels s.lts) s.basis in
    let same = c.deref.ensures.value ∙ c.in_ok-labels.ensures ∙ ap (λ n. dependent_labels n s.basis) c.labels.ensures.value in
    counts_next s.lts says c.args.named.now c.loop-name.name-index c.loop-name-item.result c.loop-name-test.true c.loop-name-item.is s.tree
    ts c.deref.result.now c.case_expression-row.result (map counted_of c.loop-name.counts.items) (map counted_of c.push_counts.new.counts.items)
    (map (pair_count s.tree says) (pairs_of shares ts)) same c.case_expression-row.ensures c.in_ok-push_counts.ensures
    c.loop-name.invariant
