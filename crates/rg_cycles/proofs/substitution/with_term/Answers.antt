use Rattle.std.proofs.Common.{rules, ◌≡◌, Err, inl, ◌∙◌}
use Rattle.rg_integers.specs.Sum.{number_at}
use Rattle.rg_integers.proofs.Casts.{back}
use Rattle.rg_integers.proofs.Order.{positive_differs}
use Rattle.std.proofs.lemmas.List.{get_or_default}
use Rattle.rg_folds.specs.Fold.{and_then, whole, ratio_of, quotient, mul}
use Rattle.rg_folds.proofs.FoldLemmas.{add_step}
use Rattle.rg_cycles.proofs.AddsNothing.{entry_passed_over, term_added}
use Rattle.rg_cycles.proofs.substitution.with_term.Goals as goal

pub returns-then-index-eq0 : goal.returns-then-index-eq0
returns-then-index-eq0 c =
    let number = c.index.ensures ∙ get_or_default c.args.relation.now.free.items c.args.index c.index.result.now _ c.requires.index in
    entry_passed_over (number_at c.args.relation.now.free.items c.args.index) c.args.relation.now.d c.args.count c.args.sum
    (c.requires.relation_in_range.free c.args.index) (rw number at c.if-index-eq0.true) (positive_differs _ c.requires.relation_in_range.positive)
    c.requires.count_in_range

pub returns-in_err-term : goal.returns-in_err-term
returns-in_err-term c =
    let same : c.from_residual.result ≡ Err c.in_err-term.field-0.0 = search rules in
    let n = back c.args.count c.requires.count_in_range in
    rw same (inl (rw (n, c.in_err-term.was) at c.term_of.ensures))

pub returns : goal.returns
returns c =
    let n = back c.args.count c.requires.count_in_range in
    term_added (and_then (quotient (number_at c.args.relation.now.free.items c.args.index) c.args.relation.now.d) (mul (whole c.args.count)))
    (ratio_of c.args.sum) (ratio_of c.in_ok-term.term) c.add.result (rw (n, c.in_ok-term.was) at c.term_of.ensures)
    (add_step c.args.sum c.in_ok-term.term c.add.result c.add.ensures)
