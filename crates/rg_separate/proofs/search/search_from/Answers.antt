use Rattle.std.proofs.Common.{Err, ap, sym, subst, ◌∙◌}
use Rattle.rg_case_folds.specs.Shown.{Shown, ShownWide, CycleShown}
use Rattle.rg_case_parts.specs.ChordRows.{tree_rows}
use Rattle.rg_separate.specs.Passing.{cycle_passed}
use Rattle.rg_separate.proofs.Passing.{cycle_shown}
use Rattle.rg_separate.proofs.Ending.{cycle_searched}
use Rattle.rg_separate.proofs.search.search_from.Goals as goal
use Rattle.rg_separate.proofs.search.search_from.Given as given

-- the term of the walk over the chords
shown : (o : given.Over) (c : goal.After-drop-tree-inside-in-Err-Wide-5 o) → CycleShown c.args.lts.now (cycle_passed c.in-Err-Wide.wide)
shown o c =
    cycle_shown c.args.lts.now c.in-Ok.tree.arcs (tree_rows c.new-chords.result.tree.now) c.labels.result c.in-Err-Wide.wide c.in-Ok.ensures.tree.tree
    c.new-chords.ensures.rows c.labels.ensures.value
    (c.in-Err-Wide.ensures.wide c.in-Err-Wide.wide (ap Err c.in-Err-Wide.field-0-is))

pub returns-in-Err-Wide-clause-tells : goal.returns-in-Err-Wide-clause-tells
returns-in-Err-Wide-clause-tells o c = subst (λ (w : Shown). ShownWide c.args.lts.now c.args.class w) (sym (c.wide_cycle.ensures ∙ ap cycle_passed c.in-Err-Wide.wide-is)) (shown o c)

pub returns-in-Err-Wide-clause-searched : goal.returns-in-Err-Wide-clause-searched
returns-in-Err-Wide-clause-searched o c = cycle_searched c.args.lts.now c.args.class c.args.known.now c.wide_cycle.result c.in-Err-Wide.wide (c.wide_cycle.ensures ∙ ap cycle_passed c.in-Err-Wide.wide-is) (shown o c)
