-- Each arc gives its target the row of its source, and then one more of its label.
use Rattle.std.proofs.Common.{◌≡◌, ℕ, ◌+◌, ◌<◌, ◌≤◌, List, [], ◌∷◌, get_or, set, replicate, length, slice_index, sym, subst, ap, ap₂, ◌∙◌, arith}
use Rattle.std.proofs.lemmas.List.{length-set}
use Rattle.rg_theory.specs.declared.Arc.{Arc}
use Rattle.rg_theory.specs.System.{arc, labels, IsArcInRange}
use Rattle.rg_theory.specs.Tree.{IsTree}
use Rattle.rg_spanning.specs.Tables.{HasRows}
use Rattle.rg_spanning.proofs.TreeGrowth.{targets}
use Rattle.rg_spanning.proofs.TreeTables.{IsCounting, next_in_range, tree_short, counting_none, copied_row, joined_row, label_within, label_small, counting_more, counting_all}
use Rattle.rg_spanning.proofs.counts.count_rows.Goals as goal
use Rattle.rg_spanning.proofs.counts.count_rows.Goals.{After-deref-a-items, After-copy_row}

tree : (c : After-deref-a-items) → IsTree c.args.lts.now c.deref-a-items.result.now
tree c = subst (IsTree c.args.lts.now) (sym c.deref-a-items.ensures.value) c.requires.tree

short : (c : After-deref-a-items) → length c.deref-a-items.result.now ≤ 4096
short c =
    let growth = c.args.growth.now in
    subst (λ (xs : List Arc). length xs ≤ 4096) (sym c.deref-a-items.ensures.value)
    (tree_short c.args.lts.now growth.order.items growth.arcs.items growth.entries.items c.requires.growing)

-- the next arc
abbrev next : After-copy_row → Arc
next c = get_or c.deref-a-items.result.now c.loop-a.a-index (arc 0 0 0)

in_range : (c : After-copy_row) → IsTree c.args.lts.now c.deref-a-items.result.now → IsArcInRange c.args.lts.now (next c)
in_range c grown = next_in_range c.args.lts.now c.deref-a-items.result.now c.loop-a.a-index (arc 0 0 0) c.requires.growing.well_formed grown
    c.loop-a-test.true

target_within : (c : After-copy_row) → IsTree c.args.lts.now c.deref-a-items.result.now → (next c).to < length c.loop-a.counts
target_within c grown =
    let n = c.requires.growing.one_each in
    let m = c.loop-a.invariant.one_each in
    let within = in_range c grown in
    omega (arith, within.2)

-- the target has the row of the source
target_row : (c : After-copy_row) → IsTree c.args.lts.now c.deref-a-items.result.now
    → get_or c.copy_row.new.self (next c).to [] ≡ get_or c.loop-a.counts (next c).from []
target_row c grown =
    ap (λ (rows : List (List ℕ)). get_or rows (next c).to []) c.copy_row.ensures
    ∙ copied_row c.loop-a.counts (next c).from (next c).to (target_within c grown)

pub loop-a-init : goal.loop-a-init
loop-a-init c =
    let lts = c.args.lts.now in
    let n = length c.args.growth.now.entries.items in
    let is = c.in_ok-counts.ensures
    ∙ ap₂ (λ m k. replicate m (replicate k 0)) (c.states.ensures.value ∙ sym c.requires.growing.one_each) c.labels.ensures.value in
    let within : lts.initial < n = (let e = c.requires.growing.one_each in let r = c.requires.growing.well_formed.in_range.initial in omega arith) in
    subst (λ rows. IsCounting (labels lts) lts.initial c.deref-a-items.result.now n rows 0) (sym is)
    (counting_none lts c.deref-a-items.result.now (labels lts) n (tree c) within)

pub copy_row-requires-clause-from : goal.copy_row-requires-clause-from
copy_row-requires-clause-from c =
    let within = next_in_range c.args.lts.now c.deref-a-items.result.now c.loop-a.a-index (arc 0 0 0) c.requires.growing.well_formed
    (tree (goal.at.copy_row-requires-clause-from c).After-deref-a-items) c.loop-a-test.true in
    let n = c.requires.growing.one_each in
    let m = c.loop-a.invariant.one_each in
    omega (arith, within.0)

pub copy_row-requires-clause-to : goal.copy_row-requires-clause-to
copy_row-requires-clause-to c =
    let within = next_in_range c.args.lts.now c.deref-a-items.result.now c.loop-a.a-index (arc 0 0 0) c.requires.growing.well_formed
    (tree (goal.at.copy_row-requires-clause-to c).After-deref-a-items) c.loop-a-test.true in
    let n = c.requires.growing.one_each in
    let m = c.loop-a.invariant.one_each in
    omega (arith, within.2)

pub add_one-requires-clause-row : goal.add_one-requires-clause-row
add_one-requires-clause-row c =
    let at = goal.at.add_one-requires-clause-row c in
    let within = target_within at.After-copy_row (tree at.After-deref-a-items) in
    let same = ap length c.copy_row.ensures
    ∙ length-set c.loop-a.counts (next at.After-copy_row).to (get_or c.loop-a.counts (next at.After-copy_row).from []) in
    omega arith

pub add_one-requires-clause-entry : goal.add_one-requires-clause-entry
add_one-requires-clause-entry c =
    let at = goal.at.add_one-requires-clause-entry c in
    let grown = tree at.After-deref-a-items in
    let lts = c.args.lts.now in
    let within = label_within lts c.deref-a-items.result.now (labels lts) (length c.args.growth.now.entries.items) c.loop-a.counts c.loop-a.a-index
    (arc 0 0 0) grown c.loop-a.invariant c.loop-a-test.true (in_range at.After-copy_row grown).1 in
    let same = ap length (target_row at.After-copy_row grown) in
    omega arith

pub add_one-requires-clause-fits : goal.add_one-requires-clause-fits
add_one-requires-clause-fits c =
    let at = goal.at.add_one-requires-clause-fits c in
    let grown = tree at.After-deref-a-items in
    let lts = c.args.lts.now in
    let small = label_small lts c.deref-a-items.result.now (labels lts) (length c.args.growth.now.entries.items) c.loop-a.counts c.loop-a.a-index
    (arc 0 0 0) grown c.loop-a.invariant c.loop-a-test.true (in_range at.After-copy_row grown).1 in
    let few = short at.After-deref-a-items in
    let lt = c.loop-a-test.true in
    let same = ap (λ (row : List ℕ). slice_index row (next at.After-copy_row).label) (target_row at.After-copy_row grown) in
    omega arith

pub loop-a-preserved : goal.loop-a-preserved
loop-a-preserved c =
    let at = goal.at.loop-a-preserved c in
    let grown = tree at.After-deref-a-items in
    let a = next at.After-copy_row in
    let lts = c.args.lts.now in
    let n = length c.args.growth.now.entries.items in
    let within = in_range at.After-copy_row grown in
    let is = c.add_one.ensures
    ∙ ap (λ (rows : List (List ℕ)). set rows a.to (set (get_or rows a.to []) a.label (slice_index (get_or rows a.to []) a.label + 1))) c.copy_row.ensures
    ∙ joined_row c.loop-a.counts a.from a.to a.label (target_within at.After-copy_row grown) in
    subst (λ rows. IsCounting (labels lts) lts.initial c.deref-a-items.result.now n rows (c.loop-a.a-index + 1)) (sym is)
    (counting_more lts c.deref-a-items.result.now (labels lts) n c.loop-a.counts c.loop-a.a-index (arc 0 0 0) grown c.loop-a.invariant
    c.loop-a-test.true (let e = c.requires.growing.one_each in omega (arith, within.2)) within.1)

pub returns-clause-rows : goal.returns-clause-rows
returns-clause-rows c =
    let value = c.deref-a-items.ensures.value in
    let order = c.args.growth.now.order.items in
    let initial = c.args.lts.now.initial in
    subst (λ (xs : List Arc). HasRows (labels c.args.lts.now) xs order c.loop-a.counts) value
    (counting_all initial order c.deref-a-items.result.now (labels c.args.lts.now) (length c.args.growth.now.entries.items) c.loop-a.counts
    c.loop-a.a-index c.loop-a.invariant
    (omega arith) (c.requires.growing.order_is ∙ ap (λ (xs : List Arc). initial ∷ targets xs) (sym value)))
