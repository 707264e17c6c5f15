use Rattle.std.proofs.Common.{subst, sym, refl, ◌∙◌, map}
use Rattle.rg_linear.specs.Branching.{side_row, node_system}
use Rattle.rg_linear.specs.Descent.{Outcome.wide, DescentFromStart}
use Rattle.rg_linear.specs.View.{IsWellFormed}
use Rattle.rg_feasible.specs.Settling.{IsDictionaryOf, IsRefutation, wide_at}
use Rattle.rg_feasible.proofs.Shown.{failing_relation}
use Rattle.rg_branch.specs.View.{forms_of}
use Rattle.rg_branch.proofs.Sides.{rows_well_formed}
use Rattle.rg_branch.proofs.Nodes.{node_is, row_count, refuted_told}
use Rattle.rg_branch.proofs.node.fill_and_settle.Goals as goal

pub renew-requires : goal.renew-requires
renew-requires c =
    subst IsWellFormed (sym (node_is c.args.system.now (forms_of c.args.forms.now) c.args.splits.now.above.items c.args.splits.now.rows.items c.deref.result.now c.deref.ensures.value
    c.requires.rows))
    (rows_well_formed c.args.system.now c.args.before c.args.forms.now c.args.splits.now.above.items c.requires.can c.requires.sides c.columns-columns.ensures.well_formed)

pub weights-requires : goal.weights-requires
weights-requires c =
    let node = node_is c.args.system.now (forms_of c.args.forms.now) c.args.splits.now.above.items c.args.splits.now.rows.items c.deref.result.now c.deref.ensures.value c.requires.rows in
    let filled = subst (λ n. IsDictionaryOf n c.renew.new.self) node (c.in_ok-renew.ensures {u = tt}).dictionary in
    let outcome = c.in-Refuted.ensures.outcome _ filled in
    let left = c.in-Refuted.ensures.left _ filled in
    let refuted : IsRefutation c.settle.new.self c.in-Refuted.field-0 = record { system = _; dictionary = left.0; failing = left.1; outcome = outcome } in
    let shown = failing_relation _ c.settle.new.self.table outcome.0 c.in-Refuted.field-0 left.0 outcome.1 in
    let count = row_count c.args.system.now (map (side_row (forms_of c.args.forms.now)) c.args.splits.now.above.items) c.args.splits.now.rows.items c.count.result c.len.result
    c.count.ensures.value c.requires.rows (c.len.ensures ∙ c.args.splits.now.rows.ok.0) in
    let well = rows_well_formed c.args.system.now c.args.before c.args.forms.now c.args.splits.now.above.items c.requires.can c.requires.sides c.columns-columns.ensures.well_formed in
    record {
      refuted = (
        node_system c.args.system.now (forms_of c.args.forms.now) c.args.splits.now.above.items,
        c.in-Refuted.field-0,
        shown.k,
        (left.0, refuted, shown.multipliers),
        count,
        well.few,
      );
    }

pub point_end-requires-clause-point : goal.point_end-requires-clause-point
point_end-requires-clause-point c =
    let node = node_is c.args.system.now (forms_of c.args.forms.now) c.args.splits.now.above.items c.args.splits.now.rows.items c.deref.result.now c.deref.ensures.value c.requires.rows in
    let filled = subst (λ n. IsDictionaryOf n c.renew.new.self) node (c.in_ok-renew.ensures {u = tt}).dictionary in
    (c.args.splits.now.above.items, c.settle.new.self.table.members, record { are = (c.in-Point.ensures.left _ filled, refl); outcome = c.in-Point.ensures.outcome _ filled })

pub returns-in_ok-members-in-Wide : goal.returns-in_ok-members-in-Wide
returns-in_ok-members-in-Wide c =
    let node = node_is c.args.system.now (forms_of c.args.forms.now) c.args.splits.now.above.items c.args.splits.now.rows.items c.deref.result.now c.deref.ensures.value c.requires.rows in
    let filled = subst (λ n. IsDictionaryOf n c.renew.new.self) node (c.in_ok-renew.ensures {u = tt}).dictionary in
    subst (λ ms. DescentFromStart (node_system c.args.system.now (forms_of c.args.forms.now) c.args.splits.now.above.items) (wide (wide_at ms c.in-Wide.wide)))
    (sym c.in_ok-members-in-Wide.ensures) (c.in-Wide.ensures.outcome _ filled)

pub returns-in_ok-weights-in-Refuted : goal.returns-in_ok-weights-in-Refuted
returns-in_ok-weights-in-Refuted c =
    let node = node_is c.args.system.now (forms_of c.args.forms.now) c.args.splits.now.above.items c.args.splits.now.rows.items c.deref.result.now c.deref.ensures.value c.requires.rows in
    let filled = subst (λ n. IsDictionaryOf n c.renew.new.self) node (c.in_ok-renew.ensures {u = tt}).dictionary in
    let outcome = c.in-Refuted.ensures.outcome _ filled in
    let left = c.in-Refuted.ensures.left _ filled in
    let refuted : IsRefutation c.settle.new.self c.in-Refuted.field-0 = record { system = _; dictionary = left.0; failing = left.1; outcome = outcome } in
    let shown = failing_relation _ c.settle.new.self.table outcome.0 c.in-Refuted.field-0 left.0 outcome.1 in
    let count = row_count c.args.system.now (map (side_row (forms_of c.args.forms.now)) c.args.splits.now.above.items) c.args.splits.now.rows.items c.count.result c.len.result
    c.count.ensures.value c.requires.rows (c.len.ensures ∙ c.args.splits.now.rows.ok.0) in
    refuted_told _ c.settle.new.self.table.members outcome.0 c.in-Refuted.field-0 shown.k _ _ outcome.1 shown.row count
    (c.in_ok-weights-in-Refuted.ensures _ c.in-Refuted.field-0 shown.k (left.0, refuted, shown.multipliers))

pub returns-in_ok-end-in-Point : goal.returns-in_ok-end-in-Point
returns-in_ok-end-in-Point c =
    let node = node_is c.args.system.now (forms_of c.args.forms.now) c.args.splits.now.above.items c.args.splits.now.rows.items c.deref.result.now c.deref.ensures.value c.requires.rows in
    let filled = subst (λ n. IsDictionaryOf n c.renew.new.self) node (c.in_ok-renew.ensures {u = tt}).dictionary in
    c.in_ok-end-in-Point.ensures c.args.splits.now.above.items c.settle.new.self.table.members
    (record { are = (c.in-Point.ensures.left _ filled, refl); outcome = c.in-Point.ensures.outcome _ filled })
