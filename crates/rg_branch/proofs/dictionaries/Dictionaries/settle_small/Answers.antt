use Rattle.std.proofs.Common.{ap, subst, sym, ◌∙◌, map}
use Rattle.rg_linear.specs.Branching.{side_row, node_system}
use Rattle.rg_linear.specs.View.{linear_row, IsWellFormed}
use Rattle.rg_revised.specs.Settling.{IsDescent}
use Rattle.rg_revised.specs.declared.descent.Descent.TheVariants.{Refuted}
use Rattle.rg_branch.specs.View.{forms_of}
use Rattle.rg_branch.proofs.Sides.{rows_well_formed}
use Rattle.rg_branch.proofs.Keeping.{parent_rows}
use Rattle.rg_branch.proofs.Related.{failing_relation}
use Rattle.rg_branch.proofs.Nodes.{node_is, row_count, refuted_told}
use Rattle.rg_branch.proofs.dictionaries.Dictionaries.settle_small.Goals as goal

pub descent-ended-requires-clause-well_formed : goal.descent-ended-requires-clause-well_formed
descent-ended-requires-clause-well_formed c =
    subst IsWellFormed (sym (node_is c.args.system.now (forms_of c.args.forms.now) c.args.splits.now.above.items c.args.splits.now.rows.items c.deref.result.now c.deref.ensures.value
    c.requires.rows))
    (rows_well_formed c.args.system.now c.args.before c.args.forms.now c.args.splits.now.above.items c.requires.can c.requires.sides c.count.ensures.well_formed)

pub weights-requires : goal.weights-requires
weights-requires c =
    let node = node_is c.args.system.now (forms_of c.args.forms.now) c.args.splits.now.above.items c.args.splits.now.rows.items c.deref.result.now c.deref.ensures.value c.requires.rows in
    let (members, at) = subst (λ n. IsDescent n c.descent-ended.new.revised (Refuted c.in-Refuted.field-0)) node c.in-Refuted.ensures.outcome in
    let (fixed, outcome) = at.outcome in
    let (k, row) = failing_relation _ members fixed c.in-Refuted.field-0 outcome in
    let count = row_count c.args.system.now (map (side_row (forms_of c.args.forms.now)) c.args.splits.now.above.items) c.args.splits.now.rows.items c.count.result c.len.result
    c.count.ensures.value c.requires.rows (c.len.ensures ∙ c.args.splits.now.rows.ok.0) in
    let well = rows_well_formed c.args.system.now c.args.before c.args.forms.now c.args.splits.now.above.items c.requires.can c.requires.sides c.count.ensures.well_formed in
    record { refuted = (node_system c.args.system.now (forms_of c.args.forms.now) c.args.splits.now.above.items, c.in-Refuted.field-0, k, (members, at, row), count, well.few) }

pub returns-in_ok-weights-in-Refuted-clause-node : goal.returns-in_ok-weights-in-Refuted-clause-node
returns-in_ok-weights-in-Refuted-clause-node c =
    let node = node_is c.args.system.now (forms_of c.args.forms.now) c.args.splits.now.above.items c.args.splits.now.rows.items c.deref.result.now c.deref.ensures.value c.requires.rows in
    let (members, at) = subst (λ n. IsDescent n c.descent-ended.new.revised (Refuted c.in-Refuted.field-0)) node c.in-Refuted.ensures.outcome in
    let (fixed, outcome) = at.outcome in
    let (k, row) = failing_relation _ members fixed c.in-Refuted.field-0 outcome in
    let count = row_count c.args.system.now (map (side_row (forms_of c.args.forms.now)) c.args.splits.now.above.items) c.args.splits.now.rows.items c.count.result c.len.result
    c.count.ensures.value c.requires.rows (c.len.ensures ∙ c.args.splits.now.rows.ok.0) in
    refuted_told _ members fixed c.in-Refuted.field-0 k _ _ outcome row count (c.in_ok-weights-in-Refuted.ensures _ c.in-Refuted.field-0 k (members, at, row))

pub descent-ended-requires-clause-point : goal.descent-ended-requires-clause-point
descent-ended-requires-clause-point c = λ yes. parent_rows c.args.system.now (forms_of c.args.forms.now) c.args.splits.now.above.items (map linear_row c.deref.result.now) c.args.self.now.revised
    (ap (map linear_row) c.deref.ensures.value ∙ c.requires.rows) (c.requires.point yes)
