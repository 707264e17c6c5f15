use Rattle.std.proofs.Common.{rules, ◌≡◌, Err, map}
use Rattle.rg_fraction.specs.declared.fold_stop.FoldStop.TheVariants as stop
use Rattle.rg_cert_meaning.specs.Row.{RowStands}
use Rattle.rg_case_parts.specs.SettingViews.{shown_case}
use Rattle.rg_cert_data.specs.Trees.{named_row}
use Rattle.rg_farkas.specs.Leaves.{share_of, said_in}
use Rattle.rg_farkas.proofs.Asked.{rows_within, says_arcs, arcs_stand, leaf_names, all_rows, row_numbers, bottoms}
use Rattle.rg_farkas.proofs.Refutes.{leaf_refutes}
use Rattle.rg_farkas.proofs.leaf.spread_in.Goals as goal

pub leaf_rows-requires-clause-within : goal.leaf_rows-requires-clause-within
leaf_rows-requires-clause-within c =
    let s = shown_case c.args.c in
    let shares = map share_of c.args.named.now in
    rows_within s.lts c.is_well_formed.ensures.in_range.initial s.class c.args.above.now c.requires.sides s.problem s.number c.requires.asked shares c.requires.names

pub returns-in_err-rows-clause-wide : goal.returns-in_err-rows-clause-wide
returns-in_err-rows-clause-wide c = λ w e.
    let same : c.from_residual.result ≡ Err c.in_err-rows.field-0.0 = search rules in
    let is : c.in_err-rows.field-0.0 ≡ stop.Wide w = cc in
    rw is at c.in_err-rows.ensures.comes

pub returns-clause-refutes : goal.returns-clause-refutes
returns-clause-refutes c =
    let s = shown_case c.args.c in
    let says = said_in s c.args.above.now in
    let shares = map share_of c.args.named.now in
    leaf_refutes s.lts s.tree s.basis (RowStands s.lts s.class s.problem s.number c.args.above.now) says shares
    (map named_row c.in_ok-rows.rows.items) c.is_well_formed.ensures c.requires.reachable c.requires.tree.tree c.requires.basis
    (says_arcs s.lts s.class s.problem s.number c.args.above.now)
    (arcs_stand s.lts s.class s.problem s.number c.args.above.now) c.requires.stand
    (rows_within s.lts c.is_well_formed.ensures.in_range.initial s.class c.args.above.now c.requires.sides s.problem s.number c.requires.asked shares c.requires.names)
    (bottoms c.args.named.now) c.requires.refute c.in_ok-rows.ensures.comes (row_numbers c.in_ok-rows.rows.items c.in_ok-rows.ensures.in_range)

pub returns-clause-in_range : goal.returns-clause-in_range
returns-clause-in_range c =
    let s = shown_case c.args.c in
    let says = said_in s c.args.above.now in
    let shares = map share_of c.args.named.now in
    all_rows s.lts (map named_row c.in_ok-rows.rows.items)
    (leaf_names s.lts s.tree s.basis says shares (map named_row c.in_ok-rows.rows.items) c.is_well_formed.ensures.in_range c.requires.names c.in_ok-rows.ensures.comes)
    (row_numbers c.in_ok-rows.rows.items c.in_ok-rows.ensures.in_range)
