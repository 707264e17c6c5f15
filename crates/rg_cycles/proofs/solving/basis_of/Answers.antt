use Rattle.std.proofs.Common.{subst}
use Rattle.rg_linear.specs.Cycle.{IsCycleBasis}
use Rattle.rg_cycles.specs.View.{cycle_of}
use Rattle.rg_cycles.proofs.Showing.{kept_below}
use Rattle.rg_cycles.proofs.Related.{solved_by}
use Rattle.rg_cycles.proofs.solving.basis_of.Goals as goal

pub walk_columns-requires-clause-kept : goal.walk_columns-requires-clause-kept
walk_columns-requires-clause-kept g c =
    let vectors = g.R.ChordRows.rows c.args.rows.now in
    rw c.deref.ensures.value (kept_below vectors c.args.kept.items c.requires.keeps)

pub read-requires : goal.read-requires
read-requires g c =
    let vectors = g.R.ChordRows.rows c.args.rows.now in
    let are = rw c.deref.ensures.value at c.in_ok-walk_columns.ensures.are c.if-branch.true in
    let ends = rw c.deref.ensures.value at c.in_ok-walk_columns.ensures.ends c.if-branch.true in
    record { solved = (vectors, solved_by c.args.labels vectors c.args.kept.items _ c.requires.keeps c.walk_columns.ensures.columns are ends) }

pub returns-then-branch-clause-basis : goal.returns-then-branch-clause-basis
returns-then-branch-clause-basis g c =
    let vectors = g.R.ChordRows.rows c.args.rows.now in
    let are = rw c.deref.ensures.value at c.in_ok-walk_columns.ensures.are c.if-branch.true in
    let ends = rw c.deref.ensures.value at c.in_ok-walk_columns.ensures.ends c.if-branch.true in
    subst (λ n. IsCycleBasis n vectors (cycle_of c.in_ok-basis.basis)) c.walk_columns.ensures.columns
    (c.in_ok-basis.ensures.basis vectors
    (solved_by c.args.labels vectors c.args.kept.items _ c.requires.keeps c.walk_columns.ensures.columns are ends))
