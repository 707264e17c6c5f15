use Rattle.std.proofs.Common.{rules, ◌≡◌, Err, subst, arith}
use Rattle.rg_linear.specs.Cycle.{IsCycleBasis, vector_system}
use Rattle.rg_cycles.specs.View.{cycle_of}
use Rattle.rg_cycles.proofs.Showing.{kept_below, count_rows}
use Rattle.rg_cycles.proofs.Related.{solved_by}
use Rattle.rg_cycles.proofs.Equations.{error_is}
use Rattle.rg_cycles.proofs.solving.full_basis.Goals as goal

pub fill-requires-clause-kept : goal.fill-requires-clause-kept
fill-requires-clause-kept g c =
    let vectors = g.R.ChordRows.rows c.args.rows.now in
    rw c.deref.ensures.value (kept_below vectors c.args.kept.items c.requires.keeps)

pub walk-requires-clause-few : goal.walk-requires-clause-few
walk-requires-clause-few g c =
    let vectors = g.R.ChordRows.rows c.args.rows.now in
    let whole = rw c.deref.ensures.value at c.in_ok-dictionary.ensures.whole in
    let rows = count_rows c.args.labels vectors c.args.kept.items in
    let columns_are = whole.columns in
    let rows_are = whole.rows in
    let few = c.requires.few in
    omega arith

pub returns-in_err-walk-clause-wide : goal.returns-in_err-walk-clause-wide
returns-in_err-walk-clause-wide g c =
    let vectors = g.R.ChordRows.rows c.args.rows.now in
    λ w e.
    let whole = rw c.deref.ensures.value at c.in_ok-dictionary.ensures.whole in
    let same : c.from_residual-in_err-walk.result ≡ Err c.in_err-walk.field-0.0 = search rules in
    record {
      kept = c.args.kept.items;
      keeps = c.requires.keeps;
      walk = c.walk.ensures.wide w (error_is _ _ _ _ c.in_err-walk.was same e) (vector_system c.args.labels vectors c.args.kept.items) whole;
    }

pub read-requires : goal.read-requires
read-requires g c =
    let vectors = g.R.ChordRows.rows c.args.rows.now in
    let whole = rw c.deref.ensures.value at c.in_ok-dictionary.ensures.whole in
    let ends = c.in_ok-walk.ensures.ends (vector_system c.args.labels vectors c.args.kept.items) whole in
    record { solved = (vectors, solved_by c.args.labels vectors c.args.kept.items _ c.requires.keeps ends.0.columns ends.0 ends.1) }

pub returns-clause-basis : goal.returns-clause-basis
returns-clause-basis g c =
    let vectors = g.R.ChordRows.rows c.args.rows.now in
    let whole = rw c.deref.ensures.value at c.in_ok-dictionary.ensures.whole in
    let ends = c.in_ok-walk.ensures.ends (vector_system c.args.labels vectors c.args.kept.items) whole in
    subst (λ n. IsCycleBasis n vectors (cycle_of c.in_ok-basis.basis)) ends.0.columns
    (c.in_ok-basis.ensures.basis vectors (solved_by c.args.labels vectors c.args.kept.items _ c.requires.keeps ends.0.columns ends.0 ends.1))
