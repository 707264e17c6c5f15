use Rattle.std.proofs.Common.{arith}
use Rattle.rg_cycles.specs.View.{cycle_of}
use Rattle.rg_cycles.proofs.Equations.{basis_solves, basis_holds, basis_is_reduced, basis_fits, kept_few}
use Rattle.rg_cycles.proofs.solving.reduce_rows.Goals as goal

pub basis_of-requires-clause-few : goal.basis_of-requires-clause-few
basis_of-requires-clause-few g c =
    let few = kept_few (g.R.ChordRows.rows c.args.rows.now) c.in_ok-kept.kept.items c.in_ok-kept.ensures in
    let labels = c.requires.labels in
    let chords = c.requires.chords in
    omega arith

pub returns-clause-solutions : goal.returns-clause-solutions
returns-clause-solutions g c = basis_solves c.args.labels (g.R.ChordRows.rows c.args.rows.now) (cycle_of c.in_ok-basis.basis) c.in_ok-basis.ensures.basis

pub returns-clause-holds : goal.returns-clause-holds
returns-clause-holds g c = basis_holds c.args.labels (g.R.ChordRows.rows c.args.rows.now) (cycle_of c.in_ok-basis.basis) c.in_ok-basis.ensures.basis

pub returns-clause-reduced : goal.returns-clause-reduced
returns-clause-reduced g c = basis_is_reduced c.args.labels (g.R.ChordRows.rows c.args.rows.now) (cycle_of c.in_ok-basis.basis) c.in_ok-basis.ensures.basis

pub returns-clause-fits : goal.returns-clause-fits
returns-clause-fits g c = basis_fits c.args.labels (g.R.ChordRows.rows c.args.rows.now) (cycle_of c.in_ok-basis.basis) c.in_ok-basis.ensures.basis
