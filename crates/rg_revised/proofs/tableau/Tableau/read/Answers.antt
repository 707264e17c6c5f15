use Rattle.std.proofs.Common.{rules}
use Rattle.std.specs.Prelude.{FitsSigned}
use Rattle.std.specs.Int.{w128}
use Rattle.std.proofs.lemmas.Int.{to_z-of_z}
use Rattle.rg_revised.proofs.tableau.Tableau.read.Goals as goal

pub returns-then-self-clause-read : goal.returns-then-self-clause-read
returns-then-self-clause-read c =
    let fk : FitsSigned w128 c.args.constant = search rules in
    let read = rw (to_z-of_z w128 c.args.constant fk) at c.read_long.ensures.read in
    read

pub returns-clause-read : goal.returns-clause-read
returns-clause-read c =
    let fk : FitsSigned w128 c.args.constant = search rules in
    let read = rw (to_z-of_z w128 c.args.constant fk) at c.read_short.ensures.read in
    λ yes. read
