use Rattle.std.proofs.Common.{rules, subst, sym}
use Rattle.std.specs.Prelude.{FitsSigned}
use Rattle.std.specs.Int.{w64, w128}
use Rattle.std.proofs.lemmas.Int.{to_z-of_z}
use Rattle.rg_revised.specs.State.{IsTableauOf}
use Rattle.rg_revised.proofs.Advancing.{short_read}
use Rattle.rg_revised.proofs.tableau.Tableau.read_short.Goals as goal

pub returns-clause-read : goal.returns-clause-read
returns-clause-read c = λ system members i is row.
    let fk : FitsSigned w128 c.args.constant = search rules in
    let fd : FitsSigned w64 c.d-self-inside.result = search rules in
    let at = subst (IsTableauOf system members) (sym c.self.view_is) is in
    let read = rw (to_z-of_z w128 c.args.constant fk) at c.read.ensures.read in
    rw (to_z-of_z w64 c.d-self-inside.result fd, c.d-self-inside.ensures, c.read.ensures.same, ← c.self.view_is) (short_read system members _ i _ _ at row c.read.new.numbers.items read)
