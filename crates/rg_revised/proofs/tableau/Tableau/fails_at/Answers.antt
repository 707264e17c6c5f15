use Rattle.std.proofs.Common.{rules}
use Rattle.std.specs.Prelude.{FitsSigned}
use Rattle.std.specs.Int.{w128}
use Rattle.std.proofs.lemmas.Int.{to_z-of_z}
use Rattle.rg_integers.proofs.Casts.{back}
use Rattle.rg_revised.proofs.ConstantsHeld.{sign_test}
use Rattle.rg_revised.proofs.tableau.Tableau.fails_at.Goals as goal

pub constant-requires : goal.constant-requires
constant-requires c =
    let fk : FitsSigned w128 c.args.constant = search rules in
    rw (to_z-of_z w128 c.args.constant fk) c.requires

pub returns : goal.returns
returns c =
    let fk : FitsSigned w128 c.args.constant = search rules in
    rw (back c.constant.result c.constant.ensures.in_range) (sign_test c.constant.result _ (rw (to_z-of_z w128 c.args.constant fk) at c.constant.ensures.value))
