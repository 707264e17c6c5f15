use Rattle.rg_farkas.proofs.Multipliers.{node_names_stand, node_names_in_range, node_shares_refute}
use Rattle.rg_farkas.proofs.laws.node_multipliers_refute.Goals as goal

pub returns-clause-stand : goal.returns-clause-stand
returns-clause-stand c = λ s case sides multiplier shares over within made. node_names_stand s case over sides within multiplier shares made

pub returns-clause-names : goal.returns-clause-names
returns-clause-names c = λ s case sides multiplier shares over within few made. node_names_in_range s case over sides within few multiplier shares made

pub returns-clause-refute : goal.returns-clause-refute
returns-clause-refute c = λ s case sides multiplier shares over within live farkas made. node_shares_refute s case over sides within live multiplier farkas shares made
