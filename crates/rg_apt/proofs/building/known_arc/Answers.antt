use Rattle.std.proofs.Common.{inr, refl}
use Rattle.rg_lts.proofs.Drafts.{there}
use Rattle.rg_apt.proofs.building.known_arc.Goals as goal

-- the names before it are there
pub returns-in_default-state_number-clause-fault : goal.returns-in_default-state_number-clause-fault
returns-in_default-state_number-clause-fault c =
    let d = c.args.builder.now in
    inr (inr (
      refl,
      there d.state_names c.in-Some.from c.args.from.now c.in-Some.ensures.found,
      there d.label_names c.in-Some-label_number.label c.args.label.now c.in-Some-label_number.ensures.found,
      c.in_default-state_number.ensures.none,
    ))
