use Rattle.rg_checks.proofs.FirstFlaws.{flaw_in_range}
use Rattle.rg_messages.proofs.flaw.flaw_text.Goals as goal

pub push_flaw-requires : goal.push_flaw-requires
push_flaw-requires c = flaw_in_range c.args.lts.now c.args.flaw c.is_well_formed.ensures.in_range c.requires
