use Rattle.std.proofs.Common.{◌∙◌}
use Rattle.rg_revised.proofs.naming.gather.Goals as goal

pub returns-clause-constants : goal.returns-clause-constants
returns-clause-constants c = record {
  size = c.copy_constants.ensures.same_length ∙ c.requires.columns;
  values = c.copy_constants.ensures.values;
  named_are = c.copy_constants.ensures.named;
  inside = c.copy_constants.ensures.inside;
  short = c.copy_constants.ensures.short;
}
