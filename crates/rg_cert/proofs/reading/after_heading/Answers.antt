use Rattle.std.proofs.Common.{Some, codes}
use Rattle.std.specs.Cmp.{unsigned_Decides}
use Rattle.std.proofs.lemmas.Slice.Eq.{strip_prefix_is}
use Rattle.rg_cert.proofs.reading.after_heading.Goals as goal

pub returns-in-Some-strip_prefix-clause-ok : goal.returns-in-Some-strip_prefix-clause-ok
returns-in-Some-strip_prefix-clause-ok c =
    strip_prefix_is unsigned_Decides c.args.text.now (codes "certificate 2\n") (Some c.in-Some-strip_prefix.rest) c.in-Some-strip_prefix.ensures.cases
