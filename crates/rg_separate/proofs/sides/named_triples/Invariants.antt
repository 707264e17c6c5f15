use Rattle.std.proofs.Common.{◌≡◌, map, take}
use Rattle.rg_cert_meaning.specs.Sides.{side_of}
use Rattle.rg_rows.specs.Forms.{split_of}
use Rattle.rg_separate.specs.Casing.{sides_among}
use Rattle.rg_separate.proofs.sides.named_triples.Given as goal

abbrev pub invariant-loop-form : goal.invariant-loop-form
invariant-loop-form l = map side_of l.triples.items ≡ sides_among (map split_of l.forms) (take l.form-index l.above)
