use Rattle.std.proofs.Common.{◌≡◌, true, false, get_or, sym, ◌∙◌}
use Rattle.std.proofs.lemmas.List.{get_or_default}
use Rattle.rg_revised.proofs.Unchanged.{unchanged_constant}
use Rattle.rg_revised.proofs.naming.constant_at.Goals as goal

pub returns-then-not-changed-t : goal.returns-then-not-changed-t
returns-then-not-changed-t c =
    let isnt : get_or c.args.changed.now c.args.t true ≡ false = sym (get_or_default c.args.changed.now c.args.t false true c.requires.column) ∙ c.if-not-changed-t.true in
    unchanged_constant c.args.changed.now c.args.table.now c.args.t c.requires.column c.requires.size c.requires.unit isnt
