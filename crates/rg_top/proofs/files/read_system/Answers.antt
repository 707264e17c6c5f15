use Rattle.std.proofs.Common.{◌≡◌, List, ℕ, subst, ap, Err}
use Rattle.rg_top.specs.declared.files.FileStop.TheVariants as stop
use Rattle.rg_top.specs.Given.{IsFaultAs}
use Rattle.rg_top.proofs.OneFile.{unread_is_no_system, faulty_is_no_system}
use Rattle.rg_top.proofs.files.read_system.Goals as goal

pub returns-in-Ok-clause-refused : goal.returns-in-Ok-clause-refused
returns-in-Ok-clause-refused g c = λ fault is.
    faulty_is_no_system (g.H.Shelf.files c.args.shelf.now) c.args.form c.args.name.now c.in-Ok.bytes.items fault c.in-Ok.ensures.ok
    (subst (λ (b : List ℕ). IsFaultAs c.args.form b fault) c.deref.ensures.value (c.system_of.ensures.refused fault is))

pub returns-in-Err-clause-refused : goal.returns-in-Err-clause-refused
returns-in-Err-clause-refused g c = λ fault is.
    let same : c.in-Err.stop ≡ stop.Refused fault = cc in
    unread_is_no_system (g.H.Shelf.files c.args.shelf.now) c.args.form c.args.name.now fault (c.in-Err.ensures.refused fault (ap Err same))
