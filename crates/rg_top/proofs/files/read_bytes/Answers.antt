use Rattle.std.proofs.Common.{◌<◌, ◌≡◌, subst, ap, Err, length, IsSomeAnd}
use Rattle.rg_ports.specs.Shelf.{Files, file_of}
use Rattle.rg_text.specs.Limits.{most_bytes}
use Rattle.rg_messages.specs.declared.fault.Fault.TheVariants.{TooLong}
use Rattle.rg_top.specs.Given.{IsUnread}
use Rattle.rg_top.proofs.FileLemmas.{told, too_long}
use Rattle.rg_top.proofs.files.read_bytes.Goals as goal

pub returns-in-Err-TooLong-clause-refused : goal.returns-in-Err-TooLong-clause-refused
returns-in-Err-TooLong-clause-refused g c = λ fault is.
    let files = g.H.Shelf.files c.args.shelf.now in
    let name = c.args.name.now in
    let same : TooLong ≡ fault = cc in
    subst (IsUnread files name) same
    (too_long files name (told files _ (λ (f : Files). IsSomeAnd (file_of f name) (λ b. most_bytes < length b)) (ap Err c.in-Err-TooLong.field-0-is) c.in-Err-TooLong.ensures.too_long))
