use Rattle.std.proofs.Common.{◌<◌, length, reverse, subst, sym, arith}
use Rattle.rg_branch.specs.Kept.{AreSaved}
use Rattle.rg_branch.proofs.Keeping.{dropped}
use Rattle.rg_branch.proofs.dictionaries.drop_outermost.Goals as goal

pub returns-then-len-ge-MOST : goal.returns-then-len-ge-MOST
returns-then-len-ge-MOST c = λ system forms sides saved.
    let some : 0 < length c.args.copies.now.items = omega (arith, c.len.ensures, c.args.copies.now.ok.0, c.if-len-ge-MOST.true) in
    subst (λ xs. AreSaved system forms (reverse xs) sides) (sym c.remove.ensures.items) (dropped system forms c.args.copies.now.items sides some saved)
