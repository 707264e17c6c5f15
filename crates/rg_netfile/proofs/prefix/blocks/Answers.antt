use Rattle.std.proofs.Common.{◌<◌, ◌∙◌, length, arith, sym}
use Rattle.std.proofs.lemmas.Bool.{eqb-false}
use Rattle.rg_netfile.proofs.Prefixes.{blocks_by}
use Rattle.rg_netfile.proofs.prefix.blocks.Goals as goal

pub returns-then-not-is_empty : goal.returns-then-not-is_empty
returns-then-not-is_empty c =
    let parts = c.in-Some.ensures.cases in
    let some : 0 < length c.in-Some.number.now =
    (let e = eqb-false (length c.in-Some.number.now) 0 (sym c.is_empty.ensures ∙ c.if-not-is_empty.true) in omega arith) in
    c.are_digits.ensures ∙ blocks_by c.args.prefix.now c.args.label.now c.in-Some.number.now parts.0 parts.1 parts.2 some
