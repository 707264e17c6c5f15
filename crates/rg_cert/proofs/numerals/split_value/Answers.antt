use Rattle.std.proofs.Common.{arith, ap, ◌∙◌, ◌<◌, ◌^◌, nat_abs}
use Rattle.std.specs.Fmt.{signed_decimal}
use Rattle.std.proofs.lemmas.Int.{ints}
use Rattle.rg_cert.proofs.Decimal.{numeral_text}
use Rattle.rg_cert.proofs.Parsed.{read_number}
use Rattle.rg_cert.proofs.numerals.split_value.Goals as goal

pub returns-clause-text : goal.returns-clause-text
returns-clause-text c =
    let text = c.args.text.now in
    let z = c.unwrap.result in
    let read = read_number text c.number.result z c.requires.0 c.number.ensures.some c.unwrap.ensures c.requires.1 in
    let size = ap nat_abs read.1 in
    let small : nat_abs z < 10 ^ 64 = omega (arith, size, c.requires.2) in
    numeral_text text z read.0 small ∙ ap signed_decimal (omega (arith, ints))
