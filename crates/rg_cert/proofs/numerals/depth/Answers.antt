use Rattle.std.proofs.Common.{◌≡◌, arith, ap, sym, ◌∙◌, ◌<◌, ◌^◌, decimal, pos, nat_abs}
use Rattle.std.specs.Fmt.{signed_decimal}
use Rattle.std.proofs.lemmas.Int.{ints}
use Rattle.rg_cert.proofs.Decimal.{numeral_text}
use Rattle.rg_cert.proofs.Parsed.{read_number, read_small}
use Rattle.rg_cert.proofs.numerals.depth.Goals as goal

pub unwrap-requires : goal.unwrap-requires
unwrap-requires c =
    let size = ap nat_abs c.requires.2.1 in
    read_small c.args.text.now c.number.result c.requires.0 c.number.ensures.none c.requires.1 (omega (arith, size, c.requires.2.2))

pub returns : goal.returns
returns c =
    let text = c.args.text.now in
    let z = c.unwrap.result in
    let read = read_number text c.number.result z c.requires.0 c.number.ensures.some c.unwrap.ensures c.requires.1 in
    let d = c.requires.2.0 in
    let is : z ≡ pos d = sym read.1 ∙ c.requires.2.1 in
    let size = ap nat_abs is in
    let less = c.requires.2.2 in
    let small : nat_abs z < 10 ^ 64 = omega (arith, size, less) in
    numeral_text text z read.0 small ∙ ap signed_decimal is ∙ ap decimal (omega (arith, ints, is, less))
