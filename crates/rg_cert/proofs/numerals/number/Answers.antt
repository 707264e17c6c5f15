use Rattle.std.proofs.lemmas.Str.{IsUtf8-from_ascii}
use Rattle.std.proofs.lemmas.Str.Ascii.{IsAscii-from_all}
use Rattle.rg_cert.proofs.Parsed.{refused_is_wide, numeral_ascii}
use Rattle.rg_cert.proofs.numerals.number.Goals as goal

pub returns-in-Err-parse-clause-none : goal.returns-in-Err-parse-clause-none
returns-in-Err-parse-clause-none c =
    λ z is. refused_is_wide c.args.text.now z c.parse.result _ c.in-Err-parse.is (rw c.in-Ok.ensures.cases.0 at c.parse.ensures.value.0) is

pub returns-in-Err-clause-none : goal.returns-in-Err-clause-none
returns-in-Err-clause-none c =
    λ z is. absurd (c.in-Err.ensures.cases.0 (IsUtf8-from_ascii c.args.text.now (IsAscii-from_all c.args.text.now (numeral_ascii c.args.text.now z is))))
