use Rattle.std.proofs.Common.{rules, ◌<◌, ⊎_elim, length, arith, sym, ◌∙◌, true≢false}
use Rattle.std.proofs.lemmas.Bool.{cases_lt}
use Rattle.rg_cert.proofs.numerals.is_plain.Goals as goal

pub returns : goal.returns
returns c =
    let digits = c.args.digits.now in
    let value = c.are_digits.ensures in
    let some : 0 < length digits = search rules in (
      (λ t. record {
        some = some;
        each = sym value ∙ t;
        first = λ zero. ⊎_elim
            (λ long. absurd (true≢false (sym (c.begins_with_zero.ensures.1 (long, zero)) ∙ c.if-begins_with_zero.false)))
            (λ short. omega arith) (cases_lt 1 (length digits));
      }),
      (λ is. value ∙ is.each),
    )
