use Rattle.std.proofs.Common.{rules, ◌≡◌, ◌∷◌, sym, ◌∙◌, true≢false}
use Rattle.std.proofs.lemmas.Bool.{not-true}
use Rattle.rg_cert.proofs.Digits.{after_minus, without_minus, plain_numeral, minus_numeral, turned_back}
use Rattle.rg_cert.proofs.numerals.is_numeral.Goals as goal

pub returns-then-is_plain : goal.returns-then-is_plain
returns-then-is_plain c =
    let text = c.args.text.now in
    let digits = c.in-Some.digits.now in
    let at : text ≡ 45 ∷ digits = search rules in (
      (λ t. minus_numeral text digits at (c.is_plain.ensures.0 c.if-is_plain.true)
          (λ zero. true≢false (sym (c.is_zero.ensures.1 zero) ∙ not-true c.is_zero.result t))),
      (λ (z, is). turned_back c.is_zero.result (λ zero. (after_minus text digits z at is).1 (c.is_zero.ensures.0 zero))),
    )

pub returns-in-None : goal.returns-in-None
returns-in-None c =
    let text = c.args.text.now in (
      (λ t. plain_numeral text (c.is_plain-in-None.ensures.0 t)),
      (λ (z, is). c.is_plain-in-None.ensures.1 (without_minus text z (search rules) is)),
    )
