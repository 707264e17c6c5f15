use Rattle.std.proofs.Common.{get_or, ap, sym, ◌∙◌}
use Rattle.rg_theory.proofs.ClassTexts.{small_read, small_unread, begins_else}
use Rattle.rg_theory.proofs.class_words.small_number.Goals as goal

pub returns-then-as_bytes-eq48-clause-none : goal.returns-then-as_bytes-eq48-clause-none
returns-then-as_bytes-eq48-clause-none c =
    begins_else c.args.digits.now (ap (λ l. get_or l 0 0) (sym c.as_bytes.ensures.value) ∙ c.if-as_bytes-eq48.true)

pub returns-in-Ok-clause-some : goal.returns-in-Ok-clause-some
returns-in-Ok-clause-some c =
    small_read c.args.digits.now c.in-Ok.k c.parse.result c.requires.digits c.requires.some
    (λ e. c.if-as_bytes-eq48.false (ap (λ l. get_or l 0 0) c.as_bytes.ensures.value ∙ e)) c.in-Ok.is c.parse.ensures.value.0

pub returns-in-Err-clause-none : goal.returns-in-Err-clause-none
returns-in-Err-clause-none c = small_unread c.args.digits.now c.in-Err.field-0 c.parse.result c.in-Err.is c.parse.ensures.value.0
