use Rattle.std.proofs.Common.{length, ap, refl, ◌∙◌, arith}
use Rattle.std.proofs.lemmas.Bool.{false≢true}
use Rattle.std.specs.Int.{w64, cast_unsigned}
use Rattle.rg_case_parts.specs.ChordRows.{entry_between}
use Rattle.rg_case_parts.proofs.Rows.{all_zero, zero_at}
use Rattle.rg_case_parts.proofs.chord_ends.ChordEnds.is_zero.Goals as goal

pub returns-then-number-ne0 : goal.returns-then-number-ne0
returns-then-number-ne0 c = (
  λ yes. absurd (false≢true yes),
  λ zeros. absurd (c.if-number-ne0.true (ap (cast_unsigned w64)
      (c.number.ensures.value ∙ zero_at (entry_between c.args.self.source.now c.args.self.target.now c.args.self.label)
      (length c.args.self.source.now) c.loop-t.t c.loop-t-test.true zeros))),
)

pub returns : goal.returns
returns c = (
  λ _. all_zero (entry_between c.args.self.source.now c.args.self.target.now c.args.self.label) (length c.args.self.source.now)
      (λ t lt. c.loop-t.invariant t (let end = c.loop-t-test.false in omega arith)),
  λ _. refl,
)
