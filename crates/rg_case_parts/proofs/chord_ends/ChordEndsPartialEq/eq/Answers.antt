use Rattle.std.proofs.Common.{length, sym, ◌∙◌, arith, below_more}
use Rattle.rg_case_parts.specs.ChordRows.{entry_between}
use Rattle.rg_case_parts.proofs.Rows.{bits_differ, bits_same, lengths_differ, numbers_differ, numbers_agree}
use Rattle.rg_case_parts.proofs.chord_ends.ChordEndsPartialEq.eq.Goals as goal

pub returns-then-self-other : goal.returns-then-self-other
returns-then-self-other c = lengths_differ (entry_between c.args.self.now.source.now c.args.self.now.target.now c.args.self.now.label)
    (entry_between c.args.other.now.source.now c.args.other.now.target.now c.args.other.now.label) (length c.args.self.now.source.now)
    (length c.args.other.now.source.now) c.if-self-other.true

pub returns-then-number : goal.returns-then-number
returns-then-number c = numbers_differ (entry_between c.args.self.now.source.now c.args.self.now.target.now c.args.self.now.label)
    (entry_between c.args.other.now.source.now c.args.other.now.target.now c.args.other.now.label) (length c.args.self.now.source.now)
    (length c.args.other.now.source.now) c.loop-t.t c.loop-t-test.true c.if-self-other.false
    (λ e. bits_differ c.number.result c.number-in-loop-t.result c.if-number.true (c.number.ensures.value ∙ e ∙ sym c.number-in-loop-t.ensures.value))

pub loop-t-preserved : goal.loop-t-preserved
loop-t-preserved c = below_more _ _ c.loop-t.invariant
    (sym c.number.ensures.value ∙ bits_same c.number.result c.number-in-loop-t.result c.number.ensures.fits c.number-in-loop-t.ensures.fits c.if-number.false ∙ c.number-in-loop-t.ensures.value)

pub returns : goal.returns
returns c = numbers_agree (entry_between c.args.self.now.source.now c.args.self.now.target.now c.args.self.now.label)
    (entry_between c.args.other.now.source.now c.args.other.now.target.now c.args.other.now.label) (length c.args.self.now.source.now)
    (length c.args.other.now.source.now) c.if-self-other.false
    (λ t lt. c.loop-t.invariant t (let end = c.loop-t-test.false in omega arith))
