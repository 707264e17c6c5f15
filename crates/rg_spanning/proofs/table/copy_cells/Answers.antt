-- Each cell is read before it is written.
use Rattle.std.proofs.Common.{◌≡◌, ℕ, ◌+◌, List, get_or, set, subst, sym, ap, ap₂, ◌∙◌, arith}
use Rattle.rg_spanning.proofs.RowLaws.{copied, copied-none, copied-read, copied-more}
use Rattle.rg_spanning.proofs.table.copy_cells.Goals as goal

pub loop-i-init : goal.loop-i-init
loop-i-init c = sym (copied-none c.args.cells.now c.args.from c.args.to)

pub loop-i-preserved : goal.loop-i-preserved
loop-i-preserved c =
    let cells = c.args.cells.now in
    let read = ap (λ (xs : List ℕ). get_or xs (c.args.from + c.loop-i.i) 0) c.loop-i.invariant
    ∙ copied-read cells c.args.count c.args.from c.args.to c.loop-i.i 0 c.requires.from c.requires.to c.loop-i-test.true c.requires.apart in
    ap₂ (λ (xs : List ℕ) x. set xs (c.args.to + c.loop-i.i) x) c.loop-i.invariant read
    ∙ copied-more cells c.args.count c.args.from c.args.to c.loop-i.i 0 c.requires.from c.requires.to c.loop-i-test.true

pub returns : goal.returns
returns c =
    let all : c.loop-i.i ≡ c.args.count = omega (arith, c.loop-i-test.false, c.loop-i.auto.i-end) in
    subst (λ i. c.loop-i.cells ≡ copied c.args.cells.now c.args.from c.args.to i) all c.loop-i.invariant
