use Rattle.std.proofs.Common.{ap, subst, sym, ◌∙◌}
use Rattle.rg_linear.specs.Cycle.{IsZeroVector}
use Rattle.rg_cycles.proofs.Entries.{vector_is, zero_entries}
use Rattle.rg_cycles.proofs.chord_rows.ListedChordsChordRows.is_zero.Goals as goal

pub returns : goal.returns
returns g c =
    let numbers = g.N.ChordEntry.numbers in
    let is = vector_is numbers c.args.self.now.vectors.now c.args.index c.index-self-index.result c.requires ∙ ap numbers (sym c.deref.ensures.value) in
    let zeros = zero_entries g.N.ChordEntry.number numbers g.met.N.ChordEntry.one_each c.deref.result.now in
    (λ yes. subst IsZeroVector (sym is) (zeros.0 (c.are_zeros.ensures.0 yes)), λ zero. c.are_zeros.ensures.1 (zeros.1 (subst IsZeroVector is zero)))
