use Rattle.rg_farkas.proofs.triples.spread.Goals as goal

pub returns-clause-leaf : goal.returns-clause-leaf
returns-clause-leaf c = rw (c.deref.ensures.value, c.in_ok-sides.ensures) at c.spread_in.ensures.leaf

pub returns-clause-refutes : goal.returns-clause-refutes
returns-clause-refutes c = rw (c.deref.ensures.value, c.in_ok-sides.ensures) at c.spread_in.ensures.refutes

pub returns-clause-wide : goal.returns-clause-wide
returns-clause-wide c = rw (c.deref.ensures.value, c.in_ok-sides.ensures) at c.spread_in.ensures.wide
