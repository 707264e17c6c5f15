use Rattle.rg_cycles.proofs.reading.relation_at.Goals as goal

pub returns : goal.returns
returns c = record {
  lacks = λ has. (let e = c.if-contains.ensures.1 has in cc);
  numbers = c.in_ok-numbers.numbers.items;
  in_range = c.in_ok-numbers.ensures.in_range;
  shows = c.in_ok-numbers.ensures.shows;
  has = rw (c.members-members.ensures, c.columns-labels.ensures, c.deref.ensures.value) at c.in_ok-relation.ensures;
}

pub relation_with-requires-clause-rows : goal.relation_with-requires-clause-rows
relation_with-requires-clause-rows c = rw (c.members-members.ensures, c.columns-labels.ensures) c.requires.kept
