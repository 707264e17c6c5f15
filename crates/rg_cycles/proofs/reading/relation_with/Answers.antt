use Rattle.std.proofs.Common.{ap, ◌∙◌}
use Rattle.rg_integers.specs.Sum.{number_at}
use Rattle.rg_integers.proofs.Casts.{back}
use Rattle.rg_cycles.proofs.reading.relation_with.Goals as goal

pub returns : goal.returns
returns c = λ k e. record {
  d = back (number_at c.args.numbers.now 0) (c.requires.in_range 0) ∙ ap (λ l. number_at l 0) e;
  free = c.in_ok-free.ensures k e;
  chords = c.in_ok-chords.ensures k e;
}
