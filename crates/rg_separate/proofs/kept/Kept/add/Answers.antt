use Rattle.std.proofs.Common.{◌∷◌, ◌++◌, [], ap, ◌∙◌, arith}
use Rattle.rg_theory.specs.System.{states}
use Rattle.rg_net.specs.Shown.{shown_place}
use Rattle.rg_marks.proofs.Filling.{written_length}
use Rattle.rg_separate.proofs.Keeping.{some_kept, one_more}
use Rattle.rg_separate.proofs.kept.Kept.add.Goals as goal

pub fill_tokens-requires-clause-narrow : goal.fill_tokens-requires-clause-narrow
fill_tokens-requires-clause-narrow c = c.requires.place.narrow

pub add-requires-clause-narrow : goal.add-requires-clause-narrow
add-requires-clause-narrow c = c.requires.place.narrow

pub add-requires-clause-some : goal.add-requires-clause-some
add-requires-clause-some c = some_kept c.args.lts.now c.args.self.now.places.items c.args.self.now.firsts.items c.args.self.now.separated c.requires.keeping.kept

pub returns-clause-keeping : goal.returns-clause-keeping
returns-clause-keeping c = record {
  kept = one_more c.args.lts.now (shown_place c.args.place.now) c.requires.place c.args.self.now.places.items c.push-2.new.self.items c.args.self.now.firsts.items c.push.new.self.items
      c.in_ok-firsts.firsts c.args.self.now.separated c.add.new.self c.requires.keeping.kept (c.in_ok-push-2.ensures.items ∙ ap (λ p. c.args.self.now.places.items ++ p ∷ []) c.requires.compact)
      c.in_ok-push.ensures.items c.in_ok-firsts.ensures.separated c.in_ok-firsts.ensures.firsts;
  in_range = c.requires.keeping.in_range;
  tree = c.requires.keeping.tree;
  one_each = written_length c.args.self.now.tokens c.fill_tokens.new.tokens c.deref_mut.result.now (states c.args.lts.now) c.fill_tokens.auto.tokens
      c.deref_mut.ensures.value c.requires.keeping.one_each;
}
