use Rattle.std.proofs.Common.{◌∷◌, ◌++◌, [], ap, sym, ◌∙◌, arith}
use Rattle.rg_net.specs.Shown.{shown_place}
use Rattle.rg_separate.proofs.Keeping.{narrow_place, tokens_of_place, is_kept, some_kept, one_more}
use Rattle.rg_separate.proofs.kept.KeptKeeping.keep.Goals as goal

pub add-requires-clause-narrow : goal.add-requires-clause-narrow
add-requires-clause-narrow c = narrow_place c.args.lts.now c.args.place c.requires.place

pub add-requires-clause-tokens : goal.add-requires-clause-tokens
add-requires-clause-tokens c = rw c.deref.ensures.value (tokens_of_place c.args.lts.now c.args.place c.requires.place c.requires.system.kept.reachable)

pub add-requires-clause-some : goal.add-requires-clause-some
add-requires-clause-some c = some_kept c.args.lts.now c.args.self.now.places.items c.args.self.now.firsts.items c.args.self.now.separated c.requires.system.kept

pub new-requires-clause-same : goal.new-requires-clause-same
new-requires-clause-same c = let is = narrow_place c.args.lts.now c.args.place c.requires.place in is.pre ∙ sym is.post

pub new-requires-clause-few : goal.new-requires-clause-few
new-requires-clause-few c =
    let same = (narrow_place c.args.lts.now c.args.place c.requires.place).pre in
    let few = c.is_well_formed.ensures.few_labels in
    omega arith

pub returns-clause-system : goal.returns-clause-system
returns-clause-system c = record {
  kept = one_more c.args.lts.now (shown_place c.args.place.place) (is_kept c.args.lts.now c.args.place c.requires.place)
      c.args.self.now.places.items c.push-2.new.self.items c.args.self.now.firsts.items c.push.new.self.items c.in_ok-firsts.firsts
      c.args.self.now.separated c.add.new.self c.requires.system.kept (c.in_ok-push-2.ensures.items ∙ ap (λ p. c.args.self.now.places.items ++ p ∷ []) c.in_ok-compact.ensures)
      c.in_ok-push.ensures.items c.in_ok-firsts.ensures.separated c.in_ok-firsts.ensures.firsts;
  in_range = c.requires.system.in_range;
  tree = c.requires.system.tree;
  one_each = c.requires.system.one_each;
}
