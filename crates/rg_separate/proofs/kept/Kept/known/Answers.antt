use Rattle.std.proofs.Common.{sym, subst, ◌∙◌, arith}
use Rattle.std.proofs.lemmas.List.{take_all}
use Rattle.rg_separate.specs.Keeping.{IsKept}
use Rattle.rg_separate.proofs.Keeping.{known_next}
use Rattle.rg_separate.proofs.kept.Kept.known.Goals as goal

pub new-requires-clause-same : goal.new-requires-clause-same
new-requires-clause-same c =
    let is = subst (IsKept c.args.lts.now) (sym (c.in_ok-place.ensures ∙ c.place-item.is)) (c.requires.places c.loop-place.place-index c.place-item.result c.loop-place-test.true) in
    is.narrow.pre ∙ sym is.narrow.post

pub new-requires-clause-few : goal.new-requires-clause-few
new-requires-clause-few c =
    let is = subst (IsKept c.args.lts.now) (sym (c.in_ok-place.ensures ∙ c.place-item.is)) (c.requires.places c.loop-place.place-index c.place-item.result c.loop-place-test.true) in
    let same = is.narrow.pre in
    let few = c.is_well_formed.ensures.few_labels in
    omega arith

pub add-requires-clause-place : goal.add-requires-clause-place
add-requires-clause-place c = subst (IsKept c.args.lts.now) (sym (c.in_ok-place.ensures ∙ c.place-item.is)) (c.requires.places c.loop-place.place-index c.place-item.result c.loop-place-test.true)

pub loop-place-preserved : goal.loop-place-preserved
loop-place-preserved c = record {
  keeping = c.in_ok-add.ensures.keeping;
  places = c.in_ok-add.ensures.places ∙ known_next c.args.places.now c.loop-place.place-index c.place-item.result c.in_ok-compact.compact c.loop-place.kept.places.items c.loop-place-test.true
      c.place-item.is (c.in_ok-compact.ensures ∙ c.in_ok-place.ensures) c.loop-place.invariant.places;
}

pub returns-clause-places : goal.returns-clause-places
returns-clause-places c = c.loop-place.invariant.places ∙ take_all c.loop-place.place-index c.args.places.now (let past = c.loop-place-test.false in omega arith)
