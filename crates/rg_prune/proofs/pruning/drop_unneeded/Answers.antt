use Rattle.std.proofs.Common.{◌≡◌, ◌∙◌, List, sym, subst, [], append-nil}
use Rattle.std.proofs.lemmas.List.{nil_from_length}
use Rattle.rg_theory.specs.System.{states}
use Rattle.rg_marks.specs.Tokens.{IsNarrow}
use Rattle.rg_marks.proofs.Filling.{written_length}
use Rattle.rg_prune.proofs.Asking.{asked_start, asked_end, narrow_last, pending, asked_drops, asked_keeps, some_firsts}
use Rattle.rg_marks.specs.Separated.{AddsOne, SeparateSoMuch}
use Rattle.rg_theory.specs.Net.{Place as PlaceOfTheory}
use Rattle.rg_prune.proofs.pruning.drop_unneeded.Goals as goal
use Rattle.rg_prune.proofs.pruning.drop_unneeded.Goals.{then-branch+in_ok-place+in_ok-add+in_ok-push, else-branch}

pub loop-place-init : goal.loop-place-init
loop-place-init c = record {
  asked = rw c.new-left.ensures.items (asked_start c.args.lts.now c.args.places.items c.args.all_firsts.items c.in_ok-separated.separated
      c.requires.separate c.requires.firsts c.requires.narrow c.in_ok-separated.ensures);
  one_each = c.in_ok-tokens.ensures.one_each;
}

pub is_needed-requires : goal.is_needed-requires
is_needed-requires c =
    pending c.args.lts.now c.args.places.items c.loop-place.places.items c.loop-place.all_firsts.items c.loop-place.left.items c.loop-place.separated c.loop-place.invariant.asked
    c.pop.new.self.items c.in-Some.place c.in-Some.ensures.items c.pop-in-Some.new.self.items c.in-Some-pop.firsts c.in-Some-pop.ensures.items

pub fill_tokens-requires-clause-in_range : goal.fill_tokens-requires-clause-in_range
fill_tokens-requires-clause-in_range c = c.in_ok-tokens.ensures.well_formed.in_range

pub fill_tokens-requires-clause-narrow : goal.fill_tokens-requires-clause-narrow
fill_tokens-requires-clause-narrow c = subst (IsNarrow c.args.lts.now) (sym c.in_ok-place.ensures) (
    narrow_last c.args.lts.now c.args.places.items c.loop-place.places.items c.loop-place.all_firsts.items c.loop-place.left.items c.loop-place.separated c.loop-place.invariant.asked
    c.pop.new.self.items c.in-Some.place c.in-Some.ensures.items)

pub add-requires-clause-narrow : goal.add-requires-clause-narrow
add-requires-clause-narrow c = subst (IsNarrow c.args.lts.now) (sym c.in_ok-place.ensures) (
    narrow_last c.args.lts.now c.args.places.items c.loop-place.places.items c.loop-place.all_firsts.items c.loop-place.left.items c.loop-place.separated c.loop-place.invariant.asked
    c.pop.new.self.items c.in-Some.place c.in-Some.ensures.items)

pub loop-place-preserved : goal.loop-place-preserved
loop-place-preserved c =
    let asked = c.loop-place.invariant.asked in
    elim c.if-branch.branch [
      | then-branch+in_ok-place+in_ok-add+in_ok-push w ↦ rw (w.separated-is, w.tokens-is, w.left-is, w.in_ok-push.ensures.items) (record {
        asked = asked_keeps c.args.lts.now c.args.places.items c.loop-place.places.items c.loop-place.all_firsts.items c.loop-place.left.items c.loop-place.separated asked
            c.pop.new.self.items c.in-Some.place c.in-Some.ensures.items c.pop-in-Some.new.self.items c.in-Some-pop.firsts c.in-Some-pop.ensures.items
            w.in_ok-place.place w.add.new.self w.in_ok-place.ensures (c.in_ok-is_needed.ensures.yes w.if-branch.true)
            (subst (λ (p : PlaceOfTheory). (places more : List PlaceOfTheory) → AddsOne p places more
            → SeparateSoMuch c.args.lts.now places c.loop-place.separated → SeparateSoMuch c.args.lts.now more w.add.new.self)
            w.in_ok-place.ensures w.in_ok-add.ensures.separated);
        one_each = written_length c.loop-place.tokens w.fill_tokens.new.tokens w.deref_mut.result.now
            (states c.args.lts.now) w.fill_tokens.auto.tokens w.deref_mut.ensures.value c.loop-place.invariant.one_each;
      })
      | else-branch w ↦ rw (w.separated-is, w.tokens-is, w.left-is) (record {
        asked = asked_drops c.args.lts.now c.args.places.items c.loop-place.places.items c.loop-place.all_firsts.items c.loop-place.left.items c.loop-place.separated asked
            c.pop.new.self.items c.in-Some.place c.in-Some.ensures.items c.pop-in-Some.new.self.items c.in-Some-pop.firsts c.in-Some-pop.ensures.items
            (c.in_ok-is_needed.ensures.no w.if-branch.false);
        one_each = c.loop-place.invariant.one_each;
      })
    ]

pub loop-place-preserved-in_default-pop : goal.loop-place-preserved-in_default-pop
loop-place-preserved-in_default-pop c =
    let none : c.pop-in-Some.new.self.items ≡ [] = nil_from_length c.pop-in-Some.new.self.items (sym c.pop-in-Some.new.self.ok.0 ∙ c.in_default-pop.ensures.cases.1) in
    absurd (some_firsts c.args.lts.now c.args.places.items c.loop-place.places.items c.loop-place.all_firsts.items c.loop-place.left.items c.loop-place.separated c.loop-place.invariant.asked
    c.pop.new.self.items c.in-Some.place c.in-Some.ensures.items (c.in_default-pop.ensures.items ∙ append-nil c.pop-in-Some.new.self.items ∙ none))

pub returns : goal.returns
returns c =
    let none : c.pop.new.self.items ≡ [] = nil_from_length c.pop.new.self.items (sym c.pop.new.self.ok.0 ∙ c.in_default.ensures.cases.1) in
    rw c.reverse.ensures.items
    (asked_end c.args.lts.now c.args.places.items c.loop-place.places.items c.loop-place.all_firsts.items c.loop-place.left.items c.loop-place.separated c.loop-place.invariant.asked
    (c.in_default.ensures.items ∙ append-nil c.pop.new.self.items ∙ none))
