use Rattle.std.proofs.Common.{List, map, take, refl, sym, subst, arith}
use Rattle.std.proofs.lemmas.List.{length-map, take_all}
use Rattle.rg_theory.specs.Net.{Place as PlaceOfTheory}
use Rattle.rg_net.specs.Shown.{shown_place}
use Rattle.rg_marks.specs.Firsts.{AreAllFirsts}
use Rattle.rg_marks.specs.Separated.{SeparateSoMuch}
use Rattle.rg_marks.proofs.Members.{adds_last}
use Rattle.rg_marks.proofs.FirstProblems.{no_firsts, firsts_more}
use Rattle.rg_net_tests.proofs.ByTokens.{narrow_by, tokens_by}
use Rattle.rg_prune.proofs.Taking.{images_next}
use Rattle.rg_net_tests.proofs.rows.all_firsts.Goals as goal

pub loop-place-init : goal.loop-place-init
loop-place-init c = record { firsts = no_firsts c.args.lts.now _ _ refl c.new-all.ensures.items; separated = c.in_ok-separated.ensures }

pub add-requires-clause-narrow : goal.add-requires-clause-narrow
add-requires-clause-narrow c = narrow_by c.args.lts.now (shown_place c.place-item.result) _ (c.if-not-is_region.ensures refl)

pub add-requires-clause-tokens : goal.add-requires-clause-tokens
add-requires-clause-tokens c = rw c.deref-in-loop-place.ensures.value
    (rw c.deref.ensures.value at (tokens_by c.args.lts.now (shown_place c.place-item.result) _ (c.if-not-is_region.ensures refl) c.requires))

pub loop-place-preserved : goal.loop-place-preserved
loop-place-preserved c =
    let front = take c.loop-place.place-index (map shown_place c.args.places.now) in
    let next = images_next shown_place c.args.places.now c.loop-place.place-index c.place-item.result c.loop-place-test.true c.place-item.is in
    let p = shown_place c.place-item.result in
    record {
      firsts = subst (λ (l : List PlaceOfTheory). AreAllFirsts c.args.lts.now l c.push.new.self.items) (sym next)
          (rw c.in_ok-push.ensures.items
          (firsts_more c.args.lts.now front p c.loop-place.all.items c.in_ok-firsts.firsts c.loop-place.invariant.firsts (c.in_ok-firsts.ensures.firsts front c.loop-place.invariant.separated)));
      separated = subst (λ (l : List PlaceOfTheory). SeparateSoMuch c.args.lts.now l c.add.new.self) (sym next)
          (c.in_ok-firsts.ensures.separated front _ (adds_last p front) c.loop-place.invariant.separated);
    }

pub returns : goal.returns
returns c =
    subst (λ (l : List PlaceOfTheory). AreAllFirsts c.args.lts.now l c.loop-place.all.items)
    (take_all c.loop-place.place-index (map shown_place c.args.places.now)
    (let n = length-map c.args.places.now shown_place in let past = c.loop-place-test.false in omega arith)) c.loop-place.invariant.firsts
