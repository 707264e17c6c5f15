use Rattle.std.proofs.Common.{◌∷◌, [], ◌≤◌, Contains, Some, sym, ap, subst, ◌∙◌}
use Rattle.std.proofs.lemmas.Result.{IfErr-weaker}
use Rattle.rg_integers.specs.Range.{greatest}
use Rattle.rg_net_grammar.specs.View.{member_in}
use Rattle.rg_netfile.specs.declared.fault.NetFault.TheVariants.{NumberPasses}
use Rattle.rg_netfile.specs.Contents.{adds}
use Rattle.rg_netfile.specs.Built.{Stops}
use Rattle.rg_netfile.proofs.MemberSteps.{member_passes, place_stops, sum_stops, both_ok}
use Rattle.rg_netfile.proofs.filling.add_member.Goals as goal

pub returns-in-Some-clause-ok : goal.returns-in-Some-clause-ok
returns-in-Some-clause-ok c =
    let m = member_in c.args.bytes.now c.args.member in
    let count = c.in_ok-count.ensures in
    both_ok c.add.result
    (λ makes within cell for. member_passes c.args.known.now c.args.sums.now c.add.new.self c.in-Some.i c.in_ok-count.count c.args.slot cell m (record {
      known = c.in-Some.ensures.known;
      weights = c.add.ensures.in_range.weights;
      slot_in = c.requires.slot;
      for_cell = for;
      at_place = c.in-Some.ensures.found ∙ ap Some c.name_of.ensures.value;
      number = count.0;
      small = count.1;
      within = within;
      makes = makes;
    }))
    c.add.ensures.ok c.add.ensures.within

pub returns-in-Some-clause-fault : goal.returns-in-Some-clause-fault
returns-in-Some-clause-fault c =
    let m = member_in c.args.bytes.now c.args.member in
    let at = c.in-Some.ensures.found ∙ ap Some c.name_of.ensures.value in
    let count = c.in_ok-count.ensures in
    IfErr-weaker c.add.result _ _
    (λ f h cell for.
    subst (λ g. Stops c.args.known.now (adds cell m ∷ []) c.args.sums.now g) (sym (h.0 ∙ ap NumberPasses (c.member_at.ensures c.args.bytes.now)))
    (sum_stops c.args.known.now c.args.sums.now c.in-Some.i c.in_ok-count.count c.args.slot cell m for at count.0 count.1 h.1))
    c.add.ensures.fault

pub returns-in-None-clause-fault : goal.returns-in-None-clause-fault
returns-in-None-clause-fault c = λ cell for.
    let m = member_in c.args.bytes.now c.args.member in
    let count = c.in_ok-count.ensures in
    place_stops c.args.known.now c.args.sums.now cell m (subst (λ n. n ≤ greatest) count.0 count.1)
    (subst (λ n. Contains c.args.known.now.places n → ⊥) c.name_of.ensures.value c.in-None.ensures.none)
