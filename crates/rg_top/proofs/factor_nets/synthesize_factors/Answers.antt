use Rattle.std.proofs.Common.{◌≡◌, ◌<◌, List, map, length, get_or, sym, subst, arith}
use Rattle.std.specs.List.{AllZip}
use Rattle.std.proofs.lemmas.List.{length-map}
use Rattle.rg_theory.specs.System.{labels}
use Rattle.rg_theory.specs.Net.{Net}
use Rattle.rg_case_folds.specs.Shown.{ShownWide}
use Rattle.rg_outcome.specs.Outcome.{Out}
use Rattle.rg_separate.specs.View.{shown_of}
use Rattle.rg_synth.specs.Answer.{answer_of, IfNet, IfUnsolvable, IfTooWide, IsOpen, IsSolvingNet, IsRightCertificate}
use Rattle.rg_product.specs.Beside.{places_beside, net_beside}
use Rattle.rg_factor.specs.View.{shown_factor}
use Rattle.rg_factor.proofs.FewBeside.{factors_few}
use Rattle.rg_top.specs.FactorsAnswer.{IsNetOf}
use Rattle.rg_top.proofs.NetsBeside.{shown_at, zip_more, zip_all, behind_nets, one_each, few, beside, none_above}
use Rattle.rg_top.proofs.factor_nets.synthesize_factors.Goals as goal

pub overflow_cast-result : goal.overflow_cast-result
overflow_cast-result g c =
    let n = factors_few c.args.lts.now (map shown_factor c.args.factors.now) c.requires.factors.0 c.requires.factors.1 in
    let m = length-map c.args.factors.now shown_factor in
    let few = c.is_well_formed.ensures.few_labels in
    let less = c.loop-i-test.true in
    omega arith

pub overflow_cast-result-in-TooWide : goal.overflow_cast-result-in-TooWide
overflow_cast-result-in-TooWide g c =
    let n = factors_few c.args.lts.now (map shown_factor c.args.factors.now) c.requires.factors.0 c.requires.factors.1 in
    let m = length-map c.args.factors.now shown_factor in
    let few = c.is_well_formed.ensures.few_labels in
    let less = c.loop-i-test.true in
    omega arith

pub returns-in-Unsolvable-clause-unsolvable : goal.returns-in-Unsolvable-clause-unsolvable
returns-in-Unsolvable-clause-unsolvable g c =
    let class = c.args.class in
    let lts = c.args.lts.now in
    let fs = map shown_factor c.args.factors.now in
    let f = get_or c.args.factors.now c.loop-i.i c.index-factors-i.result in
    let at = shown_at shown_factor c.args.factors.now c.loop-i.i c.index-factors-i.result c.loop-i-test.true in
    let right = subst (λ a. IfUnsolvable a (IsRightCertificate f.lts class)) c.in-Unsolvable.is c.in_ok-net.ensures.unsolvable in
    record {
      f = shown_factor f;
      first = behind_nets class fs c.loop-i.nets.items c.loop-i.i (shown_factor f) at c.loop-i.invariant;
      answer = subst (λ a. Out f.lts class (answer_of a)) c.in-Unsolvable.is c.in_ok-net.ensures.out;
      right = right;
      none = none_above lts c.is_well_formed.ensures c.requires.reachable fs c.requires.factors.0 c.requires.factors.1 class c.loop-i.i (shown_factor f) at right.none;
    }

pub returns-in-TooWide-clause-too_wide : goal.returns-in-TooWide-clause-too_wide
returns-in-TooWide-clause-too_wide g c =
    let class = c.args.class in
    let fs = map shown_factor c.args.factors.now in
    let f = get_or c.args.factors.now c.loop-i.i c.index-factors-i.result in
    let at = shown_at shown_factor c.args.factors.now c.loop-i.i c.index-factors-i.result c.loop-i-test.true in
    let shown = subst (λ a. IfTooWide a (λ w. IsOpen f.lts × ShownWide f.lts class (shown_of w))) c.in-TooWide.is c.in_ok-net.ensures.too_wide in
    record {
      f = shown_factor f;
      first = behind_nets class fs c.loop-i.nets.items c.loop-i.i (shown_factor f) at c.loop-i.invariant;
      answer = subst (λ a. Out f.lts class (answer_of a)) c.in-TooWide.is c.in_ok-net.ensures.out;
      is_open = shown.0;
      passes = shown.1;
    }

pub loop-i-preserved : goal.loop-i-preserved
loop-i-preserved g c =
    let class = c.args.class in
    let f = get_or c.args.factors.now c.loop-i.i c.index-factors-i.result in
    let at = shown_at shown_factor c.args.factors.now c.loop-i.i c.index-factors-i.result c.loop-i-test.true in
    let out = subst (λ a. Out f.lts class (answer_of a)) c.in-Net.is c.in_ok-net.ensures.out in
    let right = subst (λ a. IfNet a (IsSolvingNet f.lts class)) c.in-Net.is c.in_ok-net.ensures.net in
    zip_more (IsNetOf class) (map shown_factor c.args.factors.now) c.loop-i.nets.items c.push.new.self.items c.loop-i.i (shown_factor f) c.in-Net.net at (out, right)
    c.in_ok-push-in-Net.ensures.items c.loop-i.invariant

pub side_by_side-requires-clause-one_each : goal.side_by_side-requires-clause-one_each
side_by_side-requires-clause-one_each g c =
    let fs = map shown_factor c.args.factors.now in
    let m = length-map c.args.factors.now shown_factor in
    let past = c.loop-i-test.false in
    subst (λ (nets : List Net). AllZip (λ f net. net.labels ≡ length f.labels) fs nets) (sym c.deref.ensures.value)
    (one_each c.args.lts.now c.is_well_formed.ensures c.requires.reachable fs c.requires.factors.0 c.requires.factors.1 c.args.class c.loop-i.nets.items
    (zip_all (IsNetOf c.args.class) fs c.loop-i.nets.items c.loop-i.i (omega arith) c.loop-i.invariant))

pub side_by_side-requires-clause-few : goal.side_by_side-requires-clause-few
side_by_side-requires-clause-few g c =
    let fs = map shown_factor c.args.factors.now in
    let m = length-map c.args.factors.now shown_factor in
    let past = c.loop-i-test.false in
    subst (λ (nets : List Net). length (places_beside (labels c.args.lts.now) fs nets) < 4294967296) (sym c.deref.ensures.value)
    (few c.args.lts.now c.is_well_formed.ensures c.requires.reachable fs c.requires.factors.0 c.requires.factors.1 c.args.class c.loop-i.nets.items
    (zip_all (IsNetOf c.args.class) fs c.loop-i.nets.items c.loop-i.i (omega arith) c.loop-i.invariant))

pub returns-clause-net : goal.returns-clause-net
returns-clause-net g c =
    let fs = map shown_factor c.args.factors.now in
    let m = length-map c.args.factors.now shown_factor in
    let past = c.loop-i-test.false in
    beside c.args.lts.now c.is_well_formed.ensures c.requires.reachable fs c.requires.factors.0 c.requires.factors.1 c.args.class c.loop-i.nets.items c.in_ok-net-2.net
    (zip_all (IsNetOf c.args.class) fs c.loop-i.nets.items c.loop-i.i (omega arith) c.loop-i.invariant)
    (subst (λ (nets : List Net). c.in_ok-net-2.net ≡ net_beside c.args.lts.now fs nets) c.deref.ensures.value c.in_ok-net-2.ensures) c.places-places.ensures.in_range
