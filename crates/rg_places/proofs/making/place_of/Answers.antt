use Rattle.std.proofs.Common.{rules, ◌≡◌, ◌<◌, ◌≤◌, Err, ap, length, unsigned_abs, sym, subst, ◌∙◌, arith}
use Rattle.std.proofs.lemmas.List.{length-map, get_or_read}
use Rattle.rg_fraction.specs.Fractions.{numerator_of}
use Rattle.rg_net.specs.Shown.{shown_place}
use Rattle.rg_places.specs.PointValues.{ratios_of}
use Rattle.rg_marks.specs.declared.region_place.RegionPlace.{RegionPlace}
use Rattle.rg_places.specs.Steps.{weights_fold}
use Rattle.rg_case_folds.proofs.Comes.{comes_unless}
use Rattle.rg_places.proofs.WeightSteps.{tokens_at, tokens_are, pre_length, put_fails, place_done}
use Rattle.rg_places.proofs.making.place_of.Goals as goal

pub post_weights-requires-clause-lengths : goal.post_weights-requires-clause-lengths
post_weights-requires-clause-lengths c =
    let pre = pre_length c.args.lts.now c.args.class c.args.problem (ratios_of c.args.found.now) (ratios_of c.args.numbers.now) c.in_ok-taken.taken.items c.in_ok-taken.ensures.value in
    let found = c.requires.found in
    let le : length c.in_ok-taken.taken.items ≤ length c.args.found.now = omega arith in
    rw c.deref.ensures.value le

pub returns-in_err-put-clause-comes : goal.returns-in_err-put-clause-comes
returns-in_err-put-clause-comes c =
    let same : c.from_residual-in_err-put.result ≡ Err c.in_err-put.field-0.0 = search rules in
    rw same (comes_unless (weights_fold c.args.lts.now c.args.class c.args.problem (ratios_of c.args.found.now) (ratios_of c.args.numbers.now))
    (λ (r : RegionPlace). shown_place r.place) c.in_err-put.field-0.0
    (λ w is. put_fails c.args.lts.now c.args.class c.args.problem (ratios_of c.args.found.now)
    (ratios_of c.args.numbers.now) c.in_ok-taken.taken.items c.in_ok-taken.ensures.value w (rw (is, c.deref.ensures.value) at c.in_err-put.ensures)))

pub returns-clause-comes : goal.returns-clause-comes
returns-clause-comes c =
    let made = rw c.deref.ensures.value at c.in_ok-put.ensures in
    let pre = rw c.deref-2.ensures.value at c.in_ok-pre.ensures in
    let post = rw c.deref-3.ensures.value at c.in_ok-post.ensures in
    let count = ap length c.in_ok-tokens.ensures ∙ length-map c.args.numbers.now (λ n. unsigned_abs (numerator_of n)) ∙ c.requires.numbers in
    let lt = subst (λ n. c.initial.result < n) (sym count) c.initial.ensures.in_range in
    let start = get_or_read c.in_ok-tokens.tokens.items c.initial.result _ lt c.index-start.ensures 0 in
    let at = rw (c.in_ok-tokens.ensures, c.initial.ensures.value) at start in
    place_done c.args.lts.now c.args.class c.args.problem (ratios_of c.args.found.now)
    (ratios_of c.args.numbers.now) c.in_ok-taken.taken.items c.in_ok-taken.ensures.value c.in_ok-put.put.items
    (shown_place (record { start = c.index-start.result.now; pre = c.in_ok-pre.pre; post = c.in_ok-post.post })) made
    (at ∙ tokens_at c.args.numbers.now c.args.lts.now.initial) pre post

pub returns-clause-tokens : goal.returns-clause-tokens
returns-clause-tokens c = c.in_ok-tokens.ensures ∙ tokens_are c.args.numbers.now
