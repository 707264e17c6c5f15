use Rattle.std.proofs.Common.{◌≡◌, ◌+◌, Ok, Err, inl, sym, subst, ◌∙◌, arith, get_or, length}
use Rattle.std.proofs.lemmas.Bool.{false≢true}
use Rattle.std.proofs.lemmas.Result.{err_from_is_err_and}
use Rattle.rg_theory.specs.System.{arc}
use Rattle.rg_theory.specs.Net.{IsEnabled}
use Rattle.rg_net.specs.ClassBreaks.{shown_markings}
use Rattle.rg_net_verdict.specs.declared.check.Halt.TheVariants.{Stop}
use Rattle.rg_net_verdict.specs.declared.verdict.CheckStop.TheVariants.{Wide}
use Rattle.rg_net_verdict.specs.declared.verdict.NetNo.TheVariants.{NotEnabled}
use Rattle.rg_net_verdict.specs.declared.verdict.NetVerdict.TheVariants.{No}
use Rattle.rg_net_verdict.specs.Flows.{IsFlow}
use Rattle.rg_net_verdict.specs.Verdict.{Tells}
use Rattle.rg_net_verdict.proofs.Listing.{flow_read}
use Rattle.rg_net_verdict.proofs.Weighing.{listed_within, tokens_of, enabled_by}
use Rattle.rg_net_verdict.proofs.Along.{AlongSoFar, source_row, row_set, along_start, source_within, target_within, label_within, source_places, source_in_range, stuck_here, passes_here, along_next, along_have, along_rows}
use Rattle.rg_net.proofs.Rows.{rows_long as row_count}
use Rattle.rg_net_verdict.proofs.rows.rows_along.Goals as goal

pub loop-a-init : goal.loop-a-init
loop-a-init c =
    along_start c.args.lts.now c.args.net.now c.args.tree.now
    (shown_markings c.in_ok-rows.rows.items) c.in_ok-rows.ensures.system c.requires.tree c.in_ok-rows.ensures.net
    (row_count c.in_ok-rows.rows.items ∙ c.in_ok-rows.ensures.long) c.in_ok-rows.ensures.start

pub index-source-requires : goal.index-source-requires
index-source-requires c =
    let lt = source_within c.args.lts.now c.args.net.now c.args.tree.now (shown_markings c.loop-a.rows.items) c.loop-a.a-index
    (arc 0 0 0) c.in_ok-rows.ensures.system c.requires.tree c.requires.labels c.loop-a-test.true c.loop-a.invariant in
    let size = row_count c.loop-a.rows.items in
    let is = c.loop-a.rows.ok.0 in
    omega arith

pub allows-requires : goal.allows-requires
allows-requires c = listed_within c.args.net.now (get_or c.args.tree.now c.loop-a.a-index (arc 0 0 0)).label c.deref.result.now
    (subst (IsFlow c.args.net.now (get_or c.args.tree.now c.loop-a.a-index (arc 0 0 0)).label) (sym c.deref.ensures.value)
    (flow_read c.args.net.now c.args.flows.now (get_or c.args.tree.now c.loop-a.a-index (arc 0 0 0)).label c.index-flows-a.result c.requires.flows
    (label_within c.args.lts.now c.args.net.now c.args.tree.now (shown_markings c.loop-a.rows.items) c.loop-a.a-index
    (arc 0 0 0) c.in_ok-rows.ensures.system c.requires.tree c.requires.labels c.loop-a-test.true c.loop-a.invariant) c.index-flows-a.is))
    (length c.deref-in-loop-a.result.now) (source_places c.args.lts.now c.args.net.now c.args.tree.now (shown_markings c.loop-a.rows.items) c.loop-a.a-index
    (arc 0 0 0) c.in_ok-rows.ensures.system c.requires.tree c.requires.labels c.loop-a-test.true c.loop-a.invariant c.deref-in-loop-a.result.now
    (source_row c.args.lts.now c.args.net.now c.args.tree.now c.loop-a.rows.items c.loop-a.a-index
    (arc 0 0 0) c.in_ok-rows.ensures.system c.requires.tree c.requires.labels c.loop-a-test.true c.loop-a.invariant c.index-source.result.now c.index-source.ensures
    ∙ sym c.deref-in-loop-a.ensures.value))

pub returns-then-not-allows-clause-no : goal.returns-then-not-allows-clause-no
returns-then-not-allows-clause-no c = λ class n e.
    let same : NotEnabled (get_or c.args.tree.now c.loop-a.a-index (arc 0 0 0)).from (get_or c.args.tree.now c.loop-a.a-index (arc 0 0 0)).label ≡ n = cc in
    subst (λ v. Tells c.args.lts.now c.args.net.now c.args.tree.now class (Ok (No v))) same
    (inl (stuck_here c.args.lts.now c.args.net.now c.args.tree.now (shown_markings c.loop-a.rows.items) c.loop-a.a-index
    (arc 0 0 0) c.in_ok-rows.ensures.system c.requires.tree c.requires.labels c.loop-a-test.true c.loop-a.invariant c.deref-in-loop-a.result.now
    (source_row c.args.lts.now c.args.net.now c.args.tree.now c.loop-a.rows.items c.loop-a.a-index
    (arc 0 0 0) c.in_ok-rows.ensures.system c.requires.tree c.requires.labels c.loop-a-test.true c.loop-a.invariant c.index-source.result.now c.index-source.ensures
    ∙ sym c.deref-in-loop-a.ensures.value)
    (λ on. false≢true (sym c.if-not-allows.true
    ∙ c.allows.ensures.1 (tokens_of c.args.net.now (get_or c.args.tree.now c.loop-a.a-index (arc 0 0 0)).label c.deref.result.now
    (subst (IsFlow c.args.net.now (get_or c.args.tree.now c.loop-a.a-index (arc 0 0 0)).label) (sym c.deref.ensures.value)
    (flow_read c.args.net.now c.args.flows.now (get_or c.args.tree.now c.loop-a.a-index (arc 0 0 0)).label c.index-flows-a.result c.requires.flows
    (label_within c.args.lts.now c.args.net.now c.args.tree.now (shown_markings c.loop-a.rows.items) c.loop-a.a-index
    (arc 0 0 0) c.in_ok-rows.ensures.system c.requires.tree c.requires.labels c.loop-a-test.true c.loop-a.invariant) c.index-flows-a.is))
    c.deref-in-loop-a.result.now on)))))

pub fire_along-requires-clause-flow : goal.fire_along-requires-clause-flow
fire_along-requires-clause-flow c = subst (IsFlow c.args.net.now (get_or c.args.tree.now c.loop-a.a-index (arc 0 0 0)).label) (sym c.deref-in-loop-a-2.ensures.value)
    (flow_read c.args.net.now c.args.flows.now (get_or c.args.tree.now c.loop-a.a-index (arc 0 0 0)).label c.index-flows-a.result c.requires.flows
    (label_within c.args.lts.now c.args.net.now c.args.tree.now (shown_markings c.loop-a.rows.items) c.loop-a.a-index
    (arc 0 0 0) c.in_ok-rows.ensures.system c.requires.tree c.requires.labels c.loop-a-test.true c.loop-a.invariant) c.index-flows-a.is)

pub fire_along-requires-clause-enabled : goal.fire_along-requires-clause-enabled
fire_along-requires-clause-enabled c =
    subst (λ m. IsEnabled c.args.net.now m (get_or c.args.tree.now c.loop-a.a-index (arc 0 0 0)).label) (c.deref-in-loop-a.ensures.value ∙ sym c.deref-in-loop-a-3.ensures.value)
    (enabled_by c.args.net.now (get_or c.args.tree.now c.loop-a.a-index (arc 0 0 0)).label c.deref.result.now
    (subst (IsFlow c.args.net.now (get_or c.args.tree.now c.loop-a.a-index (arc 0 0 0)).label) (sym c.deref.ensures.value)
    (flow_read c.args.net.now c.args.flows.now (get_or c.args.tree.now c.loop-a.a-index (arc 0 0 0)).label c.index-flows-a.result c.requires.flows
    (label_within c.args.lts.now c.args.net.now c.args.tree.now (shown_markings c.loop-a.rows.items) c.loop-a.a-index
    (arc 0 0 0) c.in_ok-rows.ensures.system c.requires.tree c.requires.labels c.loop-a-test.true c.loop-a.invariant) c.index-flows-a.is))
    c.deref-in-loop-a.result.now (c.allows.ensures.0 c.if-not-allows.false))

pub fire_along-requires-clause-places : goal.fire_along-requires-clause-places
fire_along-requires-clause-places c = source_places c.args.lts.now c.args.net.now c.args.tree.now (shown_markings c.loop-a.rows.items) c.loop-a.a-index
    (arc 0 0 0) c.in_ok-rows.ensures.system c.requires.tree c.requires.labels c.loop-a-test.true c.loop-a.invariant c.deref-in-loop-a-3.result.now
    (source_row c.args.lts.now c.args.net.now c.args.tree.now c.loop-a.rows.items c.loop-a.a-index
    (arc 0 0 0) c.in_ok-rows.ensures.system c.requires.tree c.requires.labels c.loop-a-test.true c.loop-a.invariant c.index-source.result.now c.index-source.ensures
    ∙ sym c.deref-in-loop-a-3.ensures.value)

pub fire_along-requires-clause-label : goal.fire_along-requires-clause-label
fire_along-requires-clause-label c = label_within c.args.lts.now c.args.net.now c.args.tree.now (shown_markings c.loop-a.rows.items) c.loop-a.a-index
    (arc 0 0 0) c.in_ok-rows.ensures.system c.requires.tree c.requires.labels c.loop-a-test.true c.loop-a.invariant

pub fire_along-requires-clause-in_range : goal.fire_along-requires-clause-in_range
fire_along-requires-clause-in_range c = source_in_range c.args.lts.now c.args.net.now c.args.tree.now (shown_markings c.loop-a.rows.items) c.loop-a.a-index
    (arc 0 0 0) c.in_ok-rows.ensures.system c.requires.tree c.requires.labels c.loop-a-test.true c.loop-a.invariant c.deref-in-loop-a-3.result.now
    (source_row c.args.lts.now c.args.net.now c.args.tree.now c.loop-a.rows.items c.loop-a.a-index
    (arc 0 0 0) c.in_ok-rows.ensures.system c.requires.tree c.requires.labels c.loop-a-test.true c.loop-a.invariant c.index-source.result.now c.index-source.ensures
    ∙ sym c.deref-in-loop-a-3.ensures.value)

pub returns-in_err-target-clause-wide : goal.returns-in_err-target-clause-wide
returns-in_err-target-clause-wide c = λ class w e.
    let h = err_from_is_err_and c.from_residual-in_err-target.result c.from_residual-in_err-target.ensures.1 in
    let k = h.1 in
    let j = h.2 in
    let g = c.in_err-target.was in
    let told : c.fire_along.result ≡ Err (Stop (Wide w)) = cc in
    passes_here c.args.lts.now c.args.net.now c.args.tree.now (shown_markings c.loop-a.rows.items) c.loop-a.a-index
    (arc 0 0 0) c.in_ok-rows.ensures.system c.requires.tree c.requires.labels c.loop-a-test.true c.loop-a.invariant c.deref-in-loop-a-3.result.now w
    (source_row c.args.lts.now c.args.net.now c.args.tree.now c.loop-a.rows.items c.loop-a.a-index
    (arc 0 0 0) c.in_ok-rows.ensures.system c.requires.tree c.requires.labels c.loop-a-test.true c.loop-a.invariant c.index-source.result.now c.index-source.ensures
    ∙ sym c.deref-in-loop-a-3.ensures.value)
    (subst (λ m. IsEnabled c.args.net.now m (get_or c.args.tree.now c.loop-a.a-index (arc 0 0 0)).label)
    (c.deref-in-loop-a.ensures.value ∙ sym c.deref-in-loop-a-3.ensures.value)
    (enabled_by c.args.net.now (get_or c.args.tree.now c.loop-a.a-index (arc 0 0 0)).label c.deref.result.now
    (subst (IsFlow c.args.net.now (get_or c.args.tree.now c.loop-a.a-index (arc 0 0 0)).label) (sym c.deref.ensures.value)
    (flow_read c.args.net.now c.args.flows.now (get_or c.args.tree.now c.loop-a.a-index (arc 0 0 0)).label c.index-flows-a.result c.requires.flows
    (label_within c.args.lts.now c.args.net.now c.args.tree.now (shown_markings c.loop-a.rows.items) c.loop-a.a-index
    (arc 0 0 0) c.in_ok-rows.ensures.system c.requires.tree c.requires.labels c.loop-a-test.true c.loop-a.invariant) c.index-flows-a.is))
    c.deref-in-loop-a.result.now (c.allows.ensures.0 c.if-not-allows.false))) (c.fire_along.ensures.passes w told)

pub index_mut-requires : goal.index_mut-requires
index_mut-requires c =
    let lt = target_within c.args.lts.now c.args.net.now c.args.tree.now (shown_markings c.loop-a.rows.items) c.loop-a.a-index
    (arc 0 0 0) c.in_ok-rows.ensures.system c.requires.tree c.requires.labels c.loop-a-test.true c.loop-a.invariant in
    let size = row_count c.loop-a.rows.items in
    let is = c.loop-a.rows.ok.0 in
    omega arith

pub loop-a-preserved : goal.loop-a-preserved
loop-a-preserved c =
    subst (λ ms. AlongSoFar c.args.lts.now c.args.net.now c.args.tree.now ms (c.loop-a.a-index + 1))
    (sym (row_set c.loop-a.rows.items (get_or c.args.tree.now c.loop-a.a-index (arc 0 0 0)).to c.in_ok-target.target))
    (along_next c.args.lts.now c.args.net.now c.args.tree.now (shown_markings c.loop-a.rows.items) c.loop-a.a-index
    (arc 0 0 0) c.in_ok-rows.ensures.system c.requires.tree c.requires.labels c.loop-a-test.true c.loop-a.invariant c.deref-in-loop-a-3.result.now
    c.in_ok-target.target.items (source_row c.args.lts.now c.args.net.now c.args.tree.now c.loop-a.rows.items c.loop-a.a-index
    (arc 0 0 0) c.in_ok-rows.ensures.system c.requires.tree c.requires.labels c.loop-a-test.true c.loop-a.invariant c.index-source.result.now c.index-source.ensures
    ∙ sym c.deref-in-loop-a-3.ensures.value) c.in_ok-target.ensures.fires c.in_ok-target.ensures.in_range)

pub returns-clause-rows : goal.returns-clause-rows
returns-clause-rows c = along_rows c.args.lts.now c.args.net.now c.args.tree.now (shown_markings c.loop-a.rows.items) c.loop-a.a-index c.requires.reachable c.loop-a-test.false c.loop-a.invariant

pub returns-clause-have : goal.returns-clause-have
returns-clause-have c = along_have c.args.lts.now c.args.net.now c.args.tree.now (shown_markings c.loop-a.rows.items) c.loop-a.a-index c.requires.reachable c.loop-a-test.false c.loop-a.invariant
