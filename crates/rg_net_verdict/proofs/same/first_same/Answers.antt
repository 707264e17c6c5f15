use Rattle.std.proofs.Common.{◌≡◌, ◌<◌, ap, sym, subst, ◌∙◌, arith}
use Rattle.std.proofs.lemmas.Bool.{false≢true}
use Rattle.rg_theory.specs.System.{states}
use Rattle.rg_net.specs.ClassBreaks.{shown_markings}
use Rattle.rg_net_verdict.proofs.Along.{row_at}
use Rattle.rg_net_verdict.proofs.Seeing.{seen_start, seen_end_some, seen_end_none, stepped_new, stepped_within, stepped_less, stepped_kept, row_below}
use Rattle.rg_net_verdict.proofs.same.first_same.Goals as goal
use Rattle.rg_net_verdict.proofs.same.first_same.Goals.{then-added+in_ok-push, else-added+then-is_less, else-added+else-is_less}

pub loop-s-init : goal.loop-s-init
loop-s-init c = rw (c.new-seen.ensures.empty, c.new-firsts.ensures.items) (seen_start (shown_markings c.args.rows.now))

pub index-requires : goal.index-requires
index-requires c =
    let lt = stepped_within (shown_markings c.args.rows.now) c.loop-s.seen.keys c.loop-s.firsts.items c.loop-s.best c.loop-s.s c.loop-s.invariant c.as_slice.result
    (row_at c.args.rows.now c.loop-s.s c.index-rows-s.result
    (row_below c.args.lts.now c.args.rows.now c.loop-s.s c.requires (subst (λ n. c.loop-s.s < n) c.states-s-end.ensures.value c.loop-s-test.true)) c.index-rows-s.is
    ∙ sym c.as_slice.ensures.value) c.insert_full.new.self.keys c.in_ok-number.ensures.keys
    (sym c.if-added.false ∙ c.in_ok-number.ensures.added) c.in_ok-number.number c.in_ok-number.ensures.stored in
    let size = c.loop-s.firsts.ok.0 in
    omega arith

pub loop-s-preserved : goal.loop-s-preserved
loop-s-preserved c =
    elim c.if-added.branch [
      | then-added+in_ok-push w ↦ stepped_new (shown_markings c.args.rows.now) c.loop-s.seen.keys c.loop-s.firsts.items c.loop-s.best c.loop-s.s c.loop-s.invariant
          c.as_slice.result (row_at c.args.rows.now c.loop-s.s c.index-rows-s.result
          (row_below c.args.lts.now c.args.rows.now c.loop-s.s c.requires (subst (λ n. c.loop-s.s < n) c.states-s-end.ensures.value c.loop-s-test.true))
          c.index-rows-s.is ∙ sym c.as_slice.ensures.value) c.insert_full.new.self.keys c.in_ok-number.ensures.keys
          (sym w.if-added.true ∙ c.in_ok-number.ensures.added) c.if-added.firsts.items c.if-added.best
          (ap (λ v. v.items) w.firsts-is ∙ w.in_ok-push.ensures.items) w.best-is
      | else-added+then-is_less w ↦ stepped_less (shown_markings c.args.rows.now) c.loop-s.seen.keys c.loop-s.firsts.items c.loop-s.best c.loop-s.s c.loop-s.invariant
          c.as_slice.result (row_at c.args.rows.now c.loop-s.s c.index-rows-s.result
          (row_below c.args.lts.now c.args.rows.now c.loop-s.s c.requires (subst (λ n. c.loop-s.s < n) c.states-s-end.ensures.value c.loop-s-test.true))
          c.index-rows-s.is ∙ sym c.as_slice.ensures.value) c.insert_full.new.self.keys c.in_ok-number.ensures.keys
          (sym w.if-added.false ∙ c.in_ok-number.ensures.added) c.in_ok-number.number c.in_ok-number.ensures.stored w.index.result.now w.index-then-is_less.result.now
          c.if-added.firsts.items c.if-added.best w.index.ensures w.index-then-is_less.ensures (ap (λ v. v.items) w.firsts-is)
          (w.is_less.ensures.0 w.if-is_less.true) w.best-is
      | else-added+else-is_less w ↦ stepped_kept (shown_markings c.args.rows.now) c.loop-s.seen.keys c.loop-s.firsts.items c.loop-s.best c.loop-s.s c.loop-s.invariant
          c.as_slice.result (row_at c.args.rows.now c.loop-s.s c.index-rows-s.result
          (row_below c.args.lts.now c.args.rows.now c.loop-s.s c.requires (subst (λ n. c.loop-s.s < n) c.states-s-end.ensures.value c.loop-s-test.true))
          c.index-rows-s.is ∙ sym c.as_slice.ensures.value) c.insert_full.new.self.keys c.in_ok-number.ensures.keys
          (sym w.if-added.false ∙ c.in_ok-number.ensures.added) c.in_ok-number.number c.in_ok-number.ensures.stored w.index.result.now w.index.result.now
          c.if-added.firsts.items c.if-added.best w.index.ensures w.index.ensures (ap (λ v. v.items) w.firsts-is)
          (λ less. false≢true (sym w.if-is_less.false ∙ w.is_less.ensures.1 less)) w.best-is
    ]

pub returns-clause-some : goal.returns-clause-some
returns-clause-some c =
    let all : c.loop-s.s ≡ states c.args.lts.now = (let e = c.states-s-end.ensures.value in let past = c.loop-s-test.false in let most = c.loop-s.auto.s-end in omega arith) in
    seen_end_some c.args.lts.now (shown_markings c.args.rows.now) c.loop-s.seen.keys c.loop-s.firsts.items c.loop-s.best c.loop-s.s all c.loop-s.invariant

pub returns-clause-none : goal.returns-clause-none
returns-clause-none c =
    let all : c.loop-s.s ≡ states c.args.lts.now = (let e = c.states-s-end.ensures.value in let past = c.loop-s-test.false in let most = c.loop-s.auto.s-end in omega arith) in
    seen_end_none c.args.lts.now (shown_markings c.args.rows.now) c.loop-s.seen.keys c.loop-s.firsts.items c.loop-s.best c.loop-s.s all c.loop-s.invariant
