use Rattle.std.proofs.Common.{◌≡◌, ◌+◌, ◌*◌, ◌^◌, ◌<◌, ◌≤◌, length, ap, subst, sym, ◌∙◌, arith}
use Rattle.std.specs.Prelude.{unsigned_abs}
use Rattle.std.proofs.lemmas.List.{with_items_is}
use Rattle.rg_integers.specs.Sum.{number_at}
use Rattle.rg_case_folds.specs.Rewriting.{count_of}
use Rattle.rg_cert_data.specs.Sums.{term_of, terms_in}
use Rattle.rg_case_parts.specs.StatesNamed.{TermNamesStateBelow}
use Rattle.rg_case_parts.specs.LabelCounts.{CountsTerm}
use Rattle.rg_case_parts.proofs.Counting.{count_next, nothing_next, term_at, small_next}
use Rattle.rg_case_parts.proofs.label_counts.counts.Goals as goal
use Rattle.rg_case_parts.proofs.label_counts.counts.Goals.{in-Some, in_default}

pub count_term-requires-clause-within : goal.count_term-requires-clause-within
count_term-requires-clause-within c = term_at (TermNamesStateBelow c.args.tree.now.states) c.args.expression.now.terms c.loop-entry.entry-index c.in-Some.term c.in-Some.is c.requires.within

pub loop-entry-preserved : goal.loop-entry-preserved
loop-entry-preserved c =
    let tree = c.args.tree.now.arcs in
    let entries = c.args.expression.now.terms in
    let i = c.loop-entry.entry-index in
    let before = c.loop-entry.counts in
    let after = c.match-entry.counts.items in
    let so_far = c.loop-entry.invariant in
    elim c.match-entry.branch [
      | in-Some w ↦
          let term = term_of w.in-Some.term in
          let new = w.count_term.new.counts in
          let adds = subst (λ old. CountsTerm tree term old new) w.deref_mut.ensures.value w.count_term.ensures in
          let read : before.len ≡ length before.items = omega arith in
          let items : after ≡ new = ap (λ v. v.items) w.counts-is ∙ with_items_is before new (adds.same_length ∙ sym read) in
          record {
            one_each = ap length items ∙ adds.same_length ∙ so_far.one_each;
            totals = λ t lt. count_next entries i w.in-Some.term w.in-Some.is tree t (number_at before.items t) (number_at after t) (count_of tree (terms_in entries) t)
                (ap (λ l. number_at l t) items ∙ adds.sums t (subst (λ n. t < n) (sym so_far.one_each) lt)) (so_far.totals t lt);
            small = λ t lt. (let within = subst (λ n. t < n) (sym so_far.one_each) lt in
                small_next (number_at before.items t) _ (number_at after t) i (ap (λ l. number_at l t) items ∙ adds.sums t within) (so_far.small t lt) (adds.small t within));
          }
      | in_default w ↦
          let items = ap (λ v. v.items) w.counts-is in
          record {
            one_each = ap length items ∙ so_far.one_each;
            totals = λ t lt. nothing_next entries i (λ terms. count_of tree terms t) (number_at before.items t) (number_at after t) _
                (ap (λ l. number_at l t) items) w.in_default.is (so_far.totals t lt);
            small = λ t lt. subst (λ l. unsigned_abs (number_at l t) ≤ (i + 1) * 2 ^ 32) (sym items) (let s = so_far.small t lt in omega arith);
          }
    ]
