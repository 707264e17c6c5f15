use Rattle.std.proofs.Common.{◌≡◌, refl, sym, subst, arith}
use Rattle.std.specs.Str.Iter.{split_steps}
use Rattle.std.specs.Str.Pattern.{FindsChar}
use Rattle.std.proofs.lemmas.Iterator.{YieldsList}
use Rattle.std.proofs.lemmas.Iterator.Splits.{YieldsList-from_str_split}
use Rattle.std.proofs.lemmas.Result.{err_from_is_err_and}
use Rattle.rg_theory.specs.ClassWords.{class_words, no_condition}
use Rattle.rg_theory.proofs.ClassLoop.{ReadsTo, few, reads_none, reads_more, reads_end, reads_refused, next_is, none_left, is_other}
use Rattle.rg_theory.proofs.Class.read.Goals as goal

pub loop-word-init : goal.loop-word-init
loop-word-init c =
    let split = c.split-word-items.ensures in
    let same = c.into_iter-word-iterator.ensures.into_iter_gives in (
      tt,
      tt,
      (
        class_words c.args.text.now,
        subst (λ s. YieldsList (split_steps FindsChar (λ a b. b ≡ a)) (λ x. x.now) s (class_words c.args.text.now)) (sym same)
            (YieldsList-from_str_split 44 c.args.text.now (omega arith) split.text split.has_more split.pattern),
        reads_none c.args.text.now no_condition 0 refl refl,
      ),
    )

pub overflow_add-number : goal.overflow_add-number
overflow_add-number c = let r = c.loop-word.invariant.2.2 in omega (arith, r.heavy, few c.loop-word.class)

pub returns-in_err-take-clause-fault : goal.returns-in_err-take-clause-fault
returns-in_err-take-clause-fault c =
    let p = err_from_is_err_and c.from_residual.result c.from_residual.ensures.1 in
    let kept = c.loop-word.invariant.2 in
    let next = next_is (split_steps FindsChar (λ a b. b ≡ a)) (λ x. x.now) c.loop-word.word-iterator c.next.new.self c.in-Some.word kept.0 kept.1
    (subst (λ r. split_steps FindsChar (λ a b. b ≡ a) c.loop-word.word-iterator r c.next.new.self) c.in-Some.is c.next.ensures.steps) in
    rw (p.1, p.2)
    (reads_refused c.args.text.now c.loop-word.class c.loop-word.number c.in-Some.word.now next.0 _ (is_other c.args.text.now c.if-eq.ensures)
    c.in_err-take.ensures.fault (subst (ReadsTo c.args.text.now c.loop-word.class c.loop-word.number) next.1 kept.2))

pub loop-word-preserved : goal.loop-word-preserved
loop-word-preserved c =
    let kept = c.loop-word.invariant.2 in
    let next = next_is (split_steps FindsChar (λ a b. b ≡ a)) (λ x. x.now) c.loop-word.word-iterator c.next.new.self c.in-Some.word kept.0 kept.1
    (subst (λ r. split_steps FindsChar (λ a b. b ≡ a) c.loop-word.word-iterator r c.next.new.self) c.in-Some.is c.next.ensures.steps) in
    let told = c.in_ok-take.ensures.ok in (
      tt,
      tt,
      (
        next.0,
        next.2,
        reads_more c.args.text.now c.loop-word.class c.take.new.self c.loop-word.number c.in-Some.word.now next.0 told.0 told.1 told.2 told.3
            (subst (ReadsTo c.args.text.now c.loop-word.class c.loop-word.number) next.1 kept.2),
      ),
    )

pub returns-clause-ok : goal.returns-clause-ok
returns-clause-ok c =
    let kept = c.loop-word.invariant.2 in
    reads_end c.args.text.now c.loop-word.class c.loop-word.number
    (subst (ReadsTo c.args.text.now c.loop-word.class c.loop-word.number)
    (none_left (split_steps FindsChar (λ a b. b ≡ a)) (λ x. x.now) c.loop-word.word-iterator c.next.new.self kept.0 kept.1
    (subst (λ r. split_steps FindsChar (λ a b. b ≡ a) c.loop-word.word-iterator r c.next.new.self) c.in-None.is c.next.ensures.steps)) kept.2)
