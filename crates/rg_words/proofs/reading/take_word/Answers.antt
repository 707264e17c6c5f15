use Rattle.std.proofs.Common.{◌++◌, ◌∷◌, [], subst}
use Rattle.std.proofs.lemmas.Result.{err_from_is_err_and}
use Rattle.rg_line_formats.specs.Words.{words}
use Rattle.rg_words.specs.Contents.{uses_from}
use Rattle.rg_words.specs.Reading.{Stands}
use Rattle.rg_words.proofs.Going.{label_taken, label_wrong, word_ends}
use Rattle.rg_words.proofs.reading.take_word.Goals as goal

pub loop-label-preserved : goal.loop-label-preserved
loop-label-preserved c = record {
  draft = c.in_ok-state.ensures.draft;
  state = c.in_ok-state.ensures.state;
  stands = λ all more start.
      (let tree = c.loop-label.tree in
      let n = c.args.number in
      let label = c.in-Some.label.now in
      let s = c.loop-label.invariant.stands all more start in
      let next = subst (λ w. Stands all (uses_from n s.0 w ++ more) s.0 tree.builder.label_names tree.steps.keys c.loop-label.state) c.in-Some.ensures.words s.1 in
      (s.0 ++ label ∷ [], label_taken all more n s.0 _ _ c.loop-label.state label (words c.in-Some.left.now) _ _ c.in_ok-state.state c.in_ok-state.ensures.ok next));
}

pub returns-in_err-state-clause-fault : goal.returns-in_err-state-clause-fault
returns-in_err-state-clause-fault c =
    let p = err_from_is_err_and c.from_residual.result c.from_residual.ensures.1 in
    rw (p.1, p.2)
    (λ real all more start.
    (let tree = c.loop-label.tree in
    let n = c.args.number in
    let label = c.in-Some.label.now in
    let s = c.loop-label.invariant.stands all more start in
    let next = subst (λ w. Stands all (uses_from n s.0 w ++ more) s.0 tree.builder.label_names tree.steps.keys c.loop-label.state) c.in-Some.ensures.words s.1 in
    label_wrong all more n s.0 _ _ c.loop-label.state label (words c.in-Some.left.now) c.in_err-state.field-0.0 (c.in_err-state.ensures.fault real) next))

pub returns-clause-ok : goal.returns-clause-ok
returns-clause-ok c = λ all more start.
    let tree = c.loop-label.tree in
    let s = c.loop-label.invariant.stands all more start in
    let end = subst (λ w. Stands all (uses_from c.args.number s.0 w ++ more) s.0 tree.builder.label_names tree.steps.keys c.loop-label.state) c.in_default.ensures.none s.1 in
    word_ends all more c.args.number s.0 _ _ c.loop-label.state end
