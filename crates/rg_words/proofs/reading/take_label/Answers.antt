use Rattle.std.proofs.Common.{◌≡◌, ◌+◌, ◌∷◌, [], ◌++◌, false, Some, length, slice_get, sym, ap, subst, ◌∙◌, arith}
use Rattle.std.proofs.lemmas.Option.{slice_get_within}
use Rattle.std.specs.Str.{bytes_eq}
use Rattle.rg_lts.specs.Draft.{Draft}
use Rattle.rg_line_formats.specs.First.{with_new}
use Rattle.rg_words.specs.Reading.{IsAt, IsDraftOf, use_of}
use Rattle.rg_words.proofs.Steps.{states_long}
use Rattle.rg_words.proofs.LabelSteps.{old_label, new_label, too_many_states, draft_same, draft_more}
use Rattle.rg_words.proofs.reading.take_label.Goals as goal

pub returns-then-index-ge-MOST_STATES-clause-fault : goal.returns-then-index-ge-MOST_STATES-clause-fault
returns-then-index-ge-MOST_STATES-clause-fault c = λ real all before h.
    let label = c.args.label.now in
    let d = c.args.tree.now.builder in
    let e = c.label_at.new.builder in
    let name : c.as_name-name.result.now ≡ label = c.as_name-name.ensures in
    let grown : e.label_names ≡ with_new bytes_eq d.label_names label = ap (λ (x : Draft). x.label_names) c.in_ok-t.ensures.added ∙ ap (with_new bytes_eq d.label_names) name in
    let named : slice_get e.label_names c.in_ok-t.t ≡ Some label = c.in_ok-t.ensures.at ∙ ap Some name in
    let new = c.in_ok-index.ensures.new (λ (no : c.in_ok-index.new ≡ false). cc) in
    too_many_states all before c.args.number label d.label_names e.label_names c.args.tree.now.steps.keys c.args.state c.in_ok-t.t h grown named
    c.in_ok-check.ensures.short c.in_ok-check.ensures.whole (c.in_ok-t.ensures.few c.requires.draft.few_labels) new.2 (omega (arith, new.0, c.if-index-ge-MOST_STATES.true))

pub grow-requires-clause-label : goal.grow-requires-clause-label
grow-requires-clause-label c = slice_get_within c.label_at.new.builder.label_names c.in_ok-t.t c.as_name-name.result.now c.in_ok-t.ensures.at

pub grow-requires-clause-draft : goal.grow-requires-clause-draft
grow-requires-clause-draft c =
    let new = c.in_ok-index.ensures.new (λ (no : c.in_ok-index.new ≡ false). cc) in (
      c.args.tree.now.steps.keys,
      draft_same c.args.tree.now.builder c.label_at.new.builder c.args.tree.now.steps.keys c.as_name-name.result.now
          c.requires.draft c.in_ok-t.ensures.added c.in_ok-t.ensures.few,
      ap (λ n. n + 1) (sym new.0),
    )

pub returns-in_ok-grow-clause-draft : goal.returns-in_ok-grow-clause-draft
returns-in_ok-grow-clause-draft c =
    let d = c.args.tree.now.builder in
    let e = c.label_at.new.builder in
    let steps = c.args.tree.now.steps.keys in
    let new = c.in_ok-index.ensures.new (λ (no : c.in_ok-index.new ≡ false). cc) in
    subst (IsDraftOf c.grow.new.builder) (sym new.1)
    (draft_more e c.grow.new.builder steps c.args.state c.in_ok-t.t (c.in_ok-index.index + 1)
    (draft_same d e steps c.as_name-name.result.now c.requires.draft c.in_ok-t.ensures.added c.in_ok-t.ensures.few) c.in_ok-grow.ensures.ok
    (ap (λ n. n + 1) new.0) c.if-index-ge-MOST_STATES.false)

pub returns-in_ok-grow-clause-ok : goal.returns-in_ok-grow-clause-ok
returns-in_ok-grow-clause-ok c = λ all before h.
    let label = c.args.label.now in
    let d = c.args.tree.now.builder in
    let e = c.label_at.new.builder in
    let steps = c.args.tree.now.steps.keys in
    let name : c.as_name-name.result.now ≡ label = c.as_name-name.ensures in
    let grown : e.label_names ≡ with_new bytes_eq d.label_names label = ap (λ (x : Draft). x.label_names) c.in_ok-t.ensures.added ∙ ap (with_new bytes_eq d.label_names) name in
    let named : slice_get e.label_names c.in_ok-t.t ≡ Some label = c.in_ok-t.ensures.at ∙ ap Some name in
    let new = c.in_ok-index.ensures.new (λ (no : c.in_ok-index.new ≡ false). cc) in
    let same : c.grow.new.builder.label_names ≡ e.label_names = ap (λ (x : Draft). x.label_names) c.in_ok-grow.ensures.ok.rest in
    let r = new_label all before c.args.number label d.label_names e.label_names steps c.args.state c.in_ok-t.t h grown named
    c.in_ok-check.ensures.short c.in_ok-check.ensures.whole (c.in_ok-t.ensures.few c.requires.draft.few_labels) new.2 (omega (arith, new.0, c.if-index-ge-MOST_STATES.false)) in
    let u = use_of c.args.number before label in (
      subst (λ n. IsAt (all ++ u ∷ []) (before ++ label ∷ []) c.grow.new.builder.label_names c.index_of.new.steps.keys (n + 1)) (sym new.0)
          (subst (λ s. IsAt (all ++ u ∷ []) (before ++ label ∷ []) c.grow.new.builder.label_names s (length steps + 1)) (sym new.1)
          (subst (λ l. IsAt (all ++ u ∷ []) (before ++ label ∷ []) l (steps ++ (c.args.state, c.in_ok-t.t) ∷ []) (length steps + 1)) (sym same) r.0)),
      r.1,
    )

pub returns-else-new-clause-draft : goal.returns-else-new-clause-draft
returns-else-new-clause-draft c =
    subst (IsDraftOf c.label_at.new.builder) (sym (c.in_ok-index.ensures.known c.if-new.false))
    (draft_same c.args.tree.now.builder c.label_at.new.builder c.args.tree.now.steps.keys c.as_name-name.result.now c.requires.draft c.in_ok-t.ensures.added c.in_ok-t.ensures.few)

pub returns-else-new-clause-state : goal.returns-else-new-clause-state
returns-else-new-clause-state c =
    let within = slice_get_within c.index_of.new.steps.keys c.in_ok-index.index (c.args.state, c.in_ok-t.t) c.in_ok-index.ensures.at in
    omega (arith, within)

pub returns-else-new-clause-ok : goal.returns-else-new-clause-ok
returns-else-new-clause-ok c = λ all before h.
    let label = c.args.label.now in
    let d = c.args.tree.now.builder in
    let e = c.label_at.new.builder in
    let steps = c.args.tree.now.steps.keys in
    let name : c.as_name-name.result.now ≡ label = c.as_name-name.ensures in
    let grown : e.label_names ≡ with_new bytes_eq d.label_names label = ap (λ (x : Draft). x.label_names) c.in_ok-t.ensures.added ∙ ap (with_new bytes_eq d.label_names) name in
    let named : slice_get e.label_names c.in_ok-t.t ≡ Some label = c.in_ok-t.ensures.at ∙ ap Some name in
    let known : c.index_of.new.steps.keys ≡ steps = c.in_ok-index.ensures.known c.if-new.false in
    let at : slice_get steps c.in_ok-index.index ≡ Some (c.args.state, c.in_ok-t.t) = subst (λ s. slice_get s c.in_ok-index.index ≡ Some (c.args.state, c.in_ok-t.t)) known c.in_ok-index.ensures.at in
    let r = old_label all before c.args.number label d.label_names e.label_names steps c.args.state c.in_ok-t.t h grown named
    c.in_ok-check.ensures.short c.in_ok-check.ensures.whole (c.in_ok-t.ensures.few c.requires.draft.few_labels) c.in_ok-index.index at c.requires.draft.few_steps in
    (subst (λ s. IsAt (all ++ use_of c.args.number before label ∷ []) (before ++ label ∷ []) e.label_names s (c.in_ok-index.index + 1)) (sym known) r.0, r.1)

pub grow-requires-clause-room : goal.grow-requires-clause-room
grow-requires-clause-room c =
    let new = c.in_ok-index.ensures.new (λ (no : c.in_ok-index.new ≡ false). cc) in
    let e = c.label_at.new.builder in
    let d = draft_same c.args.tree.now.builder e c.args.tree.now.steps.keys c.as_name-name.result.now c.requires.draft c.in_ok-t.ensures.added c.in_ok-t.ensures.few in
    omega (arith, ap length d.states, states_long (length c.args.tree.now.steps.keys + 1), new.0, c.if-index-ge-MOST_STATES.false)
