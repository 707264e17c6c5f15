use Rattle.std.proofs.Common.{[], map, Err, sym, ap, subst, ◌∙◌}
use Rattle.std.proofs.lemmas.Result.{err_from_is_err_and}
use Rattle.rg_text.specs.Faults.{faults_after, IsFirst, AreNone}
use Rattle.rg_apt.specs.Contents.{state_fault, label_fault, arc_fault}
use Rattle.rg_apt.specs.View.{states_in, labels_in, arcs_in, found_in}
use Rattle.rg_apt.specs.Built.{label_text, HasStates, HasArcs}
use Rattle.rg_apt.proofs.Built.{of_states, of_labels, of_arcs, of_mark, all_none, with_labels, system_is}
use Rattle.rg_apt.proofs.building.build.Goals as goal

pub returns-in_err-add_states-clause-fault : goal.returns-in_err-add_states-clause-fault
returns-in_err-add_states-clause-fault c =
    let p = err_from_is_err_and c.from_residual.result c.from_residual.ensures.1 in
    let bytes = c.args.bytes.now in
    let f = c.in_err-add_states.field-0.0 in
    rw (p.1, p.2)
    (λ memory. of_states (found_in bytes c.args.found.now) f c.if-not-found.false
    (subst (λ xs. IsFirst (faults_after state_fault [] (states_in bytes xs)) f) c.deref.ensures.value (c.in_err-add_states.ensures.fault memory)))

pub returns-in_err-add_labels-clause-fault : goal.returns-in_err-add_labels-clause-fault
returns-in_err-add_labels-clause-fault c =
    let p = err_from_is_err_and c.from_residual-in_err-add_labels.result c.from_residual-in_err-add_labels.ensures.1 in
    let bytes = c.args.bytes.now in
    let f = c.in_err-add_labels.field-0.0 in
    let no_state = subst (λ xs. AreNone (faults_after state_fault [] (states_in bytes xs))) c.deref.ensures.value c.in_ok-add_states.ensures.none in
    rw (p.1, p.2)
    (λ memory. of_labels (found_in bytes c.args.found.now) f c.if-not-found.false no_state
    (subst (λ xs. IsFirst (faults_after label_fault [] (labels_in bytes xs)) f) c.deref-2.ensures.value (c.in_err-add_labels.ensures.fault memory)))

pub returns-in_err-add_arcs-clause-fault : goal.returns-in_err-add_arcs-clause-fault
returns-in_err-add_arcs-clause-fault c =
    let p = err_from_is_err_and c.from_residual-in_err-add_arcs.result c.from_residual-in_err-add_arcs.ensures.1 in
    let bytes = c.args.bytes.now in
    let f = c.in_err-add_arcs.field-0.0 in
    let d = found_in bytes c.args.found.now in
    let no_state = subst (λ xs. AreNone (faults_after state_fault [] (states_in bytes xs))) c.deref.ensures.value c.in_ok-add_states.ensures.none in
    let no_label = subst (λ xs. AreNone (faults_after label_fault [] (labels_in bytes xs))) c.deref-2.ensures.value c.in_ok-add_labels.ensures.none in
    let states = subst (λ xs. HasStates (states_in bytes xs) c.add_states.new.builder) c.deref.ensures.value c.in_ok-add_states.ensures.has in
    let labels = c.in_ok-add_labels.ensures.has ∙ ap (λ xs. record c.add_states.new.builder { label_names = map label_text (labels_in bytes xs) }) c.deref-2.ensures.value in
    let has = with_labels d c.add_states.new.builder c.add_labels.new.builder states labels in
    rw (p.1, p.2)
    (λ memory. of_arcs d f c.if-not-found.false no_state no_label
    (subst (λ xs. IsFirst (faults_after (arc_fault d) [] (arcs_in bytes xs)) f) c.deref-3.ensures.value (c.in_err-add_arcs.ensures.fault memory d has)))

pub returns-in-Ok-clause-none : goal.returns-in-Ok-clause-none
returns-in-Ok-clause-none c =
    let bytes = c.args.bytes.now in
    let d = found_in bytes c.args.found.now in
    let no_state = subst (λ xs. AreNone (faults_after state_fault [] (states_in bytes xs))) c.deref.ensures.value c.in_ok-add_states.ensures.none in
    let no_label = subst (λ xs. AreNone (faults_after label_fault [] (labels_in bytes xs))) c.deref-2.ensures.value c.in_ok-add_labels.ensures.none in
    let states = subst (λ xs. HasStates (states_in bytes xs) c.add_states.new.builder) c.deref.ensures.value c.in_ok-add_states.ensures.has in
    let labels = c.in_ok-add_labels.ensures.has ∙ ap (λ xs. record c.add_states.new.builder { label_names = map label_text (labels_in bytes xs) }) c.deref-2.ensures.value in
    let arcs = c.in_ok-add_arcs.ensures.ok d (with_labels d c.add_states.new.builder c.add_labels.new.builder states labels) in
    let no_arc = subst (λ xs. AreNone (faults_after (arc_fault d) [] (arcs_in bytes xs))) c.deref-3.ensures.value arcs.0 in
    all_none d c.in-Ok.lts.initial c.if-not-found.false no_state no_label no_arc (sym arcs.1.initial ∙ c.in-Ok.ensures.ok.0)

pub returns-in-Ok-clause-system : goal.returns-in-Ok-clause-system
returns-in-Ok-clause-system c =
    let bytes = c.args.bytes.now in
    let d = found_in bytes c.args.found.now in
    let states = subst (λ xs. HasStates (states_in bytes xs) c.add_states.new.builder) c.deref.ensures.value c.in_ok-add_states.ensures.has in
    let labels = c.in_ok-add_labels.ensures.has ∙ ap (λ xs. record c.add_states.new.builder { label_names = map label_text (labels_in bytes xs) }) c.deref-2.ensures.value in
    let arcs = c.in_ok-add_arcs.ensures.ok d (with_labels d c.add_states.new.builder c.add_labels.new.builder states labels) in
    let has = subst (λ xs. HasArcs d (arcs_in bytes xs) c.add_arcs.new.builder) c.deref-3.ensures.value arcs.1 in
    system_is d c.add_arcs.new.builder c.in-Ok.lts has c.in-Ok.ensures.ok.0 c.in-Ok.ensures.ok.1 c.in-Ok.ensures.well_formed

pub returns-in-Err-NoInitial-clause-fault : goal.returns-in-Err-NoInitial-clause-fault
returns-in-Err-NoInitial-clause-fault c = λ memory.
    let bytes = c.args.bytes.now in
    let d = found_in bytes c.args.found.now in
    let no_state = subst (λ xs. AreNone (faults_after state_fault [] (states_in bytes xs))) c.deref.ensures.value c.in_ok-add_states.ensures.none in
    let no_label = subst (λ xs. AreNone (faults_after label_fault [] (labels_in bytes xs))) c.deref-2.ensures.value c.in_ok-add_labels.ensures.none in
    let states = subst (λ xs. HasStates (states_in bytes xs) c.add_states.new.builder) c.deref.ensures.value c.in_ok-add_states.ensures.has in
    let labels = c.in_ok-add_labels.ensures.has ∙ ap (λ xs. record c.add_states.new.builder { label_names = map label_text (labels_in bytes xs) }) c.deref-2.ensures.value in
    let arcs = c.in_ok-add_arcs.ensures.ok d (with_labels d c.add_states.new.builder c.add_labels.new.builder states labels) in
    let no_arc = subst (λ xs. AreNone (faults_after (arc_fault d) [] (arcs_in bytes xs))) c.deref-3.ensures.value arcs.0 in
    of_mark d c.if-not-found.false no_state no_label no_arc (sym arcs.1.initial ∙ c.in-Err-NoInitial.ensures.no_initial.0 (ap Err c.in-Err-NoInitial.field-0-is))
