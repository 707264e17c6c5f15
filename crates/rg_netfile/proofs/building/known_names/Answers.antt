use Rattle.std.proofs.Common.{◌++◌, [], length, map, sym, ap, subst, ◌∙◌}
use Rattle.std.proofs.lemmas.List.{length-map}
use Rattle.std.proofs.lemmas.Result.{err_from_is_err_and}
use Rattle.rg_text.specs.Faults.{faults_after, if_not, IsFirst, AreNone}
use Rattle.rg_text.proofs.Left.{first_left, first_right, none_joined}
use Rattle.rg_net_grammar.specs.View.{places_in, transitions_in, found_in}
use Rattle.rg_netfile.specs.declared.fault.NetFault.TheVariants.{TransitionsDiffer}
use Rattle.rg_netfile.specs.Contents.{place_fault, transition_fault, have_each_once}
use Rattle.rg_netfile.specs.Built.{IsKnownOf, AreNumbers}
use Rattle.rg_netfile.proofs.EntryFaults.{text_of, name_of}
use Rattle.rg_netfile.proofs.Apart.{apart_from}
use Rattle.rg_netfile.proofs.WholeNets.{if_none, if_first, numbers_long}
use Rattle.rg_netfile.proofs.building.known_names.Goals as goal

pub returns-in_err-places-clause-fault : goal.returns-in_err-places-clause-fault
returns-in_err-places-clause-fault c =
    let p = err_from_is_err_and c.from_residual.result c.from_residual.ensures.1 in
    let bytes = c.args.bytes.now in
    let d = found_in bytes c.args.found.now in
    let f = c.in_err-places.field-0.0 in
    let a = faults_after place_fault [] d.places in
    let b = faults_after transition_fault [] d.transitions in
    rw (p.1, p.2)
    (λ memory. first_left (a ++ b) (if_not (have_each_once c.args.lts.now.label_names d.transitions) TransitionsDiffer) f
    (first_left a b f (subst (λ xs. IsFirst (faults_after place_fault [] (places_in bytes xs)) f) c.deref.ensures.value (c.in_err-places.ensures.fault memory))))

pub returns-in_err-check_transition_names-clause-fault : goal.returns-in_err-check_transition_names-clause-fault
returns-in_err-check_transition_names-clause-fault c =
    let p = err_from_is_err_and c.from_residual-in_err-check_transition_names.result c.from_residual-in_err-check_transition_names.ensures.1 in
    let bytes = c.args.bytes.now in
    let d = found_in bytes c.args.found.now in
    let f = c.in_err-check_transition_names.field-0.0 in
    let a = faults_after place_fault [] d.places in
    let b = faults_after transition_fault [] d.transitions in
    let no_place = subst (λ xs. AreNone (faults_after place_fault [] (places_in bytes xs))) c.deref.ensures.value c.in_ok-places.ensures.none in
    rw (p.1, p.2)
    (λ memory. first_left (a ++ b) (if_not (have_each_once c.args.lts.now.label_names d.transitions) TransitionsDiffer) f
    (first_right a b f no_place
    (subst (λ xs. IsFirst (faults_after transition_fault [] (transitions_in bytes xs)) f) c.deref-2.ensures.value (c.in_err-check_transition_names.ensures.fault memory))))

pub returns-in_err-transitions-clause-fault : goal.returns-in_err-transitions-clause-fault
returns-in_err-transitions-clause-fault c =
    let p = err_from_is_err_and c.from_residual-in_err-transitions.result c.from_residual-in_err-transitions.ensures.1 in
    rw (p.1, p.2) (λ memory. absurd (memory c.in_err-transitions.ensures.cause))

pub returns-in_err-labels-clause-fault : goal.returns-in_err-labels-clause-fault
returns-in_err-labels-clause-fault c =
    let p = err_from_is_err_and c.from_residual-in_err-labels.result c.from_residual-in_err-labels.ensures.1 in
    let bytes = c.args.bytes.now in
    let d = found_in bytes c.args.found.now in
    let names = c.args.lts.now.label_names in
    let f = c.in_err-labels.field-0.0 in
    let a = faults_after place_fault [] d.places in
    let b = faults_after transition_fault [] d.transitions in
    let no_place = subst (λ xs. AreNone (faults_after place_fault [] (places_in bytes xs))) c.deref.ensures.value c.in_ok-places.ensures.none in
    let no_transition = subst (λ xs. AreNone (faults_after transition_fault [] (transitions_in bytes xs))) c.deref-2.ensures.value c.in_ok-check_transition_names.ensures.none in
    rw (p.1, p.2)
    (λ memory.
    let differ = c.in_err-labels.ensures.fault memory in
    first_right (a ++ b) (if_not (have_each_once names d.transitions) TransitionsDiffer) f (none_joined a b no_place no_transition)
    (if_first (have_each_once names d.transitions) TransitionsDiffer f
    (ap (λ xs. have_each_once names (transitions_in bytes xs)) (sym c.deref-3.ensures.value) ∙ differ.1) differ.0))

pub new-requires : goal.new-requires
new-requires c =
    let names = c.args.lts.now.label_names in
    let ts = transitions_in c.args.bytes.now c.deref-3.result.now in
    record {
      places_apart = c.in_ok-places.ensures.apart;
      transitions_apart = apart_from (c.in_ok-transitions.ensures.names ∙ ap (λ xs. map name_of (transitions_in c.args.bytes.now xs)) (c.deref-4.ensures.value ∙ sym c.deref-2.ensures.value))
          c.in_ok-check_transition_names.ensures.apart;
      labels_apart = c.in_ok-labels.ensures.apart;
      paired = numbers_long names ts c.in_ok-labels.labels.items c.in_ok-labels.ensures.numbers
          ∙ ap (λ xs. length (transitions_in c.args.bytes.now xs)) (c.deref-3.ensures.value ∙ sym c.deref-4.ensures.value)
          ∙ sym (ap length c.in_ok-transitions.ensures.names ∙ length-map (transitions_in c.args.bytes.now c.deref-4.result.now) name_of);
    }

pub returns-clause-known : goal.returns-clause-known
returns-clause-known c =
    let bytes = c.args.bytes.now in
    let d = found_in bytes c.args.found.now in
    let names = c.args.lts.now.label_names in
    subst (IsKnownOf c.args.lts.now d) (sym c.new.ensures) (record {
      places = c.in_ok-places.ensures.names ∙ ap (λ xs. map text_of (places_in bytes xs)) c.deref.ensures.value;
      transitions = c.in_ok-transitions.ensures.names ∙ ap (λ xs. map name_of (transitions_in bytes xs)) c.deref-4.ensures.value;
      numbers = subst (λ xs. AreNumbers names (transitions_in bytes xs) c.in_ok-labels.labels.items) c.deref-3.ensures.value c.in_ok-labels.ensures.numbers;
    })

pub returns-clause-none : goal.returns-clause-none
returns-clause-none c =
    let bytes = c.args.bytes.now in
    let d = found_in bytes c.args.found.now in
    let names = c.args.lts.now.label_names in
    let a = faults_after place_fault [] d.places in
    let b = faults_after transition_fault [] d.transitions in
    let no_place = subst (λ xs. AreNone (faults_after place_fault [] (places_in bytes xs))) c.deref.ensures.value c.in_ok-places.ensures.none in
    let no_transition = subst (λ xs. AreNone (faults_after transition_fault [] (transitions_in bytes xs))) c.deref-2.ensures.value c.in_ok-check_transition_names.ensures.none in
    none_joined (a ++ b) (if_not (have_each_once names d.transitions) TransitionsDiffer) (none_joined a b no_place no_transition)
    (if_none (have_each_once names d.transitions) TransitionsDiffer
    (ap (λ xs. have_each_once names (transitions_in bytes xs)) (sym c.deref-3.ensures.value) ∙ c.in_ok-labels.ensures.once))
