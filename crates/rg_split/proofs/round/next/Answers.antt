use Rattle.std.proofs.Common.{◌≡◌, ℕ, List, Bor, ◌∷◌, [], ◌++◌, length, map, All, string_bytes, ap, sym, subst, ◌∙◌, arith}
use Rattle.std.proofs.lemmas.List.{length-map, length-append, get_or_default}
use Rattle.rg_lts.specs.WellFormed.{AreNames}
use Rattle.rg_cert_data.specs.Certificates.{reason_of}
use Rattle.rg_split.specs.Erasing.{old_label}
use Rattle.rg_split.specs.Naming.{IsNewName}
use Rattle.rg_split.specs.Rounds.{first_name, labelling}
use Rattle.rg_theory.specs.System.{labels}
use Rattle.rg_split.specs.Lifting.{HasWeights, with_copy}
use Rattle.rg_split.specs.Answer.{labelling_of}
use Rattle.rg_split.proofs.LiftedPlaces.{has_weights, known_next}
use Rattle.rg_split.proofs.Names.{new_is_name}
use Rattle.rg_split.proofs.Once.{one_label}
use Rattle.rg_split.proofs.RoundSteps.{label_below, first_below, first_name_is, name_is_name, pushed_name, labels_below, next_is}
use Rattle.rg_lts.proofs.Drafts.{names_push as names_more}
use Rattle.rg_split.proofs.round.next.Goals as goal

pub label_name-requires : goal.label_name-requires
label_name-requires c =
    let below = label_below c.args.now.now.system
    (reason_of c.args.reason.now) c.in_ok-relabelling.relabelling.label c.is_well_formed-2.ensures c.requires.answer c.requires.has_label
    c.in_ok-relabelling.ensures.splits in
    first_below c.args.lts.now (labelling_of c.args.now.now) c.in_ok-relabelling.relabelling.label c.index-first.result.now c.requires.apart below c.index-first.ensures

pub new_name-requires-clause-name : goal.new_name-requires-clause-name
new_name-requires-clause-name c = name_is_name c.args.lts.now.label_names c.index-first.result.now c.label_name.result.now c.is_well_formed.ensures.label_names c.label_name.ensures

pub with_labels-requires-clause-names : goal.with_labels-requires-clause-names
with_labels-requires-clause-names c =
    let system = c.args.now.now.system in
    let name = string_bytes c.in_ok-name.name in
    let is_name = new_is_name system.label_names c.label_name.result.now name
    (name_is_name c.args.lts.now.label_names c.index-first.result.now c.label_name.result.now c.is_well_formed.ensures.label_names
    c.label_name.ensures) c.requires.room c.in_ok-name.ensures in
    let names = pushed_name (λ (n : Bor (List ℕ)). n.now) system.label_names c.in_ok-names.names.items c.push.new.self.items c.as_str.result
    (string_bytes c.in_ok-name.name) c.as_str.ensures.value c.in_ok-names.ensures c.in_ok-push.ensures.items in
    subst AreNames (sym (ap (map (λ (n : Bor (List ℕ)). n.now)) c.deref.ensures.value ∙ names))
    (names_more system.label_names name c.is_well_formed-2.ensures.label_names is_name c.in_ok-name.ensures.free)

pub with_labels-requires-clause-few : goal.with_labels-requires-clause-few
with_labels-requires-clause-few c =
    let system = c.args.now.now.system in
    let names = pushed_name (λ (n : Bor (List ℕ)). n.now) system.label_names c.in_ok-names.names.items c.push.new.self.items c.as_str.result
    (string_bytes c.in_ok-name.name) c.as_str.ensures.value c.in_ok-names.ensures c.in_ok-push.ensures.items in
    let are = ap length (ap (map (λ (n : Bor (List ℕ)). n.now)) c.deref.ensures.value ∙ names) in
    let n = length-map c.deref.result.now (λ (n : Bor (List ℕ)). n.now) in
    let m = length-append system.label_names (string_bytes c.in_ok-name.name ∷ []) in
    let room = c.requires.room in
    omega arith

pub with_labels-requires-clause-within : goal.with_labels-requires-clause-within
with_labels-requires-clause-within c =
    let system = c.args.now.now.system in
    let names = pushed_name (λ (n : Bor (List ℕ)). n.now) system.label_names c.in_ok-names.names.items c.push.new.self.items c.as_str.result
    (string_bytes c.in_ok-name.name) c.as_str.ensures.value c.in_ok-names.ensures c.in_ok-push.ensures.items in
    let are = ap length (ap (map (λ (n : Bor (List ℕ)). n.now)) c.deref.ensures.value ∙ names) in
    let n = length-map c.deref.result.now (λ (n : Bor (List ℕ)). n.now) in
    let m = length-append system.label_names (string_bytes c.in_ok-name.name ∷ []) in
    labels_below system (reason_of c.args.reason.now) c.in_ok-relabelling.relabelling.label
    (length c.deref.result.now) c.deref-2.result.now c.is_well_formed-2.ensures.in_range (omega arith) (c.deref-2.ensures.value ∙ c.in_ok-relabelling.ensures.labels)

pub returns : goal.returns
returns c =
    let now = labelling_of c.args.now.now in
    let t = c.in_ok-relabelling.relabelling.label in
    let first = c.index-first.result.now in
    let name = string_bytes c.in_ok-name.name in
    let below = label_below now.system (reason_of c.args.reason.now) t c.is_well_formed-2.ensures c.requires.answer c.requires.has_label c.in_ok-relabelling.ensures.splits in
    let long = c.requires.apart.erases.each in
    let is : first ≡ old_label now.old t = c.index-first.ensures ∙ get_or_default now.old t first 0 (omega arith) in
    let names = pushed_name (λ (n : Bor (List ℕ)). n.now) now.system.label_names c.in_ok-names.names.items c.push.new.self.items c.as_str.result
    (string_bytes c.in_ok-name.name) c.as_str.ensures.value c.in_ok-names.ensures c.in_ok-push.ensures.items in
    let new : IsNewName now.system.label_names (first_name c.args.lts.now now.old t) name =
    subst (λ n. IsNewName now.system.label_names n name) (first_name_is c.args.lts.now now.old t first c.label_name.result.now is c.label_name.ensures) c.in_ok-name.ensures in
    let is = next_is c.args.lts.now (reason_of c.args.reason.now) now c.in_ok-system.system t first
    (map (λ (n : Bor (List ℕ)). n.now) c.deref.result.now) name c.deref-2.result.now c.push-2.new.self.items c.in_ok-relabelling.ensures.splits
    (c.deref-2.ensures.value ∙ c.in_ok-relabelling.ensures.labels) is new (ap (map (λ (n : Bor (List ℕ)). n.now)) c.deref.ensures.value ∙ names) c.in_ok-system.ensures
    (c.in_ok-push-2.ensures.items ∙ ap (λ ys. ys ++ first ∷ []) (c.in_ok-extend_from_slice.ensures.items ∙ ap (λ ys. ys ++ c.deref-3.result.now) c.new-old.ensures.items ∙ c.deref-3.ensures.value)) in
    record {
      is = is;
      known = known_next c.args.lts.now (reason_of c.args.reason.now) now
          (labelling c.in_ok-system.system c.push-2.new.self.items) is t
          (one_label now.system (reason_of c.args.reason.now) is.label t is.splits c.in_ok-relabelling.ensures.splits)
          c.is_well_formed-2.ensures.in_range below c.args.now.now.known.items c.in_ok-known.known.items c.requires.known
          (c.in_ok-known.ensures ∙ ap (map (with_copy t)) c.deref-4.ensures.value);
    }

pub lift-requires : goal.lift-requires
lift-requires c =
    let system = c.args.now.now.system in
    let below = label_below system (reason_of c.args.reason.now) c.in_ok-relabelling.relabelling.label c.is_well_formed-2.ensures c.requires.answer
    c.requires.has_label c.in_ok-relabelling.ensures.splits in
    let room = c.requires.room in
    record { each = (labels system, below, omega arith, subst (All (HasWeights (labels system))) (sym c.deref-4.ensures.value) (has_weights system c.args.now.now.known.items c.requires.known)) }
