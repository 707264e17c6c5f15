use Rattle.std.proofs.Common.{◌≡◌, List, ◌∷◌, [], map, Result, Ok, Err, IfOk, ap, sym, subst, ◌∙◌, arith}
use Rattle.std.proofs.lemmas.List.{length-map}
use Rattle.rg_memory.specs.declared.NoMemory.{NoMemory}
use Rattle.rg_theory.specs.System.{System, labels}
use Rattle.rg_theory.specs.ClassWords.{no_condition}
use Rattle.rg_theory.specs.declared.Problem.{Problem}
use Rattle.rg_theory.specs.declared.Problem.TheVariants as problem
use Rattle.rg_cert_meaning.specs.Refutes.{Tree, Reason.refuted as of_trees}
use Rattle.rg_cert_data.specs.declared.certificate.Reason.{Reason}
use Rattle.rg_cert_data.specs.Certificates.{reason_of, case_tree, IsWhole, HasWholeCases}
use Rattle.rg_outcome.specs.Outcome.{Out, Answer.unsolvable as of_reason}
use Rattle.rg_split.specs.Parts.{SplitsLabel}
use Rattle.rg_split.specs.Rounds.{relabelled}
use Rattle.rg_split.specs.Leaves.{IsPartOfTree}
use Rattle.rg_split.specs.declared.relabelling.Relabelling.{Relabelling}
use Rattle.rg_split.proofs.LeafParts.{first_refutes, some_tree, first_case, leaf_splits}
use Rattle.rg_split.proofs.relabelling.relabelling_of.Goals as goal

abbrev Labels : System → Reason → Relabelling → Type 0
Labels lts reason p = p.labels.items ≡ map (λ a. (relabelled (reason_of reason) p.label (labels lts) a).label) lts.arcs

-- what the first case splits, the reason splits
splits_of : (lts : System) (reason : Reason) (p : Problem) (first : Tree) (more : List Tree) (r : Result Relabelling NoMemory)
    → reason_of reason ≡ of_trees p (first ∷ more) → IfOk r (λ x. IsPartOfTree lts first x.label x.labels.items)
    → IfOk r (λ x. SplitsLabel lts (reason_of reason) x.label)
splits_of lts reason p first more (Ok x) is relabelling = subst (λ s. SplitsLabel lts s x.label) (sym is) (leaf_splits lts p first more x.label x.labels.items relabelling).0
splits_of lts reason p first more (Err e) is relabelling = tt

labels_of : (lts : System) (reason : Reason) (p : Problem) (first : Tree) (more : List Tree) (r : Result Relabelling NoMemory)
    → reason_of reason ≡ of_trees p (first ∷ more) → IfOk r (λ x. IsPartOfTree lts first x.label x.labels.items)
    → IfOk r (Labels lts reason)
labels_of lts reason p first more (Ok x) is relabelling =
    subst (λ s. x.labels.items ≡ map (λ a. (relabelled s x.label (labels lts) a).label) lts.arcs) (sym is) (leaf_splits lts p first more x.label x.labels.items relabelling).1
labels_of lts reason p first more (Err e) is relabelling = tt

pub case_relabelling-requires-clause-refutes : goal.case_relabelling-requires-clause-refutes
case_relabelling-requires-clause-refutes c =
    let out = subst (λ r. Out c.args.of.now no_condition (of_reason (reason_of r))) c.in-Event.is c.requires.answer in
    first_refutes c.args.of.now (problem.Event c.in-Event.field-0 c.in-Event.field-1) (case_tree c.in-Event.case) [] c.is_well_formed.ensures out

pub index-requires : goal.index-requires
index-requires c =
    let out = subst (λ r. Out c.args.of.now no_condition (of_reason (reason_of r))) c.in-States.is c.requires.answer in
    let some = some_tree c.args.of.now (problem.States c.in-States.field-0 c.in-States.field-1) (map case_tree c.in-States.cases.items) c.is_well_formed.ensures out in
    let n = length-map c.in-States.cases.items case_tree in
    let ok = c.in-States.cases.ok.0 in
    omega arith

pub case_relabelling-requires-in-States-clause-whole : goal.case_relabelling-requires-in-States-clause-whole
case_relabelling-requires-in-States-clause-whole c =
    let out = subst (λ r. Out c.args.of.now no_condition (of_reason (reason_of r))) c.in-States.is c.requires.answer in
    let some = some_tree c.args.of.now (problem.States c.in-States.field-0 c.in-States.field-1) (map case_tree c.in-States.cases.items) c.is_well_formed.ensures out in
    let n = length-map c.in-States.cases.items case_tree in
    let whole = subst HasWholeCases c.in-States.is c.requires.whole in
    subst IsWhole (sym c.index.ensures) (whole 0 c.index.result.now (omega arith))

pub case_relabelling-requires-in-States-clause-refutes : goal.case_relabelling-requires-in-States-clause-refutes
case_relabelling-requires-in-States-clause-refutes c =
    let out = subst (λ r. Out c.args.of.now no_condition (of_reason (reason_of r))) c.in-States.is c.requires.answer in
    let p = problem.States c.in-States.field-0 c.in-States.field-1 in
    let some = some_tree c.args.of.now p (map case_tree c.in-States.cases.items) c.is_well_formed.ensures out in
    let n = length-map c.in-States.cases.items case_tree in
    let first = first_case c.in-States.cases.items c.index.result.now (omega arith) c.index.ensures in
    first_refutes c.args.of.now p (case_tree c.index.result.now) first.0 c.is_well_formed.ensures
    (subst (λ ts. Out c.args.of.now no_condition (of_reason (of_trees p ts))) first.1 out)

pub returns-in-Event-clause-labels : goal.returns-in-Event-clause-labels
returns-in-Event-clause-labels c =
    labels_of c.args.of.now c.args.reason.now (problem.Event c.in-Event.field-0 c.in-Event.field-1)
    (case_tree c.in-Event.case) [] c.case_relabelling.result (ap reason_of c.in-Event.is) c.case_relabelling.ensures

pub returns-in-States-clause-splits : goal.returns-in-States-clause-splits
returns-in-States-clause-splits c =
    let out = subst (λ r. Out c.args.of.now no_condition (of_reason (reason_of r))) c.in-States.is c.requires.answer in
    let p = problem.States c.in-States.field-0 c.in-States.field-1 in
    let some = some_tree c.args.of.now p (map case_tree c.in-States.cases.items) c.is_well_formed.ensures out in
    let n = length-map c.in-States.cases.items case_tree in
    let first = first_case c.in-States.cases.items c.index.result.now (omega arith) c.index.ensures in
    splits_of c.args.of.now c.args.reason.now p (case_tree c.index.result.now) first.0 c.case_relabelling-in-States.result
    (ap reason_of c.in-States.is ∙ ap (of_trees p) first.1) c.case_relabelling-in-States.ensures

pub returns-in-States-clause-labels : goal.returns-in-States-clause-labels
returns-in-States-clause-labels c =
    let out = subst (λ r. Out c.args.of.now no_condition (of_reason (reason_of r))) c.in-States.is c.requires.answer in
    let p = problem.States c.in-States.field-0 c.in-States.field-1 in
    let some = some_tree c.args.of.now p (map case_tree c.in-States.cases.items) c.is_well_formed.ensures out in
    let n = length-map c.in-States.cases.items case_tree in
    let first = first_case c.in-States.cases.items c.index.result.now (omega arith) c.index.ensures in
    labels_of c.args.of.now c.args.reason.now p (case_tree c.index.result.now) first.0 c.case_relabelling-in-States.result
    (ap reason_of c.in-States.is ∙ ap (of_trees p) first.1) c.case_relabelling-in-States.ensures
