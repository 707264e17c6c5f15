use Rattle.std.proofs.Common.{ℕ, List, Bor, length, map, ap, ◌∙◌, arith}
use Rattle.std.specs.List.{range_with_len}
use Rattle.std.proofs.lemmas.List.{length-map}
use Rattle.rg_theory.specs.declared.Arc.{Arc}
use Rattle.rg_split.proofs.RoundSteps.{first_is, labels_in_range}
use Rattle.rg_split.proofs.round.first_labelling.Goals as goal

pub with_labels-requires-clause-within : goal.with_labels-requires-clause-within
with_labels-requires-clause-within c =
    let are = ap (map (λ (n : Bor (List ℕ)). n.now)) c.deref.ensures.value ∙ c.in_ok-names.ensures in
    let n = ap length are in
    let m = length-map c.deref.result.now (λ (n : Bor (List ℕ)). n.now) in
    labels_in_range c.args.lts.now c.deref-2.result.now (length c.deref.result.now) c.is_well_formed.ensures.in_range
    (c.deref-2.ensures.value ∙ c.in_ok-labels.ensures ∙ ap (map (λ (a : Arc). a.label)) c.arcs.ensures.value) (omega arith)

pub returns-clause-itself : goal.returns-clause-itself
returns-clause-itself c =
    first_is c.args.lts.now c.in_ok-system.system (map (λ (n : Bor (List ℕ)). n.now) c.deref.result.now) c.deref-2.result.now c.in_ok-old.old.items c.is_well_formed.ensures
    (ap (map (λ (n : Bor (List ℕ)). n.now)) c.deref.ensures.value ∙ c.in_ok-names.ensures) (c.deref-2.ensures.value ∙ c.in_ok-labels.ensures ∙ ap (map (λ (a : Arc). a.label)) c.arcs.ensures.value)
    c.in_ok-system.ensures (c.in_ok-old.ensures ∙ ap (range_with_len 0) c.labels.ensures.value)
