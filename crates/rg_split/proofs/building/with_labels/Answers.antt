use Rattle.std.proofs.Common.{◌≡◌, ℕ, List, Bor, map, ap, sym, subst, ◌∙◌, arith}
use Rattle.std.proofs.lemmas.List.{length-map}
use Rattle.rg_line_formats.specs.Parts.{AreParts, IsSystemWith}
use Rattle.rg_split.specs.Building.{arcs_with}
use Rattle.rg_split.proofs.OtherLabels.{parts_are}
use Rattle.rg_split.proofs.building.with_labels.Goals as goal

pub build-requires : goal.build-requires
build-requires c =
    let of = c.args.of.now in
    let names : List (List ℕ) = map (λ (n : Bor (List ℕ)). n.now) c.args.names.now in
    let steps = arcs_with c.args.labels.now of.arcs in
    let is_states : map (λ (n : Bor (List ℕ)). n.now) c.deref.result.now ≡ of.state_names = ap (map (λ (n : Bor (List ℕ)). n.now)) c.deref.ensures.value ∙ c.in_ok-states.ensures in
    let is_arcs : c.deref-2.result.now ≡ steps = c.deref-2.ensures.value ∙ c.in_ok-arcs.ensures ∙ ap (arcs_with c.args.labels.now) c.arcs.ensures.value in
    let n = length-map c.args.names.now (λ (n : Bor (List ℕ)). n.now) in
    let few = c.requires.few in
    let parts : AreParts of.state_names names steps of.initial =
    parts_are of names c.args.labels.now c.is_well_formed.ensures c.requires.names (omega arith) c.requires.each (λ k d lt. (let less = c.requires.within k d lt in omega arith)) in
    subst (λ l. AreParts l names c.deref-2.result.now c.initial.result) (sym is_states)
    (subst (λ l. AreParts of.state_names names l c.initial.result) (sym is_arcs) (subst (AreParts of.state_names names steps) (sym c.initial.ensures.value) parts))

pub returns : goal.returns
returns c =
    let of = c.args.of.now in
    let names : List (List ℕ) = map (λ (n : Bor (List ℕ)). n.now) c.args.names.now in
    let made = c.in_ok-build.field-0 in
    let is_states : map (λ (n : Bor (List ℕ)). n.now) c.deref.result.now ≡ of.state_names = ap (map (λ (n : Bor (List ℕ)). n.now)) c.deref.ensures.value ∙ c.in_ok-states.ensures in
    let is_arcs : c.deref-2.result.now ≡ arcs_with c.args.labels.now of.arcs = c.deref-2.ensures.value ∙ c.in_ok-arcs.ensures ∙ ap (arcs_with c.args.labels.now) c.arcs.ensures.value in
    subst (λ s. IsSystemWith of.state_names names (arcs_with c.args.labels.now of.arcs) s made) c.initial.ensures.value
    (subst (λ l. IsSystemWith of.state_names names l c.initial.result made) is_arcs
    (subst (λ l. IsSystemWith l names c.deref-2.result.now c.initial.result made) is_states c.in_ok-build.ensures))
