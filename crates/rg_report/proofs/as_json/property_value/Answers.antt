-- A value more for a name more, and at the end the list of all names.
use Rattle.std.proofs.Common.{◌≡◌, ◌∙◌, ℕ, List, Bor, map, sym, ap, subst, arith, option_map}
use Rattle.std.proofs.lemmas.List.{take_all}
use Rattle.serde_json.specs.Data.{string, array}
use Rattle.serde_json.specs.View.{view, items_of}
use Rattle.serde_json.proofs.Views.{view-Array}
use Rattle.serde_json.specs.declared.value.Value.{Array}
use Rattle.rg_report.specs.Value.{property_data, strings}
use Rattle.rg_report.proofs.JsonTexts.{strings_of}
use Rattle.rg_report.proofs.as_json.property_value.Goals as goal

pub returns : goal.returns
returns c =
    let names = c.deref-name-items.result.now in
    let past = c.loop-name-test.false in
    let all = ap (map (λ (name : Bor (List ℕ)). string name.now)) (take_all c.loop-name.name-index names (omega (arith, past))) in
    let whole = ap items_of (c.loop-name.invariant ∙ all) ∙ strings_of names in
    subst (λ o. view (Array c.loop-name.items) ≡ property_data (option_map (λ all. map (λ (name : Bor (List ℕ)). name.now) all.items) o)) (sym c.in-Some.is)
    (view-Array c.loop-name.items ∙ ap array (whole ∙ ap (λ xs. strings (map (λ (name : Bor (List ℕ)). name.now) xs)) c.deref-name-items.ensures.value))
