-- What the map has.
use Rattle.std.proofs.Common.{◌≡◌, ◌∙◌, subst, map, string_bytes, ℕ}
use Rattle.std.specs.BTreeMap.{get_by_text}
use Rattle.rg_lts.specs.Slots.{IsInSlot}
use Rattle.rg_lts.proofs.Entering.{found_in_map, index_in_map, lacks}
use Rattle.rg_lts.proofs.name_list.NameList.number_of.Goals as goal

pub returns-in-None-clause-found : goal.returns-in-None-clause-found
returns-in-None-clause-found c =
    let inside = c.self.inside in
    let is : c.copied.result ≡ get_by_text inside.others c.args.name.now = c.copied.ensures ∙ c.get.ensures.value in
    rw (← c.self.view_is) (found_in_map (map string_bytes inside.names.items) inside.slots.items inside.others c.args.name.now c.copied.result is c.self.invariant)

pub returns-in-None-clause-within : goal.returns-in-None-clause-within
returns-in-None-clause-within c =
    let inside = c.self.inside in
    let is : c.copied.result ≡ get_by_text inside.others c.args.name.now = c.copied.ensures ∙ c.get.ensures.value in
    rw (← c.self.view_is) (index_in_map (map string_bytes inside.names.items) inside.slots.items inside.others c.args.name.now c.copied.result is c.self.invariant)

pub returns-in-None-clause-none : goal.returns-in-None-clause-none
returns-in-None-clause-none c =
    let inside = c.self.inside in
    let is : c.copied.result ≡ get_by_text inside.others c.args.name.now = c.copied.ensures ∙ c.get.ensures.value in
    let nowhere = subst (λ slots. (i : ℕ) → IsInSlot (map string_bytes inside.names.items) slots c.args.name.now i → ⊥) c.deref-2.ensures.value
    (subst (λ names. (i : ℕ) → IsInSlot (map string_bytes names) c.deref-2.result.now c.args.name.now i → ⊥) c.deref.ensures.value c.in-None.ensures.none) in
    rw (← c.self.view_is) (lacks (map string_bytes inside.names.items) inside.slots.items inside.others c.args.name.now c.copied.result nowhere is c.self.invariant)
