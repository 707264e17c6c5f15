use Rattle.std.proofs.Common.{◌≢◌, ℕ, List, ap, subst}
use Rattle.std.proofs.lemmas.Result.{err_from_is_err_and}
use Rattle.rg_text.specs.Faults.{IsFirst, AreNone}
use Rattle.rg_grammar.specs.declared.fault.ItemFault.{ItemFault}
use Rattle.rg_grammar.specs.declared.fault.ItemFault.TheVariants as item
use Rattle.rg_grammar.specs.Text.{FirstItemFault}
use Rattle.rg_grammar.proofs.Described.{found_items}
use Rattle.rg_apt.specs.declared.fault.TextFault.TheVariants.{NoMemory}
use Rattle.rg_apt.specs.Item.{AreItems}
use Rattle.rg_apt.specs.Contents.{Declared, declared, faults, IsSystemOf}
use Rattle.rg_apt.specs.View.{found_in}
use Rattle.rg_apt.specs.Reading.{system_grammar}
use Rattle.rg_apt.specs.Spells.{FirstFault, of_items, in_items, in_system}
use Rattle.rg_apt.proofs.Grammars.{describes}
use Rattle.rg_apt.proofs.whole.read_lts.Goals as goal

of_item : (bytes : List ℕ) (e : ItemFault) → (e ≢ item.NoMemory → FirstItemFault system_grammar bytes e) → of_items e ≢ NoMemory → FirstFault bytes (of_items e)
of_item bytes e first memory = in_items e (first (λ same. memory (ap of_items same)))

pub returns-in_err-found-clause-fault : goal.returns-in_err-found-clause-fault
returns-in_err-found-clause-fault c =
    let p = err_from_is_err_and c.from_residual.result c.from_residual.ensures.1 in
    rw (p.1, p.2) (of_item c.args.bytes.now c.in_err-found.field-0.0 c.in_err-found.ensures.fault)

pub returns-clause-ok : goal.returns-clause-ok
returns-clause-ok c =
    let r = c.in_ok-found.ensures.ok in
    let items = found_items system_grammar AreItems declared describes r.0 (found_in c.args.bytes.now c.in_ok-found.found) r.2 in (
      r.0,
      items.0,
      r.1,
      items.1,
      subst (λ (d : Declared). AreNone (faults d)) items.2 c.in_ok-lts.ensures.none,
      subst (λ (d : Declared). IsSystemOf d c.in_ok-lts.lts) items.2 c.in_ok-lts.ensures.system,
    )

pub returns-in_err-lts-clause-fault : goal.returns-in_err-lts-clause-fault
returns-in_err-lts-clause-fault c =
    let p = err_from_is_err_and c.from_residual-in_err-lts.result c.from_residual-in_err-lts.ensures.1 in
    let r = c.in_ok-found.ensures.ok in
    let items = found_items system_grammar AreItems declared describes r.0 (found_in c.args.bytes.now c.in_ok-found.found) r.2 in
    rw (p.1, p.2)
    (λ memory. in_system r.0 items.0 c.in_err-lts.field-0.0 r.1 items.1 (subst (λ (d : Declared). IsFirst (faults d) c.in_err-lts.field-0.0) items.2 (c.in_err-lts.ensures.fault memory)))
