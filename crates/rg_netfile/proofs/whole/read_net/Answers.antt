use Rattle.std.proofs.Common.{◌≢◌, ℕ, List, ap, subst}
use Rattle.std.proofs.lemmas.Result.{err_from_is_err_and}
use Rattle.rg_text.specs.Faults.{IsFirst, AreNone}
use Rattle.rg_theory.specs.System.{System}
use Rattle.rg_net_grammar.specs.Contents.{Declared}
use Rattle.rg_net_grammar.specs.Text.{FirstItemFault}
use Rattle.rg_grammar.specs.declared.fault.ItemFault.{ItemFault}
use Rattle.rg_grammar.specs.declared.fault.ItemFault.TheVariants as item
use Rattle.rg_netfile.specs.declared.fault.NetFault.TheVariants.{NoMemory}
use Rattle.rg_netfile.specs.Contents.{faults, IsNetOf}
use Rattle.rg_netfile.specs.Spells.{FirstFault, of_items, in_items, in_net}
use Rattle.rg_netfile.proofs.whole.read_net.Goals as goal

of_item : (bytes : List ℕ) (lts : System) (e : ItemFault) → (e ≢ item.NoMemory → FirstItemFault bytes e) → of_items e ≢ NoMemory → FirstFault bytes lts (of_items e)
of_item bytes lts e first memory = in_items e (first (λ same. memory (ap of_items same)))

pub returns-in_err-found-clause-fault : goal.returns-in_err-found-clause-fault
returns-in_err-found-clause-fault c =
    let p = err_from_is_err_and c.from_residual.result c.from_residual.ensures.1 in
    rw (p.1, p.2) (of_item c.args.bytes.now c.args.lts.now c.in_err-found.field-0.0 c.in_err-found.ensures.fault)

pub returns-clause-ok : goal.returns-clause-ok
returns-clause-ok c =
    let r = c.in_ok-found.ensures.ok in (
      r.0,
      r.1,
      subst (λ (d : Declared). AreNone (faults c.args.lts.now d)) r.2 c.in_ok-net.ensures.none,
      subst (λ (d : Declared). IsNetOf c.args.lts.now d c.in_ok-net.net) r.2 c.in_ok-net.ensures.net,
    )

pub returns-in_err-net-clause-fault : goal.returns-in_err-net-clause-fault
returns-in_err-net-clause-fault c =
    let p = err_from_is_err_and c.from_residual-in_err-net.result c.from_residual-in_err-net.ensures.1 in
    let r = c.in_ok-found.ensures.ok in
    rw (p.1, p.2)
    (λ memory. in_net r.0 c.in_err-net.field-0.0 r.1 (subst (λ (d : Declared). IsFirst (faults c.args.lts.now d) c.in_err-net.field-0.0) r.2 (c.in_err-net.ensures.fault memory)))
