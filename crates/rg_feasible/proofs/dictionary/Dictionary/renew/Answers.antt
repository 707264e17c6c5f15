use Rattle.std.proofs.Common.{ap, map, ◌++◌, subst, sym, ◌∙◌}
use Rattle.rg_linear.specs.Dictionary.{numbers_from}
use Rattle.rg_linear.specs.View.{linear_row}
use Rattle.rg_feasible.specs.Contents.{IsDictionary, columns_alone}
use Rattle.rg_feasible.specs.View.{DescentState}
use Rattle.rg_linear.specs.System.{with_rows}
use Rattle.rg_feasible.proofs.Filling.{all_rows, own_well_formed, shared_well_formed, further_well_formed}
use Rattle.rg_feasible.proofs.dictionary.Dictionary.renew.Goals as goal

pub add_rows-requires-clause-well_formed : goal.add_rows-requires-clause-well_formed
add_rows-requires-clause-well_formed c =
    let columns = ap (λ (d : DescentState). d.table.columns) c.self.view_is ∙ (c.in_ok-restart.ensures {u = tt}).system.columns ∙ c.columns.ensures.value in
    own_well_formed c.args.system.now c.self.inside.table.columns c.lists.result.0.now c.lists.result.1.now columns c.lists.ensures.value c.lists.ensures.well_formed

pub add_rows-requires-2-clause-well_formed : goal.add_rows-requires-2-clause-well_formed
add_rows-requires-2-clause-well_formed c =
    let columns = ap (λ (d : DescentState). d.table.columns) c.self.view_is ∙ (c.in_ok-restart.ensures {u = tt}).system.columns ∙ c.columns.ensures.value in
    let same = c.add_rows.ensures.columns ∙ columns in
    shared_well_formed c.args.system.now c.add_rows.new.table.columns c.lists.result.0.now c.lists.result.1.now same c.lists.ensures.value c.lists.ensures.well_formed

pub add_rows-requires-3-clause-well_formed : goal.add_rows-requires-3-clause-well_formed
add_rows-requires-3-clause-well_formed c =
    let columns = ap (λ (d : DescentState). d.table.columns) c.self.view_is ∙ (c.in_ok-restart.ensures {u = tt}).system.columns ∙ c.columns.ensures.value in
    let same = c.add_rows-2.ensures.columns ∙ c.add_rows.ensures.columns ∙ columns in
    further_well_formed c.args.system.now c.add_rows-2.new.table.columns c.args.further.now same c.requires

pub returns-clause-dictionary : goal.returns-clause-dictionary
returns-clause-dictionary c =
    let start = subst (λ (d : DescentState). IsDictionary (columns_alone c.columns.result) d.table) (sym c.self.view_is) (c.in_ok-restart.ensures {u = tt}).system in
    let own = c.add_rows.ensures.system _ start in
    let rows = map linear_row c.lists.result.0.now ++ map linear_row c.lists.result.1.now in
    let whole = all_rows c.args.system.now c.columns.result rows c.add_rows-2.new.table c.columns.ensures.value c.lists.ensures.value (c.add_rows-2.ensures.system _ own) in
    c.add_rows-3.ensures.system _ whole

pub returns-clause-fresh : goal.returns-clause-fresh
returns-clause-fresh c =
    let whole = returns-clause-dictionary c in
    let members = ap (λ (d : DescentState). d.table.members) c.self.view_is ∙ (c.in_ok-restart.ensures {u = tt}).members in
    record {
      system = with_rows c.args.system.now (map linear_row c.args.further.now);
      dictionary = whole;
      start = c.add_rows-3.ensures.members ∙ c.add_rows-2.ensures.members ∙ c.add_rows.ensures.members ∙ members ∙ ap (numbers_from 0) (c.columns.ensures.value ∙ sym whole.columns);
    }
