use Rattle.std.proofs.Common.{ap, map, subst, sym, ◌∙◌}
use Rattle.rg_linear.specs.Dictionary.{numbers_from}
use Rattle.rg_linear.specs.View.{linear_row}
use Rattle.rg_feasible.specs.Contents.{IsDictionary, columns_alone}
use Rattle.rg_feasible.specs.View.{DescentState}
use Rattle.rg_feasible.proofs.Filling.{all_rows}
use Rattle.rg_feasible.proofs.dictionary.Dictionary.new.Goals as goal

-- its table without rows
start : (c : goal.After-add_rows) → IsDictionary (columns_alone c.columns.result) c.dictionary.inside.table
start c = subst (λ (d : DescentState). IsDictionary (columns_alone c.columns.result) d.table) (sym c.dictionary.view_is) (c.in_ok-dictionary.ensures {u = tt}).system

pub returns-clause-dictionary : goal.returns-clause-dictionary
returns-clause-dictionary c =
    let rows = map linear_row c.rows-rows.result.now in
    all_rows c.args.system.now c.columns.result rows c.add_rows.new.table c.columns.ensures.value c.rows-rows.ensures.value (c.add_rows.ensures.system _ (start c))

pub returns-clause-fresh : goal.returns-clause-fresh
returns-clause-fresh c =
    let members = ap (λ (d : DescentState). d.table.members) c.dictionary.view_is ∙ (c.in_ok-dictionary.ensures {u = tt}).members in
    record {
      system = c.args.system.now;
      dictionary = returns-clause-dictionary c;
      start = c.add_rows.ensures.members ∙ members ∙ ap (numbers_from 0) (sym (start c).columns ∙ sym c.add_rows.ensures.columns);
    }
