use Rattle.std.proofs.Common.{◌≡◌, ◌-◌, length, subst, sym}
use Rattle.rg_integers.proofs.Casts.{back}
use Rattle.rg_linear.specs.Dictionary.{numbers_from}
use Rattle.rg_feasible.specs.Contents.{Contents, IsDictionary}
use Rattle.rg_feasible.proofs.Storing.{dictionary_pushed}
use Rattle.rg_feasible.proofs.relation_table.RelationTable.push_row.Goals as goal

pub returns-clause-system : goal.returns-clause-system
returns-clause-system c = λ system d.
    let old = subst (IsDictionary system) (sym c.self.view_is) d in
    let start = subst (λ (v : Contents). v.members ≡ numbers_from 0 v.columns) (sym c.self.view_is) c.requires.before_exchanges in
    let size = subst (λ (v : Contents). length c.args.coeffs.now ≡ v.columns) (sym c.self.view_is) c.requires.one_each in
    let is = rw (back c.args.constant c.requires.constant_in_range) at c.append_row.ensures.items in
    dictionary_pushed system c.self.inside.columns c.self.inside.rows c.self.inside.room (c.self.inside.room - 1) c.self.inside.members.items c.self.inside.table.items c.append_row.new.table.items
    c.args.coeffs.now c.args.constant old start size is
