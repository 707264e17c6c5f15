use Rattle.std.proofs.Common.{reverse, subst, sym, ◌∙◌}
use Rattle.std.proofs.lemmas.List.{nil_from_length}
use Rattle.rg_branch.specs.Kept.{AreSaved, low_parents}
use Rattle.rg_branch.proofs.Keeping.{none_saved, copy_columns, rest_saved, copied_parent}
use Rattle.rg_branch.proofs.dictionaries.Dictionaries.restore.Goals as goal

pub returns-in_default-clause-saved : goal.returns-in_default-clause-saved
returns-in_default-clause-saved c = λ system forms sides next. rest_saved system forms c.args.self.now.copies.items c.pop.new.self.items _ sides next c.in_default.ensures.items

pub returns-in_default-2-clause-saved : goal.returns-in_default-2-clause-saved
returns-in_default-2-clause-saved c = λ system forms sides next saved turned some.
    let cases = rw c.in_default.is at c.pop.ensures.cases in
    subst (λ xs. AreSaved system forms (reverse xs) next) (sym (nil_from_length c.pop.new.self.items (sym c.pop.new.self.ok.0 ∙ cases.1))) (none_saved system forms (low_parents next))

pub restore-requires : goal.restore-requires
restore-requires c = let (system, forms, sides, saved, columns) = c.requires in record {
  columns = copy_columns system forms c.args.self.now.copies.items c.pop.new.self.items c.in-Some-Some.copy sides (rw c.in-Some-Some.field-0-is at c.in-Some-Some.ensures.items) saved
      ∙ sym columns;
}

pub returns-clause-saved : goal.returns-clause-saved
returns-clause-saved c = λ system forms sides next. rest_saved system forms c.args.self.now.copies.items c.pop.new.self.items _ sides next c.in-Some-Some.ensures.items

pub returns-clause-point : goal.returns-clause-point
returns-clause-point c = λ system forms sides next saved turned some yes. copied_parent system forms c.args.self.now.copies.items c.pop.new.self.items c.in-Some-Some.copy sides next
    c.restore.new.self (rw c.in-Some-Some.field-0-is at c.in-Some-Some.ensures.items) saved turned some c.restore.ensures.point
