use Rattle.std.proofs.Common.{ap, sym, ◌∙◌, ◌-◌, ◌++◌, ◌∷◌, [], map, take, Ok, Err, Result}
use Rattle.std.specs.Prelude.{OnOk}
use Rattle.rg_linear.specs.Branching.{side_row}
use Rattle.rg_linear.specs.View.{linear_row}
use Rattle.rg_branch.specs.View.{forms_of}
use Rattle.rg_branch.proofs.Sides.{turns_to}
use Rattle.rg_branch.proofs.splits.Splits.turn.Goals as goal

pub push_row-requires-clause-side : goal.push_row-requires-clause-side
push_row-requires-clause-side c =
    let item = rw c.deref.ensures.value at c.in-Some.ensures.item in
    (turns_to (forms_of c.args.forms.now) c.args.self.now.above.items c.args.self.now.rows.items c.turn.new.above.items c.in-Some.field-0.now
    c.requires.sides.each c.requires.rows c.turn.ensures item.3.0 (sym item.1)).asked

on_ok : {A E : Type 0} (P Q : Type 0) (r : Result A E) → OnOk r P → (P → Q) → OnOk r Q
on_ok P Q (Ok x) p f = f p
on_ok P Q (Err e) p f = tt

pub returns-clause-rows : goal.returns-clause-rows
returns-clause-rows c =
    let item = rw c.deref.ensures.value at c.in-Some.ensures.item in
    let t = turns_to (forms_of c.args.forms.now) c.args.self.now.above.items c.args.self.now.rows.items c.turn.new.above.items c.in-Some.field-0.now
    c.requires.sides.each c.requires.rows c.turn.ensures item.3.0 (sym item.1) in
    on_ok _ _ c.push_row.result c.push_row.ensures
    (λ e. e ∙ ap (λ xs. map linear_row xs ++ side_row (forms_of c.args.forms.now) c.in-Some.field-0.now ∷ [])
    (c.truncate.ensures.items ∙ ap (λ n. take (n - 1) c.args.self.now.rows.items) (c.len.ensures ∙ c.turn.new.above.ok.0)) ∙ t.rows_are)
