use Rattle.std.proofs.Common.{◌≡◌, ◌++◌, [], if◌then◌else◌, map, ap, ◌∙◌}
use Rattle.rg_cert_meaning.specs.Row.{case_consumer}
use Rattle.rg_rows.specs.View.{makers}
use Rattle.rg_rows.proofs.Naming.{named_if, named_unless, names_told}
use Rattle.rg_rows.proofs.names.names.Goals as goal
use Rattle.rg_rows.proofs.names.names.Goals.{then-class+in_ok-push_makes, else-class}
use Rattle.rg_cert_meaning.specs.declared.RowName.TheVariants as row_name

pub returns : goal.returns
returns c =
    let class = c.args.c.setting.class in
    let own = c.in_ok-names.names.items in
    let sided = c.push_shared.new.names.items in
    let all = c.if-class.names.items in
    let makes = map row_name.Makes (makers c.args.columns.now.used.items (case_consumer c.args.c.setting.lts.now c.args.c.problem c.args.c.number)) in
    let last : all ≡ sided ++ (if class.nonbranching then makes else []) = elim c.if-class.branch [
      | then-class+in_ok-push_makes w ↦ named_if class.nonbranching sided makes all w.if-class.true
          (ap (λ v. v.items) w.names-is ∙ (rw (w.deref.ensures.value, w.consumer.ensures, w.problem_case.ensures.problem, w.problem_case.ensures.number) at w.in_ok-push_makes.ensures))
      | else-class w ↦ named_unless class.nonbranching sided makes all w.if-class.false (ap (λ v. v.items) w.names-is)
    ] in
    names_told c.args.c.setting.lts.now class c.args.c.problem c.args.c.number c.args.columns.now c.requires.columns own sided all c.in_ok-names.ensures c.in_ok-push_shared.ensures last
