use Rattle.std.proofs.Common.{◌≡◌, ◌++◌, [], if◌then◌else◌, is_some, map, ap, sym, ◌∙◌, append_assoc}
use Rattle.rg_theory.specs.System.{states}
use Rattle.rg_case_folds.specs.Rewriting.{all_numbers}
use Rattle.rg_rows.specs.View.{users}
use Rattle.rg_rows.proofs.Naming.{named_if, named_unless, shared_told}
use Rattle.rg_rows.proofs.names.push_shared.Goals as goal
use Rattle.rg_rows.proofs.names.push_shared.Goals.{then-columns+in_ok-push_tokens, else-columns, then-is_some+in_ok-push_caps, else-is_some}
use Rattle.rg_cert_meaning.specs.declared.RowName.TheVariants as row_name

pub returns-in_ok-push_downs : goal.returns-in_ok-push_downs
returns-in_ok-push_downs c =
    let class = c.args.class in
    let own = c.args.names.now.items in
    let start = c.if-columns.names.items in
    let capped = c.if-is_some.names.items in
    let tokens = map row_name.Tokens (all_numbers (states c.args.lts.now)) in
    let caps = map row_name.Cap (all_numbers (states c.args.lts.now)) in
    let ups = map row_name.Up (users c.args.columns.now.used.items) in
    let downs = map row_name.Down (users c.args.columns.now.used.items) in
    let first : start ≡ own ++ (if c.args.columns.now.start then tokens else []) = elim c.if-columns.branch [
      | then-columns+in_ok-push_tokens w ↦ named_if c.args.columns.now.start own tokens start w.if-columns.true
          (ap (λ v. v.items) w.names-is ∙ (rw w.states.ensures.value at w.in_ok-push_tokens.ensures))
      | else-columns w ↦ named_unless c.args.columns.now.start own tokens start w.if-columns.false (ap (λ v. v.items) w.names-is)
    ] in
    let second : capped ≡ start ++ (if is_some class.bound then caps else []) = elim c.if-is_some.branch [
      | then-is_some+in_ok-push_caps w ↦ named_if (is_some class.bound) start caps capped (sym c.is_some.ensures ∙ w.if-is_some.true)
          (ap (λ v. v.items) w.names-is ∙ (rw w.states-then-is_some.ensures.value at w.in_ok-push_caps.ensures))
      | else-is_some w ↦ named_unless (is_some class.bound) start caps capped (sym c.is_some.ensures ∙ w.if-is_some.false) (ap (λ v. v.items) w.names-is)
    ] in
    let third = named_if class.plain capped (ups ++ downs) c.push_downs.new.names.items c.if-class.true
    ((rw c.deref-then-class.ensures.value at c.in_ok-push_downs.ensures) ∙ ap (λ l. l ++ downs) (rw c.deref.ensures.value at c.in_ok-push_ups.ensures) ∙ append_assoc capped ups downs) in
    shared_told c.args.lts.now class c.args.columns.now c.requires own start capped _ first second third
