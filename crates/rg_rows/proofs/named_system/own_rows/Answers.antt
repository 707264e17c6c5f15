use Rattle.std.proofs.Common.{rules, ◌≡◌, List, map, length, Ok, Err, ap, subst, sym, ◌∙◌}
use Rattle.std.proofs.lemmas.List.{length-map}
use Rattle.rg_fraction.specs.declared.fold_stop.FoldStop.TheVariants as stop
use Rattle.rg_cert_meaning.specs.declared.RowName.{RowName}
use Rattle.rg_folds.specs.Fold.{each}
use Rattle.rg_case_parts.specs.SettingViews.{shown_case}
use Rattle.rg_rows.specs.View.{kept_row, row_in, fold_of, AreNamesWithin}
use Rattle.rg_rows.proofs.Terms.{own_within}
use Rattle.rg_rows.proofs.SharedCase.{own_fails}
use Rattle.rg_rows.proofs.named_system.own_rows.Goals as goal

pub rows-requires-clause-names : goal.rows-requires-clause-names
rows-requires-clause-names c =
    let named = c.deref.ensures.value ∙ c.in_ok-names.ensures in
    subst (AreNamesWithin (shown_case c.args.c)) (sym named) (own_within (shown_case c.args.c) c.requires.asked)

pub returns-clause-made : goal.returns-clause-made
returns-clause-made c =
    let named = c.deref.ensures.value ∙ c.in_ok-names.ensures in
    let own = c.in_ok-own.own.items in
    record {
      made = subst (λ (l : List RowName). each (fold_of (shown_case c.args.c)) l (Ok (map kept_row (map row_in own)))) named c.in_ok-own.ensures.comes;
      one_each = c.in_ok-own.ensures.one_each;
      many = length-map own row_in ∙ c.in_ok-own.ensures.few ∙ ap length named;
    }

pub returns-in_err-own-clause-wide : goal.returns-in_err-own-clause-wide
returns-in_err-own-clause-wide c = λ w e.
    let result : c.from_residual-in_err-own.result ≡ Err c.in_err-own.field-0.0 = search rules in
    let is : c.in_err-own.field-0.0 ≡ stop.Wide w = cc in
    own_fails (shown_case c.args.c) c.deref.result.now (c.deref.ensures.value ∙ c.in_ok-names.ensures) w (rw is at c.in_err-own.ensures.comes)
