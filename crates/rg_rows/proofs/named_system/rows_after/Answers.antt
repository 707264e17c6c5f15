use Rattle.std.proofs.Common.{rules, ◌≡◌, ◌++◌, All, Vec, Global, map, drop, length, Ok, Err, ap, subst, sym, ◌∙◌}
use Rattle.std.proofs.lemmas.List.{map-append, take_rest}
use Rattle.std.proofs.lemmas.List.Elements.{All-append}
use Rattle.rg_folds.specs.Fold.{each}
use Rattle.rg_case_folds.proofs.Comes.{comes_unless}
use Rattle.rg_case_parts.specs.SettingViews.{shown_case}
use Rattle.rg_rows.specs.declared.case_row.CaseRow.{CaseRow}
use Rattle.rg_rows.specs.declared.held_row.HeldRow.{HeldRow}
use Rattle.rg_rows.specs.View.{kept_row, row_in, columns_in, fold_of}
use Rattle.rg_rows.proofs.Joining.{after_known, fails_after_known}
use Rattle.rg_rows.proofs.named_system.rows_after.Goals as goal

pub returns-in_err-more-clause-comes : goal.returns-in_err-more-clause-comes
returns-in_err-more-clause-comes c =
    let s = shown_case c.args.c in
    let result : c.from_residual.result ≡ Err c.in_err-more.field-0.0 = search rules in
    let many : c.len.result ≡ length c.args.known.items = search rules in
    let rest = take_rest c.args.names.now c.len.result ∙ ap (λ n. drop n c.args.names.now) many in
    rw result (comes_unless (each (fold_of s) c.args.names.now) (λ (v : Vec HeldRow Global). map kept_row (map row_in v.items)) c.in_err-more.field-0.0
    (λ w is. fails_after_known (fold_of s) c.args.names.now (length c.args.known.items) (map kept_row (map row_in c.args.known.items)) c.requires.known.made w
    (subst (λ l. each (fold_of s) l (Err w)) rest (rw is at c.in_err-more.ensures.comes))))

pub returns-clause-comes : goal.returns-clause-comes
returns-clause-comes c =
    let s = shown_case c.args.c in
    let many : c.len.result ≡ length c.args.known.items = search rules in
    let rest = take_rest c.args.names.now c.len.result ∙ ap (λ n. drop n c.args.names.now) many in
    let known = map row_in c.args.known.items in
    let more = map row_in c.in_ok-more.more.items in
    let items : map row_in c.append.new.self.items ≡ known ++ more = ap (map row_in) c.in_ok-append.ensures.items ∙ map-append row_in c.args.known.items c.in_ok-more.more.items in
    subst (λ l. each (fold_of s) c.args.names.now (Ok l)) (sym (ap (map kept_row) items ∙ map-append kept_row known more))
    (after_known (fold_of s) c.args.names.now (length c.args.known.items) (map kept_row known) c.requires.known.made (map kept_row more)
    (subst (λ l. each (fold_of s) l (Ok (map kept_row more))) rest c.in_ok-more.ensures.comes))

pub returns-clause-one_each : goal.returns-clause-one_each
returns-clause-one_each c =
    let known = map row_in c.args.known.items in
    let more = map row_in c.in_ok-more.more.items in
    let items : map row_in c.append.new.self.items ≡ known ++ more = ap (map row_in) c.in_ok-append.ensures.items ∙ map-append row_in c.args.known.items c.in_ok-more.more.items in
    let lengths = λ (r : CaseRow). length r.coeffs.items ≡ columns_in (shown_case c.args.c).setting in
    subst (All lengths) (sym items) (All-append lengths known more c.requires.known.one_each c.in_ok-more.ensures.one_each)
