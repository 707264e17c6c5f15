use Rattle.std.proofs.Common.{◌≡◌, ◌≢◌, ℕ, List, Bor, map, refl, sym, subst, ◌∙◌}
use Rattle.std.proofs.lemmas.Result.{err_from_is_err_and}
use Rattle.rg_cert.specs.declared.table.LineForm.{LineForm}
use Rattle.rg_cert.specs.Lines.{HasFieldForm, AreAsked, fields_of, short, long, refused, follows}
use Rattle.rg_cert.specs.Faults.{BeginsWith, IsRight}
use Rattle.rg_cert.specs.Drafts.{IsWrong}
use Rattle.rg_cert.specs.View.{line_form_in, position_in}
use Rattle.rg_cert.proofs.LineTexts.{from_fields, all_fields}
use Rattle.rg_cert.proofs.NextLines.{breaks, goes, no_line, no_form, refused_form, begins_with, not_refused, wrong_line}
use Rattle.rg_cert.proofs.good_line.good_line.Goals as goal

abbrev texts_of : List (Bor (List ℕ)) → List (List ℕ)
texts_of items = map (λ w. w.now) items

pub returns-in_default-clause-err : goal.returns-in_default-clause-err
returns-in_default-clause-err c =
    λ _. (
      refl,
      breaks (position_in c.args.position) c.args.text.now (goes c.args.position c.requires.going)
          (no_line (position_in c.args.position) c.args.text.now c.in_default.ensures.none),
    )

pub returns-in_default-form_of-clause-err : goal.returns-in_default-form_of-clause-err
returns-in_default-form_of-clause-err c =
    let first = c.in-Some.ensures.some in
    let none : (f : LineForm) → ¬ AreAsked HasFieldForm (fields_of (line_form_in f)) (texts_of c.in_ok-texts.texts.items) =
    subst (λ l. (f : LineForm) → ¬ AreAsked HasFieldForm (fields_of (line_form_in f)) (texts_of l)) c.deref.ensures.value c.in_default-form_of.ensures.none in
    λ _. (
      refl,
      breaks (position_in c.args.position) c.args.text.now (goes c.args.position c.requires.going)
          (no_form c.args.position c.args.text.now c.in-Some.line.now c.in-Some.rest.now (texts_of c.in_ok-texts.texts.items) first.0 first.1 c.in_ok-texts.ensures none),
    )

pub returns-in-Refused-clause-err : goal.returns-in-Refused-clause-err
returns-in-Refused-clause-err c =
    let first = c.in-Some.ensures.some in
    let form = line_form_in c.in-Some-form_of.form in
    let asked : AreAsked HasFieldForm (fields_of form) (texts_of c.in_ok-texts.texts.items) =
    subst (λ l. AreAsked HasFieldForm (fields_of form) (texts_of l)) c.deref.ensures.value c.in-Some-form_of.ensures.some in
    λ _. (
      refl,
      breaks (position_in c.args.position) c.args.text.now (goes c.args.position c.requires.going)
          (refused_form (position_in c.args.position) c.args.text.now c.in-Some.line.now c.in-Some.rest.now form (texts_of c.in_ok-texts.texts.items)
          first.0 first.1 (all_fields form c.in-Some.line.now (texts_of c.in_ok-texts.texts.items) c.in_ok-texts.ensures asked) asked (sym c.in-Refused.ensures)),
    )

pub returns-in-To : goal.returns-in-To
returns-in-To c =
    let first = c.in-Some.ensures.some in
    let form = line_form_in c.in-Some-form_of.form in
    let texts = texts_of c.in_ok-texts.texts.items in
    let asked : AreAsked HasFieldForm (fields_of form) texts =
    subst (λ l. AreAsked HasFieldForm (fields_of form) (texts_of l)) c.deref.ensures.value c.in-Some-form_of.ensures.some in
    let right : IsRight c.args.lts.now form texts =
    subst (λ l. IsRight c.args.lts.now form (texts_of l)) c.deref-2.ensures.value c.in_ok-check.ensures.ok in
    record {
      ok = record {
        line = c.in-Some.line.now;
        cut = first.0;
        has = record { fields = asked; spelled = from_fields c.in-Some.line.now texts (all_fields form c.in-Some.line.now texts c.in_ok-texts.ensures asked) };
        right = right;
        leads = sym c.in-To.ensures;
      };
      err = tt;
    }

pub returns-in_err-check-clause-err : goal.returns-in_err-check-clause-err
returns-in_err-check-clause-err c =
    let first = c.in-Some.ensures.some in
    let form = line_form_in c.in-Some-form_of.form in
    let texts = texts_of c.in_ok-texts.texts.items in
    let asked : AreAsked HasFieldForm (fields_of form) texts =
    subst (λ l. AreAsked HasFieldForm (fields_of form) (texts_of l)) c.deref.ensures.value c.in-Some-form_of.ensures.some in
    let begins : follows (position_in c.args.position) form ≢ refused → BeginsWith (position_in c.args.position) c.args.text.now form texts =
    λ due. begins_with (position_in c.args.position) c.args.text.now c.in-Some.line.now c.in-Some.rest.now form texts first.0
    (all_fields form c.in-Some.line.now texts c.in_ok-texts.ensures asked) asked due in
    let wrong : IsWrong c.args.lts.now form texts c.args.number c.in_err-check.field-0.0 =
    subst (λ l. IsWrong c.args.lts.now form (texts_of l) c.args.number c.in_err-check.field-0.0) c.deref-2.ensures.value c.in_err-check.ensures.err in
    let due : follows (position_in c.args.position) form ≢ refused =
    subst (λ n. n ≢ refused) c.next-next.ensures (not_refused c.next-next.result c.in_default-next.not-Refused) in
    let p = err_from_is_err_and c.from_residual-in_err-check.result c.from_residual-in_err-check.ensures.1 in
    rw (p.1, p.2) (λ _. wrong_line c.args.lts.now (position_in c.args.position) c.args.text.now form texts c.args.number _ (begins due) wrong)

pub returns-in-Short : goal.returns-in-Short
returns-in-Short c =
    let first = c.in-Some.ensures.some in
    let form = line_form_in c.in-Some-form_of.form in
    let texts = texts_of c.in_ok-texts.texts.items in
    let asked : AreAsked HasFieldForm (fields_of form) texts =
    subst (λ l. AreAsked HasFieldForm (fields_of form) (texts_of l)) c.deref.ensures.value c.in-Some-form_of.ensures.some in
    let begins : follows (position_in c.args.position) form ≢ refused → BeginsWith (position_in c.args.position) c.args.text.now form texts =
    λ due. begins_with (position_in c.args.position) c.args.text.now c.in-Some.line.now c.in-Some.rest.now form texts first.0
    (all_fields form c.in-Some.line.now texts c.in_ok-texts.ensures asked) asked due in
    let right : IsRight c.args.lts.now form texts =
    subst (λ l. IsRight c.args.lts.now form (texts_of l)) c.deref-2.ensures.value c.in_ok-check.ensures.ok in
    let leads : follows (position_in c.args.position) form ≡ short = sym c.in-Short.ensures in
    record { ok = tt; err = λ _. (form, texts, begins (λ e. let both = sym leads ∙ e in absurd cc), (right, leads)) }

pub returns-in-Long : goal.returns-in-Long
returns-in-Long c =
    let first = c.in-Some.ensures.some in
    let form = line_form_in c.in-Some-form_of.form in
    let texts = texts_of c.in_ok-texts.texts.items in
    let asked : AreAsked HasFieldForm (fields_of form) texts =
    subst (λ l. AreAsked HasFieldForm (fields_of form) (texts_of l)) c.deref.ensures.value c.in-Some-form_of.ensures.some in
    let begins : follows (position_in c.args.position) form ≢ refused → BeginsWith (position_in c.args.position) c.args.text.now form texts =
    λ due. begins_with (position_in c.args.position) c.args.text.now c.in-Some.line.now c.in-Some.rest.now form texts first.0
    (all_fields form c.in-Some.line.now texts c.in_ok-texts.ensures asked) asked due in
    let right : IsRight c.args.lts.now form texts =
    subst (λ l. IsRight c.args.lts.now form (texts_of l)) c.deref-2.ensures.value c.in_ok-check.ensures.ok in
    let leads : follows (position_in c.args.position) form ≡ long = sym c.in-Long.ensures in
    record { ok = tt; err = λ _. (form, texts, begins (λ e. let both = sym leads ∙ e in absurd cc), (right, leads)) }
