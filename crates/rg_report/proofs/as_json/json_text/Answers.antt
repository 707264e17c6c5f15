-- The text of the value, and the end of the line.
use Rattle.std.proofs.Common.{◌≡◌, ◌++◌, ◌∷◌, [], ◌∙◌, ap, ℕ, Vec, Global, string_bytes}
use Rattle.serde_json.specs.Written.{compact_text, has_float}
use Rattle.rg_report.specs.Facts.{json_object}
use Rattle.rg_report.specs.Shown.{facts_in}
use Rattle.rg_report.proofs.JsonTexts.{facts_text, no_float}
use Rattle.rg_report.proofs.as_json.json_text.Goals as goal

pub returns : goal.returns
returns c =
    let f = facts_in c.args.report.now in
    let is = c.in_ok-value.ensures in
    let text : string_bytes c.in_ok-to_string.field-0 ≡ json_object f = c.in_ok-to_string.ensures.text (ap has_float is ∙ no_float f) ∙ ap compact_text is ∙ facts_text f c.requires in
    c.in_ok-push.ensures.items ∙ ap (λ xs. xs ++ 10 ∷ []) (ap (λ (v : Vec ℕ Global). v.items) c.into_bytes-text.ensures.value ∙ text)
