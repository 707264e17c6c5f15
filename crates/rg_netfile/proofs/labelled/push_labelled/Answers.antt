use Rattle.std.proofs.Common.{◌≡◌, ◌++◌, ◌∷◌, [], ◌∙◌, get_or, ap₂, arith}
use Rattle.std.proofs.lemmas.Option.{slice_get-get_or}
use Rattle.rg_text.proofs.Grown.{piece_step}
use Rattle.rg_netfile.specs.LabelledTexts.{labelled_line}
use Rattle.rg_netfile.proofs.Texts.{labelled_left}
use Rattle.rg_netfile.proofs.labelled.push_labelled.Goals as goal

pub loop-t-preserved : goal.loop-t-preserved
loop-t-preserved c =
    let old = c.args.old.now in
    let t = c.loop-t.t in
    let name = c.label_name.result.now in
    let label = c.label_name-label.result.now in
    let each = c.requires.each in
    let end = c.labels-t-end.ensures.value in
    let less = c.loop-t-test.true in
    let here = slice_get-get_or old t 0 (omega arith) in
    let grown : c.push_line.new.text.items ≡ c.loop-t.text.items ++ (labelled_line name label ++ 10 ∷ []) =
    c.in_ok-push_line.ensures ∙ ap₂ (λ n l. c.loop-t.text.items ++ (labelled_line n l ++ 10 ∷ [])) c.as_bytes.ensures.value c.as_bytes-in-loop-t.ensures.value in
    piece_step c.loop-t.text.items (labelled_line name label ++ 10 ∷ []) _ _ _ _ grown
    (labelled_left c.args.system.now.label_names c.args.lts.now old t (get_or old t 0) name label c.label_name.ensures here c.label_name-label.ensures) c.loop-t.invariant
