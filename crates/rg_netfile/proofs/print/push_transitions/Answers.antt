use Rattle.std.proofs.Common.{◌≡◌, ◌++◌, ◌∷◌, [], ◌∙◌, ap, append_assoc}
use Rattle.rg_text.proofs.Grown.{piece_step}
use Rattle.rg_netfile.proofs.Texts.{transition_left}
use Rattle.rg_netfile.proofs.print.push_transitions.Goals as goal

pub loop-t-preserved : goal.loop-t-preserved
loop-t-preserved c =
    let name = c.label_name.result.now in
    let grown : c.push.new.self.items ≡ c.loop-t.text.items ++ (name ++ 10 ∷ []) =
    c.in_ok-push.ensures.items ∙ ap (λ l. l ++ 10 ∷ []) (c.in_ok-extend_from_slice.ensures.items
    ∙ ap (λ l. c.loop-t.text.items ++ l) c.as_bytes.ensures.value)
    ∙ append_assoc c.loop-t.text.items name (10 ∷ []) in
    piece_step c.loop-t.text.items (name ++ 10 ∷ []) _ _ _ _ grown
    (transition_left c.args.lts.now.label_names c.loop-t.t name c.label_name.ensures) c.loop-t.invariant
