use Rattle.std.proofs.Common.{◌≡◌, ◌++◌, ◌∷◌, [], ◌∙◌, ap₂}
use Rattle.rg_apt.specs.Plain.{state_line}
use Rattle.rg_text.proofs.Grown.{piece_step}
use Rattle.rg_apt.proofs.PrintSteps.{state_left}
use Rattle.rg_apt.proofs.print.push_states.Goals as goal

pub loop-s-preserved : goal.loop-s-preserved
loop-s-preserved c =
    let lts = c.args.lts.now in
    let name = c.state_name.result.now in
    let before = c.loop-s.text.items in
    let grown : c.push_state.new.text.items ≡ before ++ (state_line lts.initial c.loop-s.s name ++ 10 ∷ []) =
    c.in_ok-push_state.ensures
    ∙ ap₂ (λ n i. before ++ (state_line i c.loop-s.s n ++ 10 ∷ [])) c.as_bytes.ensures.value c.initial-initial.ensures.value in
    piece_step before (state_line lts.initial c.loop-s.s name ++ 10 ∷ []) _ _ _ _ grown
    (state_left lts.initial lts.state_names c.loop-s.s name c.state_name.ensures) c.loop-s.invariant
