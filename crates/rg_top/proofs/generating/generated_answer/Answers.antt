use Rattle.std.proofs.Common.{List, ℕ, subst}
use Rattle.rg_apt.specs.Plain.{lts_text}
use Rattle.rg_apt.specs.Spells.{Spells}
use Rattle.rg_top.specs.Generate.{GenerateEnds, a_system}
use Rattle.rg_top.proofs.Written.{yes_so}
use Rattle.rg_top.proofs.generating.generated_answer.Goals as goal

pub returns : goal.returns
returns c =
    let lts = c.in_ok-lts.lts in
    let made = c.in_ok-print_lts in
    let spelled = subst (λ (text : List ℕ). Spells text lts) made.ensures.text made.ensures.read_again in
    yes_so (GenerateEnds c.args.kind c.args.n) made.field-0.items (lts_text lts) made.ensures.text (a_system lts c.in_ok-lts.ensures c.is_well_formed.ensures spelled)
