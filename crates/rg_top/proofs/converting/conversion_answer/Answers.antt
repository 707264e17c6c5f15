use Rattle.std.proofs.Common.{List, ℕ, sym, subst}
use Rattle.rg_apt.specs.Plain.{lts_text}
use Rattle.rg_apt.specs.Spells.{Spells}
use Rattle.rg_commands.specs.declared.forms.Target.{Target}
use Rattle.rg_commands.specs.declared.forms.Target.TheVariants.{Apt}
use Rattle.rg_top.specs.Convert.{ConvertEnds, as_apt}
use Rattle.rg_top.specs.End.{says_yes}
use Rattle.rg_top.proofs.Written.{yes_so}
use Rattle.rg_top.proofs.converting.conversion_answer.Goals as goal

pub returns-in_ok-print_lts-in-Apt : goal.returns-in_ok-print_lts-in-Apt
returns-in_ok-print_lts-in-Apt c =
    let lts = c.args.lts.now in
    let made = c.in_ok-print_lts-in-Apt in
    let spelled = subst (λ (text : List ℕ). Spells text lts) made.ensures.text made.ensures.read_again in
    subst (λ (t : Target). ConvertEnds lts t (says_yes made.field-0.items)) (sym c.in-Apt.is)
    (yes_so (ConvertEnds lts Apt) made.field-0.items (lts_text lts) made.ensures.text (as_apt spelled))
