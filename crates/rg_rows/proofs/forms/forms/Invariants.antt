use Rattle.std.proofs.Common.{map}
use Rattle.rg_rows.specs.View.{row_in}
use Rattle.rg_rows.proofs.FormSteps.{Keeps}
use Rattle.rg_rows.proofs.forms.forms.Given as goal
use Rattle.rg_case_parts.specs.SettingViews.{shown_setting}

abbrev pub invariant-loop-i : goal.invariant-loop-i
invariant-loop-i l = Keeps (shown_setting l.c.setting) l.names (map row_in l.rows) l.indices l.i l.forms.items
