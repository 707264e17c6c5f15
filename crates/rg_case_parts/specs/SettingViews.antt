-- How a setting and a case of it that code holds are seen.
use Rattle.rg_cycles.specs.View.{cycle_of}
use Rattle.rg_case_folds.specs.Setting.{Setting, CaseSetting, setting_at, case_at}
use Rattle.rg_case_parts.specs.declared.setting.Setting.{Setting as HeldSetting}
use Rattle.rg_case_parts.specs.declared.setting.CaseSetting.{CaseSetting as HeldCase}

-- the setting, as the definitions have it
abbrev pub shown_setting : HeldSetting → Setting
shown_setting s = setting_at s.lts.now s.tree.now.arcs (cycle_of s.basis.now) s.class

-- the case, as the definitions have it
abbrev pub shown_case : HeldCase → CaseSetting
shown_case c = case_at (shown_setting c.setting) c.problem c.number
