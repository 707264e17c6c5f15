use Rattle.std.proofs.Common.{sym, subst, ◌∙◌, arith}
use Rattle.rg_text.specs.Byte.{IsName}
use Rattle.rg_words.proofs.Steps.{state_is_name}
use Rattle.rg_words.proofs.reading.root.Goals as goal

pub state-requires : goal.state-requires
state-requires c = subst IsName (sym (c.as_str.ensures.value ∙ c.in_ok-name.ensures)) (state_is_name 0 (omega arith))
