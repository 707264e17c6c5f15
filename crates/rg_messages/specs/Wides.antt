-- The lines for a number that is out of range, written to standard error.
use Rattle.std.specs.Prelude.{ℕ, ℤ, List, ◌++◌, codes}
use Rattle.std.specs.Fmt.{signed_decimal}
use Rattle.rg_integers.specs.declared.term.Wide.{Wide}
use Rattle.rg_cert_data.specs.declared.wide_at.Stage.{Stage}
use Rattle.rg_cert_data.specs.declared.wide_at.Stage.TheVariants.{Cycle, Row, Pivot, Place, Spread}
use Rattle.rg_messages.specs.declared.wide.WideCause.{WideCause}
use Rattle.rg_messages.specs.declared.wide.WideCause.TheVariants.{Synthesis, Factor, Split, Check}

-- the part of the work
abbrev pub stage_words : Stage → List ℕ
stage_words Cycle = codes "cycle"
stage_words Row = codes "row"
stage_words Pivot = codes "pivot"
stage_words Place = codes "place"
stage_words Spread = codes "spread"

-- two factors
abbrev pub product_text : ℤ → ℤ → List ℕ
product_text a b = signed_decimal a ++ codes " * " ++ signed_decimal b

-- the four numbers of a term
abbrev pub term_text : Wide → List ℕ
term_text w = product_text w.a w.b ++ codes " - " ++ product_text w.c w.d

-- the line of a term, with where it is formed
abbrev pub passed_line : List ℕ → Wide → List ℕ
passed_line words w = codes "too wide: " ++ words ++ codes ": " ++ term_text w ++ codes "\n"

-- where a number passes
abbrev pub wide_line : WideCause → List ℕ
wide_line (Synthesis at) = passed_line (stage_words at.stage) at.wide
wide_line (Factor i at) = passed_line (stage_words at.stage) at.wide
wide_line (Split system at) = passed_line (stage_words at.stage) at.wide
wide_line (Check at) = passed_line (codes "check") at.wide
