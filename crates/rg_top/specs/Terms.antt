-- Terms that a status shows.
use Rattle.std.specs.Prelude.{◌≡◌, ℕ, List, codes}
use Rattle.rg_theory.specs.System.{System}
use Rattle.rg_case_folds.specs.Shown as shown
use Rattle.rg_case_folds.specs.Shown.{Shown}
use Rattle.rg_separate.specs.View.{shown_of}
use Rattle.rg_net_verdict.specs.declared.verdict.CheckWide.{CheckWide}
use Rattle.rg_messages.specs.Wides.{passed_line}
use Rattle.rg_messages.specs.declared.wide.WideCause.{WideCause}
use Rattle.rg_messages.specs.declared.wide.WideCause.TheVariants.{Synthesis, Check, Factor, Split}
use Rattle.rg_top.specs.declared.status.Status.{Status}
use Rattle.rg_top.specs.declared.status.Status.TheVariants.{TooWide}

-- where a number is out of range: in the work on the file's system, on a factor of it, by its number, or on it with its labels split;
-- or in the firing of a net that is judged
pub data Term : Type 0 where
  of_net : Shown → Term
  of_factor : ℕ → Shown → Term
  of_split : System → Shown → Term
  of_check : CheckWide → Term

-- the term that is shown with its stage
abbrev pub term_of : WideCause → Term
term_of (Synthesis at) = of_net (shown_of at)
term_of (Factor i at) = of_factor i (shown_of at)
term_of (Split system at) = of_split system (shown_of at)
term_of (Check at) = of_check at

-- the status shows this term
abbrev pub ShowsTerm : Term → Status → Type 0
ShowsTerm t (TooWide cause) = term_of cause ≡ t
ShowsTerm t _ = ⊥

-- the part of the work
abbrev pub stage_line : shown.Stage → List ℕ
stage_line shown.Stage.cycle = codes "cycle"
stage_line shown.Stage.row = codes "row"
stage_line shown.Stage.pivot = codes "pivot"
stage_line shown.Stage.place = codes "place"
stage_line shown.Stage.spread = codes "spread"

-- the line of a term
abbrev pub term_line : Term → List ℕ
term_line (of_net w) = passed_line (stage_line w.stage) w.wide
term_line (of_factor i w) = passed_line (stage_line w.stage) w.wide
term_line (of_split system w) = passed_line (stage_line w.stage) w.wide
term_line (of_check at) = passed_line (codes "check") at.wide
