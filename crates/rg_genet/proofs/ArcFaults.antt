-- The fault of an arc.
use Rattle.std.proofs.Common.{◌≡◌, ℕ, nat_lt, Bool, false, ◌||◌, List, length, None, ◌∙◌}
use Rattle.std.proofs.lemmas.Bool.{cond-false, le-ltb}
use Rattle.rg_theory.specs.Limits.{most_states, most_labels, most_arcs}
use Rattle.rg_line_formats.specs.First.{firsts, same_arc}
use Rattle.rg_genet.specs.Contents.{Triple, state_names, label_names, arcs_of, is_long, arc_fault}
use Rattle.rg_genet.specs.Reading.{AreFew}

abbrev pub long_test : Triple → Bool
long_test t = is_long t.from || (is_long t.label || is_long t.to)

pub arc_right : (n : ℕ) (t : Triple) (arcs : List Triple) → long_test t ≡ false → AreFew arcs → arc_fault n t arcs ≡ None
arc_right n t arcs e few =
    cond-false (long_test t) _ _ e
    ∙ cond-false (nat_lt most_states (length (state_names arcs))) _ _ (le-ltb most_states (length (state_names arcs)) few.states)
    ∙ cond-false (nat_lt most_labels (length (label_names arcs))) _ _ (le-ltb most_labels (length (label_names arcs)) few.labels)
    ∙ cond-false (nat_lt most_arcs (length (firsts same_arc (arcs_of arcs)))) _ _ (le-ltb most_arcs (length (firsts same_arc (arcs_of arcs))) few.arcs)
