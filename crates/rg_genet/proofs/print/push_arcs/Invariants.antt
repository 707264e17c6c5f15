use Rattle.std.proofs.Common.{◌≡◌, ◌++◌, drop, map}
use Rattle.rg_text.specs.Line.{fed}
use Rattle.rg_genet.specs.Text.{names_of, triple_text}
use Rattle.rg_genet.proofs.print.push_arcs.Given as goal

-- the text so far, and the lines that are left
abbrev pub invariant-loop-a : goal.invariant-loop-a
invariant-loop-a l =
    l.text.items ++ fed (map (λ a. triple_text (names_of l.lts a)) (drop l.a-index l.arcs)) ≡ l.fn.text.items ++ fed (map (λ a. triple_text (names_of l.lts a)) l.arcs)
