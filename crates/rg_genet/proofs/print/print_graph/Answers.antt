use Rattle.std.proofs.Common.{◌≡◌, List, ℕ, ◌++◌, sym, ap, subst, ◌∙◌}
use Rattle.rg_theory.specs.System.{System}
use Rattle.rg_genet.specs.Text.{graph_text}
use Rattle.rg_genet.specs.Spells.{Spells}
use Rattle.rg_genet.specs.Same.{IsSameByNames}
use Rattle.rg_genet.proofs.ReadAgain.{read_again}
use Rattle.rg_genet.proofs.print.print_graph.Goals as goal

pub returns-clause-read_again : goal.returns-clause-read_again
returns-clause-read_again c =
    let lts = c.args.lts.now in
    let is : c.push_graph.new.text.items ≡ graph_text lts = c.in_ok-push_graph.ensures.text ∙ ap (λ l. l ++ graph_text lts) c.new-text.ensures.items in
    subst (λ (t : List ℕ). (read : System) × Spells t read × IsSameByNames lts read) (sym is)
    (read_again lts c.in_ok-push_graph.ensures.well_formed c.in_default.ensures.none c.in_default-lost_state.ensures.none)
