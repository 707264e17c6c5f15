-- A system and a net with the markings of the states.
use Rattle.std.specs.Prelude.{◌≡◌}
use Rattle.rg_theory.specs.System.{labels, IsInRange, IsForkFree}
use Rattle.rg_theory.specs.Solves.{marking_of}
use Rattle.rg_spanning.specs.Spanning.{AreArcsOf}
use Rattle.rg_net.specs.ClassBreaks.{shown_markings}
use Rattle.rg_net_verdict.specs.declared.wrong.Marked.{Marked}
use Rattle.rg_net_verdict.specs.Flows.{AreFlows}
use Rattle.rg_net_verdict.specs.Rows.{AreRows}
use Rattle.rg_net_verdict.specs.Verdict.{HaveMarkings}

-- the rows are the markings of the states along the tree, and the flows those of the net
pub record IsMarked (m : Marked) : Type 0 where
  pub system : IsInRange m.lts.now
  pub labels : m.net.now.labels ≡ labels m.lts.now
  pub tree : AreArcsOf m.lts.now m.tree.now
  pub fork_free : IsForkFree m.lts.now
  pub flows : AreFlows m.net.now m.flows.now
  pub rows : AreRows m.lts.now m.net.now (shown_markings m.rows.now)
  pub have : HaveMarkings m.lts.now m.net.now m.tree.now.arcs.items (marking_of (shown_markings m.rows.now))
