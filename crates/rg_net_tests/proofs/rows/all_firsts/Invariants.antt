use Rattle.std.proofs.Common.{map, take}
use Rattle.rg_net.specs.Shown.{shown_place}
use Rattle.rg_marks.specs.Firsts.{AreAllFirsts}
use Rattle.rg_marks.specs.Separated.{SeparateSoMuch}
use Rattle.rg_net_tests.proofs.rows.all_firsts.Given as goal

abbrev pub invariant-loop-place : goal.invariant-loop-place
invariant-loop-place l = record {
  firsts : AreAllFirsts l.lts (take l.place-index (map shown_place l.places)) l.all.items;
  separated : SeparateSoMuch l.lts (take l.place-index (map shown_place l.places)) l.separated;
}
