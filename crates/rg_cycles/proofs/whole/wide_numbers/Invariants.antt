use Rattle.std.proofs.Common.{◌≡◌, All, take}
use Rattle.rg_integers.specs.Range.{InRange}
use Rattle.rg_cycles.proofs.whole.wide_numbers.Given as goal

abbrev pub invariant-loop-number : goal.invariant-loop-number
invariant-loop-number l = record {
  same : l.wide.items ≡ take l.number-index l.numbers;
  in_range : All InRange l.wide.items;
}
