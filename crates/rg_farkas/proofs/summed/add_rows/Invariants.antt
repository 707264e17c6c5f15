use Rattle.std.proofs.Common.{◌≡◌, ℕ, ◌<◌, map, drop, length, All}
use Rattle.std.specs.Prelude.{pos, ◌+ℤ◌, slice_index_or}
use Rattle.rg_integers.specs.Range.{InRange}
use Rattle.rg_farkas.specs.View.{row_addend}
use Rattle.rg_farkas.specs.Addends.{total}
use Rattle.rg_farkas.proofs.summed.add_rows.Given as goal

abbrev pub invariant-loop-row : goal.invariant-loop-row
invariant-loop-row l = record {
  added : (q : ℕ) → q < length l.initial.sums
      → slice_index_or l.sums q (pos 0) +ℤ total (map (row_addend q) (drop l.row-index l.rows))
      ≡ slice_index_or l.initial.sums q (pos 0) +ℤ total (map (row_addend q) l.rows);
  in_range : All InRange l.sums;
}
