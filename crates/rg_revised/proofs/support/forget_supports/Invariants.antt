use Rattle.std.proofs.Common.{◌≡◌, ℕ, ◌<◌, get_or, length}
use Rattle.rg_revised.specs.declared.support.Look.TheVariants as look
use Rattle.rg_revised.specs.Supports.{blank}
use Rattle.rg_revised.proofs.support.forget_supports.Given as goal

abbrev pub invariant-loop-t : goal.invariant-loop-t
invariant-loop-t l = record {
  written : (v : ℕ) → v < l.t → (get_or l.supports v blank).look ≡ look.Written;
  count : length l.supports ≡ length l.fn.supports;
}
