use Rattle.std.proofs.Common.{◌≡◌, drop}
use Rattle.std.specs.List.{fold}
use Rattle.rg_lts.specs.Slots.{digest, with_byte}
use Rattle.rg_lts.proofs.slots.digest.Given as goal

abbrev pub invariant-loop-byte : goal.invariant-loop-byte
invariant-loop-byte l = fold with_byte l.sum (drop l.byte-index l.name) ≡ digest l.name
