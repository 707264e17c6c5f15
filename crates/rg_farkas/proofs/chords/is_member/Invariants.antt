use Rattle.std.proofs.Common.{◌≡◌, drop}
use Rattle.rg_folds.specs.Substitution.{is_in}
use Rattle.rg_farkas.proofs.chords.is_member.Given as goal

abbrev pub invariant-loop-m : goal.invariant-loop-m
invariant-loop-m l = is_in (drop l.m-index l.members) l.variable ≡ is_in l.members l.variable
