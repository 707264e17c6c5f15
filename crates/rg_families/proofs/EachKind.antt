-- What holds of each family.
use Rattle.std.proofs.Common.{ℕ}
use Rattle.rg_theory.specs.System.{System, IsAllReachable, IsForkFree}
use Rattle.rg_families.specs.declared.Kind.{Kind}
use Rattle.rg_families.specs.declared.Kind.TheVariants.{Grid, Doubling, Lock}
use Rattle.rg_families.specs.Named.{IsSound}
use Rattle.rg_families.specs.Families.{IsFamilyNumber, IsOfFamily, drawn}
use Rattle.rg_families.proofs.GridSound.{grid_is_sound}
use Rattle.rg_families.proofs.GridOpen.{grid_is_reachable, grid_is_fork_free}
use Rattle.rg_families.proofs.DoublingSound.{doubling_is_sound}
use Rattle.rg_families.proofs.DoublingOpen.{doubling_is_reachable, doubling_is_fork_free}
use Rattle.rg_families.proofs.LockSound.{lock_is_sound}
use Rattle.rg_families.proofs.LockOpen.{lock_is_reachable, lock_is_fork_free}

pub all_sound : (kind : Kind) (n : ℕ) → IsFamilyNumber kind n → IsSound (drawn kind n)
all_sound Grid n (some, le) = grid_is_sound n le
all_sound Doubling n (some, le) = doubling_is_sound n le
all_sound Lock n (some, le) = lock_is_sound n some le

pub all_reachable : (kind : Kind) (n : ℕ) (lts : System) → IsFamilyNumber kind n → IsOfFamily kind n lts → IsAllReachable lts
all_reachable Grid n lts (some, le) is = grid_is_reachable n lts le is
all_reachable Doubling n lts (some, le) is = doubling_is_reachable n lts le is
all_reachable Lock n lts (some, le) is = lock_is_reachable n some le lts is

pub all_fork_free : (kind : Kind) (n : ℕ) (lts : System) → IsFamilyNumber kind n → IsOfFamily kind n lts → IsForkFree lts
all_fork_free Grid n lts (some, le) is = grid_is_fork_free n lts le is
all_fork_free Doubling n lts (some, le) is = doubling_is_fork_free n lts le is
all_fork_free Lock n lts (some, le) is = lock_is_fork_free n lts some le is
