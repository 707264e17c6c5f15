-- What is found on the way through the problems.
use Rattle.std.specs.Prelude.{◌≡◌, List, All, length}
use Rattle.rg_theory.specs.System.{System, states, labels, IsInRange, IsAllReachable}
use Rattle.rg_theory.specs.declared.Class.{Class}
use Rattle.rg_theory.specs.ClassWords.{HasNumbersInRange}
use Rattle.rg_theory.specs.Tree.{IsTree}
use Rattle.rg_theory.specs.Net.{Place}
use Rattle.rg_net.specs.Range.{IsPlaceInRange}
use Rattle.rg_marks.specs.Tokens.{IsNarrow}
use Rattle.rg_marks.specs.Separated.{SeparateSoMuch}
use Rattle.rg_marks.specs.Firsts.{AreAllFirsts}
use Rattle.rg_marks.specs.declared.firsts.Firsts.{Firsts}
use Rattle.rg_marks.specs.declared.separated.Separated.{Separated}
use Rattle.rg_spanning.specs.Spanning.{IsTreeOf}
use Rattle.rg_case_folds.specs.Rewriting.{column_count}
use Rattle.rg_case_folds.specs.Chords.{IsBasis}
use Rattle.rg_cycles.specs.View.{labels_of, cycle_of}
use Rattle.rg_rows.specs.Sharing.{IsCommonOf, shared_forms}
use Rattle.rg_separate.specs.Bounding.{AreBoundedOf}
use Rattle.rg_marks.specs.declared.region_place.RegionPlace.{RegionPlace}
use Rattle.rg_places.specs.RegionPlaces.{IsRegionPlace}
use Rattle.rg_case_parts.specs.declared.setting.Setting.{Setting}
use Rattle.rg_case_parts.specs.SettingViews.{shown_setting}
use Rattle.rg_separate.specs.declared.kept.Kept.{Kept}
use Rattle.rg_separate.specs.declared.solving.Problems.{Problems}

-- the tree is that of the system, all of whose states are reachable, the basis is that of its chords, and the class's numbers
-- are in range
pub record IsSetting (s : Setting) : Type 0 where
  pub in_range : IsInRange s.lts.now
  pub reachable : IsAllReachable s.lts.now
  pub tree : IsTreeOf s.lts.now s.tree.now
  pub labels : labels_of s.basis.now ≡ labels s.lts.now
  pub basis : IsBasis s.lts.now s.tree.now.arcs (cycle_of s.basis.now)
  pub bound : HasNumbersInRange s.class

-- the rows and forms are those that all problems of the setting share, also as a branching takes them, and there are so many columns
pub record Serves (s : Setting) (p : Problems) : Type 0 where
  pub common : IsCommonOf (shown_setting s) p.common.now
  pub forms : AreBoundedOf (shared_forms p.common.now) p.forms.now
  pub columns : p.columns ≡ column_count s.lts.now (cycle_of s.basis.now) s.class

-- the problems are of a setting, with what they share
pub record CanSolve (p : Problems) : Type 0 where
  pub setting : IsSetting p.setting
  pub serves : Serves p.setting p

-- the place is a region, of some class, and its numbers fit
abbrev pub MayKeep : System → RegionPlace → Type 0
MayKeep lts r = (class : Class) × IsRegionPlace lts class r

-- with some numbers the place is a region, and all its numbers are at most 2^127 - 1
pub record IsKept (lts : System) (p : Place) : Type 0 where
  pub narrow : IsNarrow lts p
  pub in_range : IsPlaceInRange p

-- each state can be reached, such places are kept, each with the problems that it is the first to separate, and they separate so much
pub record AreKept (lts : System) (places : List Place) (all : List Firsts) (separated : Separated) : Type 0 where
  pub reachable : IsAllReachable lts
  pub each : All (IsKept lts) places
  pub firsts : AreAllFirsts lts places all
  pub so_much : SeparateSoMuch lts places separated

-- such places are kept, with a tree of the system, and a number for each state
pub record IsKeeping (lts : System) (k : Kept) : Type 0 where
  pub kept : AreKept lts k.places.items k.firsts.items k.separated
  pub in_range : IsInRange lts
  pub tree : IsTree lts k.tree.now
  pub one_each : length k.tokens.items ≡ states lts
