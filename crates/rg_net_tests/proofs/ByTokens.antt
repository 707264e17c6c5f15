-- A place that was tried arc by arc is a region, with these tokens alone.
use Rattle.std.proofs.Common.{ℕ, List, get_or, arith}
use Rattle.std.proofs.lemmas.List.Elements.{All-contains}
use Rattle.rg_theory.specs.System.{System, arc, HasArc, IsAllReachable}
use Rattle.rg_theory.specs.Net.{Place}
use Rattle.rg_theory.specs.Region.{Region}
use Rattle.rg_theory.proofs.Yes.{region_unique}
use Rattle.rg_marks.specs.Tokens.{IsNarrow, AreTokens}
use Rattle.rg_net_tests.specs.Regions.{Moves, IsRegionBy}

module _ (lts : System) (p : Place) (tokens : List ℕ) (by : IsRegionBy lts p tokens) where
  moves : (s t s' : ℕ) → HasArc lts s t s' → Moves p tokens (arc s t s')
  moves s t s' has = All-contains (Moves p tokens) lts.arcs (arc s t s') by.arcs has

  region : Region lts p (λ s. get_or tokens s 0)
  region = record {
    start = by.start;
    enabled = λ s t s' has. (moves s t s' has).enough;
    moved = λ s t s' has. (moves s t s' has).moved;
  }

  pub narrow_by : IsNarrow lts p
  narrow_by = record {
    m = λ s. get_or tokens s 0;
    region = region;
    narrow = λ s lt. by.few s 0 (let n = by.one_each in omega arith);
    pre = by.pre;
    post = by.post;
  }

  pub tokens_by : IsAllReachable lts → AreTokens lts p tokens
  tokens_by reachable = record {
    one_each = by.one_each;
    each = λ m other s lt. region_unique lts p (λ s. get_or tokens s 0) m region other s (reachable.each s lt);
  }
