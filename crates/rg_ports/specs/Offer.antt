-- Runs of writes, each of which offers all bytes that are left.
use Rattle.std.specs.Prelude.{ℕ, ◌<◌, List, [], length, Bool, true, false, Option, None, Some, drop}

-- a run from one state of a sink to another: done, where nothing is left and so nothing is offered; stopped by a refused write;
-- or a write that took n bytes, and then the rest
pub data Offers {S : Type 0} (gives : S → List ℕ → Option ℕ → S → Type 0) : S → List ℕ → Bool → S → Type 0 where
  done : (s : S) → Offers gives s [] true s
  stopped : (s t : S) (bytes : List ℕ) → 0 < length bytes → gives s bytes None t → Offers gives s bytes false t
  more : (s m t : S) (bytes : List ℕ) (n : ℕ) (ok : Bool) → 0 < length bytes → gives s bytes (Some n) m → Offers gives m (drop n bytes) ok t
      → Offers gives s bytes ok t
