-- Items of lists at their places.
use Rattle.std.proofs.Common.{◌≡◌, ℕ, List, Option, Some, None, length, slice_get, Bor, refl, sym, option_copied}
use Rattle.std.specs.Slice.{IsGetResult}
use Rattle.std.proofs.lemmas.Option.{slice_get_past, slice_get_read}

-- what `get` of a slice tells
pub get_is : {X : Type 0} (xs : List X) (i : ℕ) (r : Option (Bor X)) → IsGetResult xs i i r → option_copied r ≡ slice_get xs i
get_is xs i None told = sym (slice_get_past xs i told.3)
get_is xs i (Some x) told = sym (slice_get_read xs (length xs) i x.now refl told.3.0 told.1)
