-- Numbers of names, as names are added.
use Rattle.std.proofs.Common.{◌≡◌, ℕ, List, ◌++◌, slice_get, Contains, Some}
use Rattle.std.specs.List.{fold}
use Rattle.std.specs.Str.{bytes_eq}
use Rattle.std.proofs.lemmas.Slice.Eq.{bytes_eq-Decides}
use Rattle.rg_lts.specs.WellFormed.{AreNames}
use Rattle.rg_line_formats.specs.First.{with_new, number_of}
use Rattle.rg_line_formats.proofs.Things as things

-- a name's number is its index, where names differ
pub number_is : (names : List (List ℕ)) (i : ℕ) (name : List ℕ) → AreNames names → slice_get names i ≡ Some name → number_of bytes_eq names name ≡ i
number_is names i name are at = things.number_is bytes_eq bytes_eq-Decides names i name are.differ at

-- the number of a name that is there stays, whatever comes behind
pub number_stays : (names more : List (List ℕ)) (name : List ℕ) → Contains names name → number_of bytes_eq (names ++ more) name ≡ number_of bytes_eq names name
number_stays = things.number_stays bytes_eq bytes_eq-Decides

-- at its number stands the name
pub number_at : (names : List (List ℕ)) (name : List ℕ) → Contains names name → slice_get names (number_of bytes_eq names name) ≡ Some name
number_at = things.number_at bytes_eq bytes_eq-Decides

-- each name of a list comes among the first ones
pub met : (front xs : List (List ℕ)) (name : List ℕ) → Contains xs name → Contains (fold (with_new bytes_eq) front xs) name
met = things.met bytes_eq bytes_eq-Decides
