-- Where the number of a name is found: in its slot, or in the map of the names whose slot has another number.
use Rattle.std.specs.Prelude.{String, ◌≡◌, ℕ, ◌+◌, ◌*◌, ◌%◌, ◌^◌, ◌==◌, ◌⊎◌, if◌then◌else◌, List, length, Contains, Option, Some, None, IfSome, IsSome, slice_get, slice_index_or}
use Rattle.std.specs.List.{fold}
use Rattle.std.specs.declared.alloc.Global.{Global}
use Rattle.std.specs.BTreeMap.{BTreeMap, get_by_text}

-- the numbers of names, in the order of the names
abbrev pub NumberMap : Type 0
NumberMap = BTreeMap (String Global) ℕ

-- the digest of a name with one byte more
abbrev pub with_byte : ℕ → ℕ → ℕ
with_byte digest byte = (digest * 37 % 2 ^ 32 + byte) % 2 ^ 32

-- a number in which most names differ
unfoldable pub digest : List ℕ → ℕ
digest name = fold with_byte 0 name

-- the slot of a name, where there are so many
unfoldable pub slot_of : List ℕ → ℕ → ℕ
slot_of name count = if count == 0 then 0 else digest name % count

-- the slot of the name has the number i, and this is the index of the name
abbrev pub IsInSlot : List (List ℕ) → List (Option ℕ) → List ℕ → ℕ → Type 0
IsInSlot names slots name i = (slice_index_or slots (slot_of name (length slots)) None ≡ Some i) × (slice_get names i ≡ Some name)

-- each name has its index in its slot or in the map, and the map has no other numbers
pub record IsIndexed (names : List (List ℕ)) (slots : List (Option ℕ)) (others : NumberMap) : Type 0 where
  pub is_index : (name : List ℕ) → IfSome (get_by_text others name) (λ i. slice_get names i ≡ Some name)
  pub is_found : (name : List ℕ) → Contains names name → ((i : ℕ) × IsInSlot names slots name i) ⊎ IsSome (get_by_text others name)
