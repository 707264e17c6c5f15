-- The hash of a row's numbers.
use Rattle.std.specs.Prelude.{ℕ, ◌+◌, ◌*◌, ◌/◌, ◌%◌, ◌^◌, List, fold, ℤ}
use Rattle.std.specs.Int.{w128, cast_unsigned}

-- an odd factor whose powers differ in many bits
abbrev pub hash_factor : ℕ
hash_factor = 11400714819323198485

-- the hash with a further word of 64 bits
abbrev pub with_word : ℕ → ℕ → ℕ
with_word hash word = (hash * hash_factor + word) % 2 ^ 64

-- the hash with a further number: its low word, then its high one
abbrev pub hash_with : ℕ → ℤ → ℕ
hash_with hash z = with_word (with_word hash (cast_unsigned w128 z % 2 ^ 64)) (cast_unsigned w128 z / 2 ^ 64)

-- the hash of all numbers in order
abbrev pub numbers_hash : List ℤ → ℕ
numbers_hash numbers = fold hash_with 0 numbers
