-- What is known of files.
use Rattle.std.proofs.Common.{◌≡◌, ℕ, ◌<◌, ◌+◌, List, length, Option, Some, None, IfSome, IsSomeAnd, replicate, refl, sym, subst, arith}
use Rattle.std.proofs.lemmas.List.{length-replicate}
use Rattle.rg_ports.specs.Shelf.{Files, file_of}
use Rattle.rg_text.specs.Limits.{most_bytes}
use Rattle.rg_top.specs.Given.{MayHold, IsTooLong}

-- a list longer than any number
longer_than : (n : ℕ) → (xs : List ℕ) × (n < length xs)
longer_than n =
    let less : n < n + 1 = omega arith in
    (replicate (n + 1) 0, subst (λ (k : ℕ). n < k) (sym (length-replicate (n + 1) 0)) less)

-- a file of which nothing is known may be too long
pub too_long : (files : Option Files) (name : List ℕ) → IfSome files (λ f. IsSomeAnd (file_of f name) (λ b. most_bytes < length b)) → IsTooLong files name
too_long None name h =
    let (bytes, more) = longer_than most_bytes in
    record { bytes = bytes; file = tt; long = more }
too_long (Some files) name h = by (file_of files name) refl h
  where
    by : (o : Option (List ℕ)) → file_of files name ≡ o → IsSomeAnd o (λ b. most_bytes < length b) → IsTooLong (Some files) name
    by None is h = absurd h
    by (Some bytes) is h = record { bytes = bytes; file = is; long = h }

-- what is known of the file
pub held : (files : Option Files) (name bytes : List ℕ) → IfSome files (λ f. file_of f name ≡ Some bytes) → MayHold files name (Some bytes)
held None name bytes h = tt
held (Some files) name bytes h = h

-- what follows where the premise holds
pub told : (files : Option Files) (P : Type 0) (Q : Files → Type 0) → P → IfSome files (λ f. P → Q f) → IfSome files Q
told None P Q p h = tt
told (Some files) P Q p h = h p
