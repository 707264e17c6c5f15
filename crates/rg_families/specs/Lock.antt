-- Locks: users of one lock, each of which is idle, waits for the lock, or has it.
use Rattle.std.specs.Prelude.{ℕ, replicate, zero, suc, ◌+◌, Bool, true, false, List, [], ◌∷◌, ◌++◌, length, map, codes, decimal, if◌then◌else◌, slice_index_or, slice_set, Vec}
use Rattle.std.specs.List.{flat_map, list_any}
use Rattle.std.specs.declared.alloc.Global.{Global}
use Rattle.rg_families.specs.declared.lock.User.{User}
use Rattle.rg_families.specs.declared.lock.User.TheVariants.{Idle, Waiting, Critical}
use Rattle.rg_families.specs.Named.{Triple, triple, Drawing, each_below}

-- the greatest number of users
abbrev pub most_lock : ℕ
most_lock = 9

-- what the users do, the first one first
abbrev pub Users : Type 0
Users = List User

abbrev pub items_of : Vec User Global → Users
items_of users = users.items

abbrev pub users_of : List (Vec User Global) → List Users
users_of all = map items_of all

-- `i`, `w` and `c`
abbrev pub letter : User → ℕ
letter Idle = 105
letter Waiting = 119
letter Critical = 99

-- the word of their letters
abbrev pub word : Users → List ℕ
word users = map letter users

abbrev pub is_critical : User → Bool
is_critical Critical = true
is_critical _ = false

abbrev pub is_taken : Users → Bool
is_taken users = list_any is_critical users

-- n users none of whom has the lock, and n users of whom at most one has it, in the order of their words where i comes before w and w before c
abbrev pub without_lock : ℕ → List Users
without_lock zero = [] ∷ []
without_lock (suc n) = map (◌∷◌ Idle) (without_lock n) ++ map (◌∷◌ Waiting) (without_lock n)

abbrev pub with_lock : ℕ → List Users
with_lock zero = [] ∷ []
with_lock (suc n) = map (◌∷◌ Idle) (with_lock n) ++ (map (◌∷◌ Waiting) (with_lock n) ++ map (◌∷◌ Critical) (without_lock n))

-- users are numbered from 1 in the labels
abbrev pub ask : ℕ → List ℕ
ask k = codes "ask" ++ decimal (k + 1)

abbrev pub get : ℕ → List ℕ
get k = codes "get" ++ decimal (k + 1)

abbrev pub put : ℕ → List ℕ
put k = codes "put" ++ decimal (k + 1)

-- what user k can do: ask where it is idle, get the lock where it waits and nobody has it, put it back where it has it
abbrev pub turn : Users → ℕ → User → List Triple
turn users k Idle = triple (word users) (ask k) (word (slice_set users k Waiting)) ∷ []
turn users k Waiting = if is_taken users then [] else triple (word users) (get k) (word (slice_set users k Critical)) ∷ []
turn users k Critical = triple (word users) (put k) (word (slice_set users k Idle)) ∷ []

abbrev pub turns : Users → List Triple
turns users = each_below (length users) (λ k. turn users k (slice_index_or users k Idle))

abbrev pub lock : ℕ → Drawing
lock n = record {
  states = map word (with_lock n);
  labels = each_below n (λ k. ask k ∷ get k ∷ put k ∷ []);
  arcs = flat_map turns (with_lock n);
  initial = word (replicate n Idle);
}
