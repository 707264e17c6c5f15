-- Locks are within the limits, and their arcs join their states.
use Rattle.std.proofs.Common.{◌≡◌, ℕ, zero, suc, ◌+◌, ◌<◌, ◌≤◌, Bool, true, false, List, [], ◌∷◌, length, map, set, get_or, drop, replicate, Contains, if◌then◌else◌, codes, decimal, refl, sym, ap, ap₂, subst, ◌∙◌, arith}
use Rattle.std.specs.List.{flat_map, range_with_len}
use Rattle.std.proofs.lemmas.List.{length-map}
use Rattle.std.proofs.lemmas.List.Elements.{All-map}
use Rattle.std.proofs.lemmas.List.FromFn.{length-range_with_len}
use Rattle.rg_text.specs.Byte.{IsName, is_name_byte}
use Rattle.rg_theory.proofs.Lists.{map_there, map_from}
use Rattle.rg_lts.specs.WellFormed.{AreNames}
use Rattle.rg_line_formats.proofs.Things.{there_one}
use Rattle.rg_families.specs.declared.lock.User.{User}
use Rattle.rg_families.specs.declared.lock.User.TheVariants.{Idle, Waiting, Critical}
use Rattle.rg_families.specs.Named.{Triple, triple, IsKnown, IsSound, each_below}
use Rattle.rg_families.specs.Lock.{Users, letter, word, is_taken, with_lock, ask, get, put, turn, turns, lock}
use Rattle.rg_families.proofs.Lists.{Differ, differ_nil, differ_cons, differ_each, differ_map, each_from, each_has, flat_from, flat_short, all_members}
use Rattle.rg_families.proofs.Texts.{numbered_is_name, same_number}
use Rattle.rg_families.proofs.LockUsers.{OneHas, with_from, set_one, gets_lock, not_taken, idle_there, goes_there, with_differ, with_few}

-- words
letter_passes : (user : User) → is_name_byte (letter user) ≡ true
letter_passes Idle = refl
letter_passes Waiting = refl
letter_passes Critical = refl

same_letter : (a b : User) → letter a ≡ letter b → a ≡ b
same_letter Idle Idle e = refl
same_letter Idle Waiting e = absurd (omega arith)
same_letter Idle Critical e = absurd (omega arith)
same_letter Waiting Idle e = absurd (omega arith)
same_letter Waiting Waiting e = refl
same_letter Waiting Critical e = absurd (omega arith)
same_letter Critical Idle e = absurd (omega arith)
same_letter Critical Waiting e = absurd (omega arith)
same_letter Critical Critical e = refl

pub same_word : (a b : Users) → word a ≡ word b → a ≡ b
same_word [] [] e = refl
same_word [] (y ∷ b) e = absurd cc
same_word (x ∷ a) [] e = absurd cc
same_word (x ∷ a) (y ∷ b) e =
    let head : letter x ≡ letter y = cc in
    let tail : word a ≡ word b = cc in
    ap₂ ◌∷◌ (same_letter x y head) (same_word a b tail)

word_is_name : (users : Users) → 0 < length users → length users ≤ 9 → IsName (word users)
word_is_name users some few =
    let size = length-map users letter in
    record { some = omega (arith, size); short = omega (arith, size); bytes = All-map (λ b. is_name_byte b ≡ true) letter users (λ k d lt. letter_passes (get_or users k d)) }

-- labels
abbrev pub three : ℕ → List (List ℕ)
three k = ask k ∷ get k ∷ put k ∷ []

pub three_number : (k : ℕ) (x : List ℕ) → Contains (three k) x → drop 3 x ≡ decimal (k + 1)
three_number k x (zero, lt, e) = subst (λ l. drop 3 l ≡ decimal (k + 1)) e refl
three_number k x (suc zero, lt, e) = subst (λ l. drop 3 l ≡ decimal (k + 1)) e refl
three_number k x (suc (suc zero), lt, e) = subst (λ l. drop 3 l ≡ decimal (k + 1)) e refl
three_number k x (suc (suc (suc i)), lt, e) = absurd (omega arith)

three_names : (k : ℕ) (x : List ℕ) → k < 9 → Contains (three k) x → IsName x
three_names k x few (zero, lt, e) = subst IsName e (numbered_is_name (codes "ask") (k + 1) refl (omega arith) (omega arith) (omega arith))
three_names k x few (suc zero, lt, e) = subst IsName e (numbered_is_name (codes "get") (k + 1) refl (omega arith) (omega arith) (omega arith))
three_names k x few (suc (suc zero), lt, e) = subst IsName e (numbered_is_name (codes "put") (k + 1) refl (omega arith) (omega arith) (omega arith))
three_names k x few (suc (suc (suc i)), lt, e) = absurd (omega arith)

three_differ : (k : ℕ) → Differ (three k)
three_differ k =
    differ_cons (ask k) (get k ∷ put k ∷ []) (differ_cons (get k) (put k ∷ []) (differ_cons (put k) [] differ_nil (λ has. omega (arith, has.1)))
    (λ has. (let e = there_one (put k) (get k) has in get_put e))) ask_other
  where
    get_put : put k ≡ get k → ⊥
    get_put e = let first : 112 ≡ 103 = ap (λ l. get_or l 0 0) e in omega (arith, first)

    ask_other : Contains (get k ∷ put k ∷ []) (ask k) → ⊥
    ask_other (zero, lt, e) = let first : 103 ≡ 97 = ap (λ l. get_or l 0 0) e in omega (arith, first)
    ask_other (suc zero, lt, e) = let first : 112 ≡ 97 = ap (λ l. get_or l 0 0) e in omega (arith, first)
    ask_other (suc (suc i), lt, e) = omega arith

labels_names : (n : ℕ) → n ≤ 9 → AreNames (each_below n three)
labels_names n le = record {
  each = all_members IsName (each_below n three) (λ x has. (let r = each_from n three x has in three_names r.0 x (omega (arith, r.1)) r.2));
  differ = differ_each n three (λ k lt. three_differ k) (λ i j x less lt here there.
      (let same = same_number (i + 1) (j + 1) (omega arith) (omega arith) (sym (three_number i x here) ∙ three_number j x there) in omega (arith, same)));
}

-- arcs
module _ (n k : ℕ) (users : Users) (size : length users ≡ n) (one : OneHas users) (has : Contains (with_lock n) users) (lt : k < length users) where
  joins : (label : List ℕ) (v : User) → Contains (three k) label → OneHas (set users k v) → IsKnown (lock n).states (lock n).labels (triple (word users) label (word (set users k v)))
  joins label v named still = record {
    from = map_there word (with_lock n) users has;
    label = each_has n three k label (omega (arith, size)) named;
    to = map_there word (with_lock n) (set users k v) (goes_there n k users v size still);
  }

  turn_known : (user : User) (t : Triple) → Contains (turn users k user) t → IsKnown (lock n).states (lock n).labels t
  turn_known Idle t there =
      subst (IsKnown (lock n).states (lock n).labels) (there_one (triple (word users) (ask k) (word (set users k Waiting))) t there)
      (joins (ask k) Waiting (zero, omega arith, refl) (set_one Waiting (λ u h. h) (λ u h. h) users k lt one))
  turn_known Waiting t there = by (is_taken users) refl there
    where
      by : (b : Bool) → is_taken users ≡ b → Contains (if b then [] else (triple (word users) (get k) (word (set users k Critical)) ∷ [])) t → IsKnown (lock n).states (lock n).labels t
      by true e there = absurd (omega (arith, there.1))
      by false e there =
          subst (IsKnown (lock n).states (lock n).labels) (there_one (triple (word users) (get k) (word (set users k Critical))) t there)
          (joins (get k) Critical (suc zero, omega arith, refl) (gets_lock users k lt (not_taken users e)))
  turn_known Critical t there =
      subst (IsKnown (lock n).states (lock n).labels) (there_one (triple (word users) (put k) (word (set users k Idle))) t there)
      (joins (put k) Idle (suc (suc zero), omega arith, refl) (set_one Idle (λ u h. h) (λ u h. h) users k lt one))

turns_known : (n : ℕ) (t : Triple) → Contains (flat_map turns (with_lock n)) t → IsKnown (lock n).states (lock n).labels t
turns_known n t has =
    let r = flat_from turns (with_lock n) t has in
    let are = with_from n r.0 r.1 in
    let s = each_from (length r.0) (λ k. turn r.0 k (get_or r.0 k Idle)) t r.2 in
    turn_known n s.0 r.0 are.0 are.1 r.1 s.1 (get_or r.0 s.0 Idle) t s.2

pub turn_short : (users : Users) (k : ℕ) (user : User) → length (turn users k user) ≤ 1
turn_short users k Idle = omega arith
turn_short users k Waiting = by (is_taken users)
  where
    by : (b : Bool) → length (if b then [] else (triple (word users) (get k) (word (set users k Critical)) ∷ [])) ≤ 1
    by true = omega arith
    by false = omega arith
turn_short users k Critical = omega arith

turns_short : (users : Users) → length users ≤ 9 → length (turns users) ≤ 9
turns_short users few =
    let short = flat_short (λ k. turn users k (get_or users k Idle)) (range_with_len 0 (length users)) 1 (λ k has. turn_short users k (get_or users k Idle)) in
    omega (arith, short, length-range_with_len 0 (length users))

pub lock_is_sound : (n : ℕ) → 1 ≤ n → n ≤ 9 → IsSound (lock n)
lock_is_sound n some le =
    let few = with_few n le in
    let arcs = flat_short turns (with_lock n) 9 (λ users has. (let are = with_from n users has in turns_short users (omega (arith, are.0)))) in
    let labels = flat_short three (range_with_len 0 n) 3 (λ k has. omega arith) in
    record {
      state_names = record {
        each = all_members IsName (map word (with_lock n)) (λ x has. (let r = map_from word (with_lock n) x has in
            let are = with_from n r.0 r.1 in
            subst IsName r.2 (word_is_name r.0 (omega (arith, are.0)) (omega (arith, are.0)))));
        differ = differ_map word (with_lock n) (with_differ n) (λ x y hx hy e. same_word x y e);
      };
      label_names = labels_names n le;
      known = turns_known n;
      initial = map_there word (with_lock n) (replicate n Idle) (idle_there n);
      few_states = omega (arith, few, length-map (with_lock n) word);
      few_labels = omega (arith, labels, length-range_with_len 0 n);
      few_arcs = omega (arith, few, arcs);
    }
