-- Locks are open.
use Rattle.std.proofs.Common.{◌≡◌, ℕ, zero, suc, ◌+◌, ◌<◌, ◌≤◌, Bool, true, false, List, [], ◌∷◌, ◌++◌, length, set, get_or, replicate, Contains, if◌then◌else◌, refl, sym, ap, subst, ◌∙◌, append_assoc, arith}
use Rattle.std.specs.List.{flat_map}
use Rattle.std.proofs.lemmas.List.{length-append, length-replicate}
use Rattle.rg_theory.specs.System.{System, IsAllReachable, IsForkFree}
use Rattle.rg_theory.proofs.Lists.{map_from}
use Rattle.rg_line_formats.proofs.Things.{there_one}
use Rattle.rg_families.specs.declared.lock.User.{User}
use Rattle.rg_families.specs.declared.lock.User.TheVariants.{Idle, Waiting, Critical}
use Rattle.rg_families.specs.Named.{Triple, triple, IsSystemOf}
use Rattle.rg_families.specs.Lock.{most_lock, Users, word, is_taken, with_lock, ask, get, turn, turns, lock}
use Rattle.rg_families.proofs.Lists.{each_from, each_has, flat_from, flat_has}
use Rattle.rg_families.proofs.Texts.{same_number}
use Rattle.rg_families.proofs.LockUsers.{NoneHas, OneHas, with_has, with_from, all_idle}
use Rattle.rg_families.proofs.LockSound.{same_word, three, three_number, turn_short, lock_is_sound}
use Rattle.rg_families.proofs.Opened.{IsMet, initial_met, met_more, all_met, no_fork}

-- a user behind others
get_mid : (front : Users) (v : User) (rest : Users) → get_or (front ++ v ∷ rest) (length front) Idle ≡ v
get_mid [] v rest = refl
get_mid (u ∷ front) v rest = get_mid front v rest

set_mid : (front : Users) (v w : User) (rest : Users) → set (front ++ v ∷ rest) (length front) w ≡ front ++ w ∷ rest
set_mid [] v w rest = refl
set_mid (u ∷ front) v w rest = ap (λ l. u ∷ l) (set_mid front v w rest)

-- users behind others who become idle, or wait
idle_none : (front rest : Users) (n : ℕ) → NoneHas (front ++ rest) → NoneHas (front ++ replicate n Idle)
idle_none [] rest zero h = tt
idle_none [] rest (suc n) h = idle_none [] rest n h
idle_none (Idle ∷ front) rest n h = idle_none front rest n h
idle_none (Waiting ∷ front) rest n h = idle_none front rest n h
idle_none (Critical ∷ front) rest n h = absurd h

idle_one : (front rest : Users) (n : ℕ) → OneHas (front ++ rest) → OneHas (front ++ replicate n Idle)
idle_one [] rest n h = all_idle n
idle_one (Idle ∷ front) rest n h = idle_one front rest n h
idle_one (Waiting ∷ front) rest n h = idle_one front rest n h
idle_one (Critical ∷ front) rest n h = idle_none front rest n h

wait_none : (front rest : Users) → NoneHas (front ++ Idle ∷ rest) → NoneHas (front ++ Waiting ∷ rest)
wait_none [] rest h = h
wait_none (Idle ∷ front) rest h = wait_none front rest h
wait_none (Waiting ∷ front) rest h = wait_none front rest h
wait_none (Critical ∷ front) rest h = absurd h

wait_one : (front rest : Users) → OneHas (front ++ Idle ∷ rest) → OneHas (front ++ Waiting ∷ rest)
wait_one [] rest h = h
wait_one (Idle ∷ front) rest h = wait_one front rest h
wait_one (Waiting ∷ front) rest h = wait_one front rest h
wait_one (Critical ∷ front) rest h = wait_none front rest h

-- where one user behind others has the lock, no user before it has, nor one behind it
alone : (front rest : Users) (n : ℕ) → OneHas (front ++ Critical ∷ rest) → NoneHas (front ++ Waiting ∷ replicate n Idle)
alone [] rest n h = idle_none [] rest n h
alone (Idle ∷ front) rest n h = alone front rest n h
alone (Waiting ∷ front) rest n h = alone front rest n h
alone (Critical ∷ front) rest n h = absurd (never front h)
  where
    never : (more : Users) → NoneHas (more ++ Critical ∷ rest) → ⊥
    never [] x = x
    never (Idle ∷ more) x = never more x
    never (Waiting ∷ more) x = never more x
    never (Critical ∷ more) x = x

untaken : (users : Users) → NoneHas users → is_taken users ≡ false
untaken [] h = refl
untaken (Idle ∷ users) h = untaken users h
untaken (Waiting ∷ users) h = untaken users h
untaken (Critical ∷ users) h = absurd h

turn_there : (n k : ℕ) (users : Users) (user : User) (t : Triple) → Contains (with_lock n) users → k < length users → get_or users k Idle ≡ user → Contains (turn users k user) t
    → Contains (flat_map turns (with_lock n)) t
turn_there n k users user t has lt at here =
    flat_has turns (with_lock n) users t has (each_has (length users) (λ i. turn users i (get_or users i Idle)) k t lt (subst (λ u. Contains (turn users k u) t) (sym at) here))

there : (n : ℕ) (users : Users) → length users ≡ n → OneHas users → Contains (with_lock n) users
there n users size one = subst (λ m. Contains (with_lock m) users) size (with_has users one)

module _ (n : ℕ) (some : 1 ≤ n) (le : n ≤ most_lock) (lts : System) (is : IsSystemOf (lock n) lts) where
  abbrev Met : Users → Type 0
  Met users = IsMet (lock n) (lock_is_sound n some le) lts is (word users)

  asks : (front rest : Users) → length (front ++ Idle ∷ rest) ≡ n → OneHas (front ++ Idle ∷ rest) → Met (front ++ Idle ∷ rest) → Met (front ++ Waiting ∷ rest)
  asks front rest size one met =
      let users = front ++ Idle ∷ rest in
      let k = length front in
      let t = triple (word users) (ask k) (word (set users k Waiting)) in
      subst Met (set_mid front Idle Waiting rest)
      (met_more (lock n) (lock_is_sound n some le) lts is t
      (turn_there n k users Idle t (there n users size one) (omega (arith, length-append front (Idle ∷ rest))) (get_mid front Idle rest) (zero, omega arith, refl)) met)

  gets : (front rest : Users) → length (front ++ Waiting ∷ rest) ≡ n → OneHas (front ++ Waiting ∷ rest) → NoneHas (front ++ Waiting ∷ rest)
      → Met (front ++ Waiting ∷ rest) → Met (front ++ Critical ∷ rest)
  gets front rest size one none met =
      let users = front ++ Waiting ∷ rest in
      let k = length front in
      let t = triple (word users) (get k) (word (set users k Critical)) in
      let here : Contains (turn users k Waiting) t = subst (λ b. Contains (if b then [] else (t ∷ [])) t) (sym (untaken users none)) (zero, omega arith, refl) in
      subst Met (set_mid front Waiting Critical rest)
      (met_more (lock n) (lock_is_sound n some le) lts is t
      (turn_there n k users Waiting t (there n users size one) (omega (arith, length-append front (Waiting ∷ rest))) (get_mid front Waiting rest) here) met)

  -- the users before are as they are to be, and those behind are idle
  goes_on : (front rest : Users) → length (front ++ rest) ≡ n → OneHas (front ++ rest) → Met (front ++ replicate (length rest) Idle) → Met (front ++ rest)
  goes_on front [] size one met = met
  goes_on front (Idle ∷ rest) size one met =
      let whole = append_assoc front (Idle ∷ []) rest in
      let part = append_assoc front (Idle ∷ []) (replicate (length rest) Idle) in
      subst Met whole (goes_on (front ++ Idle ∷ []) rest (ap length whole ∙ size) (subst OneHas (sym whole) one) (subst Met (sym part) met))
  goes_on front (Waiting ∷ rest) size one met =
      let whole = append_assoc front (Waiting ∷ []) rest in
      let part = append_assoc front (Waiting ∷ []) (replicate (length rest) Idle) in
      let idle = replicate (length rest) Idle in
      let long : length (front ++ Idle ∷ idle) ≡ n = omega (arith, size, length-append front (Waiting ∷ rest), length-append front (Idle ∷ idle), length-replicate (length rest) Idle) in
      subst Met whole (goes_on (front ++ Waiting ∷ []) rest (ap length whole ∙ size) (subst OneHas (sym whole) one)
      (subst Met (sym part) (asks front idle long (idle_one front (Waiting ∷ rest) (suc (length rest)) one) met)))
  goes_on front (Critical ∷ rest) size one met =
      let whole = append_assoc front (Critical ∷ []) rest in
      let part = append_assoc front (Critical ∷ []) (replicate (length rest) Idle) in
      let idle = replicate (length rest) Idle in
      let long : length (front ++ Idle ∷ idle) ≡ n = omega (arith, size, length-append front (Critical ∷ rest), length-append front (Idle ∷ idle), length-replicate (length rest) Idle) in
      let long' : length (front ++ Waiting ∷ idle) ≡ n = omega (arith, size, length-append front (Critical ∷ rest), length-append front (Waiting ∷ idle), length-replicate (length rest) Idle) in
      let calm = idle_one front (Critical ∷ rest) (suc (length rest)) one in
      subst Met whole (goes_on (front ++ Critical ∷ []) rest (ap length whole ∙ size) (subst OneHas (sym whole) one)
      (subst Met (sym part) (gets front idle long' (wait_one front idle calm) (alone front rest (length rest) one) (asks front idle long calm met))))

  pub lock_is_reachable : IsAllReachable lts
  lock_is_reachable = all_met (lock n) (lock_is_sound n some le) lts is (λ x has. (let r = map_from word (with_lock n) x has in
      let are = with_from n r.0 r.1 in
      let start : Met (replicate (length r.0) Idle) = subst (λ m. Met (replicate m Idle)) (sym are.0) (initial_met (lock n) (lock_is_sound n some le) lts is) in
      subst (IsMet (lock n) (lock_is_sound n some le) lts is) r.2 (goes_on [] r.0 are.0 are.1 start)))

-- what a turn tells
turn_from : (users : Users) (k : ℕ) (user : User) (t : Triple) → Contains (turn users k user) t → (t.from ≡ word users) × Contains (three k) t.label
turn_from users k Idle t has = subst (λ (u : Triple). (u.from ≡ word users) × Contains (three k) u.label) (there_one _ t has) (refl, (zero, omega arith, refl))
turn_from users k Waiting t has = by (is_taken users) has
  where
    by : (b : Bool) → Contains (if b then [] else (triple (word users) (get k) (word (set users k Critical)) ∷ [])) t → (t.from ≡ word users) × Contains (three k) t.label
    by true none = absurd (omega (arith, none.1))
    by false one = subst (λ (u : Triple). (u.from ≡ word users) × Contains (three k) u.label) (there_one _ t one) (refl, (suc zero, omega arith, refl))
turn_from users k Critical t has = subst (λ (u : Triple). (u.from ≡ word users) × Contains (three k) u.label) (there_one _ t has) (refl, (suc (suc zero), omega arith, refl))

-- a short list has one thing
only_one : (xs : List Triple) (a b : Triple) → length xs ≤ 1 → Contains xs a → Contains xs b → a ≡ b
only_one [] a b short (k, lt, e) hb = absurd (omega arith)
only_one (x ∷ []) a b short ha hb = sym (there_one x a ha) ∙ there_one x b hb
only_one (x ∷ y ∷ xs) a b short ha hb = absurd (omega arith)

one_turn : (users others : Users) (k l : ℕ) (t u : Triple) → users ≡ others → k ≡ l → Contains (turn users k (get_or users k Idle)) t → Contains (turn others l (get_or others l Idle)) u → t ≡ u
one_turn users others k l t u same at ht hu =
    only_one (turn users k (get_or users k Idle)) t u (turn_short users k (get_or users k Idle)) ht
    (subst (λ (v : Users). Contains (turn v k (get_or v k Idle)) u) (sym same) (subst (λ i. Contains (turn others i (get_or others i Idle)) u) (sym at) hu))

pub lock_is_fork_free : (n : ℕ) (lts : System) → 1 ≤ n → n ≤ most_lock → IsSystemOf (lock n) lts → IsForkFree lts
lock_is_fork_free n lts some le is = no_fork (lock n) (lock_is_sound n some le) lts is (λ t u ht hu from label.
    (let a = flat_from turns (with_lock n) t ht in
    let b = flat_from turns (with_lock n) u hu in
    let p = each_from (length a.0) (λ i. turn a.0 i (get_or a.0 i Idle)) t a.2 in
    let q = each_from (length b.0) (λ i. turn b.0 i (get_or b.0 i Idle)) u b.2 in
    let x = turn_from a.0 p.0 (get_or a.0 p.0 Idle) t p.2 in
    let y = turn_from b.0 q.0 (get_or b.0 q.0 Idle) u q.2 in
    let la = (with_from n a.0 a.1).0 in
    let lb = (with_from n b.0 b.1).0 in
    let users : a.0 ≡ b.0 = same_word a.0 b.0 (sym x.0 ∙ from ∙ y.0) in
    let numbers = same_number (p.0 + 1) (q.0 + 1) (omega (arith, p.1, la)) (omega (arith, q.1, lb))
    (sym (three_number p.0 t.label x.1) ∙ three_number q.0 t.label (subst (Contains (three q.0)) (sym label) y.1)) in
    ap (λ (v : Triple). v.to) (one_turn a.0 b.0 p.0 q.0 t u users (omega (arith, numbers)) p.2 q.2)))
