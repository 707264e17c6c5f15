-- Which users stand in the lists of a lock's users, and how many these are.
use Rattle.std.proofs.Common.{◌≡◌, ◌⊎◌, inl, inr, ⊎_elim, ℕ, zero, suc, ◌+◌, ◌-◌, ◌<◌, ◌≤◌, ◌^◌, false, List, [], ◌∷◌, ◌++◌, length, map, set, replicate, Contains, refl, sym, ap, subst, ◌∙◌, append_assoc, arith}
use Rattle.std.proofs.lemmas.List.{length-append, length-map, length-replicate, length-set}
use Rattle.std.proofs.lemmas.List.Elements.{Contains-append_left, Contains-append_right, Contains-append_cases}
use Rattle.rg_theory.proofs.Lists.{map_there, map_from}
use Rattle.rg_line_formats.proofs.Things.{there_one}
use Rattle.rg_families.specs.declared.lock.User.{User}
use Rattle.rg_families.specs.declared.lock.User.TheVariants.{Idle, Waiting, Critical}
use Rattle.rg_families.specs.Lock.{Users, is_taken, with_lock, without_lock}
use Rattle.rg_families.proofs.Lists.{Differ, differ_nil, differ_cons, differ_append, differ_map}

-- no user has the lock
abbrev pub NoneHas : Users → Type 0
NoneHas [] = Unit {0}
NoneHas (Idle ∷ users) = NoneHas users
NoneHas (Waiting ∷ users) = NoneHas users
NoneHas (Critical ∷ users) = ⊥

-- one user at most has it
abbrev pub OneHas : Users → Type 0
OneHas [] = Unit {0}
OneHas (Idle ∷ users) = OneHas users
OneHas (Waiting ∷ users) = OneHas users
OneHas (Critical ∷ users) = NoneHas users

pub without_has : (users : Users) → NoneHas users → Contains (without_lock (length users)) users
without_has [] h = (zero, omega arith, refl)
without_has (Idle ∷ users) h =
    let all = without_lock (length users) in
    Contains-append_left (map (◌∷◌ Idle) all) (map (◌∷◌ Waiting) all) (Idle ∷ users) (map_there (◌∷◌ Idle) all users (without_has users h))
without_has (Waiting ∷ users) h =
    let all = without_lock (length users) in
    Contains-append_right (map (◌∷◌ Idle) all) (map (◌∷◌ Waiting) all) (Waiting ∷ users) (map_there (◌∷◌ Waiting) all users (without_has users h))
without_has (Critical ∷ users) h = absurd h

pub with_has : (users : Users) → OneHas users → Contains (with_lock (length users)) users
with_has [] h = (zero, omega arith, refl)
with_has (Idle ∷ users) h =
    let all = with_lock (length users) in
    Contains-append_left (map (◌∷◌ Idle) all) (map (◌∷◌ Waiting) all ++ map (◌∷◌ Critical) (without_lock (length users))) (Idle ∷ users) (map_there (◌∷◌ Idle) all users (with_has users h))
with_has (Waiting ∷ users) h =
    let all = with_lock (length users) in
    let none = without_lock (length users) in
    Contains-append_right (map (◌∷◌ Idle) all) (map (◌∷◌ Waiting) all ++ map (◌∷◌ Critical) none) (Waiting ∷ users)
    (Contains-append_left (map (◌∷◌ Waiting) all) (map (◌∷◌ Critical) none) (Waiting ∷ users) (map_there (◌∷◌ Waiting) all users (with_has users h)))
with_has (Critical ∷ users) h =
    let all = with_lock (length users) in
    let none = without_lock (length users) in
    Contains-append_right (map (◌∷◌ Idle) all) (map (◌∷◌ Waiting) all ++ map (◌∷◌ Critical) none) (Critical ∷ users)
    (Contains-append_right (map (◌∷◌ Waiting) all) (map (◌∷◌ Critical) none) (Critical ∷ users) (map_there (◌∷◌ Critical) none users (without_has users h)))

pub without_from : (n : ℕ) (users : Users) → Contains (without_lock n) users → (length users ≡ n) × NoneHas users
without_from zero users has = subst (λ l. (length l ≡ 0) × NoneHas l) (there_one [] users has) (refl, tt)
without_from (suc n) users has = by (Contains-append_cases (map (◌∷◌ Idle) (without_lock n)) (map (◌∷◌ Waiting) (without_lock n)) users has) (without_from n)
  where
    by : Contains (map (◌∷◌ Idle) (without_lock n)) users ⊎ Contains (map (◌∷◌ Waiting) (without_lock n)) users
        → ((rest : Users) → Contains (without_lock n) rest → (length rest ≡ n) × NoneHas rest) → (length users ≡ suc n) × NoneHas users
    by (inl here) go =
        let r = map_from (◌∷◌ Idle) (without_lock n) users here in
        let s = go r.0 r.1 in
        subst (λ l. (length l ≡ suc n) × NoneHas l) r.2 (omega (arith, s.0), s.1)
    by (inr here) go =
        let r = map_from (◌∷◌ Waiting) (without_lock n) users here in
        let s = go r.0 r.1 in
        subst (λ l. (length l ≡ suc n) × NoneHas l) r.2 (omega (arith, s.0), s.1)

pub with_from : (n : ℕ) (users : Users) → Contains (with_lock n) users → (length users ≡ n) × OneHas users
with_from zero users has = subst (λ l. (length l ≡ 0) × OneHas l) (there_one [] users has) (refl, tt)
with_from (suc n) users has =
    ⊎_elim (λ here. idle here (with_from n))
    (λ later. ⊎_elim (λ here. waiting here (with_from n)) critical (Contains-append_cases (map (◌∷◌ Waiting) (with_lock n)) (map (◌∷◌ Critical) (without_lock n)) users later))
    (Contains-append_cases (map (◌∷◌ Idle) (with_lock n)) (map (◌∷◌ Waiting) (with_lock n) ++ map (◌∷◌ Critical) (without_lock n)) users has)
  where
    idle : Contains (map (◌∷◌ Idle) (with_lock n)) users → ((rest : Users) → Contains (with_lock n) rest → (length rest ≡ n) × OneHas rest) → (length users ≡ suc n) × OneHas users
    idle here go =
        let r = map_from (◌∷◌ Idle) (with_lock n) users here in
        let s = go r.0 r.1 in
        subst (λ l. (length l ≡ suc n) × OneHas l) r.2 (omega (arith, s.0), s.1)

    waiting : Contains (map (◌∷◌ Waiting) (with_lock n)) users → ((rest : Users) → Contains (with_lock n) rest → (length rest ≡ n) × OneHas rest) → (length users ≡ suc n) × OneHas users
    waiting here go =
        let r = map_from (◌∷◌ Waiting) (with_lock n) users here in
        let s = go r.0 r.1 in
        subst (λ l. (length l ≡ suc n) × OneHas l) r.2 (omega (arith, s.0), s.1)

    critical : Contains (map (◌∷◌ Critical) (without_lock n)) users → (length users ≡ suc n) × OneHas users
    critical here =
        let r = map_from (◌∷◌ Critical) (without_lock n) users here in
        let s = without_from n r.0 r.1 in
        subst (λ l. (length l ≡ suc n) × OneHas l) r.2 (omega (arith, s.0), s.1)

-- one user more
pub with_made : (n : ℕ) (base first second third wa wb oc : List Users) → base ≡ [] → first ≡ base ++ map (◌∷◌ Idle) wa
    → second ≡ first ++ map (◌∷◌ Waiting) wb → third ≡ second ++ map (◌∷◌ Critical) oc
    → wa ≡ with_lock n → wb ≡ with_lock n → oc ≡ without_lock n → third ≡ with_lock (n + 1)
with_made n base first second third wa wb oc none is_first is_second is_third is_wa is_wb is_oc =
    let more : suc n ≡ n + 1 = omega arith in
    let idle = map (◌∷◌ Idle) (with_lock n) in
    let waiting = map (◌∷◌ Waiting) (with_lock n) in
    let critical = map (◌∷◌ Critical) (without_lock n) in
    let one : first ≡ idle = is_first ∙ ap (λ l. l ++ map (◌∷◌ Idle) wa) none ∙ ap (map (◌∷◌ Idle)) is_wa in
    let two : second ≡ idle ++ waiting = is_second ∙ ap (λ l. l ++ map (◌∷◌ Waiting) wb) one ∙ ap (λ l. idle ++ map (◌∷◌ Waiting) l) is_wb in
    is_third ∙ ap (λ l. l ++ map (◌∷◌ Critical) oc) two ∙ ap (λ l. (idle ++ waiting) ++ map (◌∷◌ Critical) l) is_oc ∙ append_assoc idle waiting critical ∙ ap with_lock more

pub without_made : (n : ℕ) (base first second oa ob : List Users) → base ≡ [] → first ≡ base ++ map (◌∷◌ Idle) oa → second ≡ first ++ map (◌∷◌ Waiting) ob
    → oa ≡ without_lock n → ob ≡ without_lock n → second ≡ without_lock (n + 1)
without_made n base first second oa ob none is_first is_second is_oa is_ob =
    let more : suc n ≡ n + 1 = omega arith in
    let idle = map (◌∷◌ Idle) (without_lock n) in
    let one : first ≡ idle = is_first ∙ ap (λ l. l ++ map (◌∷◌ Idle) oa) none ∙ ap (map (◌∷◌ Idle)) is_oa in
    is_second ∙ ap (λ l. l ++ map (◌∷◌ Waiting) ob) one ∙ ap (λ l. idle ++ map (◌∷◌ Waiting) l) is_ob ∙ ap without_lock more

-- a user goes on
pub none_one : (users : Users) → NoneHas users → OneHas users
none_one [] h = tt
none_one (Idle ∷ users) h = none_one users h
none_one (Waiting ∷ users) h = none_one users h
none_one (Critical ∷ users) h = absurd h

rest_one : (user : User) (users : Users) → OneHas (user ∷ users) → OneHas users
rest_one Idle users h = h
rest_one Waiting users h = h
rest_one Critical users h = none_one users h

rest_none : (user : User) (users : Users) → NoneHas (user ∷ users) → NoneHas users
rest_none Idle users h = h
rest_none Waiting users h = h
rest_none Critical users h = absurd h

module _ (v : User) (calm_one : (users : Users) → OneHas users → OneHas (v ∷ users)) (calm_none : (users : Users) → NoneHas users → NoneHas (v ∷ users)) where
  pub set_none : (users : Users) (k : ℕ) → k < length users → NoneHas users → NoneHas (set users k v)
  set_none [] k lt h = absurd (omega arith)
  set_none (user ∷ users) zero lt h = calm_none users (rest_none user users h)
  set_none (Idle ∷ users) (suc k) lt h = set_none users k (omega arith) h
  set_none (Waiting ∷ users) (suc k) lt h = set_none users k (omega arith) h
  set_none (Critical ∷ users) (suc k) lt h = absurd h

  pub set_one : (users : Users) (k : ℕ) → k < length users → OneHas users → OneHas (set users k v)
  set_one [] k lt h = absurd (omega arith)
  set_one (user ∷ users) zero lt h = calm_one users (rest_one user users h)
  set_one (Idle ∷ users) (suc k) lt h = set_one users k (omega arith) h
  set_one (Waiting ∷ users) (suc k) lt h = set_one users k (omega arith) h
  set_one (Critical ∷ users) (suc k) lt h = set_none users k (omega arith) h

pub gets_lock : (users : Users) (k : ℕ) → k < length users → NoneHas users → OneHas (set users k Critical)
gets_lock [] k lt h = absurd (omega arith)
gets_lock (user ∷ users) zero lt h = rest_none user users h
gets_lock (Idle ∷ users) (suc k) lt h = gets_lock users k (omega arith) h
gets_lock (Waiting ∷ users) (suc k) lt h = gets_lock users k (omega arith) h
gets_lock (Critical ∷ users) (suc k) lt h = absurd h

pub not_taken : (users : Users) → is_taken users ≡ false → NoneHas users
not_taken [] e = tt
not_taken (Idle ∷ users) e = not_taken users e
not_taken (Waiting ∷ users) e = not_taken users e
not_taken (Critical ∷ users) e = absurd cc

pub all_idle : (n : ℕ) → OneHas (replicate n Idle)
all_idle zero = tt
all_idle (suc n) = all_idle n

pub idle_there : (n : ℕ) → Contains (with_lock n) (replicate n Idle)
idle_there n = subst (λ m. Contains (with_lock m) (replicate n Idle)) (length-replicate n Idle) (with_has (replicate n Idle) (all_idle n))

-- users that go on are there
pub goes_there : (n k : ℕ) (users : Users) (v : User) → length users ≡ n → OneHas (set users k v) → Contains (with_lock n) (set users k v)
goes_there n k users v size one = subst (λ m. Contains (with_lock m) (set users k v)) (length-set users k v ∙ size) (with_has (set users k v) one)

-- all differ
led_differ : (v : User) (all : List Users) → Differ all → Differ (map (◌∷◌ v) all)
led_differ v all differ = differ_map (◌∷◌ v) all differ (λ x y hx hy e. cc)

pub without_differ : (n : ℕ) → Differ (without_lock n)
without_differ zero = differ_cons [] [] differ_nil (λ has. omega (arith, has.1))
without_differ (suc n) =
    differ_append (map (◌∷◌ Idle) (without_lock n)) (map (◌∷◌ Waiting) (without_lock n)) (led_differ Idle (without_lock n) (without_differ n)) (led_differ Waiting (without_lock n) (without_differ n))
    (λ x a b. (let r = map_from (◌∷◌ Idle) (without_lock n) x a in let s = map_from (◌∷◌ Waiting) (without_lock n) x b in other r.0 s.0 (r.2 ∙ sym s.2)))
  where
    other : (r s : Users) → Idle ∷ r ≡ Waiting ∷ s → ⊥
    other r s e = cc

pub with_differ : (n : ℕ) → Differ (with_lock n)
with_differ zero = differ_cons [] [] differ_nil (λ has. omega (arith, has.1))
with_differ (suc n) =
    differ_append idle (waiting ++ critical) (led_differ Idle (with_lock n) (with_differ n))
    (differ_append waiting critical (led_differ Waiting (with_lock n) (with_differ n)) (led_differ Critical (without_lock n) (without_differ n))
    (λ x a b. (let r = map_from (◌∷◌ Waiting) (with_lock n) x a in let s = map_from (◌∷◌ Critical) (without_lock n) x b in third r.0 s.0 (r.2 ∙ sym s.2))))
    (λ x a b. (let r = map_from (◌∷◌ Idle) (with_lock n) x a in
    ⊎_elim (λ h. (let s = map_from (◌∷◌ Waiting) (with_lock n) x h in first r.0 s.0 (r.2 ∙ sym s.2)))
    (λ h. (let s = map_from (◌∷◌ Critical) (without_lock n) x h in second r.0 s.0 (r.2 ∙ sym s.2))) (Contains-append_cases waiting critical x b)))
  where
    idle : List Users
    idle = map (◌∷◌ Idle) (with_lock n)

    waiting : List Users
    waiting = map (◌∷◌ Waiting) (with_lock n)

    critical : List Users
    critical = map (◌∷◌ Critical) (without_lock n)

    first : (r s : Users) → Idle ∷ r ≡ Waiting ∷ s → ⊥
    first r s e = cc

    second : (r s : Users) → Idle ∷ r ≡ Critical ∷ s → ⊥
    second r s e = cc

    third : (r s : Users) → Waiting ∷ r ≡ Critical ∷ s → ⊥
    third r s e = cc

-- how many
pub without_size : (n : ℕ) → length (without_lock n) ≡ 2 ^ n
without_size zero = refl
without_size (suc n) =
    let all = without_lock n in
    let size = without_size n in
    let double = pow_more n in
    omega (arith, size, double, length-append (map (◌∷◌ Idle) all) (map (◌∷◌ Waiting) all), length-map all (◌∷◌ Idle), length-map all (◌∷◌ Waiting))
  where
    pow_more : (m : ℕ) → 2 ^ suc m ≡ 2 ^ m + 2 ^ m
    pow_more m = omega arith

pub with_step : (n : ℕ) → length (with_lock (suc n)) ≡ length (with_lock n) + length (with_lock n) + 2 ^ n
with_step n =
    let all = with_lock n in
    let none = without_lock n in
    omega (
      arith,
      without_size n,
      length-append (map (◌∷◌ Idle) all) (map (◌∷◌ Waiting) all ++ map (◌∷◌ Critical) none),
      length-append (map (◌∷◌ Waiting) all) (map (◌∷◌ Critical) none),
      length-map all (◌∷◌ Idle),
      length-map all (◌∷◌ Waiting),
      length-map none (◌∷◌ Critical),
    )

with_grows : (n d : ℕ) → length (with_lock n) ≤ length (with_lock (n + d))
with_grows n zero = let e : n + zero ≡ n = omega arith in subst (λ m. length (with_lock n) ≤ length (with_lock m)) (sym e) (omega arith)
with_grows n (suc d) =
    let e : n + suc d ≡ suc (n + d) = omega arith in
    let rest = with_grows n d in
    let step = with_step (n + d) in
    subst (λ m. length (with_lock n) ≤ length (with_lock m)) (sym e) (omega (arith, rest, step))

nine : length (with_lock 9) ≡ 2816
nine = omega (arith, with_step 0, with_step 1, with_step 2, with_step 3, with_step 4, with_step 5, with_step 6, with_step 7, with_step 8)

pub with_few : (n : ℕ) → n ≤ 9 → length (with_lock n) ≤ 2816
with_few n le =
    let e : n + (9 - n) ≡ 9 = omega arith in
    let grows = subst (λ m. length (with_lock n) ≤ length (with_lock m)) e (with_grows n (9 - n)) in
    omega (arith, grows, nine)
