-- The labels at states that a place stops and that are not marked.
use Rattle.std.proofs.Common.{◌≡◌, ◌↔◌, ℕ, ◌+◌, ◌<◌, ◌≤◌, ◌⊎◌, Bool, true, false, List, [], ◌∷◌, ◌++◌, length, get_or, Contains, Vec, inl, inr, ⊎_elim, sym, ap, ◌∙◌, subst, arith}
use Rattle.std.proofs.lemmas.Bool.{cases_eq, true≢false}
use Rattle.std.proofs.lemmas.List.Elements.{Contains-append_left, Contains-push, Contains-push_cases, Contains-get_or}
use Rattle.rg_theory.specs.System.{System, states, labels}
use Rattle.rg_theory.specs.Net.{Place, pre_weight}
use Rattle.std.specs.declared.alloc.Global.{Global}
use Rattle.rg_marks.specs.Stops.{rows_in, mark_at, IsTable, IsStoppedBy}
use Rattle.rg_marks.proofs.Marking.{weight_read, row_read, row_of_label}

-- the states before q are added with the label
pub record PushedSoFar (tokens : List ℕ) (weight : ℕ) (row : List Bool) (t : ℕ) (old events : List (ℕ × ℕ)) (q : ℕ) : Type 0 where
  pub all : (s u : ℕ) → Contains events (s, u) ↔ (Contains old (s, u) ⊎ ((u ≡ t) × (s < q) × (get_or tokens s 0 < weight) × (get_or row s false ≡ false)))

module _ (tokens : List ℕ) (weight : ℕ) (row : List Bool) (t : ℕ) (old events : List (ℕ × ℕ)) (q : ℕ) (so_far : PushedSoFar tokens weight row t old events q) where
  pub pushed_then : get_or tokens q 0 < weight → get_or row q false ≡ false → PushedSoFar tokens weight row t old (events ++ (q, t) ∷ []) (q + 1)
  pushed_then few unmarked = record {
    all = λ s u. (
      λ h. ⊎_elim
          (λ before. ⊎_elim (λ has. inl has) (λ (e, less, few', unmarked'). inr (e, omega arith, few', unmarked')) ((so_far.all s u).0 before))
          (λ e. let eq : q ≡ s = ap (λ (x : ℕ × ℕ). x.0) e in let et : t ≡ u = ap (λ (x : ℕ × ℕ). x.1) e in
          inr (sym et, omega arith, subst (λ n. get_or tokens n 0 < weight) eq few, subst (λ n. get_or row n false ≡ false) eq unmarked))
          (Contains-push_cases events (q, t) (s, u) h),
      λ h. ⊎_elim
          (λ has. Contains-append_left events ((q, t) ∷ []) (s, u) ((so_far.all s u).1 (inl has)))
          (λ (e, less, few', unmarked'). at s u e less few' unmarked' (cases_eq s q))
          h,
    );
  }
    where
      at : (s u : ℕ) → u ≡ t → s < q + 1 → get_or tokens s 0 < weight → get_or row s false ≡ false → (s ≡ q) ⊎ (s ≡ q → ⊥) → Contains (events ++ (q, t) ∷ []) (s, u)
      at s u e less few' unmarked' (inl same) = subst (λ (x : ℕ × ℕ). Contains (events ++ (q, t) ∷ []) x) (λ i. (sym same i, sym e i)) (Contains-push events (q, t))
      at s u e less few' unmarked' (inr differ) = Contains-append_left events ((q, t) ∷ []) (s, u) ((so_far.all s u).1 (inr (e, omega arith, few', unmarked')))

  pub pushed_else : (get_or tokens q 0 < weight → get_or row q false ≡ true) → PushedSoFar tokens weight row t old events (q + 1)
  pushed_else marked = record {
    all = λ s u. (
      λ h. ⊎_elim (λ has. inl has) (λ (e, less, few', unmarked'). inr (e, omega arith, few', unmarked')) ((so_far.all s u).0 h),
      λ h. (so_far.all s u).1 (⊎_elim (λ has. inl has) (λ (e, less, few, unmarked). at s u e less few unmarked (cases_eq s q)) h),
    );
  }
    where
      at : (s u : ℕ) → u ≡ t → s < q + 1 → get_or tokens s 0 < weight → get_or row s false ≡ false → (s ≡ q) ⊎ (s ≡ q → ⊥)
          → Contains old (s, u) ⊎ ((u ≡ t) × (s < q) × (get_or tokens s 0 < weight) × (get_or row s false ≡ false))
      at s u e less few unmarked (inl same) = absurd (true≢false (sym (marked (subst (λ n. get_or tokens n 0 < weight) same few)) ∙ subst (λ n. get_or row n false ≡ false) same unmarked))
      at s u e less few unmarked (inr differ) = inr (e, omega arith, few, unmarked)

pub pushed_end : (tokens : List ℕ) (weight : ℕ) (row : List Bool) (t : ℕ) (old events : List (ℕ × ℕ)) (q : ℕ) → length tokens ≤ q → q ≤ length tokens → PushedSoFar tokens weight row t old events q
    → (s u : ℕ) → Contains events (s, u) ↔ (Contains old (s, u) ⊎ ((u ≡ t) × (s < length tokens) × (get_or tokens s 0 < weight) × (get_or row s false ≡ false)))
pushed_end tokens weight row t old events q past most so_far s u = (
  λ h. ⊎_elim (λ has. inl has) (λ (e, less, few, unmarked). inr (e, omega arith, few, unmarked)) ((so_far.all s u).0 h),
  λ h. (so_far.all s u).1 (⊎_elim (λ has. inl has) (λ (e, less, few, unmarked). inr (e, omega arith, few, unmarked)) h),
)

-- the stops of the labels before t
pub record NewSoFar (lts : System) (p : Place) (tokens : List ℕ) (rows : List (List Bool)) (events : List (ℕ × ℕ)) (t : ℕ) : Type 0 where
  pub all : (s u : ℕ) → Contains events (s, u) ↔ ((u < t) × (s < states lts) × IsStoppedBy p tokens s u × (mark_at rows s u ≡ false))

module _ (lts : System) (p : Place) (tokens : List ℕ) (rows : List (List Bool)) (events : List (ℕ × ℕ)) (t : ℕ)
    (so_far : NewSoFar lts p tokens rows events t) (one_each : length tokens ≡ states lts) where
  -- the label's own stops are added
  pub new_then : (after : List (ℕ × ℕ)) → ((s u : ℕ)
      → Contains after (s, u) ↔ (Contains events (s, u)
      ⊎ ((u ≡ t) × (s < length tokens) × (get_or tokens s 0 < pre_weight p t) × (get_or (get_or rows t []) s false ≡ false)))) → NewSoFar lts p tokens rows after (t + 1)
  new_then after says = record {
    all = λ s u. (
      λ h. ⊎_elim
          (λ before. let (less, lt, stops, unmarked) = (so_far.all s u).0 before in (omega arith, lt, stops, unmarked))
          (λ (e, lt, few, unmarked). (
            omega arith,
            subst (λ n. s < n) one_each lt,
            subst (λ n. get_or tokens s 0 < pre_weight p n) (sym e) few,
            subst
                (λ n. get_or (get_or rows n []) s false ≡ false) (sym e) unmarked,
          ))
          ((says s u).0 h),
      λ (less, lt, stops, unmarked). (says s u).1 (at s u less lt stops unmarked (cases_eq u t)),
    );
  }
    where
      at : (s u : ℕ) → u < t + 1 → s < states lts → IsStoppedBy p tokens s u → mark_at rows s u ≡ false → (u ≡ t) ⊎ (u ≡ t → ⊥)
          → Contains events (s, u) ⊎ ((u ≡ t) × (s < length tokens) × (get_or tokens s 0 < pre_weight p t) × (get_or (get_or rows t []) s false ≡ false))
      at s u less lt stops unmarked (inl e) = inr (
        e,
        subst (λ n. s < n) (sym one_each) lt,
        subst (λ n. get_or tokens s 0 < pre_weight p n) e stops,
        subst
            (λ n. get_or (get_or rows n []) s false ≡ false) e unmarked,
      )
      at s u less lt stops unmarked (inr differ) = inl ((so_far.all s u).1 (omega arith, lt, stops, unmarked))

  -- a label that takes nothing is stopped nowhere
  pub new_else : pre_weight p t ≡ 0 → NewSoFar lts p tokens rows events (t + 1)
  new_else none = new_then events (λ s u. (λ h. inl h, λ h. ⊎_elim (λ has. has) (λ (e, lt, few, unmarked). absurd (omega arith)) h))

pub new_end : (lts : System) (p : Place) (tokens : List ℕ) (rows : List (List Bool)) (events : List (ℕ × ℕ)) (t : ℕ) → labels lts ≤ t → t ≤ labels lts → NewSoFar lts p tokens rows events t
    → ((s u : ℕ) → Contains events (s, u) → (s < states lts) × (u < labels lts))
    × ((s u : ℕ) → s < states lts → u < labels lts → Contains events (s, u) ↔ (IsStoppedBy p tokens s u × (mark_at rows s u ≡ false)))
new_end lts p tokens rows events t past all so_far = (
  λ s u h. (let (less, lt, stops, unmarked) = (so_far.all s u).0 h in (lt, omega arith)),
  λ s u lt lt'. (λ h. (let (less, within, stops, unmarked) = (so_far.all s u).0 h in (stops, unmarked)), λ (stops, unmarked). (so_far.all s u).1 (omega arith, lt, stops, unmarked)),
)

-- the stops of one row are added
abbrev IsAdded : List ℕ → List (ℕ × ℕ) → List (ℕ × ℕ) → ℕ → List Bool → ℕ → Type 0
IsAdded tokens events after t row weight = (s u : ℕ) → Contains after (s, u) ↔ (Contains events (s, u) ⊎ ((u ≡ t) × (s < length tokens) × (get_or tokens s 0 < weight) × (get_or row s false ≡ false)))

-- the next label's stops, as its row was read
pub new_written : (lts : System) (p : Place) (tokens : List ℕ) (rows : List (Vec Bool Global)) (events after : List (ℕ × ℕ)) (t : ℕ) (r : Vec Bool Global) (row : List Bool) (weight : ℕ)
    → length tokens ≡ states lts → length p.pre ≡ labels lts → t < labels lts → IsTable lts (rows_in rows) → r ≡ get_or rows t r → row ≡ r.items → weight ≡ get_or p.pre t weight
    → NewSoFar lts p tokens (rows_in rows) events t
    → ((s u : ℕ) → Contains after (s, u) ↔ (Contains events (s, u) ⊎ ((u ≡ t) × (s < length tokens) × (get_or tokens s 0 < weight) × (get_or row s false ≡ false))))
    → NewSoFar lts p tokens (rows_in rows) after (t + 1)
new_written lts p tokens rows events after t r row weight one_each all lt table read is weighs so_far says =
    new_then lts p tokens (rows_in rows) events t so_far one_each after
    (subst (λ (b : List Bool). IsAdded tokens events after t b (pre_weight p t)) here (subst (λ n. IsAdded tokens events after t row n) heavy says))
  where
    here : row ≡ get_or (rows_in rows) t []
    here = is ∙ sym (row_read rows t r (row_of_label lts rows t lt table) read)

    heavy : weight ≡ pre_weight p t
    heavy = weight_read p.pre t weight (subst (λ n. t < n) (sym all) lt) weighs

-- the event at a place of the list
pub event_within : (lts : System) (events : List (ℕ × ℕ)) (i : ℕ) (d : ℕ × ℕ) → i < length events
    → ((s t : ℕ) → Contains events (s, t) → (s < states lts) × (t < labels lts)) → ((get_or events i d).0 < states lts) × ((get_or events i d).1 < labels lts)
event_within lts events i d lt within = within (get_or events i d).0 (get_or events i d).1 (Contains-get_or events i d lt)
