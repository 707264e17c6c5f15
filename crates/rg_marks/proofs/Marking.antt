-- Marks of labels at states.
use Rattle.std.proofs.Common.{◌≡◌, ◌↔◌, ℕ, ◌+◌, ◌<◌, ◌≤◌, ◌⊎◌, Bool, true, false, List, [], ◌∷◌, ◌++◌, length, get_or, set, replicate, Contains, Vec, inl, inr, ⊎_elim, refl, sym, ap, ◌∙◌, subst, arith}
use Rattle.std.proofs.lemmas.Bool.{cases_eq, true≢false}
use Rattle.std.proofs.lemmas.List.{length-set, length-map, length-replicate, map-append, replicate_more, map-set, get_or-map, get_or-set_other, get_or-replicate, get_or_default}
use Rattle.std.proofs.lemmas.Grind.{get_or-set_at, get_or_default_zero}
use Rattle.rg_theory.specs.System.{System, states, labels}
use Rattle.std.specs.declared.alloc.Global.{Global}
use Rattle.std.specs.Vec.{with_item}
use Rattle.rg_marks.specs.Stops.{rows_in, mark_at, IsTable, MarksStops}

-- a weight that was read
pub weight_read : (ws : List ℕ) (t x : ℕ) → t < length ws → x ≡ get_or ws t x → x ≡ get_or ws t 0
weight_read ws t x lt e = e ∙ get_or_default_zero ws t x lt

-- among the first i of the events is this one
abbrev pub IsAmongFirst : List (ℕ × ℕ) → ℕ → ℕ × ℕ → Type 0
IsAmongFirst events i x = (k : ℕ) × (k < i) × (get_or events k x ≡ x)

-- the first i of the events are marked, beside what was marked before
pub record MarkedSoFar (lts : System) (events : List (ℕ × ℕ)) (old rows : List (List Bool)) (i : ℕ) : Type 0 where
  pub table : IsTable lts rows
  pub marks : (s t : ℕ) → s < states lts → t < labels lts → (mark_at rows s t ≡ true) ↔ ((mark_at old s t ≡ true) ⊎ IsAmongFirst events i (s, t))

-- one more event is marked
module _ (lts : System) (events : List (ℕ × ℕ)) (old rows : List (List Bool)) (i : ℕ) (so_far : MarkedSoFar lts events old rows i) (s t : ℕ)
    (lt : s < states lts) (lt' : t < labels lts) (at : get_or events i (s, t) ≡ (s, t)) where
  abbrev after : List (List Bool)
  after = set rows t (set (get_or rows t []) s true)

  abbrev IsMarked : ℕ × ℕ → Type 0
  IsMarked x = x ≡ (s, t)

  there : t < length rows
  there = subst (λ n. t < n) (sym so_far.table.one_row_each) lt'

  within : s < length (get_or rows t [])
  within = subst (λ n. s < n) (sym (so_far.table.one_each t lt')) lt

  size : (u : ℕ) → u < labels lts → (u ≡ t) ⊎ (u ≡ t → ⊥) → length (get_or after u []) ≡ states lts
  size u less (inl e) = ap (λ (r : List Bool). length r) (get_or-set_at rows t u (set (get_or rows t []) s true) [] e there) ∙ length-set (get_or rows t []) s true ∙ so_far.table.one_each t lt'
  size u less (inr differ) = ap (λ (r : List Bool). length r) (get_or-set_other rows t u (set (get_or rows t []) s true) [] differ) ∙ so_far.table.one_each u less

  -- a mark beside that of the event stays
  stays : (r u : ℕ) → (u ≡ t) ⊎ (u ≡ t → ⊥) → (r ≡ s) ⊎ (r ≡ s → ⊥) → ((u ≡ t) × (r ≡ s)) ⊎ ((mark_at after r u ≡ mark_at rows r u) × (IsMarked (r, u) → ⊥))
  stays r u (inl e) (inl f) = inl (e, f)
  stays r u (inl e) (inr other) = inr (
    ap (λ (b : List Bool). get_or b r false) (get_or-set_at rows t u (set (get_or rows t []) s true) [] e there)
        ∙ get_or-set_other (get_or rows t []) s r true false other ∙ ap (λ n. get_or (get_or rows n []) r false) (sym e),
    λ is. other (ap (λ (x : ℕ × ℕ). x.0) is),
  )
  stays r u (inr other) f = inr (ap (λ (b : List Bool). get_or b r false) (get_or-set_other rows t u (set (get_or rows t []) s true) [] other), λ is. other (ap (λ (x : ℕ × ℕ). x.1) is))

  more : (x : ℕ × ℕ) → IsAmongFirst events i x → IsAmongFirst events (i + 1) x
  more x (k, less, is) = (k, omega arith, is)

  fewer : (x : ℕ × ℕ) → (IsMarked x → ⊥) → i < length events → IsAmongFirst events (i + 1) x → IsAmongFirst events i x
  fewer x differ last (k, less, is) = by (cases_eq k i)
    where
      by : (k ≡ i) ⊎ (k ≡ i → ⊥) → IsAmongFirst events i x
      by (inl e) = absurd (differ (sym is ∙ ap (λ n. get_or events n x) e ∙ get_or_default events i x (s, t) last ∙ at))
      by (inr other) = (k, omega arith, is)

  by_mark : i < length events → (r u : ℕ) → ((u ≡ t) × (r ≡ s)) ⊎ ((mark_at after r u ≡ mark_at rows r u) × (IsMarked (r, u) → ⊥)) → r < states lts → u < labels lts
      → (mark_at after r u ≡ true) ↔ ((mark_at old r u ≡ true) ⊎ IsAmongFirst events (i + 1) (r, u))
  by_mark last r u (inl (e, f)) less less' = (
    λ h. inr (subst (λ (x : ℕ × ℕ). IsAmongFirst events (i + 1) x) (λ j. (sym f j, sym e j)) (i, omega arith, at)),
    λ h. ap (λ (b : List Bool). get_or b r false) (get_or-set_at rows t u (set (get_or rows t []) s true) [] e there) ∙ get_or-set_at (get_or rows t []) s r true false f within,
  )
  by_mark last r u (inr (same, differ)) less less' = (
    λ h. ⊎_elim (λ is. inl is) (λ first. inr (more (r, u) first)) ((so_far.marks r u less less').0 (sym same ∙ h)),
    λ h. same ∙ (so_far.marks r u less less').1 (⊎_elim (λ is. inl is) (λ first. inr (fewer (r, u) differ last first)) h),
  )

  pub marked_next : i < length events → MarkedSoFar lts events old (set rows t (set (get_or rows t []) s true)) (i + 1)
  marked_next last = record {
    table = record { one_row_each = length-set rows t (set (get_or rows t []) s true) ∙ so_far.table.one_row_each; one_each = λ u less. size u less (cases_eq u t) };
    marks = λ r u less less'. by_mark last r u (stays r u (cases_eq u t) (cases_eq r s)) less less';
  }

pub marked_end : (lts : System) (events : List (ℕ × ℕ)) (old rows : List (List Bool)) (i : ℕ) → length events ≤ i → i ≤ length events → MarkedSoFar lts events old rows i
    → (s t : ℕ) → s < states lts → t < labels lts → (mark_at rows s t ≡ true) ↔ ((mark_at old s t ≡ true) ⊎ Contains events (s, t))
marked_end lts events old rows i past most so_far s t lt lt' = (
  λ h. ⊎_elim (λ is. inl is) (λ (k, less, is). inr (k, omega arith, is)) ((so_far.marks s t lt lt').0 h),
  λ h. (so_far.marks s t lt lt').1 (⊎_elim (λ is. inl is) (λ (k, less, is). inr (k, omega arith, is)) h),
)

-- a row that was read
pub row_read : (rows : List (Vec Bool Global)) (t : ℕ) (r : Vec Bool Global) → t < length rows → r ≡ get_or rows t r → get_or (rows_in rows) t [] ≡ r.items
row_read rows t r lt e = get_or-map (λ (v : Vec Bool Global). v.items) rows t r [] lt ∙ ap (λ (v : Vec Bool Global). v.items) (sym e)

pub label_of_row : (lts : System) (rows : List (Vec Bool Global)) (t : ℕ) → t < length rows → IsTable lts (rows_in rows) → t < labels lts
label_of_row lts rows t lt table = subst (λ n. t < n) (sym (length-map rows (λ (v : Vec Bool Global). v.items)) ∙ table.one_row_each) lt

pub row_of_label : (lts : System) (rows : List (Vec Bool Global)) (t : ℕ) → t < labels lts → IsTable lts (rows_in rows) → t < length rows
row_of_label lts rows t lt table = subst (λ n. t < n) (sym (sym (length-map rows (λ (v : Vec Bool Global). v.items)) ∙ table.one_row_each)) lt

pub row_length : (lts : System) (rows : List (Vec Bool Global)) (t : ℕ) (r : Vec Bool Global) (row : List Bool) → t < length rows
    → IsTable lts (rows_in rows) → r ≡ get_or rows t r → row ≡ r.items → length row ≡ states lts
row_length lts rows t r row lt table e f = ap (λ (b : List Bool). length b) (f ∙ sym (row_read rows t r lt e)) ∙ table.one_each t (label_of_row lts rows t lt table)

-- one more event is marked, as its row is written
pub marked_written : (lts : System) (events : List (ℕ × ℕ)) (old : List (List Bool)) (rows : List (Vec Bool Global)) (i s t : ℕ) (r : Vec Bool Global)
    → MarkedSoFar lts events old (rows_in rows) i → i < length events → get_or events i (s, t) ≡ (s, t) → s < states lts → t < labels lts → r ≡ get_or rows t r
    → MarkedSoFar lts events old (rows_in (set rows t (with_item (get_or rows t r) s true))) (i + 1)
marked_written lts events old rows i s t r so_far last at lt lt' read =
    subst (λ l. MarkedSoFar lts events old l (i + 1)) (sym written) (marked_next lts events old (rows_in rows) i so_far s t lt lt' at last)
  where
    written : rows_in (set rows t (with_item (get_or rows t r) s true)) ≡ set (rows_in rows) t (set (get_or (rows_in rows) t []) s true)
    written =
        map-set (λ (v : Vec Bool Global). v.items) rows t (with_item (get_or rows t r) s true)
        ∙ ap (λ (b : List Bool). set (rows_in rows) t (set b s true)) (ap (λ (v : Vec Bool Global). v.items) (sym read) ∙ sym (row_read rows t r (row_of_label lts rows t lt' so_far.table) read))

-- a table without marks
pub none_marked : (lts : System) (rows : List (List Bool)) → rows ≡ replicate (labels lts) (replicate (states lts) false) → MarksStops lts [] rows
none_marked lts rows is =
    subst (MarksStops lts []) (sym is) (record {
      table = record {
        one_row_each = length-replicate (labels lts) (replicate (states lts) false);
        one_each = λ t lt. ap (λ (b : List Bool). length b) (get_or-replicate (labels lts) t (replicate (states lts) false) [] lt) ∙ length-replicate (states lts) false;
      };
      marks = λ s t lt lt'. (
        λ h. absurd (true≢false (sym h ∙ ap (λ (b : List Bool). get_or b s false)
            (get_or-replicate (labels lts) t (replicate (states lts) false) [] lt') ∙ get_or-replicate (states lts) s false false lt)),
        λ (k, x, less, e, sep). absurd (omega arith),
      );
    })

-- a mark that was read
pub mark_read : (lts : System) (rows : List (Vec Bool Global)) (s t : ℕ) (r : Vec Bool Global) (v : Bool) → s < states lts → t < labels lts
    → IsTable lts (rows_in rows) → r ≡ get_or rows t r → v ≡ get_or r.items s v → mark_at (rows_in rows) s t ≡ v
mark_read lts rows s t r v lt lt' table read e =
    ap (λ (b : List Bool). get_or b s false) (row_read rows t r (row_of_label lts rows t lt' table) read)
    ∙ get_or_default r.items s false v (subst (λ n. s < n) (sym (row_length lts rows t r r.items (row_of_label lts rows t lt' table) table read refl)) lt)
    ∙ sym e

-- one more row without marks
pub rows_more : (rows : List (Vec Bool Global)) (n : ℕ) (v : Vec Bool Global) (row : List Bool) → rows_in rows ≡ replicate n row → v.items ≡ row → rows_in (rows ++ v ∷ []) ≡ replicate (n + 1) row
rows_more rows n v row are is =
    map-append (λ (r : Vec Bool Global). r.items) rows (v ∷ []) ∙ ap (λ (l : List (List Bool)). l ++ v.items ∷ []) are ∙ ap (λ (b : List Bool). replicate n row ++ b ∷ []) is ∙ replicate_more n row
