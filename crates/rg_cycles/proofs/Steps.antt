-- A step of the walk over the rows of a dictionary.
use Rattle.std.proofs.lemmas.List.{get_or_default}
use Rattle.std.proofs.Common.{◌≡◌, ⊎_elim, ℕ, suc, ◌+◌, ◌<◌, ◌≤◌, List, length, slice_index_or, Contains, ap, subst, sym, ◌∙◌, arith}
use Rattle.std.specs.Prelude.{ℤ, pos, slice_index}
use Rattle.std.proofs.lemmas.Bool.{cases_lt}
use Rattle.std.proofs.lemmas.List.Kept.{AllPairs-from_increasing}
use Rattle.rg_integers.specs.Sum.{number_at}
use Rattle.rg_integers.specs.declared.term.Wide.{Wide}
use Rattle.rg_linear.specs.System.{LinearSystem, row_variable}
use Rattle.rg_linear.specs.Dictionary.{numbers_from}
use Rattle.rg_linear.specs.Exchange.{exchanged, AllFit, FirstWide}
use Rattle.rg_linear.specs.Table.{ShowsRow}
use Rattle.rg_linear.specs.Cycle.{CycleOutcome, CycleOutcome.free_set, CycleOutcome.too_wide, IsSkipped, Picks, CycleWalkFrom, CycleWalkFrom.no_row_left, CycleWalkFrom.skipped, CycleWalkFrom.passes, CycleWalkFrom.exchanges, CycleWalk}
use Rattle.rg_linear.proofs.Members.{is_member, exchanged-Contains, numbers_from-Contains}
use Rattle.rg_integers.proofs.Order.{is_zero_or_not}
use Rattle.rg_feasible.specs.Contents.{Contents, IsDictionary, IsOutside, SameShape}
use Rattle.rg_feasible.proofs.RowTerms.{shown_number}
use Rattle.rg_cycles.specs.Walk.{NamesLabel, IsWhole, RowsAhead}

-- ---- numbers by their indices

-- ---- which label the relation of a row names

module _ (system : LinearSystem) (members : List ℕ) (i : ℕ) (numbers : List ℤ) (shows : ShowsRow system members (row_variable system i) numbers) where
  -- a member that is a label has the coefficient 0 where it is not named
  unnamed : (t q : ℕ) → t < system.columns → q < length members → slice_index_or members q t ≡ t → ¬ NamesLabel system.columns members numbers q → shows.k.coefficient t ≡ pos 0
  unnamed t q lt within at lacks = ⊎_elim (λ z. z) (λ ne. absurd (lacks (record { within = within; label = label; named = λ z. ne (here z) }))) (is_zero_or_not (shows.k.coefficient t))
    where
      is : slice_index members q ≡ t
      is = get_or_default members q 0 t within ∙ at

      label : slice_index members q < system.columns
      label = subst (λ m. m < system.columns) (sym is) lt

      here : number_at numbers (q + 2) ≡ pos 0 → shows.k.coefficient t ≡ pos 0
      here z = ap shows.k.coefficient (sym is) ∙ sym (shown_number members shows.k numbers q shows.shown within) ∙ z

  pub row_is_skipped : ((q : ℕ) → ¬ NamesLabel system.columns members numbers q) → IsSkipped system members i
  row_is_skipped none = record {
    k = shows.k;
    row = shows.row;
    none = λ t lt. ⊎_elim (λ (q, within, at). unnamed t q lt within at (none q)) (λ lacks. shows.row.over t lacks) (is_member members t);
  }

  pub row_picks : (p : ℕ) → NamesLabel system.columns members numbers p → ((q : ℕ) → q < p → ¬ NamesLabel system.columns members numbers q) → Picks system members i (slice_index members p)
  row_picks p names before = record {
    k = shows.k;
    row = shows.row;
    column = names.label;
    named = λ z. names.named (shown_number members shows.k numbers p shows.shown names.within ∙ z);
    least = λ t lt. ⊎_elim (λ (q, within, at). unnamed t q (let l = names.label in omega arith) within at (before q (earlier q t within at lt)))
        (λ lacks. shows.row.over t lacks) (is_member members t);
  }
    where
      earlier : (q t : ℕ) → q < length members → slice_index_or members q t ≡ t → t < slice_index members p → q < p
      earlier q t within at lt = ⊎_elim (λ less. less) (λ more. absurd (late more)) (cases_lt q p)
        where
          is : slice_index members q ≡ t
          is = get_or_default members q 0 t within ∙ at

          after : p < q → slice_index members p < slice_index members q → ⊥
          after less order = contradict (slice_index members p) (slice_index members q) t is lt order
            where
              contradict : (a b t : ℕ) → b ≡ t → t < a → a < b → ⊥
              contradict a b t e h g = omega arith

          here : p ≤ q → q ≤ p → ⊥
          here more most = contradict (slice_index members p) (slice_index members q) t is lt (ap (slice_index members) (both more most))
            where
              both : p ≤ q → q ≤ p → p ≡ q
              both h g = omega arith

              contradict : (a b t : ℕ) → b ≡ t → t < a → a ≡ b → ⊥
              contradict a b t e h g = omega arith

          late : p ≤ q → ⊥
          late more = ⊎_elim (λ (less : p < q). after less (AllPairs-from_increasing members shows.row.free.ordered p q 0 less within)) (λ (most : q ≤ p). here more most) (cases_lt p q)

-- ---- the step of a dictionary

module _ (d : Contents) (i : ℕ) (numbers : List ℤ) (row : i < d.rows) (system : LinearSystem) (whole : IsDictionary system d) (shows : ShowsRow system d.members (d.columns + i) numbers) where
  below_rows : i < length system.rows
  below_rows = let e = whole.rows in omega arith

  pivot_is : d.columns + i ≡ row_variable system i
  pivot_is = ap (λ n. n + i) whole.columns

  shown : ShowsRow system d.members (row_variable system i) numbers
  shown = subst (λ w. ShowsRow system d.members w numbers) pivot_is shows

  pub step_skipped : ((q : ℕ) → ¬ NamesLabel d.columns d.members numbers q) → (o : CycleOutcome) → CycleWalkFrom system d.members (suc i) o → CycleWalkFrom system d.members i o
  step_skipped none o rest = skipped below_rows (row_is_skipped system d.members i numbers shown (subst (λ n. (q : ℕ) → ¬ NamesLabel n d.members numbers q) whole.columns none)) rest

  picks : (p : ℕ) → NamesLabel d.columns d.members numbers p → ((q : ℕ) → q < p → ¬ NamesLabel d.columns d.members numbers q) → Picks system d.members i (slice_index d.members p)
  picks p names before = row_picks system d.members i numbers shown p (subst (λ n. NamesLabel n d.members numbers p) whole.columns names)
      (subst (λ n. (q : ℕ) → q < p → ¬ NamesLabel n d.members numbers q) whole.columns before)

  pub step_exchanges : (p : ℕ) → NamesLabel d.columns d.members numbers p → ((q : ℕ) → q < p → ¬ NamesLabel d.columns d.members numbers q)
      → AllFit system d.members (d.columns + i) (slice_index d.members p) → (members : List ℕ) → members ≡ exchanged d.members (d.columns + i) (slice_index d.members p)
      → (o : CycleOutcome) → CycleWalkFrom system members (suc i) o → CycleWalkFrom system d.members i o
  step_exchanges p names before fit members is o rest = exchanges (slice_index d.members p) below_rows (picks p names before)
      (subst (λ w. AllFit system d.members w (slice_index d.members p)) pivot_is fit)
      (subst (λ w. CycleWalkFrom system (exchanged d.members w (slice_index d.members p)) (suc i) o) pivot_is (subst (λ m. CycleWalkFrom system m (suc i) o) is rest))

  pub step_passes : (p : ℕ) → NamesLabel d.columns d.members numbers p → ((q : ℕ) → q < p → ¬ NamesLabel d.columns d.members numbers q)
      → (w n : ℕ) (t : Wide) → FirstWide system d.members (d.columns + i) (slice_index d.members p) w n t
      → CycleWalkFrom system d.members i (too_wide (record { members = d.members; pivot = d.columns + i; leaves = slice_index d.members p; target = w; entry = n; term = t }))
  step_passes p names before w n t first = subst
      (λ v. CycleWalkFrom system d.members i (too_wide (record { members = d.members; pivot = v; leaves = slice_index d.members p; target = w; entry = n; term = t })))
      (sym pivot_is) (passes (slice_index d.members p) w n t below_rows (picks p names before)
      (subst (λ v. FirstWide system d.members v (slice_index d.members p) w n t) pivot_is first))

-- ---- the rows ahead

pub pivot_outside : (d : Contents) (i : ℕ) → i < d.rows → RowsAhead d i → IsOutside d (d.columns + i)
pivot_outside d i row ahead = (omega arith, λ has. (let h = ahead (d.columns + i) has in omega arith))

pub ahead_skips : (d : Contents) (i : ℕ) → RowsAhead d i → RowsAhead d (i + 1)
ahead_skips d i ahead m has = let h = ahead m has in omega arith

pub ahead_exchanges : (d d' : Contents) (i j : ℕ) → RowsAhead d i → SameShape d d' → d'.members ≡ exchanged d.members (d.columns + i) j → RowsAhead d' (i + 1)
ahead_exchanges d d' i j ahead shape is m has = ⊎_elim
    (λ e. (let c = shape.columns in omega arith))
    (λ old. (let h = ahead m old.0 in let c = shape.columns in omega arith))
    (exchanged-Contains (d.columns + i) j m d.members (subst (λ l. Contains l m) is has))

-- ---- the walk's start and its end

pub start_ahead : (d : Contents) → d.members ≡ numbers_from 0 d.columns → RowsAhead d 0
start_ahead d e m has = let h = numbers_from-Contains 0 d.columns m (subst (λ l. Contains l m) e has) in omega arith

pub start_walk : (d : Contents) → d.members ≡ numbers_from 0 d.columns → (system : LinearSystem) (o : CycleOutcome) → IsDictionary system d → CycleWalkFrom system d.members 0 o → CycleWalk system o
start_walk d e system o whole rest = subst (λ l. CycleWalkFrom system l 0 o) (e ∙ ap (numbers_from 0) whole.columns) rest

pub end_walk : (d : Contents) (i : ℕ) (system : LinearSystem) → IsDictionary system d → d.rows ≤ i → CycleWalkFrom system d.members i (free_set d.members)
end_walk d i system whole past = no_row_left (let e = whole.rows in omega arith)

pub member_within : (d : Contents) → IsWhole d → (n : ℕ) → n ≡ d.rows → (m : ℕ) → Contains d.members m → m < d.columns + n
member_within d (system, whole) n e m has = let h = whole.free.within m has in let c = whole.columns in let r = whole.rows in omega arith
