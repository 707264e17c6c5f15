-- What the numbers of a failing row's relation say: it is stuck, or its least free variable.
use Rattle.std.proofs.Common.{◌≡◌, ◌≢◌, ⊎_elim, ℕ, false, ◌+◌, ◌<◌, ◌≤◌, List, length, reverse, slice_index_or, Contains, ap, subst, sym, ◌∙◌, arith}
use Rattle.std.specs.Prelude.{ℤ, pos, ◌<ℤ◌, int_le, slice_index}
use Rattle.std.specs.Int.{w128, cast_signed, cast_unsigned}
use Rattle.std.proofs.lemmas.Int.{ints}
use Rattle.std.proofs.lemmas.Bool.{cases_lt}
use Rattle.std.proofs.lemmas.List.{get_or_default}
use Rattle.rg_integers.specs.Range.{InRange}
use Rattle.rg_integers.specs.Sum.{number_at}
use Rattle.rg_integers.proofs.Casts.{back}
use Rattle.rg_integers.proofs.Order.{is_zero_or_not}
use Rattle.rg_integers.specs.declared.term.Wide.{Wide}
use Rattle.rg_linear.specs.System.{LinearSystem, row_variable}
use Rattle.rg_linear.specs.Exchange.{exchanged, AllFit, FirstWide}
use Rattle.rg_linear.specs.Table.{ShowsRow}
use Rattle.rg_linear.specs.Descent.{IsStuck, Chooses}
use Rattle.rg_linear.specs.Stack.{fixed_of}
use Rattle.rg_feasible.specs.Contents.{Contents, IsDictionary}
use Rattle.rg_feasible.proofs.RowTerms.{shown_number}
use Rattle.rg_linear.proofs.MemberIndices.{member_at, not_falling}
use Rattle.rg_feasible.specs.Steps.{NamesFree}
use Rattle.rg_linear.proofs.Fixed.{fixed_row, row_fixed}

-- a number that failed the test of the code is negative
pub negative_number : (z : ℤ) → InRange z → int_le (pos 0) (cast_signed w128 (cast_unsigned w128 z)) ≡ false → z <ℤ pos 0
negative_number z fits h = let below = rw (back z fits) at h in omega (arith, ints)

module _ (system : LinearSystem) (members stack : List ℕ) (i : ℕ) (numbers : List ℤ) (shows : ShowsRow system members (row_variable system i) numbers) (fails : number_at numbers 1 <ℤ pos 0) where
  constant : number_at numbers 1 ≡ shows.k.constant
  constant = ap (λ xs. number_at xs 1) shows.shown

  negative : shows.k.constant <ℤ pos 0
  negative = subst (λ z. z <ℤ pos 0) constant fails

  -- a member that isn't fixed has the coefficient 0 where it is not named
  unnamed : (m q : ℕ) → ¬ Contains (fixed_of system (reverse stack)) m → q < length members → slice_index_or members q m ≡ m
      → ¬ NamesFree system.columns members stack numbers q → shows.k.coefficient m ≡ pos 0
  unnamed m q loose within at lacks = ⊎_elim (λ z. z) (λ ne. absurd (lacks (record { within = within; not_fixed = not_fixed; named = λ z. ne (here z) }))) (is_zero_or_not (shows.k.coefficient m))
    where
      is : slice_index members q ≡ m
      is = get_or_default members q 0 m within ∙ at

      not_fixed : (s : ℕ) → Contains stack s → slice_index members q ≢ system.columns + s
      not_fixed s has e = loose (subst (Contains (fixed_of system (reverse stack))) (sym e ∙ is) (row_fixed system stack s has))

      here : number_at numbers (q + 2) ≡ pos 0 → shows.k.coefficient m ≡ pos 0
      here z = ap shows.k.coefficient (sym is) ∙ sym (shown_number members shows.k numbers q shows.shown within) ∙ z

  pub row_is_stuck : ((q : ℕ) → ¬ NamesFree system.columns members stack numbers q) → IsStuck system members (fixed_of system (reverse stack)) i
  row_is_stuck none = record {
    k = shows.k;
    row = shows.row;
    negative = negative;
    none = λ m (q, within, at) loose. unnamed m q loose within at (none q);
  }

  pub row_chooses : (p : ℕ) → NamesFree system.columns members stack numbers p
      → ((q : ℕ) → q < p → ¬ NamesFree system.columns members stack numbers q) → Chooses system members (fixed_of system (reverse stack)) i (slice_index members p)
  row_chooses p names before = record {
    k = shows.k;
    row = shows.row;
    negative = negative;
    member = member_at members p names.within;
    not_fixed = λ has. (let (s, has_s, is) = fixed_row system stack (slice_index members p) has in names.not_fixed s has_s is);
    named = λ z. names.named (shown_number members shows.k numbers p shows.shown names.within ∙ z);
    least = λ m (q, within, at) loose lt. unnamed m q loose within at (before q (earlier q m within at lt));
  }
    where
      earlier : (q m : ℕ) → q < length members → slice_index_or members q m ≡ m → m < slice_index members p → q < p
      earlier q m within at lt = ⊎_elim (λ less. less) (λ more. absurd (late (not_falling members p q shows.row.free.ordered more within))) (cases_lt q p)
        where
          is : slice_index members q ≡ m
          is = get_or_default members q 0 m within ∙ at

          late : slice_index members p ≤ slice_index members q → ⊥
          late more = let e = is in omega arith

-- ---- the step of a dictionary

module _ (d : Contents) (stack : List ℕ) (i : ℕ) (numbers : List ℤ) (system : LinearSystem) (whole : IsDictionary system d)
    (shows : ShowsRow system d.members (d.columns + i) numbers) (fails : number_at numbers 1 <ℤ pos 0) where
  pub pivot_is : d.columns + i ≡ row_variable system i
  pivot_is = ap (λ n. n + i) whole.columns

  shown : ShowsRow system d.members (row_variable system i) numbers
  shown = subst (λ w. ShowsRow system d.members w numbers) pivot_is shows

  pub step_stuck : ((q : ℕ) → ¬ NamesFree d.columns d.members stack numbers q) → IsStuck system d.members (fixed_of system (reverse stack)) i
  step_stuck none = row_is_stuck system d.members stack i numbers shown fails (subst (λ n. (q : ℕ) → ¬ NamesFree n d.members stack numbers q) whole.columns none)

  pub step_chooses : (p : ℕ) → NamesFree d.columns d.members stack numbers p → ((q : ℕ) → q < p → ¬ NamesFree d.columns d.members stack numbers q)
      → Chooses system d.members (fixed_of system (reverse stack)) i (slice_index d.members p)
  step_chooses p names before = row_chooses system d.members stack i numbers shown fails p
      (subst (λ n. NamesFree n d.members stack numbers p) whole.columns names)
      (subst (λ n. (q : ℕ) → q < p → ¬ NamesFree n d.members stack numbers q) whole.columns before)

  pub step_fits : (j : ℕ) → AllFit system d.members (d.columns + i) j → AllFit system d.members (row_variable system i) j
  step_fits j fit = subst (λ w. AllFit system d.members w j) pivot_is fit

  pub step_passes : (j w n : ℕ) (t : Wide) → FirstWide system d.members (d.columns + i) j w n t → FirstWide system d.members (row_variable system i) j w n t
  step_passes j w n t first = subst (λ v. FirstWide system d.members v j w n t) pivot_is first

  pub step_exchanges : (j : ℕ) (members : List ℕ) → members ≡ exchanged d.members (d.columns + i) j → members ≡ exchanged d.members (row_variable system i) j
  step_exchanges j members e = e ∙ ap (λ w. exchanged d.members w j) pivot_is
