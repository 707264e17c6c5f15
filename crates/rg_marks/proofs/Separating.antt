-- What places separate, and what one more separates.
use Rattle.std.proofs.Common.{◌≡◌, ◌≢◌, ◌↔◌, ℕ, ◌<◌, ◌≤◌, ◌⊎◌, ◌==◌, Bool, true, false, not, List, [], length, replicate, get_or, Any, Contains, IsTrue, Vec, inl, inr, ⊎_elim, sym, ap, ◌∙◌, subst, arith, eq-eqb, eqb-true}
use Rattle.std.proofs.lemmas.Bool.{cases_eq, cases_lt, cases_Bool, true≢false}
use Rattle.std.proofs.lemmas.List.{length-replicate, get_or-replicate}
use Rattle.std.specs.declared.alloc.Global.{Global}
use Rattle.rg_theory.specs.System.{System, states, labels}
use Rattle.rg_theory.specs.Net.{Place, pre_weight}
use Rattle.rg_theory.specs.declared.Problem.{Problem}
use Rattle.rg_theory.specs.declared.Problem.TheVariants.{Event, States}
use Rattle.rg_theory.specs.Problem.{IsProblem, IsSeparatedBy}
use Rattle.rg_marks.specs.Tokens.{IsNarrow, AreTokens}
use Rattle.rg_marks.specs.Stops.{rows_in, mark_at, IsTable, MarksStops, IsStoppedBy}
use Rattle.rg_marks.specs.Cells.{AreCells, AreNumbered, AreSingle, AreAllApart, AreRefined}
use Rattle.rg_marks.specs.Separated.{AddsOne, SeparateSoMuch}
use Rattle.rg_marks.specs.declared.separated.Separated.{Separated}
use Rattle.rg_marks.proofs.Members.{any_adds, adds_any}

-- what a region separates is told by its tokens
module _ (lts : System) (p : Place) (tokens : List ℕ) (narrow : IsNarrow lts p) (are : AreTokens lts p tokens) where
  pub stopped_is : (s t : ℕ) → s < states lts → IsSeparatedBy lts (Event s t) p → IsStoppedBy p tokens s t
  stopped_is s t lt (m, region, less) = subst (λ n. n < pre_weight p t) (sym (are.each m region s lt)) less

  pub is_stopped : (s t : ℕ) → s < states lts → IsStoppedBy p tokens s t → IsSeparatedBy lts (Event s t) p
  is_stopped s t lt less = (narrow.m, narrow.region, subst (λ n. n < pre_weight p t) (are.each narrow.m narrow.region s lt) less)

  pub apart_is : (s s' : ℕ) → s < states lts → s' < states lts → IsSeparatedBy lts (States s s') p → get_or tokens s 0 ≢ get_or tokens s' 0
  apart_is s s' lt lt' (m, region, differ) e = differ (sym (are.each m region s lt) ∙ e ∙ are.each m region s' lt')

  pub is_apart : (s s' : ℕ) → s < states lts → s' < states lts → get_or tokens s 0 ≢ get_or tokens s' 0 → IsSeparatedBy lts (States s s') p
  is_apart s s' lt lt' differ = (narrow.m, narrow.region, λ e. differ (are.each narrow.m narrow.region s lt ∙ e ∙ sym (are.each narrow.m narrow.region s' lt')))

  -- the marks with one more place
  pub marks_more : (xs ys : List Place) (rows after : List (List Bool)) → AddsOne p xs ys → MarksStops lts xs rows → IsTable lts after
      → ((s t : ℕ) → s < states lts → t < labels lts → (mark_at after s t ≡ true) ↔ ((mark_at rows s t ≡ true) ⊎ IsStoppedBy p tokens s t))
      → MarksStops lts ys after
  marks_more xs ys rows after adds before table says = record {
    table = table;
    marks = λ s t lt lt'. (
      λ h. adds_any (IsSeparatedBy lts (Event s t)) p xs ys adds (⊎_elim (λ is. inr ((before.marks s t lt lt').0 is)) (λ stops. inl (is_stopped s t lt stops)) ((says s t lt lt').0 h)),
      λ some. (says s t lt lt').1 (⊎_elim (λ here. inr (stopped_is s t lt here)) (λ others. inl ((before.marks s t lt lt').1 others)) (any_adds (IsSeparatedBy lts (Event s t)) p xs ys adds some)),
    );
  }

  -- the cells with one more place
  pub cells_more : (xs ys : List Place) (cells refined : List ℕ) → AddsOne p xs ys → AreCells lts xs cells → AreRefined cells tokens refined → AreCells lts ys refined
  cells_more xs ys cells refined adds before fine = record { one_each = fine.one_each ∙ before.one_each; apart = λ s s' lt lt'. (to s s' lt lt', from s s' lt lt') }
    where
      within : (s : ℕ) → s < states lts → s < length cells
      within s lt = subst (λ n. s < n) (sym before.one_each) lt

      to : (s s' : ℕ) → s < states lts → s' < states lts → get_or refined s 0 ≢ get_or refined s' 0 → Any (IsSeparatedBy lts (States s s')) ys
      to s s' lt lt' differ = adds_any (IsSeparatedBy lts (States s s')) p xs ys adds (by (cases_eq (get_or cells s 0) (get_or cells s' 0)) (cases_eq (get_or tokens s 0) (get_or tokens s' 0)))
        where
          by : (get_or cells s 0 ≡ get_or cells s' 0) ⊎ (get_or cells s 0 ≢ get_or cells s' 0)
              → (get_or tokens s 0 ≡ get_or tokens s' 0) ⊎ (get_or tokens s 0 ≢ get_or tokens s' 0)
              → IsSeparatedBy lts (States s s') p ⊎ Any (IsSeparatedBy lts (States s s')) xs
          by (inl e) (inl f) = absurd (differ ((fine.same s s' (within s lt) (within s' lt')).1 (e, f)))
          by e (inr other) = inl (is_apart s s' lt lt' other)
          by (inr other) f = inr ((before.apart s s' lt lt').0 other)

      from : (s s' : ℕ) → s < states lts → s' < states lts → Any (IsSeparatedBy lts (States s s')) ys → get_or refined s 0 ≢ get_or refined s' 0
      from s s' lt lt' some e =
          let (same, alike) = (fine.same s s' (within s lt) (within s' lt')).0 e in
          ⊎_elim (λ here. apart_is s s' lt lt' here alike) (λ others. (before.apart s s' lt lt').1 others same) (any_adds (IsSeparatedBy lts (States s s')) p xs ys adds some)

-- no place tells no states apart
pub one_cell : (lts : System) (cells : List ℕ) → cells ≡ replicate (states lts) 0 → AreCells lts [] cells
one_cell lts cells is = subst (AreCells lts []) (sym is) (record {
  one_each = length-replicate (states lts) 0;
  apart = λ s s' lt lt'. (
    λ differ. absurd (differ (get_or-replicate (states lts) s 0 0 lt ∙ sym (get_or-replicate (states lts) s' 0 0 lt'))),
    λ (k, x, less, e, sep). absurd (omega arith),
  );
})

-- each state is alone in its cell exactly where the places distinguish every two states
pub single_apart : (lts : System) (places : List Place) (separated : Separated) → SeparateSoMuch lts places separated → AreSingle separated.cells.items ↔ AreAllApart lts places
single_apart lts places separated much = (to, from)
  where
    cells : List ℕ
    cells = separated.cells.items

    to : AreSingle cells → AreAllApart lts places
    to single s s' (order, last) =
        let size = much.cells.one_each in
        (much.cells.apart s s' (omega arith) last).0 (λ e. let here = single s (omega arith) in let there = single s' (omega arith) in omega arith)

    from : AreAllApart lts places → AreSingle cells
    from apart s lt = by (cases_lt s f) (cases_lt f s)
      where
        f : ℕ
        f = get_or cells s 0

        own : get_or cells f 0 ≡ f
        own = much.numbered.own s lt

        within : f < states lts
        within = let less = much.numbered.within s lt in let size = much.cells.one_each in omega arith

        here : s < states lts
        here = let size = much.cells.one_each in omega arith

        by : (s < f) ⊎ (f ≤ s) → (f < s) ⊎ (s ≤ f) → f ≡ s
        by (inl less) h = absurd ((much.cells.apart s f here within).1 (apart s f (less, within)) (sym own))
        by (inr most) (inl less) = absurd ((much.cells.apart f s within here).1 (apart f s (less, here)) own)
        by (inr most) (inr least) = omega arith

-- the marks with those that are new are the marks with one more place
pub marks_with_new : (lts : System) (p : Place) (tokens : List ℕ) (before after : List (List Bool)) (events : List (ℕ × ℕ))
    → ((s t : ℕ) → s < states lts → t < labels lts → Contains events (s, t) ↔ (IsStoppedBy p tokens s t × (mark_at before s t ≡ false)))
    → ((s t : ℕ) → s < states lts → t < labels lts → (mark_at after s t ≡ true) ↔ ((mark_at before s t ≡ true) ⊎ Contains events (s, t)))
    → (s t : ℕ) → s < states lts → t < labels lts → (mark_at after s t ≡ true) ↔ ((mark_at before s t ≡ true) ⊎ IsStoppedBy p tokens s t)
marks_with_new lts p tokens before after events new says s t lt lt' = (
  λ h. ⊎_elim (λ is. inl is) (λ has. inr ((new s t lt lt').0 has).0) ((says s t lt lt').0 h),
  λ h. (says s t lt lt').1 (⊎_elim (λ is. inl is) (λ stops. by stops (cases_Bool (mark_at before s t))) h),
)
  where
    by : IsStoppedBy p tokens s t → (mark_at before s t ≡ true) ⊎ (mark_at before s t ≡ false) → (mark_at before s t ≡ true) ⊎ Contains events (s, t)
    by stops (inl is) = inl is
    by stops (inr not) = inr ((new s t lt lt').1 (stops, not))

-- what is separated with one more place, as it was written
pub so_much_more : (lts : System) (p : Place) (tokens : List ℕ) (xs ys : List Place) (old new : Separated) (before : List (Vec Bool Global))
    (rows : List (Vec Bool Global)) (from : List ℕ) (refined : List ℕ) → IsNarrow lts p → AreTokens lts p tokens → AddsOne p xs ys → SeparateSoMuch lts xs old
    → before ≡ old.stops.items → new.stops.items ≡ rows → IsTable lts (rows_in rows)
    → ((s t : ℕ) → s < states lts → t < labels lts → (mark_at (rows_in rows) s t ≡ true) ↔ ((mark_at (rows_in before) s t ≡ true) ⊎ IsStoppedBy p tokens s t))
    → from ≡ old.cells.items → AreRefined from tokens refined → new.cells.items ≡ refined
    → SeparateSoMuch lts ys new
so_much_more lts p tokens xs ys old new before rows from refined narrow are adds much is writes table says is' fine numbered =
    record {
      stops = subst (λ (l : List (Vec Bool Global)). MarksStops lts ys (rows_in l)) (sym writes)
          (marks_more lts p tokens narrow are xs ys (rows_in before) (rows_in rows) adds (subst (λ (l : List (Vec Bool Global)). MarksStops lts xs (rows_in l)) (sym is) much.stops) table says);
      cells = subst (AreCells lts ys) (sym numbered) (cells_more lts p tokens narrow are xs ys from refined adds (subst (AreCells lts xs) (sym is') much.cells) fine);
      numbered = subst AreNumbered (sym numbered) (fine.numbered (subst AreNumbered (sym is') much.numbered));
    }

-- what a mark and two numbers say
module _ (lts : System) (places : List Place) (separated : Separated) (much : SeparateSoMuch lts places separated) (problem : Problem) (has : IsProblem lts problem) where
  pub told_by_mark : (s t : ℕ) (mark : Bool) → problem ≡ Event s t → mark_at (rows_in separated.stops.items) s t ≡ mark → IsTrue mark ↔ Any (IsSeparatedBy lts problem) places
  told_by_mark s t mark is read =
      let here = subst (IsProblem lts) is has in
      let (to, from) = much.stops.marks s t here.0 here.1 in (
        (λ set. subst (λ (q : Problem). Any (IsSeparatedBy lts q) places) (sym is) (to (read ∙ set))),
        (λ some. sym read ∙ from (subst (λ (q : Problem). Any (IsSeparatedBy lts q) places) is some)),
      )

  pub told_by_numbers : (s s' number other : ℕ) → problem ≡ States s s' → number ≡ get_or separated.cells.items s 0
      → other ≡ get_or separated.cells.items s' 0 → IsTrue (not (number == other)) ↔ Any (IsSeparatedBy lts problem) places
  told_by_numbers s s' number other is e f = (
    (λ set. subst (λ (q : Problem). Any (IsSeparatedBy lts q) places) (sym is) (apart.0 (λ same. true≢false (sym set ∙ ap not (eq-eqb number other (e ∙ same ∙ sym f)))))),
    (λ some. by (apart.1 (subst (λ (q : Problem). Any (IsSeparatedBy lts q) places) is some)) (cases_Bool (number == other))),
  )
    where
      here : IsProblem lts (States s s')
      here = subst (IsProblem lts) is has

      apart : (get_or separated.cells.items s 0 ≢ get_or separated.cells.items s' 0) ↔ Any (IsSeparatedBy lts (States s s')) places
      apart = much.cells.apart s s' (let order = here.0 in let last = here.1 in omega arith) here.1

      by : get_or separated.cells.items s 0 ≢ get_or separated.cells.items s' 0 → ((number == other) ≡ true) ⊎ ((number == other) ≡ false) → IsTrue (not (number == other))
      by differ (inl same) = absurd (differ (sym e ∙ eqb-true number other same ∙ f))
      by differ (inr other_number) = ap not other_number
