-- The problems that places are the first to separate.
use Rattle.std.proofs.Common.{◌≡◌, ◌↔◌, ℕ, ◌<◌, ◌⊎◌, Bool, true, false, List, [], ◌∷◌, ◌++◌, length, take, get_or, Any, Contains, Some, IfSome, IfNone, slice_get, inl, inr, refl, sym, ap, ◌∙◌, subst, arith, length-append}
use Rattle.std.proofs.lemmas.Bool.{cases_Bool, true≢false}
use Rattle.std.proofs.lemmas.Option.{none-some, slice_get_within}
use Rattle.std.proofs.lemmas.List.{take-append-le}
use Rattle.std.proofs.Math.Seq.{take-append_seam}
use Rattle.rg_theory.specs.System.{System, states, labels}
use Rattle.rg_theory.specs.Net.{Place}
use Rattle.rg_theory.specs.declared.Problem.TheVariants.{Event, States}
use Rattle.rg_theory.specs.Problem.{IsSeparatedBy}
use Rattle.rg_theory.proofs.Lists.{get_cases}
use Rattle.rg_marks.specs.Tokens.{IsNarrow, AreTokens}
use Rattle.rg_marks.specs.Stops.{mark_at, MarksStops, IsStoppedBy}
use Rattle.rg_marks.specs.Cells.{AreCells}
use Rattle.rg_marks.specs.Separated.{SeparateSoMuch}
use Rattle.rg_marks.specs.Firsts.{TellsNoMore, AreFirsts, AreAllFirsts}
use Rattle.rg_marks.specs.declared.firsts.Firsts.{Firsts}
use Rattle.rg_marks.specs.declared.separated.Separated.{Separated}
use Rattle.rg_marks.proofs.Members.{adds_any, adds_last, get_before, get_last}
use Rattle.rg_marks.proofs.Separating.{stopped_is, is_stopped}

-- the problems that a place is the first to separate, from what the places in front separate
pub are_firsts : (lts : System) (front : List Place) (p : Place) (tokens : List ℕ) (rows : List (List Bool)) (firsts : Firsts) → IsNarrow lts p → AreTokens lts p tokens → MarksStops lts front rows
    → ((s t : ℕ) → Contains firsts.events.items (s, t) → (s < states lts) × (t < labels lts))
    → ((s t : ℕ) → s < states lts → t < labels lts → Contains firsts.events.items (s, t) ↔ (IsStoppedBy p tokens s t × (mark_at rows s t ≡ false)))
    → IfSome firsts.cells (λ b. AreCells lts front b.items) → IfNone firsts.cells (TellsNoMore lts front p)
    → AreFirsts lts front p firsts
are_firsts lts front p tokens rows firsts narrow are stops within events some none =
    record {
      within = within;
      events = λ s t lt lt' here. by s t lt lt' here (cases_Bool (mark_at rows s t));
      first = λ s t has. first s t has (within s t has);
      cells = some;
      no_cells = none;
    }
  where
    by : (s t : ℕ) → s < states lts → t < labels lts → IsSeparatedBy lts (Event s t) p → (mark_at rows s t ≡ true) ⊎ (mark_at rows s t ≡ false)
        → Contains firsts.events.items (s, t) ⊎ Any (IsSeparatedBy lts (Event s t)) front
    by s t lt lt' here (inl e) = inr ((stops.marks s t lt lt').0 e)
    by s t lt lt' here (inr e) = inl ((events s t lt lt').1 (stopped_is lts p tokens narrow are s t lt here, e))

    first : (s t : ℕ) → Contains firsts.events.items (s, t) → (s < states lts) × (t < labels lts) → IsSeparatedBy lts (Event s t) p × ¬ Any (IsSeparatedBy lts (Event s t)) front
    first s t has (lt, lt') =
        let (stopped, unmarked) = (events s t lt lt').0 has in
        (is_stopped lts p tokens narrow are s t lt stopped, λ before. true≢false (sym ((stops.marks s t lt lt').1 before) ∙ unmarked))

-- a place with which the cells stay tells no more states apart
pub tells_no_more : (lts : System) (front : List Place) (p : Place) (old new : Separated) → SeparateSoMuch lts front old
    → SeparateSoMuch lts (front ++ p ∷ []) new → new.cells.items ≡ old.cells.items → TellsNoMore lts front p
tells_no_more lts front p old new much more same = λ s s' lt lt' here. (much.cells.apart s s' lt lt').0 (λ e.
    (more.cells.apart s s' lt lt').1 (adds_any (IsSeparatedBy lts (States s s')) p front (front ++ p ∷ []) (adds_last p front) (inl here))
    (subst (λ (b : List ℕ). get_or b s 0 ≡ get_or b s' 0) (sym same) e))

-- no place, and no problems
pub no_firsts : (lts : System) (places : List Place) (all : List Firsts) → places ≡ [] → all ≡ [] → AreAllFirsts lts places all
no_firsts lts places all none none' = record {
  one_each = ap (λ (l : List Firsts). length l) none' ∙ sym (ap (λ (l : List Place). length l) none);
  each = λ i p f e g. absurd (none-some p (sym (ap (λ (l : List Place). slice_get l i) none) ∙ e));
}

-- one more place, with its problems
pub firsts_more : (lts : System) (front : List Place) (p : Place) (all : List Firsts) (f : Firsts) → AreAllFirsts lts front all
    → AreFirsts lts front p f → AreAllFirsts lts (front ++ p ∷ []) (all ++ f ∷ [])
firsts_more lts front p all f before are =
    record {
      one_each = let same = before.one_each in omega (arith, length-append all (f ∷ []), length-append front (p ∷ []));
      each = λ i q g e h. by i q g (get_cases front p i q e) (get_cases all f i g h);
    }
  where
    by : (i : ℕ) (q : Place) (g : Firsts) → (slice_get front i ≡ Some q) ⊎ ((i ≡ length front) × (p ≡ q))
        → (slice_get all i ≡ Some g) ⊎ ((i ≡ length all) × (f ≡ g)) → AreFirsts lts (take i (front ++ p ∷ [])) q g
    by i q g (inl e) (inl h) = subst (λ (l : List Place). AreFirsts lts l q g) (sym (take-append-le i front (p ∷ []) (let lt = slice_get_within front i q e in omega arith))) (before.each i q g e h)
    by i q g (inl e) (inr (at, is)) = absurd (let lt = slice_get_within front i q e in let same = before.one_each in omega arith)
    by i q g (inr (at, is)) (inl h) = absurd (let lt = slice_get_within all i g h in let same = before.one_each in omega arith)
    by i q g (inr (at, is)) (inr (at', is')) =
        subst (λ k. AreFirsts lts (take k (front ++ p ∷ [])) q g) (sym at)
        (subst (λ (l : List Place). AreFirsts lts l q g) (sym (take-append_seam front (p ∷ [])))
        (subst (λ r. AreFirsts lts front r g) is (subst (AreFirsts lts front p) is' are)))

-- the last place's problems, and those of the others
pub last_firsts : (lts : System) (front : List Place) (p : Place) (all : List Firsts) (f : Firsts)
    → AreAllFirsts lts (front ++ p ∷ []) (all ++ f ∷ []) → AreFirsts lts front p f × AreAllFirsts lts front all
last_firsts lts front p all f are = (
  subst (λ (l : List Place). AreFirsts lts l p f) (take-append_seam front (p ∷ []))
      (are.each (length front) p f (get_last front p (length front) refl) (subst (λ n. slice_get (all ++ f ∷ []) n ≡ Some f) same (get_last all f (length all) refl))),
  record {
    one_each = same;
    each = λ i q g e h. subst (λ (l : List Place). AreFirsts lts l q g)
        (take-append-le i front (p ∷ []) (let lt = slice_get_within front i q e in omega arith)) (are.each i q g (get_before front p i q e) (get_before all f i g h));
  },
)
  where
    same : length all ≡ length front
    same = let e = are.one_each in omega (arith, length-append all (f ∷ []), length-append front (p ∷ []))
