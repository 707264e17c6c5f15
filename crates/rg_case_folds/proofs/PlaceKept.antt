-- The whole numbers that are found keep all rows of the case.
use Rattle.std.proofs.Common.{◌≡◌, ⊎_elim, ℕ, ◌+◌, ◌<◌, ◌&&◌, ◌||◌, not, is_some, unwrap_or, Option, Some, None, IfSome, Contains, if◌then◌else◌, Bool, true, false, IsNone, List, map, length, refl, Ok, sym, ap, ap₂, subst, ◌∙◌, arith}
use Rattle.std.specs.Prelude.{ℤ, pos, neg_ℤ, ◌+ℤ◌, ◌-ℤ◌, ◌*ℤ◌, ◌<ℤ◌, ◌≤ℤ◌, unsigned_abs}
use Rattle.std.proofs.Math.IntN.{*ℤ-zero}
use Rattle.std.proofs.lemmas.Int.{ints}
use Rattle.std.proofs.lemmas.Bool.{true≢false, cases_Bool}
use Rattle.std.proofs.lemmas.List.{length-map, get_or-map, get_or_default}
use Rattle.std.proofs.lemmas.List.Elements.{Contains-get_or}
use Rattle.rg_theory.specs.declared.Class.{Class}
use Rattle.rg_theory.specs.declared.Problem.{Problem}
use Rattle.rg_theory.specs.declared.Problem.TheVariants.{Event, States}
use Rattle.rg_theory.specs.Class.{IsMultiple, AllowsStart}
use Rattle.rg_theory.specs.ClassWords.{HasNumbersInRange}
use Rattle.rg_integers.specs.Sum.{sum_below}
use Rattle.rg_integers.proofs.Ring.{ring, mul_left_comm}
use Rattle.rg_case_folds.specs.Setting.{CaseSetting}
use Rattle.rg_case_folds.proofs.CaseRows.{kept_tokens}
use Rattle.rg_case_folds.proofs.Lifts.{lifted_keeps}
use Rattle.rg_case_folds.proofs.Missing.{missing_is_least}
use Rattle.rg_case_folds.proofs.Times.{allows_by, multiple_positive}
use Rattle.rg_theory.specs.System.{System, IsInRange, states, labels}
use Rattle.rg_cert_meaning.specs.declared.Variable.{Variable}
use Rattle.rg_folds.specs.Fold.{gives, either, each, Ratio, whole, add}
use Rattle.rg_case_folds.specs.Potentials.{potential}
use Rattle.rg_theory.specs.Tree.{parikh}
use Rattle.rg_case_folds.specs.Rewriting.{all_numbers, has_label, has_start, CaseSystem}
use Rattle.rg_case_folds.specs.Values.{numbers_along}
use Rattle.rg_case_folds.specs.Placing.{negated, ratio_at, along_tree, least_of, is_shifted, is_lifted, missing, top_at}
use Rattle.rg_case_folds.specs.Meaning.{KeepsRowsOver, shifted, IsCaseOver, AreEffects, MeetsCase}
use Rattle.rg_case_folds.proofs.Whole.{at_one, absolute}
use Rattle.rg_case_folds.proofs.CaseMeaning.{start_means, no_start_means, shift_means}
use Rattle.rg_case_folds.proofs.Items.{each_length}
use Rattle.rg_case_folds.proofs.Wholes.{add_whole, each_at}
use Rattle.rg_case_folds.proofs.Found.{all_length, all_at, not_bounded, AreFound, AreSteps, found_effect, same_effect, found_effects, found_meets}
use Rattle.rg_case_folds.proofs.Moved.{IsWholeAt, along_gives, AllWhole, least_is}
use Rattle.rg_case_folds.proofs.Products.{natural, join, sum_times}
use Rattle.rg_cert_meaning.specs.declared.Variable.TheVariants.{Tokens, Effect}

-- ---- the shift

pub ratio_of_whole : (r : Ratio) → r.bottom ≡ pos 1 → negated r ≡ whole (neg_ℤ r.top)
ratio_of_whole r one = ap (λ b. record { top = neg_ℤ r.top; bottom = b }) one

-- whole numbers at each place of a list
abbrev pub AreWholeAt : List Ratio → ℕ → (ℕ → ℤ) → Type 0
AreWholeAt list n p = (length list ≡ n) × ((s : ℕ) → s < n → IsWholeAt (ratio_at list s) (p s))

pub all_whole : (list : List Ratio) (n : ℕ) (p : ℕ → ℤ) → AreWholeAt list n p → AllWhole list
all_whole list n p (count, at) r (i, lt, e) = ap (λ (q : Ratio). q.bottom) (sym e ∙ get_or_default list i r (whole (pos 0)) lt ∙ (at i (subst (λ k. i < k) count lt)).0)

shifted_at : (list numbers : List Ratio) (n : ℕ) (p : ℕ → ℤ) → 0 < n → AreWholeAt list n p → each (λ m. add m (negated (least_of list))) list (Ok numbers)
    → (by : ℤ) × AreWholeAt numbers n (λ s. p s +ℤ by) × ((s : ℕ) → s < n → pos 0 ≤ℤ (p s +ℤ by)) × ((l : ℕ) × (l < n) × (by ≡ neg_ℤ (p l)))
shifted_at list numbers n p some (count, at) made =
    let whole_list = all_whole list n p (count, at) in
    let (has, low) = least_is list (subst (λ k. 0 < k) (sym count) some) whole_list in
    let turned = ratio_of_whole (least_of list) (whole_list (least_of list) has) in (
      neg_ℤ (least_of list).top,
      (
        each_length (λ m. add m (negated (least_of list))) list numbers made ∙ count,
        λ s lt.
            add_whole (p s) (neg_ℤ (least_of list).top) (ratio_at numbers s)
            (subst (λ g. add (whole (p s)) g (Ok (ratio_at numbers s))) turned
            (subst (λ f. add f (negated (least_of list)) (Ok (ratio_at numbers s))) (at s lt).0
            (each_at (λ m. add m (negated (least_of list))) list numbers (whole (pos 0)) (whole (pos 0)) s made (subst (λ k. s < k) (sym count) lt)))),
      ),
      λ s lt. above (p s) (least_of list).top (subst (λ (r : Ratio). (least_of list).top ≤ℤ r.top)
          (at s lt).0 (low (ratio_at list s) (Contains-get_or list s (whole (pos 0)) (subst (λ k. s < k) (sym count) lt)))),
      place (least_of list) has,
    )
  where
    place : (r : Ratio) → Contains list r → (l : ℕ) × (l < n) × (neg_ℤ r.top ≡ neg_ℤ (p l))
    place r (i, lt, e) =
        let below = subst (λ k. i < k) count lt in
        (i, below, ap (λ (q : Ratio). neg_ℤ q.top) (sym e ∙ get_or_default list i r (whole (pos 0)) lt ∙ (at i below).0))

    above : (z l : ℤ) → l ≤ℤ z → pos 0 ≤ℤ (z +ℤ neg_ℤ l)
    above z l h = omega (arith, ints)

-- ---- numbers that keep all rows

-- before they are moved back
pub record AreMoved (lts : System) (class : Class) (problem : Problem) (number : ℕ) (found numbers : List Ratio) (x : Variable → ℤ) : Type 0 where
  pub keeps : KeepsRowsOver lts class problem number (pos 1) x
  pub at : AreWholeAt numbers (states lts) (λ s. x (Tokens s))
  pub effects : (t : ℕ) → t < labels lts → top_at found t ≡ x (Effect t)

pub record AreKept (lts : System) (class : Class) (problem : Problem) (number : ℕ) (found numbers : List Ratio) (x : Variable → ℤ) : Type 0 where
  pub keeps : KeepsRowsOver lts class problem number (pos 1) x
  pub at : AreWholeAt numbers (states lts) (λ s. x (Tokens s))
  pub effects : (t : ℕ) → t < labels lts → top_at found t ≡ x (Effect t)
  pub start : AllowsStart class (unsigned_abs (x (Tokens lts.initial)))

allows_all : (o : Option ℕ) (m : ℕ) → IsMultiple (unwrap_or o 1) m → IfSome o (λ n. IsMultiple n m)
allows_all None m h = tt
allows_all (Some n) m h = h

lifted_parts : (m p b : Bool) → (m && (p && not b)) ≡ true → b ≡ false
lifted_parts true true false e = refl
lifted_parts true true true e = absurd (true≢false (sym e))
lifted_parts true false b e = absurd (true≢false (sym e))
lifted_parts false p b e = absurd (true≢false (sym e))

abbrev pub lift_by : System → Class → Problem → Bool → List Ratio → List Ratio → Type 0
lift_by lts class problem b moved numbers = either b (each (λ m. add m (whole (pos (missing (unwrap_or class.marking 1) (unsigned_abs (top_at moved lts.initial)))))) moved) (gives moved) (Ok numbers)

-- the numbers, moved back until the start is a multiple
pub lift_kept : (lts : System) (class : Class) (problem : Problem) (number : ℕ) (found moved numbers : List Ratio) (x : Variable → ℤ) → IsInRange lts
    → HasNumbersInRange class → AreMoved lts class problem number found moved x → lift_by lts class problem (is_lifted class problem) moved numbers
    → (is_lifted class problem ≡ false → AllowsStart class (unsigned_abs (x (Tokens lts.initial)))) → (y : Variable → ℤ)
    × AreKept lts class problem number found numbers y
lift_kept lts class (Event s t) number found moved numbers x fine in_range k same start =
    (x, record { keeps = k.keeps; at = subst (λ l. AreWholeAt l (states lts) (λ q. x (Tokens q))) (sym same) k.at; effects = k.effects; start = start refl })
lift_kept lts class (States s s') number found moved numbers x fine in_range k lift start = ⊎_elim up stays (cases_Bool (is_lifted class (States s s')))
  where
    stays : is_lifted class (States s s') ≡ false → (y : Variable → ℤ) × AreKept lts class (States s s') number found numbers y
    stays e =
        let same : numbers ≡ moved = subst (λ b. lift_by lts class (States s s') b moved numbers) e lift in
        (x, record { keeps = k.keeps; at = subst (λ l. AreWholeAt l (states lts) (λ q. x (Tokens q))) (sym same) k.at; effects = k.effects; start = start e })

    n : ℕ
    n = unwrap_or class.marking 1

    m : ℕ
    m = unsigned_abs (x (Tokens lts.initial))

    low : x (Tokens lts.initial) ≡ pos (unsigned_abs (x (Tokens lts.initial)))
    low = absolute (x (Tokens lts.initial)) (kept_tokens lts class (States s s') number (pos 1) x k.keeps lts.initial)

    top : unsigned_abs (top_at moved lts.initial) ≡ unsigned_abs (x (Tokens lts.initial))
    top = ap (λ (r : Ratio). unsigned_abs r.top) (k.at.1 lts.initial fine.initial).0

    some : (z : ℕ) → pos 0 <ℤ pos z → 0 < z
    some z h = omega (arith, ints)

    more : (z : ℤ) (a b : ℕ) → z ≡ pos a → unsigned_abs (z +ℤ pos b) ≡ a + b
    more z a b e = ap (λ y. unsigned_abs (y +ℤ pos b)) e

    up : is_lifted class (States s s') ≡ true → (y : Variable → ℤ) × AreKept lts class (States s s') number found numbers y
    up e =
        let by = missing (unwrap_or class.marking 1) (unsigned_abs (top_at moved lts.initial)) in
        let bound = lifted_parts (is_some class.marking) class.plain (is_some class.bound) e in
        let made : each (λ r. add r (whole (pos by))) moved (Ok numbers) = subst (λ b. lift_by lts class (States s s') b moved numbers) e lift in
        let multiple : IsMultiple (unwrap_or class.marking 1) (unsigned_abs (x (Tokens lts.initial)) + by) =
        subst (λ a. IsMultiple (unwrap_or class.marking 1) (a + by)) top
        (missing_is_least (unwrap_or class.marking 1) (unsigned_abs (top_at moved lts.initial))
        (some (unwrap_or class.marking 1) (multiple_positive class in_range))).0 in (
          shifted (pos by) x,
          record {
            keeps = lifted_keeps lts class bound (pos by) (natural by) x s s' number k.keeps;
            at = (
              each_length (λ r. add r (whole (pos by))) moved numbers made ∙ k.at.0,
              λ q lt. add_whole (x (Tokens q)) (pos by) (ratio_at numbers q)
                  (subst (λ f. add f (whole (pos by)) (Ok (ratio_at numbers q)))
                  (k.at.1 q lt).0 (each_at (λ r. add r (whole (pos by))) moved numbers (whole (pos 0)) (whole (pos 0)) q made (subst (λ c. q < c) (sym k.at.0) lt))),
            );
            effects = k.effects;
            start = allows_all class.marking (unsigned_abs (x (Tokens lts.initial) +ℤ pos by))
                (subst (IsMultiple (unwrap_or class.marking 1)) (sym (more (x (Tokens lts.initial)) (unsigned_abs (x (Tokens lts.initial))) by low)) multiple);
          },
        )

abbrev pub shift_by : Bool → List Ratio → List Ratio → Type 0
shift_by b list numbers = either b (each (λ m. add m (negated (least_of list))) list) (gives list) (Ok numbers)

pub kept_is : (it : CaseSetting) (case : CaseSystem) (first : ℤ) (effect : ℕ → ℤ) (scale m : ℤ) (found numbers : List Ratio) (out : ℕ → Ratio) → it.class.plain ≡ false
    → IsNone it.class.bound → IsCaseOver it case → AreEffects it.lts it.tree it.basis effect → pos 0 <ℤ scale → AreFound it.lts found first effect scale m
    → AreSteps it.class found → MeetsCase it.setting case first effect scale → along_tree (ratio_at found) (λ s. ratio_at found (labels it.lts)) it.tree (Ok out)
    → shift_by (is_shifted it.class) (map out (all_numbers (states it.lts))) numbers
    → (x : Variable → ℤ) × AreMoved it.lts it.class it.problem it.number found numbers x × AllowsStart it.class (unsigned_abs (x (Tokens it.lts.initial)))
kept_is it case first effect scale m found numbers out plain bound c e positive f steps met made shift = ⊎_elim pure_case other_case (cases_Bool it.class.pure)
  where
    start : ℤ
    start = top_at found (labels it.lts)

    list : List Ratio
    list = map out (all_numbers (states it.lts))

    effects : AreEffects it.lts it.tree it.basis (found_effect it.lts found)
    effects = found_effects it.lts it.tree it.basis found first effect scale m positive e f

    meets : MeetsCase it.setting case (top_at found (labels it.lts)) (found_effect it.lts found) m
    meets = found_meets it.setting case found first effect scale m positive e f met

    same : (t : ℕ) → t < labels it.lts → top_at found t ≡ found_effect it.lts found t
    same t lt = sym (same_effect it.lts it.tree it.basis found first effect scale m positive e f t lt)

    at : AreWholeAt (map out (all_numbers (states it.lts))) (states it.lts) (potential it.lts it.tree (top_at found (labels it.lts)) (found_effect it.lts found))
    at = (
      length-map (all_numbers (states it.lts)) out ∙ all_length (states it.lts),
      λ s lt.
          subst (λ r. IsWholeAt r (potential it.lts it.tree (top_at found (labels it.lts)) (found_effect it.lts found) s))
          (sym (get_or-map out (all_numbers (states it.lts)) s 0 (whole (pos 0)) (subst (λ k. s < k) (sym (all_length (states it.lts))) lt) ∙ ap out (all_at (states it.lts) s lt)))
          (along_gives it.lts it.tree (ratio_at found) out (top_at found (labels it.lts)) (top_at found) (found_effect it.lts found) s c.in_range c.is_tree (c.reachable.each s lt)
          (f.fits (labels it.lts)) f.is_whole same (subst (λ r. along_tree (ratio_at found) (λ q. r) it.tree (Ok out)) (f.is_whole (labels it.lts)) made)),
    )

    -- the number of each state is so many steps
    steps_at : (s : ℕ) → (u : ℤ) × (potential it.lts it.tree (top_at found (labels it.lts)) (found_effect it.lts found) s ≡ pos (unwrap_or it.class.marking 1) *ℤ u)
    steps_at s =
        let (u, is) = steps (labels it.lts) in
        let (w, is') = sum_times (pos (unwrap_or it.class.marking 1)) (labels it.lts) (λ t. pos (parikh it.tree s t) *ℤ found_effect it.lts found t)
        (λ t lt. scaled (pos (unwrap_or it.class.marking 1)) (pos (parikh it.tree s t)) (found_effect it.lts found t) (used t (has_label t it.lts.arcs))) in
        (u +ℤ w, join (pos (unwrap_or it.class.marking 1)) (top_at found (labels it.lts)) (sum_below (labels it.lts) (λ t. pos (parikh it.tree s t) *ℤ found_effect it.lts found t)) u w is is')
      where
        used : (t : ℕ) (b : Bool) → (u : ℤ) × ((if b then top_at found t else pos 0) ≡ pos (unwrap_or it.class.marking 1) *ℤ u)
        used t true = steps t
        used t false = (pos 0, sym (*ℤ-zero (pos (unwrap_or it.class.marking 1))))

        scaled : (k n z : ℤ) → (u : ℤ) × (z ≡ k *ℤ u) → (u : ℤ) × (n *ℤ z ≡ k *ℤ u)
        scaled k n z (u, e) = (n *ℤ u, ap (λ y. n *ℤ y) e ∙ mul_left_comm n k u)

    less : (k a b by u w : ℤ) → a ≡ k *ℤ u → b ≡ k *ℤ w → by ≡ neg_ℤ b → a +ℤ by ≡ k *ℤ (u -ℤ w)
    less k a b by u w e g h = let d : k *ℤ (u -ℤ w) ≡ (k *ℤ u) -ℤ (k *ℤ w) = simp ring (omega (arith, ints)) in omega (arith, ints)

    moves : (b : Bool) → it.class.pure ≡ b → is_shifted it.class ≡ (not false && (false || not b))
    moves b is = ap₂ (λ x y. not x && y) (not_bounded it.class.bound bound) (ap₂ (λ x y. x || not y) plain is)

    pure_case : it.class.pure ≡ true → (x : Variable → ℤ) × AreMoved it.lts it.class it.problem it.number found numbers x × AllowsStart it.class (unsigned_abs (x (Tokens it.lts.initial)))
    pure_case pure =
        let stays : numbers ≡ map out (all_numbers (states it.lts)) = subst (λ b. shift_by b (map out (all_numbers (states it.lts))) numbers) (moves true pure) shift in (
          numbers_along it.lts it.tree (top_at found (labels it.lts)) (found_effect it.lts found),
          record {
            keeps = at_one it.lts it.class it.problem it.number m (numbers_along it.lts it.tree (top_at found (labels it.lts)) (found_effect it.lts found)) plain bound f.positive
                ((start_means it case (top_at found (labels it.lts)) (found_effect it.lts found) m c effects f.positive
                (ap (λ b. b || (it.class.plain || is_some it.class.bound)) pure)).0 meets);
            at = subst (λ l. AreWholeAt l (states it.lts) (potential it.lts it.tree (top_at found (labels it.lts)) (found_effect it.lts found))) (sym stays) at;
            effects = same;
          },
          (let (u, is) = steps_at it.lts.initial in allows_by it.class (potential it.lts it.tree (top_at found (labels it.lts)) (found_effect it.lts found) it.lts.initial) u is),
        )

    other_case : it.class.pure ≡ false → (x : Variable → ℤ) × AreMoved it.lts it.class it.problem it.number found numbers x × AllowsStart it.class (unsigned_abs (x (Tokens it.lts.initial)))
    other_case impure =
        let starts : has_start it.class ≡ false = ap₂ (λ x y. x || y) impure (ap₂ (λ x y. x || y) plain (not_bounded it.class.bound bound)) in
        let moved = subst (λ b. shift_by b (map out (all_numbers (states it.lts))) numbers) (moves false impure) shift in
        let (by, at', above, (l, l_lt, by_is)) = shifted_at (map out (all_numbers (states it.lts))) numbers (states it.lts)
        (potential it.lts it.tree (top_at found (labels it.lts)) (found_effect it.lts found)) (let lt = c.in_range.initial in omega arith) at moved in (
          shifted by (numbers_along it.lts it.tree (top_at found (labels it.lts)) (found_effect it.lts found)),
          record {
            keeps = at_one it.lts it.class it.problem it.number m (shifted by (numbers_along it.lts it.tree (top_at found (labels it.lts)) (found_effect it.lts found))) plain bound f.positive
                (shift_means it case (top_at found (labels it.lts)) (found_effect it.lts found) m by c starts
                ((no_start_means it case (top_at found (labels it.lts)) (found_effect it.lts found) m c effects f.positive starts).0 meets)
                above);
            at = at';
            effects = same;
          },
          (let (u, is) = steps_at it.lts.initial in let (w, is') = steps_at l in
              allows_by it.class (potential it.lts it.tree (top_at found (labels it.lts)) (found_effect it.lts found) it.lts.initial +ℤ by) (u -ℤ w)
              (less (pos (unwrap_or it.class.marking 1)) (potential it.lts it.tree (top_at found (labels it.lts)) (found_effect it.lts found) it.lts.initial)
              (potential it.lts it.tree (top_at found (labels it.lts)) (found_effect it.lts found) l) by u w is is' by_is)),
        )
