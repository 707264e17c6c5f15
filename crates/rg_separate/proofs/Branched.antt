-- What a branching asks of the forms of a case.
use Rattle.std.proofs.Common.{◌≡◌, ℕ, zero, suc, ◌+◌, ◌<◌, ◌≤◌, List, [], ◌∷◌, ◌++◌, map, take, drop, length, get_or, All, Vec, Global, refl, ap, sym, subst, ◌∙◌, arith}
use Rattle.std.specs.Prelude.{ℤ, pos, negsuc, ◌+ℤ◌, ◌-ℤ◌, ◌*ℤ◌, ◌≤ℤ◌, ◌<ℤ◌}
use Rattle.std.proofs.lemmas.Int.{ints}
use Rattle.std.proofs.lemmas.List.{length-map, map-append, take_more, take-map}
use Rattle.std.proofs.lemmas.List.Elements.{All-nil, All-cons, All-head, All-tail, All-weaker}
use Rattle.rg_integers.specs.Range.{InRange}
use Rattle.rg_integers.specs.Sum.{sum_over}
use Rattle.rg_linear.specs.System.{LinearSystem, entry}
use Rattle.rg_linear.specs.Branching.{Form, AreBounded}
use Rattle.rg_linear.specs.Room.{gap_of, gap, total, room}
use Rattle.rg_rows.specs.declared.named_form.NamedForm.{NamedForm}
use Rattle.rg_rows.specs.Forms.{row_after, form_after, forms_after, linear_form, IsFormOf as IsNamedFormOf, AreFormsOf}
use Rattle.rg_rows.proofs.FormsAfter.{after_some, linear_after, of_mapped}
use Rattle.rg_separate.specs.Bounding.{bounded_form, listed_form, AreBoundedOf, AreFirstBounded}
use Rattle.rg_branch.specs.declared.bounded.Bounded.{Bounded}
use Rattle.rg_branch.specs.View.{form_of, forms_of}
use Rattle.rg_branch.specs.Asked.{IsFormOf, CanBranch}

-- ---- lists that are seen alike

-- what holds of each item holds of each that is seen as it is
each_seen : {A B V : Type 0} (f : A → V) (g : B → V) (P : A → Type 0) (Q : B → Type 0) (xs : List A) (ys : List B)
    → map g ys ≡ map f xs → ((x : A) (y : B) → P x → g y ≡ f x → Q y) → All P xs → All Q ys
each_seen f g P Q [] [] same told all = All-nil Q
each_seen f g P Q [] (y ∷ ys) same told all = absurd (let n = ap length same in omega arith)
each_seen f g P Q (x ∷ xs) [] same told all = absurd (let n = ap length same in omega arith)
each_seen f g P Q (x ∷ xs) (y ∷ ys) same told all = All-cons Q y ys (told x y (All-head P x xs all) (first same)) (each_seen f g P Q xs ys (ap (drop 1) same) told (All-tail P x xs all))
  where
    first : g y ∷ map g ys ≡ f x ∷ map f xs → g y ≡ f x
    first e = ap (λ l. get_or l 0 (g y)) e

-- and they are seen alike in another way too
as_seen : {A B V W : Type 0} (f : A → V) (g : B → V) (h : A → W) (k : B → W) (xs : List A) (ys : List B)
    → ((x : A) (y : B) → g y ≡ f x → k y ≡ h x) → map g ys ≡ map f xs → map k ys ≡ map h xs
as_seen f g h k [] [] told same = refl
as_seen f g h k [] (y ∷ ys) told same = absurd (let n = ap length same in omega arith)
as_seen f g h k (x ∷ xs) [] told same = absurd (let n = ap length same in omega arith)
as_seen f g h k (x ∷ xs) (y ∷ ys) told same = joined (told x y (first same)) (as_seen f g h k xs ys told (ap (drop 1) same))
  where
    first : g y ∷ map g ys ≡ f x ∷ map f xs → g y ≡ f x
    first e = ap (λ l. get_or l 0 (g y)) e

    joined : k y ≡ h x → map k ys ≡ map h xs → k y ∷ map k ys ≡ h x ∷ map h xs
    joined a b = ap (λ z. z ∷ map k ys) a ∙ ap (λ l. h x ∷ l) b

-- ---- one form

-- a number of times what is at the form's row, after so many others
times_after : (before row : ℕ) (t : ℤ) (h : ℕ → ℤ) → t *ℤ h (row_after before t row) ≡ t *ℤ h (before + row)
times_after before row (pos zero) h = none (h row) ∙ sym (none (h (before + row)))
  where
    none : (z : ℤ) → pos zero *ℤ z ≡ pos 0
    none z = omega (arith, ints)
times_after before row (pos (suc n)) h = refl
times_after before row (negsuc n) h = refl

asked : (system : LinearSystem) (before : ℕ) (f : NamedForm) (b : Bounded) → IsNamedFormOf system (form_after before f) → bounded_form b ≡ listed_form f → IsFormOf system before b
asked system before f b is e = record {
  one_each = ap length coeffs ∙ is.one_each;
  positive = subst (λ z. pos 0 <ℤ z) (sym scale) is.positive;
  scale_in_range = subst InRange (sym scale) is.scale_in_range;
  coeffs_in_range = λ j lt. subst (λ xs. InRange (get_or xs j (pos 0))) (sym coeffs) (is.coeffs_in_range j (pos 0) (let e = is.one_each in omega arith));
  ordered = subst (λ z. z ≤ℤ b.high) (sym low) (subst (λ z. f.low ≤ℤ z) (sym high) is.ordered);
  low_in_range = subst (λ z. InRange (b.scale *ℤ z)) (sym low) (subst (λ z. InRange (z *ℤ f.low)) (sym scale) is.low_in_range);
  high_in_range = subst (λ z. InRange (b.scale *ℤ z)) (sym high) (subst (λ z. InRange (z *ℤ f.high)) (sym scale) is.high_in_range);
  not_negative = subst (λ z. pos 0 ≤ℤ z) (sym times) is.over.not_negative;
  times_in_range = subst InRange (sym times) is.times_in_range;
  row_within = λ some. subst (λ n. before + n < length system.rows) (sym row)
      (let differs : f.times ≡ pos 0 → ⊥ = (λ none. some (times ∙ none)) in subst (λ n. n < length system.rows) (after_some before f.times f.row differs) (is.over.within differs));
  multiple = λ j lt.
      ap (λ xs. get_or xs j (pos 0)) coeffs
      ∙ is.over.multiple j lt
      ∙ times_after before f.row f.times (λ i. entry system i j)
      ∙ ap (λ t. t *ℤ entry system (before + f.row) j) (sym times)
      ∙ ap (λ n. b.times *ℤ entry system (before + n) j) (sym row);
}
  where
    form : form_of b ≡ linear_form f
    form = ap (λ (p : Form × ℕ × ℤ). p.0) e

    row : b.row ≡ f.row
    row = ap (λ (p : Form × ℕ × ℤ). p.1) e

    times : b.times ≡ f.times
    times = ap (λ (p : Form × ℕ × ℤ). p.2) e

    scale : b.scale ≡ f.scale
    scale = ap (λ (x : Form). x.scale) form

    coeffs : b.coeffs.items ≡ f.coeffs.items
    coeffs = ap (λ (x : Form). x.coeffs) form

    low : b.low ≡ f.low
    low = ap (λ (x : Form). x.low) form

    high : b.high ≡ f.high
    high = ap (λ (x : Form). x.high) form

-- the form with a clone of its coefficients
abbrev pub copy_of : NamedForm → Vec ℤ Global → Bounded
copy_of f coeffs = record { scale = f.scale; coeffs = coeffs; low = f.low; high = f.high; row = f.row; times = f.times }

pub copy_seen : (f : NamedForm) (coeffs : Vec ℤ Global) → coeffs.items ≡ f.coeffs.items → bounded_form (copy_of f coeffs) ≡ listed_form f
copy_seen f coeffs same = ap (λ cs. (record { scale = f.scale; coeffs = cs; low = f.low; high = f.high }, f.row, f.times)) same

-- one form more
pub bounded_more : (forms : List NamedForm) (i : ℕ) (bounded : List Bounded) (f : NamedForm) (b : Bounded) → i < length forms → get_or forms i f ≡ f
    → bounded_form b ≡ listed_form f → AreBoundedOf (take i forms) bounded → AreBoundedOf (take (i + 1) forms) (bounded ++ b ∷ [])
bounded_more forms i bounded f b lt here same so_far =
    map-append bounded_form bounded (b ∷ [])
    ∙ ap (λ xs. xs ++ bounded_form b ∷ []) so_far
    ∙ ap (λ x. map listed_form (take i forms) ++ x ∷ []) same
    ∙ ap (λ g. map listed_form (take i forms) ++ listed_form g ∷ []) (sym here)
    ∙ sym (map-append listed_form (take i forms) (get_or forms i f ∷ []))
    ∙ ap (map listed_form) (sym (take_more forms i f lt))

-- ---- the room of all forms

total_front : (n : ℕ) (f : ℕ → ℕ) → total (suc n) f ≡ f 0 + total n (λ i. f (suc i))
total_front zero f = omega arith
total_front (suc n) f = let ih = total_front n f in omega arith

gap_is : (high low : ℤ) → low ≤ℤ high → pos (gap_of (high -ℤ low)) ≡ high -ℤ low
gap_is high low le = go (high -ℤ low) refl
  where
    go : (z : ℤ) → high -ℤ low ≡ z → pos (gap_of z) ≡ z
    go (pos n) e = refl
    go (negsuc n) e = absurd (omega (arith, ints))

room_is : (forms : List NamedForm) → All (λ f. f.low ≤ℤ f.high) forms → pos (room (map linear_form forms) []) ≡ sum_over (λ (f : NamedForm). f.high -ℤ f.low) forms
room_is [] ordered = refl
room_is (f ∷ forms) ordered =
    let rest = room_is forms (All-tail (λ (g : NamedForm). g.low ≤ℤ g.high) f forms ordered) in
    let here = gap_is f.high f.low (All-head (λ (g : NamedForm). g.low ≤ℤ g.high) f forms ordered) in
    close _ _ _ (f.high -ℤ f.low) _ (total_front (length (map linear_form forms)) (gap (map linear_form (f ∷ forms)) [])) here rest
  where
    close : (all first more : ℕ) (d s : ℤ) → all ≡ first + more → pos first ≡ d → pos more ≡ s → pos all ≡ d +ℤ s
    close all first more d s e g h = omega (arith, ints)

-- ---- the whole

room_small : (system : LinearSystem) (forms : List NamedForm) → AreFormsOf system forms → system.columns + length system.rows + room (map linear_form forms) [] < 4294967296
room_small system forms are = close (system.columns + length system.rows) (room (map linear_form forms) []) _
    (room_is forms (All-weaker (IsNamedFormOf system) (λ (f : NamedForm). f.low ≤ℤ f.high) (λ f is. is.ordered) forms are.each)) are.few
  where
    close : (n r : ℕ) (s : ℤ) → pos r ≡ s → (pos n +ℤ s) <ℤ pos 4294967296 → n + r < 4294967296
    close n r s e lt = omega (arith, ints)

pub room_after : (system : LinearSystem) (before : ℕ) (forms : List NamedForm) → AreFormsOf system (forms_after before forms)
    → system.columns + length system.rows + room (map linear_form forms) [] < 4294967296
room_after system before forms are = subst (λ fs. system.columns + length system.rows + room fs [] < 4294967296) (linear_after before forms) (room_small system (forms_after before forms) are)

pub scales_in_range : (system : LinearSystem) (before : ℕ) (forms : List NamedForm) → AreFormsOf system (forms_after before forms) → All (λ (f : NamedForm). InRange f.scale) forms
scales_in_range system before forms are =
    All-weaker (λ f. IsNamedFormOf system (form_after before f)) (λ (f : NamedForm). InRange f.scale) (λ f is. is.scale_in_range) forms
    (of_mapped (form_after before) (IsNamedFormOf system) forms are.each)

pub bounds_after : (system : LinearSystem) (before : ℕ) (forms : List NamedForm) → AreFormsOf system (forms_after before forms) → AreBounded system (map linear_form forms)
bounds_after system before forms are = subst (AreBounded system) (linear_after before forms) are.bounded

pub bounded_linear : (forms : List NamedForm) (bounded : List Bounded) → AreBoundedOf forms bounded → forms_of bounded ≡ map linear_form forms
bounded_linear forms bounded same = as_seen listed_form bounded_form linear_form form_of forms bounded (λ f b e. ap (λ (p : Form × ℕ × ℤ). p.0) e) same

-- the forms that all cases share begin with those of a case
pub first_bounded : (forms shared : List NamedForm) (bounded : List Bounded) → AreBoundedOf shared bounded
    → (length forms ≤ length shared) × (forms ≡ take (length forms) shared) → AreFirstBounded forms bounded
first_bounded forms shared bounded same (within, first) = (
  (let e = sym (length-map bounded bounded_form) ∙ ap length same ∙ length-map shared listed_form in omega arith),
  sym (take-map bounded_form (length forms) bounded) ∙ ap (take (length forms)) same ∙ take-map listed_form (length forms) shared ∙ ap (map listed_form) (sym first),
)

pub first_are : (forms named : List NamedForm) (bounded first : List Bounded) → named ≡ forms → first ≡ take (length named) bounded
    → AreBoundedOf forms (take (length forms) bounded) → AreBoundedOf forms first
first_are forms named bounded first e taken are = subst (AreBoundedOf forms) (sym (taken ∙ ap (λ (fs : List NamedForm). take (length fs) bounded) e)) are

pub can_branch : (system : LinearSystem) (before : ℕ) (forms : List NamedForm) (bounded : List Bounded)
    → AreFormsOf system (forms_after before forms) → AreBoundedOf forms bounded → CanBranch system before bounded
can_branch system before forms bounded are same = record {
  each = each_seen listed_form bounded_form (λ f. IsNamedFormOf system (form_after before f)) (IsFormOf system before) forms bounded same
      (asked system before) (of_mapped (form_after before) (IsNamedFormOf system) forms are.each);
  bounded = subst (AreBounded system) (sym linear) are.bounded;
  few_forms = (let e = sym (length-map bounded form_of) ∙ ap length linear ∙ length-map (forms_after before forms) linear_form in let few = are.few_forms in omega arith);
  few = subst (λ fs. system.columns + length system.rows + room fs [] < 4294967296) (sym (bounded_linear forms bounded same)) (room_after system before forms are);
}
  where
    linear : forms_of bounded ≡ map linear_form (forms_after before forms)
    linear = bounded_linear forms bounded same ∙ sym (linear_after before forms)
