-- Forms whose rows come after so many others.
use Rattle.std.proofs.Common.{◌≡◌, ⊎_elim, ℕ, zero, suc, ◌+◌, ◌-◌, ◌<◌, List, [], ◌∷◌, ◌++◌, map, length, All, ap, refl, subst, sym, ◌∙◌, arith, inl, inr}
use Rattle.std.specs.Prelude.{ℤ, pos, negsuc, ◌<ℤ◌, slice_index_or}
use Rattle.std.proofs.lemmas.Int.{ints}
use Rattle.std.proofs.lemmas.List.{get_or-append_right, get_or-map, length-map}
use Rattle.std.proofs.lemmas.List.Elements.{All-nil, All-cons, All-head, All-tail}
use Rattle.std.proofs.lemmas.Option.{slice_get_within}
use Rattle.rg_theory.specs.declared.Class.{Class}
use Rattle.rg_theory.specs.System.{System}
use Rattle.rg_case_folds.specs.Rewriting.{KeptRow}
use Rattle.rg_rows.specs.declared.named_form.NamedForm.{NamedForm}
use Rattle.rg_rows.specs.Forms.{row_after, form_after, linear_form, split_of}
use Rattle.rg_rows.specs.Making.{IsMade}
use Rattle.rg_rows.proofs.Parts.{get_right}

pub linear_after : (before : ℕ) (forms : List NamedForm) → map linear_form (map (form_after before) forms) ≡ map linear_form forms
linear_after before [] = refl
linear_after before (f ∷ forms) = ap (λ l. linear_form f ∷ l) (linear_after before forms)

pub split_after : (before : ℕ) (forms : List NamedForm) → map split_of (map (form_after before) forms) ≡ map split_of forms
split_after before [] = refl
split_after before (f ∷ forms) = ap (λ l. split_of f ∷ l) (split_after before forms)

-- no row comes before its row
pub none_before : (forms : List NamedForm) → map (form_after 0) forms ≡ forms
none_before [] = refl
none_before (f ∷ forms) = ap (λ l. form_after 0 f ∷ l) (none_before forms) ∙ ap (λ n. record f { row = n } ∷ forms) (stays f.times f.row)
  where
    left_zero : (n : ℕ) → 0 + n ≡ n
    left_zero n = omega arith

    stays : (t : ℤ) (row : ℕ) → row_after 0 t row ≡ row
    stays (pos zero) row = refl
    stays (pos (suc n)) row = left_zero row
    stays (negsuc n) row = left_zero row

after_none : (before : ℕ) (t : ℤ) (row : ℕ) → t ≡ pos 0 → row_after before t row ≡ row
after_none before t row none = ap (λ z. row_after before z row) none

pub after_some : (before : ℕ) (t : ℤ) (row : ℕ) → (t ≡ pos 0 → ⊥) → row_after before t row ≡ before + row
after_some before (pos zero) row some = absurd (some refl)
after_some before (pos (suc n)) row some = refl
after_some before (negsuc n) row some = refl

-- what holds of the images of all items
pub each_mapped : {A B : Type 0} (f : A → B) (P : A → Type 0) (Q : B → Type 0) (xs : List A) → ((x : A) → P x → Q (f x)) → All P xs → All Q (map f xs)
each_mapped f P Q [] told all = All-nil Q
each_mapped f P Q (x ∷ xs) told all = All-cons Q (f x) (map f xs) (told x (All-head P x xs all)) (each_mapped f P Q xs told (All-tail P x xs all))

module _ (lts : System) (class : Class) (columns : ℕ) (all : List KeptRow) (indices : List ℕ) (f : NamedForm) (is : IsMade lts class columns all indices f) where
  -- so many rows come before its row
  pub made_after : (own : List KeptRow) (places : List ℕ) (moved : List ℕ) (before : ℕ) → length places ≡ length own → length indices ≡ length all
      → moved ≡ places ++ map (λ i. before + i) indices → IsMade lts class columns (own ++ all) moved (form_after before f)
  made_after own places moved before one_each each_one told =
      let within = slice_get_within all is.number is.row is.at in
      let here : slice_index_or moved (length own + is.number) 0 ≡ before + slice_index_or indices is.number 0 =
      ap (λ l. slice_index_or l (length own + is.number) 0) told
      ∙ get_or-append_right places (map (λ i. before + i) indices) (length own) (length own + is.number) 0 one_each (omega arith)
      ∙ ap (λ n. slice_index_or (map (λ i. before + i) indices) n 0) (let gap : length own + is.number - length own ≡ is.number = omega arith in gap)
      ∙ get_or-map (λ i. before + i) indices is.number 0 0 (subst (λ n. is.number < n) (sym each_one) within) in
      record {
        number = length own + is.number;
        row = is.row;
        at = get_right own all (length own + is.number) is.number refl ∙ is.at;
        named = is.named;
        part = ⊎_elim
            (λ (positive, are, row, busy). inl (positive, are, after_some before f.times f.row (λ e. differs f.times positive e) ∙ ap (λ n. before + n) row ∙ sym here, busy))
            (λ (none, row, zeros). inr (none, after_none before f.times f.row none ∙ row, zeros))
            is.part;
        bounds = is.bounds;
        one_each = is.one_each;
        positive = is.positive;
        scale_in_range = is.scale_in_range;
        coeffs_in_range = is.coeffs_in_range;
        times_in_range = is.times_in_range;
      }
    where
      differs : (t : ℤ) → pos 0 <ℤ t → t ≡ pos 0 → ⊥
      differs t positive e = omega (arith, ints)

-- what holds of the images holds of each image
pub of_mapped : {A B : Type 0} (f : A → B) (P : B → Type 0) (xs : List A) → All P (map f xs) → All (λ x. P (f x)) xs
of_mapped f P xs h = λ k d lt. subst P (get_or-map f xs k d (f d) lt) (h k (f d) (subst (λ n. k < n) (sym (length-map xs f)) lt))
