-- A draft with a name that is there, and with a new one.
use Rattle.std.proofs.Common.{◌≡◌, ◌⊎◌, inl, inr, ℕ, ◌+◌, ◌<◌, ◌≤◌, List, [], ◌∷◌, ◌++◌, length, Contains, sym, ap, ◌∙◌, arith}
use Rattle.std.specs.Str.{bytes_eq}
use Rattle.std.proofs.lemmas.Bool.{cases_order}
use Rattle.std.proofs.lemmas.List.{length-append}
use Rattle.rg_lts.specs.Draft.{Draft}
use Rattle.rg_line_formats.specs.First.{with_new}
use Rattle.rg_line_formats.specs.Grown.{with_state, with_label}
use Rattle.rg_line_formats.proofs.Present.{new_there, new_absent}

pub state_there : (d : Draft) (name : List ℕ) → Contains d.state_names name → d ≡ with_state d name
state_there d name has = ap (λ l. record d { state_names = l }) (sym (new_there d.state_names name has))

pub state_new : (d : Draft) (name : List ℕ) → (Contains d.state_names name → ⊥) → record d { state_names = d.state_names ++ name ∷ [] } ≡ with_state d name
state_new d name none = ap (λ l. record d { state_names = l }) (sym (new_absent d.state_names name none))

pub label_there : (d : Draft) (name : List ℕ) → Contains d.label_names name → d ≡ with_label d name
label_there d name has = ap (λ l. record d { label_names = l }) (sym (new_there d.label_names name has))

pub label_new : (d : Draft) (name : List ℕ) → (Contains d.label_names name → ⊥) → record d { label_names = d.label_names ++ name ∷ [] } ≡ with_label d name
label_new d name none = ap (λ l. record d { label_names = l }) (sym (new_absent d.label_names name none))

pub one_more : (names : List (List ℕ)) (name : List ℕ) (most : ℕ) → (Contains names name → ⊥) → most ≤ length names → most < length (with_new bytes_eq names name)
one_more names name most none le =
    let longer : length (with_new bytes_eq names name) ≡ length names + 1 = ap length (new_absent names name none) ∙ length-append names (name ∷ []) in
    omega (arith, longer)

-- a name more, where there is room for it
pub room : (names : List (List ℕ)) (name : List ℕ) (most : ℕ) (grown : List (List ℕ)) → (Contains names name → ⊥) → length names ≤ most
    → ((Contains names name → ⊥) × (most ≤ length names) → ⊥) → grown ≡ names ++ name ∷ [] → length grown ≤ most
room names name most grown none before full is =
    let longer : length grown ≡ length names + 1 = ap length is ∙ length-append names (name ∷ []) in
    by (cases_order most (length names)) longer
  where
    by : (most ≡ length names) ⊎ ((most < length names) ⊎ (length names < most)) → length grown ≡ length names + 1 → length grown ≤ most
    by (inl same) longer = absurd (full (none, omega (arith, same)))
    by (inr (inl less)) longer = absurd (full (none, omega arith))
    by (inr (inr more)) longer = omega (arith, longer)
