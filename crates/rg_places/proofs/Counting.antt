-- Folds over the numbers from 0 on.
use Rattle.std.proofs.Common.{◌≡◌, ℕ, ◌+◌, ◌<◌, ◌≤◌, List, [], ◌∷◌, ◌++◌, length, slice_index_or, Result, Ok, Err, subst, sym, ◌∙◌}
use Rattle.std.proofs.lemmas.List.{get_or_default}
use Rattle.rg_integers.specs.declared.term.Wide.{Wide}
use Rattle.rg_folds.specs.Fold.{each}
use Rattle.rg_case_folds.specs.Rewriting.{all_numbers}
use Rattle.rg_places.proofs.FoldSteps.{EachLeads, all_end, next_leads, next_fails}
use Rattle.rg_case_folds.proofs.Found.{all_at, all_length}

module _ {X : Type 0} (make : ℕ → Result X Wide → Type 0) (n i : ℕ) (xs : List X) (leads : EachLeads make (all_numbers n) i xs) where
  pub counted_end : n ≤ i → each make (all_numbers n) (Ok xs)
  counted_end past = all_end make (all_numbers n) i xs leads (subst (λ k. k ≤ i) (sym (all_length n)) past)

  module _ (lt : i < n) where
    below : i < length (all_numbers n)
    below = subst (λ k. i < k) (sym (all_length n)) lt

    there : i ≡ slice_index_or (all_numbers n) i i
    there = sym (all_at n i lt) ∙ get_or_default (all_numbers n) i 0 i below

    pub counted_next : (x : X) → make i (Ok x) → EachLeads make (all_numbers n) (i + 1) (xs ++ x ∷ [])
    counted_next x made = next_leads make (all_numbers n) i xs leads i below there x made

    pub counted_fails : (w : Wide) → make i (Err w) → each make (all_numbers n) (Err w)
    counted_fails w made = next_fails make (all_numbers n) i xs leads i below there w made
