-- Markings with one number for each place.
use Rattle.std.proofs.Common.{◌≡◌, ◌⊎◌, inl, inr, ℕ, ◌+◌, ◌<◌, List, length, get_or, Vec, sym, ap, subst, ◌∙◌, arith}
use Rattle.std.specs.declared.alloc.Global.{Global}
use Rattle.std.specs.Prelude.{slice_index_or}
use Rattle.std.proofs.lemmas.Bool.{cases_order}
use Rattle.std.proofs.lemmas.List.{get_or-map}
use Rattle.rg_net.specs.ClassBreaks.{shown_markings}

-- the first of the markings, so many, have so many numbers
abbrev pub FirstFit : List (Vec ℕ Global) → ℕ → ℕ → Type 0
FirstFit rows n i = (k : ℕ) (d : List ℕ) → k < i → length (slice_index_or (shown_markings rows) k d) ≡ n

-- one more
pub fits_more : (rows : List (Vec ℕ Global)) (n i : ℕ) (row : Vec ℕ Global) → i < length rows → row ≡ get_or rows i row → length row.items ≡ n → FirstFit rows n i → FirstFit rows n (i + 1)
fits_more rows n i row lt is long fit k d less = by (cases_order k i)
  where
    at : get_or (shown_markings rows) i d ≡ row.items
    at = get_or-map (λ (r : Vec ℕ Global). r.items) rows i row d lt ∙ ap (λ (r : Vec ℕ Global). r.items) (sym is)

    by : (k ≡ i) ⊎ ((k < i) ⊎ (i < k)) → length (slice_index_or (shown_markings rows) k d) ≡ n
    by (inl e) = subst (λ j. length (slice_index_or (shown_markings rows) j d) ≡ n) (sym e) (ap (λ (r : List ℕ). length r) at ∙ long)
    by (inr (inl lt')) = fit k d lt'
    by (inr (inr gt)) = absurd (omega (arith, less, gt))
