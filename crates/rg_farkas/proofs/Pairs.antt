-- The counts of all rows, row by row.
use Rattle.std.proofs.Common.{◌≡◌, ℕ, ◌+◌, ◌<◌, not, true, List, [], ◌∷◌, ◌++◌, map, drop, length, Contains, All, ap, refl, subst, sym, ◌∙◌, arith, append_assoc}
use Rattle.std.specs.Prelude.{slice_index_or}
use Rattle.std.proofs.lemmas.List.{length-map, map-append, get_or-map}
use Rattle.std.proofs.lemmas.List.Elements.{All-from_get_or, Contains-get_or}
use Rattle.rg_theory.specs.declared.Arc.{Arc}
use Rattle.rg_theory.specs.System.{System, states, labels}
use Rattle.rg_linear.specs.Cycle.{CycleBasis}
use Rattle.rg_case_folds.proofs.Lists.{where_is}
use Rattle.rg_fraction.specs.declared.fraction.Fraction.{Fraction}
use Rattle.rg_cert_meaning.specs.Expression.{Expression}
use Rattle.rg_cert_meaning.specs.declared.RowName.{RowName}
use Rattle.rg_folds.specs.Fold.{ratio_of}
use Rattle.rg_folds.specs.Substitution.{is_in, dependent_labels}
use Rattle.rg_case_folds.specs.Spreading.{pairs_of}
use Rattle.rg_farkas.specs.Leaves.{share_of}
use Rattle.rg_cert_data.specs.declared.sum.Expression.{Expression as CodeExpression}
use Rattle.rg_cert_data.specs.Sums.{expression_of}
use Rattle.rg_farkas.specs.View.{LabelCount, pair_count, label_count, AreRowsWithin}
use Rattle.rg_cert_data.specs.Certificates.{IsTermWithin}
use Rattle.rg_case_folds.proofs.Items.{from_index}

-- labels that aren't free are labels, and no members
pub dependent_at : (n : ℕ) (basis : CycleBasis) (ts : List ℕ) (i : ℕ) → ts ≡ dependent_labels n basis → i < length ts
    → (not (is_in basis.members (slice_index_or ts i 0)) ≡ true) × (slice_index_or ts i 0 < n)
dependent_at n basis ts i e lt =
    let (test, _, below) = where_is (λ t. not (is_in basis.members t)) 0 n (slice_index_or ts i 0) (subst (λ l. Contains l (slice_index_or ts i 0)) e (Contains-get_or ts i 0 lt)) in
    (test, omega arith)

pub all_below : (n m : ℕ) (basis : CycleBasis) (seen ts : List ℕ) → seen ≡ ts → ts ≡ dependent_labels n basis → m ≡ n → All (λ t. t < m) seen
all_below n m basis seen ts e e' same = All-from_get_or (λ t. t < m) seen 0 (λ i lt. (let h = (dependent_at n basis seen i (e ∙ e') lt).1 in omega arith))

-- a named row's terms are within the system
module _ (lts : System) (expression : RowName → Expression) (named : List (RowName × Fraction)) (i : ℕ) (d : RowName × Fraction) (lt : i < length named) (is : d ≡ slice_index_or named i d) where
  pub row_within : (n m : ℕ) (e : CodeExpression) → AreRowsWithin lts expression (map share_of named) → n ≡ states lts → m ≡ labels lts
      → expression_of e ≡ expression d.0 → All (IsTermWithin n m) (expression_of e).terms
  row_within n m e within same_n same_m told =
      subst (λ (x : Expression). All (IsTermWithin n m) x.terms) (sym told)
      (subst (λ k. All (IsTermWithin k m) (expression d.0).terms) (sym same_n)
      (subst (λ k. All (IsTermWithin (states lts) k) (expression d.0).terms) (sym same_m)
      (subst (λ x. All (IsTermWithin (states lts) (labels lts)) (expression x.0).terms) (sym is)
      (subst (λ s. All (IsTermWithin (states lts) (labels lts)) (expression s.name).terms) (get_or-map share_of named i d (share_of d) lt) (within i (share_of d) (simp length-map lt))))))

  -- the counts of one row
  row_pairs : (tree : List Arc) (ts : List ℕ)
      → map (pair_count tree expression) (pairs_of (map share_of (drop i named)) ts)
      ≡ map (label_count tree (expression d.0).terms (ratio_of d.1)) ts ++ map (pair_count tree expression) (pairs_of (map share_of (drop (i + 1) named)) ts)
  row_pairs tree ts =
      ap (λ l. map (pair_count tree expression) (pairs_of (map share_of l) ts)) (from_index named i d lt ∙ ap (λ x. x ∷ drop (i + 1) named) (sym is))
      ∙ map-append (pair_count tree expression) (map (λ t. record { share = share_of d; label = t }) ts) (pairs_of (map share_of (drop (i + 1) named)) ts)
      ∙ ap (λ l. l ++ map (pair_count tree expression) (pairs_of (map share_of (drop (i + 1) named)) ts)) (pair_counts tree ts)
    where
      pair_counts : (tree : List Arc) (ts : List ℕ)
          → map (pair_count tree expression) (map (λ t. record { share = share_of d; label = t }) ts) ≡ map (label_count tree (expression d.0).terms (ratio_of d.1)) ts
      pair_counts tree [] = refl
      pair_counts tree (t ∷ ts) = ap (λ l. label_count tree (expression d.0).terms (ratio_of d.1) t ∷ l) (pair_counts tree ts)

  pub counts_next : (tree : List Arc) (ts seen : List ℕ) (e : CodeExpression) (out out' whole : List LabelCount) → seen ≡ ts
      → expression_of e ≡ expression d.0 → out' ≡ out ++ map (label_count tree (expression_of e).terms (ratio_of d.1)) seen
      → out ++ map (pair_count tree expression) (pairs_of (map share_of (drop i named)) ts) ≡ whole
      → out' ++ map (pair_count tree expression) (pairs_of (map share_of (drop (i + 1) named)) ts) ≡ whole
  counts_next tree ts seen e out out' whole same told pushed so_far =
      ap (λ l. l ++ map (pair_count tree expression) (pairs_of (map share_of (drop (i + 1) named)) ts))
      (pushed ∙ ap (λ l. out ++ map (label_count tree (expression_of e).terms (ratio_of d.1)) l) same
      ∙ ap (λ (x : Expression). out ++ map (label_count tree x.terms (ratio_of d.1)) ts) told)
      ∙ append_assoc out (map (label_count tree (expression d.0).terms (ratio_of d.1)) ts) (map (pair_count tree expression) (pairs_of (map share_of (drop (i + 1) named)) ts))
      ∙ ap (λ l. out ++ l) (sym (row_pairs tree ts))
      ∙ so_far
