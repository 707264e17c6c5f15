-- The rows of a case, its own and those that all cases share, with their names and factors.
use Rattle.std.proofs.Common.{◌≡◌, ℕ, List, ◌++◌, map, length, None, ap, ap₂, sym, ◌∙◌}
use Rattle.std.proofs.lemmas.List.{length-map, map-append}
use Rattle.rg_linear.specs.View.{linear_row, linear_system, IsWellFormed}
use Rattle.rg_folds.specs.Fold.{ratio_of}
use Rattle.rg_case_folds.specs.Rewriting.{KeptRow}
use Rattle.rg_rows.specs.declared.kept.CaseRows.{CaseRows}
use Rattle.rg_rows.specs.declared.named_form.NamedForm.{NamedForm}
use Rattle.rg_rows.specs.declared.shared_rows.SharedRows.{SharedRows}
use Rattle.rg_rows.specs.View.{ShowsRows}
use Rattle.rg_rows.specs.Shared.{named_rows, rows_before, HasNames}

names_many : (r : CaseRows) (kept : List KeptRow) → ShowsRows r kept → length r.names.items ≡ length (map linear_row r.rows.items)
names_many r kept shows = ap length shows.names ∙ length-map kept (λ (k : KeptRow). k.name) ∙ sym (ap length shows.rows ∙ length-map kept (λ (k : KeptRow). k.row))

factors_many : (r : CaseRows) (kept : List KeptRow) → ShowsRows r kept → length r.factors.items ≡ length (map linear_row r.rows.items)
factors_many r kept shows =
    sym (length-map r.factors.items ratio_of) ∙ ap length shows.factors ∙ length-map kept (λ (k : KeptRow). k.factor) ∙ sym (ap length shows.rows ∙ length-map kept (λ (k : KeptRow). k.row))

pub has_names : (columns : ℕ) (own : CaseRows) (forms : List NamedForm) (kept : List KeptRow)
    → ShowsRows own kept → IsWellFormed (linear_system columns own.rows.items) → HasNames (named_rows columns own forms None)
has_names columns own forms kept shows well_formed = record { well_formed = well_formed; names = names_many own kept shows; factors = factors_many own kept shows }

module _ (own : CaseRows) (shared : SharedRows) (kept rest : List KeptRow) (shows : ShowsRows own kept)
    (more : ShowsRows (record { rows = shared.rows.rows; names = shared.names; factors = shared.factors }) rest) where
  pub joined_rows : map linear_row (own.rows.items ++ shared.rows.rows.items) ≡ map (λ (k : KeptRow). k.row) (kept ++ rest)
  joined_rows = map-append linear_row own.rows.items shared.rows.rows.items ∙ ap₂ ◌++◌ shows.rows more.rows ∙ sym (map-append (λ (k : KeptRow). k.row) kept rest)

  pub joined_names : own.names.items ++ shared.names.items ≡ map (λ (k : KeptRow). k.name) (kept ++ rest)
  joined_names = ap₂ ◌++◌ shows.names more.names ∙ sym (map-append (λ (k : KeptRow). k.name) kept rest)

  pub joined_factors : map ratio_of (own.factors.items ++ shared.factors.items) ≡ map (λ (k : KeptRow). k.factor) (kept ++ rest)
  joined_factors = map-append ratio_of own.factors.items shared.factors.items ∙ ap₂ ◌++◌ shows.factors more.factors ∙ sym (map-append (λ (k : KeptRow). k.factor) kept rest)

  pub has_joined : (columns form_count : ℕ)
      → IsWellFormed (linear_system columns (own.rows.items ++ shared.rows.rows.items)) → HasNames (rows_before columns own shared form_count)
  has_joined columns form_count well_formed = record {
    well_formed = well_formed;
    names = ap length joined_names ∙ length-map (kept ++ rest) (λ (k : KeptRow). k.name) ∙ rows;
    factors = sym (length-map (own.factors.items ++ shared.factors.items) ratio_of) ∙ ap length joined_factors ∙ length-map (kept ++ rest) (λ (k : KeptRow). k.factor) ∙ rows;
  }
    where
      rows : length (kept ++ rest) ≡ length (map linear_row (own.rows.items ++ shared.rows.rows.items))
      rows = sym (ap length joined_rows ∙ length-map (kept ++ rest) (λ (k : KeptRow). k.row))
