-- What the relations of a basis tell.
use Rattle.std.proofs.lemmas.List.{get_or_default}
use Rattle.std.proofs.Common.{◌≡◌, ℕ, ◌<◌, Bool, true, false, not, List, length, Contains, Option, None, Some, is_some, slice_index_or, Bor, MatchOption, ap, refl, sym, ◌∙◌}
use Rattle.std.specs.Option.{option_copied}
use Rattle.rg_linear.specs.Cycle.{CycleBasis}
use Rattle.rg_folds.specs.Substitution.{is_in}
use Rattle.rg_cycles.specs.declared.relation.Relation.{Relation}
use Rattle.rg_cycles.specs.Basis.{ShowsRelation, AreRelations}
use Rattle.rg_cycles.proofs.Labels.{has_member, lacks_member}

-- the answer for label t
pub relation_told : (labels : ℕ) (cycle : CycleBasis) (relations : List (Option Relation)) (t : ℕ) (x : Option Relation) (o : Option (Bor Relation))
    → AreRelations labels cycle relations → t < labels → t < length relations → x ≡ slice_index_or relations t x → option_copied o ≡ x
    → MatchOption o (Contains cycle.members t) (λ r. (¬ Contains cycle.members t) × ShowsRelation labels cycle t r.now)
relation_told labels cycle relations t x o are lt within at copied = go o (copied ∙ at ∙ get_or_default relations t x None within)
  where
    go : (o : Option (Bor Relation)) → option_copied o ≡ slice_index_or relations t None
        → MatchOption o (Contains cycle.members t) (λ r. (¬ Contains cycle.members t) × ShowsRelation labels cycle t r.now)
    go None e = has_member cycle.members t (not_false (is_in cycle.members t) (ap is_some e ∙ are.dependent t lt))
      where
        not_false : (b : Bool) → false ≡ not b → b ≡ true
        not_false true p = refl
        not_false false p = p
    go (Some r) e = (lacks_member cycle.members t (not_true (is_in cycle.members t) (ap is_some e ∙ are.dependent t lt)), are.shown t r.now (sym e))
      where
        not_true : (b : Bool) → true ≡ not b → b ≡ false
        not_true true p = p
        not_true false p = refl
