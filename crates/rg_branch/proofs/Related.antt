-- The relations that a descent leaves, and its outcome.
use Rattle.std.proofs.Common.{◌≡◌, ◌⊎◌, inl, inr, ℕ, ◌<◌, ◌≤◌, List, [], ◌∷◌, ◌++◌, length, length-append, ap, refl, subst, sym, ◌∙◌, arith}
use Rattle.std.specs.Prelude.{slice_index_or}
use Rattle.std.proofs.lemmas.Bool.{cases_lt}
use Rattle.std.proofs.lemmas.List.{get_or_append_left}
use Rattle.rg_fraction.specs.declared.fraction.Fraction.{Fraction}
use Rattle.rg_linear.specs.System.{LinearSystem, row_variable}
use Rattle.rg_linear.specs.Dictionary.{Relation, IsFree, DictionaryRow}
use Rattle.rg_linear.specs.Descent.{Outcome.point, Outcome.refuted, DescentFromStart, IsFeasibleAt}
use Rattle.rg_linear.proofs.Points.{point_is_sound, zero_point_of}
use Rattle.rg_linear.proofs.Refuting.{start_refuted}
use Rattle.rg_branch.specs.declared.relations.Relations.{Relations}
use Rattle.rg_branch.specs.declared.relations.Relations.TheVariants.{OfColumns, OfAll}
use Rattle.rg_branch.specs.Relating.{AreRelationsOf}

pub relations_free : (system : LinearSystem) (members : List ℕ) (relations : Relations) → AreRelationsOf system members relations → IsFree system members
relations_free system members (OfColumns revised) are = are.held.held.basis.free
relations_free system members (OfAll dictionary) are = subst (IsFree system) are.1 are.0.free

pub point_feasible : (system : LinearSystem) (members : List ℕ) → IsFree system members → DescentFromStart system (point members) → IsFeasibleAt system members
point_feasible system members free outcome =
    let (scale, v, is, at_zero) = zero_point_of system members free in
    record { scale = scale; v = v; basic = record { point = is; zero = at_zero }; meets = point_is_sound system members outcome scale v is at_zero }

-- the relation of the row at which a descent is refuted
pub failing_relation : (system : LinearSystem) (members fixed : List ℕ) (i : ℕ) → DescentFromStart system (refuted members i fixed) → (k : Relation)
    × DictionaryRow system members (row_variable system i) k
failing_relation system members fixed i outcome = let at = (start_refuted system members fixed i outcome).stuck in (at.k, at.row)

-- what holds of each index of a list holds when one is added behind
pub pushed_each : (xs ys : List Fraction) (x : Fraction) → ys ≡ xs ++ x ∷ [] → (P : ℕ → Fraction → Type 0) → ((k : ℕ) (f : Fraction) → k < length xs → P k (slice_index_or xs k f))
    → P (length xs) x → (k : ℕ) (f : Fraction) → k < length ys → P k (slice_index_or ys k f)
pushed_each xs ys x e P each here k f lt = subst (λ zs. P k (slice_index_or zs k f)) (sym e) (go (cases_lt k (length xs)))
  where
    go : (k < length xs) ⊎ (length xs ≤ k) → P k (slice_index_or (xs ++ x ∷ []) k f)
    go (inl less) = subst (P k) (sym (get_or_append_left xs (x ∷ []) f k less)) (each k f less)
    go (inr past) =
        let size = ap length e ∙ length-append xs (x ∷ []) in
        let last : k ≡ length xs = omega arith in
        subst (λ j. P j (slice_index_or (xs ++ x ∷ []) j f)) (sym last) (subst (P (length xs)) (sym (at_end xs)) here)
      where
        at_end : (zs : List Fraction) → slice_index_or (zs ++ x ∷ []) (length zs) f ≡ x
        at_end [] = refl
        at_end (z ∷ zs) = at_end zs
