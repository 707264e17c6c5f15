-- Arcs with other labels, and the parts of which the system with these is built.
use Rattle.std.proofs.Common.{◌≡◌, ℕ, zero, suc, ◌+◌, ◌<◌, ◌≤◌, List, [], ◌∷◌, ◌++◌, length, take, get_or, All, refl, ap, subst, sym, ◌∙◌, arith}
use Rattle.std.proofs.lemmas.List.{take_all, take_more, get_or_default}
use Rattle.rg_theory.specs.declared.Arc.{Arc}
use Rattle.rg_theory.specs.System.{System, arc}
use Rattle.rg_theory.specs.Limits.{most_labels}
use Rattle.rg_lts.specs.Draft.{names_alone, IsArcWithin}
use Rattle.rg_lts.specs.WellFormed.{AreNames, IsWellFormed}
use Rattle.rg_line_formats.specs.Parts.{AreParts}
use Rattle.rg_split.specs.Building.{arcs_with}

with_long : (ts : List ℕ) (arcs : List Arc) → length ts ≡ length arcs → length (arcs_with ts arcs) ≡ length arcs
with_long [] arcs e = e
with_long (t ∷ ts) [] e = refl
with_long (t ∷ ts) (a ∷ arcs) e = ap suc (with_long ts arcs (omega arith))

pub with_all : (ts : List ℕ) (arcs : List Arc) (k : ℕ) (made : List Arc) → length ts ≡ length arcs → length arcs ≤ k → made ≡ take k (arcs_with ts arcs) → made ≡ arcs_with ts arcs
with_all ts arcs k made e past so_far = so_far ∙ take_all k (arcs_with ts arcs) (omega (arith, with_long ts arcs e))

with_at : (ts : List ℕ) (arcs : List Arc) (k t : ℕ) (a : Arc) → length ts ≡ length arcs → k < length arcs
    → get_or (arcs_with ts arcs) k (arc a.from t a.to) ≡ arc (get_or arcs k a).from (get_or ts k t) (get_or arcs k a).to
with_at [] arcs k t a e lt = absurd (omega arith)
with_at (x ∷ ts) [] k t a e lt = absurd (omega arith)
with_at (x ∷ ts) (b ∷ arcs) zero t a e lt = refl
with_at (x ∷ ts) (b ∷ arcs) (suc k) t a e lt = with_at ts arcs k t a (omega arith) (omega arith)

pub with_next : (ts : List ℕ) (arcs : List Arc) (k t : ℕ) (a : Arc) (made new : List Arc) → length ts ≡ length arcs → k < length arcs
    → new ≡ made ++ arc (get_or arcs k a).from (get_or ts k t) (get_or arcs k a).to ∷ [] → made ≡ take k (arcs_with ts arcs) → new ≡ take (k + 1) (arcs_with ts arcs)
with_next ts arcs k t a made new e lt grown so_far =
    grown ∙ ap (λ l. l ++ arc (get_or arcs k a).from (get_or ts k t) (get_or arcs k a).to ∷ []) so_far
    ∙ sym (take_more (arcs_with ts arcs) k (arc a.from t a.to) (omega (arith, with_long ts arcs e)) ∙ ap (λ b. take k (arcs_with ts arcs) ++ b ∷ []) (with_at ts arcs k t a e lt))

pub parts_are : (of : System) (names : List (List ℕ)) (ts : List ℕ) → IsWellFormed of → AreNames names → length names ≤ most_labels → length ts ≡ length of.arcs → All (λ t. t < length names) ts
    → AreParts of.state_names names (arcs_with ts of.arcs) of.initial
parts_are of names ts fine are few each within = record {
  state_names = fine.state_names;
  label_names = are;
  within = λ k d lt. (let less : k < length of.arcs = (let n = with_long ts of.arcs each in omega arith) in
      subst (IsArcWithin (names_alone of.state_names names)) (sym (get_or_default (arcs_with ts of.arcs) k d nowhere lt ∙ with_at ts of.arcs k 0 nowhere each less))
      ((fine.in_range.arcs k nowhere less).0, within k 0 (omega arith), (fine.in_range.arcs k nowhere less).2));
  initial = fine.in_range.initial;
  few_states = fine.few_states;
  few_labels = few;
  few_arcs = (let n = with_long ts of.arcs each in let m = fine.few_arcs in omega arith);
}
  where
    nowhere : Arc
    nowhere = arc 0 0 0
