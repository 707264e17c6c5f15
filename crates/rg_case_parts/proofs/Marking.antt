-- Which labels have an arc, arc by arc.
use Rattle.std.proofs.Common.{◌≡◌, ⊎_elim, ℕ, ◌+◌, ◌<◌, ◌==◌, Bool, set, eq-eqb, eqb-true, true, false, if◌then◌else◌, List, [], ◌∷◌, ◌++◌, length, take, slice_index_or, ap, refl, sym, ◌∙◌}
use Rattle.std.proofs.lemmas.Bool.{cases_Bool, true≢false}
use Rattle.std.proofs.lemmas.List.{take_more, get_or-set_other}
use Rattle.std.proofs.lemmas.Grind.{get_or-set_at}
use Rattle.rg_theory.specs.declared.Arc.{Arc}
use Rattle.rg_case_folds.specs.Rewriting.{has_label}

-- one arc more
label_more : (t : ℕ) (arcs : List Arc) (a : Arc) → has_label t (arcs ++ a ∷ []) ≡ (if a.label == t then true else has_label t arcs)
label_more t [] a = refl
label_more t (b ∷ arcs) a = ap (λ x. if b.label == t then true else x) (label_more t arcs a) ∙ swap (b.label == t) (a.label == t) (has_label t arcs)
  where
    swap : (x y z : Bool) → (if x then true else (if y then true else z)) ≡ (if y then true else (if x then true else z))
    swap true true z = refl
    swap true false z = refl
    swap false true z = refl
    swap false false z = refl

-- the next arc, whose label is then marked
pub label_next : (t i : ℕ) (arcs : List Arc) (a : Arc) → i < length arcs → a ≡ slice_index_or arcs i a → has_label t (take (i + 1) arcs) ≡ (if a.label == t then true else has_label t (take i arcs))
label_next t i arcs a lt at = ap (has_label t) (take_more arcs i a lt) ∙ ap (λ b. has_label t (take i arcs ++ b ∷ [])) (sym at) ∙ label_more t (take i arcs) a

-- the marks of the labels of the arcs so far
pub marked_next : (used : List Bool) (arcs : List Arc) (i n : ℕ) (a : Arc) → i < length arcs → a ≡ slice_index_or arcs i a → a.label < length used
    → ((t : ℕ) → t < n → slice_index_or used t false ≡ has_label t (take i arcs)) → (t : ℕ) → t < n → slice_index_or (set used a.label true) t false ≡ has_label t
    (take (i + 1) arcs)
marked_next used arcs i n a lt at within so_far t below = ⊎_elim here other (cases_Bool (a.label == t)) ∙ sym (label_next t i arcs a lt at)
  where
    here : (a.label == t) ≡ true → slice_index_or (set used a.label true) t false ≡ (if a.label == t then true else has_label t (take i arcs))
    here e = get_or-set_at used a.label t true false (sym (eqb-true a.label t e)) within ∙ sym (ap (λ b. if b then true else has_label t (take i arcs)) e)

    other : (a.label == t) ≡ false → slice_index_or (set used a.label true) t false ≡ (if a.label == t then true else has_label t (take i arcs))
    other e = get_or-set_other used a.label t true false (λ same. true≢false (sym (eq-eqb a.label t (sym same)) ∙ e)) ∙ so_far t below ∙ sym (ap (λ b. if b then true else has_label t (take i arcs)) e)
