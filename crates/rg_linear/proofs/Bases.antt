-- Vectors have one basis.
use Rattle.std.proofs.Common.{◌≡◌, ⊎_elim, ℕ, List, [], length, Contains, subst, sym, ◌∙◌, inl, inr}
use Rattle.std.specs.Prelude.{ℤ}
use Rattle.std.proofs.lemmas.Bool.{cases_lt}
use Rattle.rg_linear.specs.Dictionary.{DictionaryRow, column_set, numbers_from}
use Rattle.rg_linear.specs.Cycle.{CycleOutcome.free_set, CycleWalk, vector_at, IsZeroVector, KeepsVectors, vector_system, CycleBasis, IsCycleBasis}
use Rattle.rg_linear.proofs.Members.{is_member}
use Rattle.rg_linear.proofs.Unique.{same_relation}
use Rattle.rg_linear.proofs.Cycles.{same_cycle}
use Rattle.rg_linear.proofs.Firsts.{same_kept}

pub kept_is_one : (vectors : List (List ℤ)) (kept kept' : List ℕ) → KeepsVectors vectors kept → KeepsVectors vectors kept' → kept ≡ kept'
kept_is_one vectors kept kept' k k' = same_kept (vector_at vectors) (λ i. IsZeroVector (vector_at vectors i)) [] (numbers_from 0 (length vectors)) kept kept' k k'

same_members : (m m' : List ℕ) → free_set m ≡ free_set m' → m ≡ m'
same_members m m' e = cc

pub cycle_basis_is_one : (labels : ℕ) (vectors : List (List ℤ)) (b b' : CycleBasis) → IsCycleBasis labels vectors b → IsCycleBasis labels vectors b' → b ≡ b'
cycle_basis_is_one labels vectors b b' h h' = λ i. record { kept = kept i; members = members i; relation = λ t. relation t i }
  where
    kept : b.kept ≡ b'.kept
    kept = kept_is_one vectors b.kept b'.kept h.kept h'.kept

    members : b.members ≡ b'.members
    members = same_members b.members b'.members
        (same_cycle (vector_system labels vectors b.kept) (column_set (vector_system labels vectors b.kept)) 0 (free_set b.members) (free_set b'.members) h.cycle
        (subst (λ k. CycleWalk (vector_system labels vectors k) (free_set b'.members)) (sym kept) h'.cycle))

    relation : (t : ℕ) → b.relation t ≡ b'.relation t
    relation t = ⊎_elim
        (λ lt. ⊎_elim
        (λ has. h.others t (inr has) ∙ sym (h'.others t (inr (subst (λ m. Contains m t) members has))))
        (λ lacks. same_relation (vector_system labels vectors b.kept) b.members t (b.relation t) (b'.relation t) (h.relations t lt lacks)
        (subst (λ k. DictionaryRow (vector_system labels vectors k) b.members t (b'.relation t)) (sym kept)
        (subst (λ m. DictionaryRow (vector_system labels vectors b'.kept) m t (b'.relation t)) (sym members)
        (h'.relations t lt (λ has. lacks (subst (λ m. Contains m t) (sym members) has))))))
        (is_member b.members t))
        (λ past. h.others t (inl past) ∙ sym (h'.others t (inl past)))
        (cases_lt t labels)
