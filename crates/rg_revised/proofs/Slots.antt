-- Lists of slots, one of which is set, and the numbers beside them.
use Rattle.std.proofs.Common.{◌≡◌, ◌≢◌, ◌⊎◌, ⊎_elim, ℕ, zero, suc, ◌<◌, List, [], ◌∷◌, length, get_or, Contains, refl, subst, sym, inl, inr, arith}
use Rattle.std.proofs.Math.ListN.{set}
use Rattle.std.specs.Prelude.{ℤ}
use Rattle.rg_integers.specs.Sum.{number_at}
use Rattle.rg_linear.specs.Table.{number_beside}
use Rattle.rg_linear.proofs.Members.{differs, same, Contains-here, Contains-there, Contains-cons_cases, Contains-nil}
use Rattle.rg_linear.proofs.MemberIndices.{member_at}
use Rattle.rg_revised.specs.Held.{AreDistinct}

-- ---- the number beside a variable

pub beside_at : (slots : List ℕ) (numbers : List ℤ) (q : ℕ) → AreDistinct slots → q < length slots → length slots < length numbers
    → number_beside slots numbers (get_or slots q 0) ≡ number_at numbers q
beside_at [] numbers q d lt more = absurd (omega arith)
beside_at (x ∷ slots) [] q d lt more = absurd (omega arith)
beside_at (x ∷ slots) (z ∷ numbers) zero d lt more = rw (same x) refl
beside_at (x ∷ slots) (z ∷ numbers) (suc q) d lt more = rw (differs x (get_or slots q 0) (λ e. d.0 (subst (Contains slots) (sym e) (member_at slots q (shorter lt)))))
    (beside_at slots numbers q d.1 (shorter lt) (longer more))
  where
    shorter : suc q < length (x ∷ slots) → q < length slots
    shorter h = omega arith

    longer : length (x ∷ slots) < length (z ∷ numbers) → length slots < length numbers
    longer h = omega arith

-- ---- one slot is set

pub set_Contains : (slots : List ℕ) (p i m : ℕ) → AreDistinct slots → p < length slots → Contains (set slots p i) m → (i ≡ m) ⊎ (Contains slots m × (m ≢ get_or slots p 0))
set_Contains [] p i m d lt has = absurd (omega arith)
set_Contains (x ∷ slots) zero i m d lt has = ⊎_elim (λ e. inl e) (λ rest. inr (Contains-there x m slots rest, λ e. d.0 (subst (Contains slots) e rest))) (Contains-cons_cases i m slots has)
set_Contains (x ∷ slots) (suc p) i m d lt has = ⊎_elim
    (λ e. inr (subst (Contains (x ∷ slots)) e (Contains-here x slots), λ f. d.0 (subst (Contains slots) (back e f) (member_at slots p (shorter lt)))))
    (λ rest. ⊎_elim (λ e. inl e) (λ old. inr (Contains-there x m slots old.0, old.1)) (set_Contains slots p i m d.1 (shorter lt) rest))
    (Contains-cons_cases x m (set slots p i) has)
  where
    shorter : suc p < length (x ∷ slots) → p < length slots
    shorter h = omega arith

    back : x ≡ m → m ≡ get_or slots p 0 → get_or slots p 0 ≡ x
    back e f = omega arith

pub Contains-set_new : (slots : List ℕ) (p i : ℕ) → p < length slots → Contains (set slots p i) i
Contains-set_new [] p i lt = absurd (omega arith)
Contains-set_new (x ∷ slots) zero i lt = Contains-here i slots
Contains-set_new (x ∷ slots) (suc p) i lt = Contains-there x i (set slots p i) (Contains-set_new slots p i (omega arith))

pub Contains-set_old : (slots : List ℕ) (p i m : ℕ) → Contains slots m → m ≢ get_or slots p 0 → Contains (set slots p i) m
Contains-set_old [] p i m has ne = absurd (Contains-nil m has)
Contains-set_old (x ∷ slots) zero i m has ne = ⊎_elim (λ e. absurd (ne (sym e))) (λ rest. Contains-there i m slots rest) (Contains-cons_cases x m slots has)
Contains-set_old (x ∷ slots) (suc p) i m has ne = ⊎_elim
    (λ e. subst (Contains (x ∷ set slots p i)) e (Contains-here x (set slots p i)))
    (λ rest. Contains-there x m (set slots p i) (Contains-set_old slots p i m rest ne))
    (Contains-cons_cases x m slots has)

pub distinct-set : (slots : List ℕ) (p i : ℕ) → AreDistinct slots → p < length slots → ¬ Contains slots i → AreDistinct (set slots p i)
distinct-set [] p i d lt lacks = absurd (omega arith)
distinct-set (x ∷ slots) zero i d lt lacks = ((λ has. lacks (Contains-there x i slots has)), d.1)
distinct-set (x ∷ slots) (suc p) i d lt lacks = (
  (λ has. ⊎_elim (λ e. lacks (subst (Contains (x ∷ slots)) (sym e) (Contains-here x slots))) (λ old. d.0 old.0) (set_Contains slots p i x d.1 (omega arith) has)),
  distinct-set slots p i d.1 (omega arith) (λ has. lacks (Contains-there x i slots has)),
)
