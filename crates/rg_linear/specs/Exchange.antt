-- The exchange of a variable outside a free set with a member of it.
use Rattle.std.specs.Prelude.{◌≡◌, ◌≢◌, ℕ, ◌<◌, ◌⊎◌, ◌==◌, nat_lt, if◌then◌else◌, List, [], ◌∷◌, ◌++◌, map, Some, slice_get, ℤ, pos, neg_ℤ, ◌-ℤ◌, ◌*ℤ◌, ◌<ℤ◌}
use Rattle.rg_integers.specs.Range.{InRange}
use Rattle.rg_integers.specs.Sign.{sign, size}
use Rattle.rg_integers.specs.declared.term.Wide.{Wide}
use Rattle.rg_integers.specs.Term.{FitsTerm}
use Rattle.rg_linear.specs.System.{LinearSystem}
use Rattle.rg_linear.specs.Dictionary.{Relation, IsPrimitive, DictionaryRow}

-- the members without j
abbrev pub without : ℕ → List ℕ → List ℕ
without j [] = []
without j (m ∷ members) = if m == j then without j members else (m ∷ without j members)

-- i, put among members that are in order
abbrev pub put_in : ℕ → List ℕ → List ℕ
put_in i [] = i ∷ []
put_in i (m ∷ members) = if nat_lt i m then (i ∷ m ∷ members) else (m ∷ put_in i members)

-- the set after the exchange of i with member j
abbrev pub exchanged : List ℕ → ℕ → ℕ → List ℕ
exchanged members i j = put_in i (without j members)

-- the terms of the new relation of a variable with relation l, where i has relation k and j leaves, in their order
abbrev pub terms : List ℕ → Relation → ℕ → Relation → List Wide
terms members k j l =
    (record { a = l.d; b = size (k.coefficient j); c = pos 0; d = pos 0 }
    ∷ record { a = l.constant; b = size (k.coefficient j); c = sign (k.coefficient j) *ℤ k.constant; d = l.coefficient j }
    ∷ map (λ m. record { a = l.coefficient m; b = size (k.coefficient j); c = sign (k.coefficient j) *ℤ k.coefficient m; d = l.coefficient j }) (without j members))
    ++ record { a = pos 0; b = size (k.coefficient j); c = neg_ℤ (sign (k.coefficient j) *ℤ k.d); d = l.coefficient j } ∷ []

-- term number n of the new relation of variable w, in the exchange of i with j; a relation without j stays, and has no terms
pub record IsTerm (system : LinearSystem) (members : List ℕ) (i j w n : ℕ) (t : Wide) : Type 0 where
  pub k : Relation
  pub l : Relation
  pub pivot : DictionaryRow system members i k
  pub target : DictionaryRow system members w l
  pub other : w ≢ i
  pub named : l.coefficient j ≢ pos 0
  pub here : slice_get (terms members k j l) n ≡ Some t

-- no term of the exchange is out of range
abbrev pub AllFit : LinearSystem → List ℕ → ℕ → ℕ → Type 0
AllFit system members i j = (w n : ℕ) (t : Wide) → IsTerm system members i j w n t → FitsTerm t

-- term n of w comes before term n' of w'
abbrev pub IsBefore : ℕ → ℕ → ℕ → ℕ → Type 0
IsBefore w n w' n' = (w < w') ⊎ ((w ≡ w') × (n < n'))

-- the first term out of range
pub record FirstWide (system : LinearSystem) (members : List ℕ) (i j w n : ℕ) (t : Wide) : Type 0 where
  pub term : IsTerm system members i j w n t
  pub passes : ¬ FitsTerm t
  pub first : (w' n' : ℕ) (t' : Wide) → IsBefore w' n' w n → IsTerm system members i j w' n' t' → FitsTerm t'

-- the relation that the terms are those of, before its common factor is taken out
abbrev pub renewed : Relation → ℕ → ℕ → Relation → Relation
renewed k i j l = record {
  d = l.d *ℤ size (k.coefficient j);
  constant = (l.constant *ℤ size (k.coefficient j)) -ℤ ((sign (k.coefficient j) *ℤ k.constant) *ℤ l.coefficient j);
  coefficient = λ m. if m == i then (sign (k.coefficient j) *ℤ k.d)
      *ℤ l.coefficient j else ((l.coefficient m *ℤ size (k.coefficient j)) -ℤ ((sign (k.coefficient j) *ℤ k.coefficient m) *ℤ l.coefficient j));
}

-- the new relation of the member j that leaves
abbrev pub turned : Relation → ℕ → ℕ → Relation
turned k i j = record {
  d = size (k.coefficient j);
  constant = neg_ℤ (sign (k.coefficient j) *ℤ k.constant);
  coefficient = λ m. if m == j then pos 0 else (if m == i then (sign (k.coefficient j) *ℤ k.d) else neg_ℤ (sign (k.coefficient j) *ℤ k.coefficient m));
}

-- l is raw with its common factor taken out
pub record IsReduced (raw l : Relation) : Type 0 where
  pub factor : ℤ
  pub positive : pos 0 <ℤ factor
  pub d : raw.d ≡ factor *ℤ l.d
  pub constant : raw.constant ≡ factor *ℤ l.constant
  pub coefficients : (m : ℕ) → raw.coefficient m ≡ factor *ℤ l.coefficient m
  pub primitive : IsPrimitive l

-- every number of the relation is in range
pub record FitsRelation (k : Relation) : Type 0 where
  pub d : InRange k.d
  pub constant : InRange k.constant
  pub coefficients : (m : ℕ) → InRange (k.coefficient m)

-- every relation over the set has its numbers in range
abbrev pub SetFits : LinearSystem → List ℕ → Type 0
SetFits system members = (w : ℕ) (k : Relation) → DictionaryRow system members w k → FitsRelation k
