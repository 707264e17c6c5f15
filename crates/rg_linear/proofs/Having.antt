-- Every variable has its relation over the columns, and an exchange keeps it so.
use Rattle.std.proofs.Common.{◌≡◌, ◌≢◌, ◌⊎◌, ℕ, ◌+◌, ◌-◌, ◌<◌, ◌≤◌, List, Contains, length, subst, sym, inl, inr, arith}
use Rattle.std.specs.Prelude.{pos}
use Rattle.std.proofs.lemmas.Bool.{cases_lt}
use Rattle.rg_linear.specs.System.{LinearSystem, variables}
use Rattle.rg_linear.specs.Dictionary.{IsFree, Relation, IsOver, DictionaryRow, column_set, row_relation, HasDictionary}
use Rattle.rg_linear.specs.Exchange.{exchanged, renewed, turned}
use Rattle.rg_integers.proofs.Order.{is_zero_or_not}
use Rattle.rg_linear.proofs.Members.{is_member, equal_or_not, Contains-numbers_from, Contains-exchanged_new, Contains-exchanged_old}
use Rattle.rg_linear.proofs.Columns.{columns_free, columns_row}
use Rattle.rg_linear.proofs.Reducing.{reduce}
use Rattle.rg_linear.proofs.Exchanging.{exchanged_free, turned-over, turned-positive, turned_row, renewed-over, renewed-positive, renewed_row, kept_row}

pub columns_have : (system : LinearSystem) → HasDictionary system (column_set system)
columns_have system = record { free = columns_free system; rows = λ w lt outside. at w lt outside (cases_lt w system.columns) }
  where
    at : (w : ℕ) → w < variables system → ¬ Contains (column_set system) w → (w < system.columns) ⊎ (system.columns ≤ w) → (k : Relation) × DictionaryRow system (column_set system) w k
    at w lt outside (inl below) = absurd (outside (Contains-numbers_from 0 system.columns w (omega arith) (omega arith)))
    at w lt outside (inr past) =
        let i : ℕ = w - system.columns in
        let e : system.columns + i ≡ w = omega arith in
        let li : i < length system.rows = omega arith in
        (row_relation system i, subst (λ x. DictionaryRow system (column_set system) x (row_relation system i)) e (columns_row system i li))

-- what names members alone names nothing past the variables
pub none_past : (system : LinearSystem) (members : List ℕ) (raw : Relation) → IsFree system members → IsOver members raw → (m : ℕ) → variables system ≤ m → raw.coefficient m ≡ pos 0
none_past system members raw free over m past = over m (λ has. (let lt = free.within m has in absurd (omega arith)))

pub exchanged_has : (system : LinearSystem) (members : List ℕ) (i j : ℕ) (k : Relation) → HasDictionary system members
    → DictionaryRow system members i k → Contains members j → k.coefficient j ≢ pos 0 → HasDictionary system (exchanged members i j)
exchanged_has system members i j k has row member named = record { free = free; rows = λ w lt outside. at w lt outside (equal_or_not w j) (equal_or_not w i) (is_member members w) }
  where
    free : IsFree system (exchanged members i j)
    free = exchanged_free system members i j k row member named

    leaving : (l : Relation) × DictionaryRow system (exchanged members i j) j l
    leaving =
        let (l, r) = reduce (turned k i j) (variables system) (turned-positive system members i j k row member named)
        (none_past system (exchanged members i j) (turned k i j) free (turned-over system members i j k row member named)) in
        (l, turned_row system members i j k row member named l r)

    old : (w : ℕ) (l : Relation) → DictionaryRow system members w l → w ≢ i → (l.coefficient j ≡ pos 0) ⊎ (l.coefficient j ≢ pos 0)
        → (l' : Relation) × DictionaryRow system (exchanged members i j) w l'
    old w l target other (inl e) = (l, kept_row system members i j k row member named w l target other e)
    old w l target other (inr ne) =
        let (l', r) = reduce (renewed k i j l) (variables system) (renewed-positive system members i j k row member named w l target other)
        (none_past system (exchanged members i j) (renewed k i j l) free (renewed-over system members i j k row member named w l target other)) in
        (l', renewed_row system members i j k row member named w l target other l' r)

    at : (w : ℕ) → w < variables system → ¬ Contains (exchanged members i j) w → (w ≡ j) ⊎ (w ≢ j) → (w ≡ i) ⊎ (w ≢ i)
        → Contains members w ⊎ ¬ Contains members w → (l : Relation) × DictionaryRow system (exchanged members i j) w l
    at w lt outside (inl e) _ _ = subst (λ x. (l : Relation) × DictionaryRow system (exchanged members i j) x l) (sym e) leaving
    at w lt outside (inr nj) (inl e) _ = absurd (outside (subst (λ x. Contains (exchanged members i j) x) (sym e) (Contains-exchanged_new i j members)))
    at w lt outside (inr nj) (inr ni) (inl member) = absurd (outside (Contains-exchanged_old i j w members member nj))
    at w lt outside (inr nj) (inr ni) (inr absent) = let (l, target) = has.rows w lt absent in old w l target ni (is_zero_or_not (l.coefficient j))
