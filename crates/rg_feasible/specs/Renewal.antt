-- The rows of a table in an exchange, number by number.
use Rattle.std.specs.Prelude.{◌≡◌, ◌≢◌, ℕ, suc, ◌<◌, nat_lt, ◌==◌, if◌then◌else◌, List, length, Contains, ℤ, pos, neg_ℤ, ◌*ℤ◌}
use Rattle.std.specs.List.{insert, remove}
use Rattle.rg_integers.specs.Range.{InRange}
use Rattle.rg_integers.specs.Sign.{sign}
use Rattle.rg_integers.specs.Sum.{number_at}
use Rattle.rg_integers.specs.declared.term.Wide.{Wide}
use Rattle.rg_integers.specs.Term.{term_value, FitsTerm}
use Rattle.rg_linear.specs.System.{LinearSystem}
use Rattle.rg_linear.specs.Exchange.{exchanged, AllFit, FirstWide}
use Rattle.rg_linear.specs.Table.{IsTable, row_at}
use Rattle.rg_fraction.specs.Rows.{IsPrimitivePart}
use Rattle.rg_feasible.specs.declared.table.ExchangeWide.{ExchangeWide}

-- every number is in range
abbrev pub RowInRange : List ℤ → Type 0
RowInRange row = (n : ℕ) → n < length row → InRange (number_at row n)

-- the row of the pivot, with the sign at which its number at index p is positive
pub record IsSigned (row signed : List ℤ) (p : ℕ) : Type 0 where
  pub same_length : length signed ≡ length row
  pub numbers : (n : ℕ) → n < length row → number_at signed n ≡ sign (number_at row p) *ℤ number_at row n

-- the index of term e of a row of so many numbers, where the member that leaves is at index p: the last term is that of the new member, which gets this index
abbrev pub index_of : ℕ → ℕ → ℕ → ℕ
index_of width p e = if suc e == width then p else (if nat_lt e p then e else suc e)

-- the term of index n of a row, by the signed row of the pivot, where the member that leaves is at index p
abbrev pub index_term : List ℤ → List ℤ → ℕ → ℕ → Wide
index_term pivot row p n = record { a = number_at row n; b = number_at pivot p; c = number_at pivot n; d = number_at row p }

-- term number e of the renewal of a row
abbrev pub renewal_term : List ℤ → List ℤ → ℕ → ℕ → Wide
renewal_term pivot row p e =
    if e == 0
    then record { a = number_at row 0; b = number_at pivot p; c = pos 0; d = pos 0 }
    else (if suc e == length row
    then record { a = pos 0; b = number_at pivot p; c = neg_ℤ (number_at pivot 0); d = number_at row p }
    else index_term pivot row p (index_of (length row) p e))

-- every term fits, and each index holds the value of its own
pub record IsRenewed (pivot old new : List ℤ) (p : ℕ) : Type 0 where
  pub same_length : length new ≡ length old
  pub fits : (e : ℕ) → e < length old → FitsTerm (renewal_term pivot old p e)
  pub values : (e : ℕ) → e < length old → number_at new (index_of (length old) p e) ≡ term_value (renewal_term pivot old p e)

-- w is term number e, and the first that passes
pub record FirstOfRow (pivot row : List ℤ) (p e : ℕ) (w : Wide) : Type 0 where
  pub inside : e < length row
  pub is : w ≡ renewal_term pivot row p e
  pub passes : FitsTerm w → ⊥
  pub first : (m : ℕ) → m < e → FitsTerm (renewal_term pivot row p m)

-- the number at index p goes to index q, and those between move up
abbrev pub moved : List ℤ → ℕ → ℕ → List ℤ
moved row p q = insert (remove row p) q (number_at row p)

-- a row that is renewed, divided by the greatest common divisor of its numbers, and moved
pub record IsDivided (pivot old new : List ℤ) (p q : ℕ) : Type 0 where
  pub raw : List ℤ
  pub reduced : List ℤ
  pub divisor : ℕ
  pub renewed : IsRenewed pivot old raw p
  pub part : IsPrimitivePart raw reduced divisor
  pub is : new ≡ moved reduced p q

-- the row of a variable after the exchange: it is only moved where the member that leaves isn't named
pub record IsExchangedRow (pivot old new : List ℤ) (p q : ℕ) : Type 0 where
  pub stays : number_at old p ≡ pos 0 → new ≡ moved old p q
  pub changes : number_at old p ≢ pos 0 → IsDivided pivot old new p q

-- the row of the member that leaves, from the signed row of the pivot, before it is moved
pub record IsTurned (pivot turned : List ℤ) (p : ℕ) : Type 0 where
  pub same_length : length turned ≡ length pivot
  pub d : number_at turned 0 ≡ number_at pivot p
  pub others : (n : ℕ) → 0 < n → n < length pivot → n ≢ p → number_at turned n ≡ neg_ℤ (number_at pivot n)
  pub new : number_at turned p ≡ number_at pivot 0

-- the row of this variable is renewed: it is neither a member nor the pivot
abbrev pub IsKept : List ℕ → ℕ → ℕ → Type 0
IsKept members i w = (Contains members w → ⊥) × (w ≢ i)

-- the rows of the variables below w but the members and the pivot are exchanged
pub record RowsExchanged (members : List ℕ) (i width : ℕ) (pivot old new : List ℤ) (p q w : ℕ) : Type 0 where
  pub same_length : length new ≡ length old
  pub done : (v : ℕ) → v < w → IsKept members i v → IsExchangedRow pivot (row_at width old v) (row_at width new v) p q

-- the first term that passes is in the row of variable w
pub record FirstOfRows (members : List ℕ) (i width : ℕ) (pivot table : List ℤ) (p w e : ℕ) (t : Wide) : Type 0 where
  pub kept : IsKept members i w
  pub named : number_at (row_at width table w) p ≢ pos 0
  pub row : FirstOfRow pivot (row_at width table w) p e t
  pub first : (v : ℕ) → v < w → IsKept members i v → number_at (row_at width table v) p ≢ pos 0 → (m : ℕ) → m < width → FitsTerm (renewal_term pivot (row_at width table v) p m)

-- the exchange of the rows of the variables below w comes to this term, the first that passes
abbrev pub FirstWideInRows : List ℕ → ℕ → ℕ → List ℤ → List ℤ → ℕ → ℕ → ExchangeWide → Type 0
FirstWideInRows members i width pivot table p w e = (e.target < w) × FirstOfRows members i width pivot table p e.target e.entry e.wide

-- the exchange of the pivot with the member that leaves comes to the table over the new set: no term passes
abbrev pub IsExchangedTable : LinearSystem → List ℕ → ℕ → ℕ → List ℤ → Type 0
IsExchangedTable system members pivot leaves table = AllFit system members pivot leaves × IsTable system (exchanged members pivot leaves) table

-- or to this term, the first that passes
abbrev pub FirstWideInTable : LinearSystem → List ℕ → ℕ → ℕ → ExchangeWide → Type 0
FirstWideInTable system members pivot leaves e = FirstWide system members pivot leaves e.target e.entry e.wide
