-- A grammar as a table: where each token is allowed, the position that follows it, and what it adds to what is found.
use Rattle.std.specs.Prelude.{◌≡◌, ℕ, Bool, true, false, List, [], ◌∷◌, ◌++◌, Option, None, Some}
use Rattle.std.specs.Option.{option_and_then}
use Rattle.rg_lexer.specs.Lexeme.{Lexeme}

-- positions `P`, what is found `D`, faults `F`
pub record Grammar (P D F : Type 0) : Type 0 where
  pub start : P
  pub nothing : D  -- what is found before the first token
  pub leads : P → Lexeme → Option P  -- where a token leads from a position, if it may stand there
  pub adds : P → Lexeme → D → D  -- what is found with a token that stands at a position
  pub may_end : P → Bool
  pub refuses : P → Lexeme → F  -- the fault of a token that may not stand at a position
  pub ends : P → ℕ → F  -- the fault of an end at a position where the text may not end

-- the position after the tokens, if each is allowed where it is
abbrev pub leads_all : {P D F : Type 0} → Grammar P D F → P → List Lexeme → Option P
leads_all g position [] = Some position
leads_all g position (x ∷ xs) = option_and_then (λ next. leads_all g next xs) (g.leads position x)

-- where the tokens lead, and what is found with them
abbrev pub read_on : {P D F : Type 0} → Grammar P D F → P → D → List Lexeme → Option (P × D)
read_on g position found [] = Some (position, found)
read_on g position found (x ∷ xs) = option_and_then (λ next. read_on g next (g.adds position x found) xs) (g.leads position x)

-- the tokens lead to a position where the text may end, and this is found with them
abbrev pub Finds : {P D F : Type 0} → Grammar P D F → List Lexeme → D → Type 0
Finds {P} g xs found = (position : P) × (g.may_end position ≡ true) × (read_on g g.start g.nothing xs ≡ Some (position, found))

-- the rest begins with a token that isn't allowed at the position, or the text may not end there
abbrev pub IsRefused : {P D F : Type 0} → Grammar P D F → P → List Lexeme → ℕ → F → Type 0
IsRefused g position [] end fault = (g.may_end position ≡ false) × (fault ≡ g.ends position end)
IsRefused g position (x ∷ rest) end fault = (g.leads position x ≡ None) × (fault ≡ g.refuses position x)

-- the first token that can't continue the grammar, or the end where the text may not end
abbrev pub FirstRefusal : {P D F : Type 0} → Grammar P D F → List Lexeme → ℕ → F → Type 0
FirstRefusal {P} g xs end fault = (front : List Lexeme) × (rest : List Lexeme) × (position : P) × (xs ≡ front ++ rest)
    × (leads_all g g.start front ≡ Some position) × IsRefused g position rest end fault
