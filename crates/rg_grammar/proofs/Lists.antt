-- Option lists in a grammar: they lead from an entry to what follows it.
use Rattle.std.proofs.Common.{◌≡◌, ◌⊎◌, inl, inr, Bool, true, false, List, [], ◌∷◌, ◌++◌, Some, refl, sym, ap, subst, ◌∙◌}
use Rattle.std.specs.Option.{option_map}
use Rattle.rg_lexer.specs.Lexeme.{Lexeme}
use Rattle.rg_lexer.specs.declared.token.Kind.{Kind}
use Rattle.rg_lexer.specs.declared.token.Kind.TheVariants.{Name, Text, LeftBracket, RightBracket, Comma, Equals}
use Rattle.rg_grammar.specs.Entry.{Setting, Alone, Valued, IsSetting, IsOptionList, IsOptionally}
use Rattle.rg_grammar.specs.Grammar.{Grammar}
use Rattle.rg_grammar.specs.ListPosition.{ListPosition, FirstKey, NextKey, AfterKey, Value, AfterValue, ListStep, On, Closed, list_leads_by, list_leads, completed_by, completed, list_to, with_completed}
use Rattle.rg_grammar.proofs.Moves.{Moves, moves_none, moves_both, moves_same, step, take_all, thing_position, Encloses, enclosed_move}

-- a grammar with option lists: where they begin, the positions in them, where they end, and what their options give
pub record HasLists (P D F : Type 0) (g : Grammar P D F) (inside : ListPosition Lexeme → P) (before after : P) (take : Setting Lexeme → D → D) : Type 0 where
  pub opens : (d : D) (x : Lexeme) → x.kind ≡ LeftBracket → Moves g before d (x ∷ []) (inside FirstKey) d
  pub leads : (position : ListPosition Lexeme) (x : Lexeme) → g.leads (inside position) x ≡ option_map (list_to inside after) (list_leads position x)
  pub adds : (position : ListPosition Lexeme) (x : Lexeme) (d : D) → g.adds (inside position) x d ≡ with_completed take (completed position x) d

-- one token in a list
list_step : {P D F : Type 0} (g : Grammar P D F) (inside : ListPosition Lexeme → P) (before after : P) (take : Setting Lexeme → D → D) → HasLists P D F g inside before after take
    → (position : ListPosition Lexeme) (to : ListStep Lexeme) (d e : D) (x : Lexeme) (kind : Kind) → x.kind ≡ kind → list_leads_by position kind x ≡ Some to
    → with_completed take (completed_by position kind x) d ≡ e → Moves g (inside position) d (x ∷ []) (list_to inside after to) e
list_step g inside before after take has position to d e x kind same lead add =
    step g (inside position) (list_to inside after to) d e x
    (has.leads position x ∙ ap (λ k. option_map (list_to inside after) (list_leads_by position k x)) same ∙ ap (option_map (list_to inside after)) lead)
    (has.adds position x d ∙ ap (λ k. with_completed take (completed_by position k x) d) same ∙ add)

-- where a key may stand
abbrev key_position : Bool → ListPosition Lexeme
key_position true = FirstKey
key_position false = NextKey

key_is : {P : Type 0} (inside : ListPosition Lexeme → P) (b : Bool) → inside (key_position b) ≡ thing_position b (inside FirstKey) (inside NextKey)
key_is inside true = refl
key_is inside false = refl

key_leads : (b : Bool) (x : Lexeme) → list_leads_by (key_position b) Name x ≡ Some (On (AfterKey x))
key_leads true x = refl
key_leads false x = refl

key_adds : {D : Type 0} (take : Setting Lexeme → D → D) (b : Bool) (x : Lexeme) (d : D) → with_completed take (completed_by (key_position b) Name x) d ≡ d
key_adds take true x d = refl
key_adds take false x d = refl

value_leads : (key x : Lexeme) (kind : Kind) → (kind ≡ Text) ⊎ (kind ≡ Name) → list_leads_by (Value key) kind x ≡ Some (On AfterValue)
value_leads key x kind (inl is) = ap (λ k. list_leads_by (Value key) k x) is
value_leads key x kind (inr is) = ap (λ k. list_leads_by (Value key) k x) is

value_adds : {D : Type 0} (take : Setting Lexeme → D → D) (key x : Lexeme) (kind : Kind) (d : D) → (kind ≡ Text) ⊎ (kind ≡ Name)
    → with_completed take (completed_by (Value key) kind x) d ≡ take (Valued key x) d
value_adds take key x kind d (inl is) = ap (λ k. with_completed take (completed_by (Value key) k x) d) is
value_adds take key x kind d (inr is) = ap (λ k. with_completed take (completed_by (Value key) k x) d) is

-- an option, and the token that ends it
setting_move : {P D F : Type 0} (g : Grammar P D F) (inside : ListPosition Lexeme → P) (before after : P) (take : Setting Lexeme → D → D) → HasLists P D F g inside before after take
    → (b : Bool) (to : ListStep Lexeme) (d : D) (setting : Setting Lexeme) (xs : List Lexeme) (x : Lexeme) (kind : Kind) → IsSetting setting xs → x.kind ≡ kind
    → ((key : Lexeme) → list_leads_by (AfterKey key) kind x ≡ Some to) → ((key : Lexeme) → completed_by (AfterKey key) kind x ≡ Some (Alone key))
    → list_leads_by AfterValue kind x ≡ Some to
    → Moves g (inside (key_position b)) d (xs ++ x ∷ []) (list_to inside after to) (take setting d)
setting_move g inside before after take has b to d (Alone key) xs x kind is same ends gives closes =
    subst (λ l. Moves g (inside (key_position b)) d (l ++ x ∷ []) (list_to inside after to) (take (Alone key) d)) (sym is.1)
    (moves_both g (inside (key_position b)) (inside (AfterKey key)) (list_to inside after to) d d (take (Alone key) d) (key ∷ []) (x ∷ [])
    (list_step g inside before after take has (key_position b) (On (AfterKey key)) d d key Name is.0 (key_leads b key) (key_adds take b key d))
    (list_step g inside before after take has (AfterKey key) to d (take (Alone key) d) x kind same (ends key) (ap (λ o. with_completed take o d) (gives key))))
setting_move g inside before after take has b to d (Valued key v) xs x kind is same ends gives closes =
    let equals = is.2.0 in
    let e = take (Valued key v) d in
    subst (λ l. Moves g (inside (key_position b)) d (l ++ x ∷ []) (list_to inside after to) e) (sym is.2.2)
    (moves_both g (inside (key_position b)) (inside (AfterKey key)) (list_to inside after to) d d e (key ∷ []) (equals ∷ v ∷ x ∷ [])
    (list_step g inside before after take has (key_position b) (On (AfterKey key)) d d key Name is.0 (key_leads b key) (key_adds take b key d))
    (moves_both g (inside (AfterKey key)) (inside (Value key)) (list_to inside after to) d d e (equals ∷ []) (v ∷ x ∷ [])
    (list_step g inside before after take has (AfterKey key) (On (Value key)) d d equals Equals is.2.1 refl refl)
    (moves_both g (inside (Value key)) (inside AfterValue) (list_to inside after to) d e e (v ∷ []) (x ∷ [])
    (list_step g inside before after take has (Value key) (On AfterValue) d e v v.kind refl (value_leads key v v.kind is.1) (value_adds take key v v.kind d is.1))
    (list_step g inside before after take has AfterValue to e e x kind same closes (no_more kind x)))))
  where
    no_more : (kind : Kind) (x : Lexeme) → with_completed take (completed_by AfterValue kind x) (take (Valued key v) d) ≡ take (Valued key v) d
    no_more kind x = refl

lists_enclose : {P D F : Type 0} (g : Grammar P D F) (inside : ListPosition Lexeme → P) (before after : P) (take : Setting Lexeme → D → D) → HasLists P D F g inside before after take
    → Encloses P D F (Setting Lexeme) g LeftBracket RightBracket IsSetting take before (inside FirstKey) (inside NextKey) after
lists_enclose g inside before after take has = record {
  opens = has.opens;
  closes = λ d x close. list_step g inside before after take has FirstKey Closed d d x RightBracket close refl refl;
  at_comma = λ b d setting xs x is comma.
      subst (λ p. Moves g p d (xs ++ x ∷ []) (inside NextKey) (take setting d)) (key_is inside b)
      (setting_move g inside before after take has b (On NextKey) d setting xs x Comma is comma (λ key. refl) (λ key. refl) refl);
  at_close = λ b d setting xs x is close.
      subst (λ p. Moves g p d (xs ++ x ∷ []) after (take setting d)) (key_is inside b)
      (setting_move g inside before after take has b Closed d setting xs x RightBracket is close (λ key. refl) (λ key. refl) refl);
}

pub list_move : {P D F : Type 0} (g : Grammar P D F) (inside : ListPosition Lexeme → P) (before after : P) (take : Setting Lexeme → D → D) → HasLists P D F g inside before after take
    → (d : D) (settings : List (Setting Lexeme)) (xs : List Lexeme) → IsOptionList settings xs → Moves g before d xs after (take_all take settings d)
list_move g inside before after take has d settings xs is =
    enclosed_move g LeftBracket RightBracket IsSetting take before (inside FirstKey) (inside NextKey) after (lists_enclose g inside before after take has) d settings xs is

-- a position after a list, or directly after an entry
abbrev pub free_of : {P : Type 0} → P → P → Bool → P
free_of before after true = after
free_of before after false = before

pub optional_move : {P D F : Type 0} (g : Grammar P D F) (inside : ListPosition Lexeme → P) (before after : P) (take : Setting Lexeme → D → D) → HasLists P D F g inside before after take
    → (d : D) (settings : List (Setting Lexeme)) (xs : List Lexeme) → IsOptionally settings xs → (b : Bool) × Moves g before d xs (free_of before after b) (take_all take settings d)
optional_move g inside before after take has d settings xs (inl list) = (true, list_move g inside before after take has d settings xs list)
optional_move g inside before after take has d settings xs (inr none) = (
  false,
  subst (λ l. Moves g before d l before (take_all take settings d)) (sym none.1)
      (moves_same g before before d d (take_all take settings d) [] (ap (λ l. take_all take l d) (sym none.0)) (moves_none g before d)),
)
