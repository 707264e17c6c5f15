-- The first refusal of a list of tokens, computed.
use Rattle.std.proofs.Common.{◌≡◌, ℕ, Bool, true, false, cond, List, [], ◌∷◌, ◌++◌, Option, None, Some, refl, sym, ap, ◌∙◌}
use Rattle.std.specs.Option.{option_and_then}
use Rattle.std.proofs.lemmas.Option.{same_Some}
use Rattle.rg_lexer.specs.Lexeme.{Lexeme}
use Rattle.rg_grammar.specs.Grammar.{Grammar, leads_all, read_on, IsRefused, FirstRefusal}

abbrev pub at_end : {P D F : Type 0} → Grammar P D F → P → ℕ → Option F
at_end g p end = cond (g.may_end p) None (Some (g.ends p end))

abbrev pub or_refused : {P F : Type 0} → F → (P → Option F) → Option P → Option F
or_refused fault go_on None = Some fault
or_refused fault go_on (Some q) = go_on q

-- the refusal of tokens from a position on, if they are refused
abbrev pub refusal : {P D F : Type 0} → Grammar P D F → P → List Lexeme → ℕ → Option F
refusal g p [] end = at_end g p end
refusal g p (x ∷ xs) end = or_refused (g.refuses p x) (λ q. refusal g q xs end) (g.leads p x)

refused_here : {P D F : Type 0} (g : Grammar P D F) (p : P) (rest : List Lexeme) (end : ℕ) (fault : F) → IsRefused g p rest end fault → refusal g p rest end ≡ Some fault
refused_here g p [] end fault is = ap (λ b. cond b None (Some (g.ends p end))) is.0 ∙ ap Some (sym is.1)
refused_here g p (x ∷ rest) end fault is = ap (or_refused (g.refuses p x) (λ q. refusal g q rest end)) is.0 ∙ ap Some (sym is.1)

refused_from : {P D F : Type 0} (g : Grammar P D F) (p q : P) (front rest : List Lexeme) (end : ℕ) (fault : F) → leads_all g p front ≡ Some q → IsRefused g q rest end fault
    → refusal g p (front ++ rest) end ≡ Some fault
refused_from g p q [] rest end fault lead is =
    let same : p ≡ q = cc in ap (λ p. refusal g p rest end) same ∙ refused_here g q rest end fault is
refused_from {P} g p q (x ∷ front) rest end fault lead is = by (g.leads p x) refl lead (λ next h. refused_from g next q front rest end fault h is)
  where
    by : (o : Option P) → g.leads p x ≡ o → option_and_then (λ next. leads_all g next front) o ≡ Some q
        → ((next : P) → leads_all g next front ≡ Some q → refusal g next (front ++ rest) end ≡ Some fault)
        → refusal g p (x ∷ (front ++ rest)) end ≡ Some fault
    by None e lead more = absurd cc
    by (Some next) e lead more = ap (or_refused (g.refuses p x) (λ q. refusal g q (front ++ rest) end)) e ∙ more next lead

pub refused_is : {P D F : Type 0} (g : Grammar P D F) (xs : List Lexeme) (end : ℕ) (fault : F) → FirstRefusal g xs end fault → refusal g g.start xs end ≡ Some fault
refused_is g xs end fault is =
    ap (λ l. refusal g g.start l end) is.3 ∙ refused_from g g.start is.2 is.0 is.1 end fault is.4 is.5

-- one first refusal
pub one_refusal : {P D F : Type 0} (g : Grammar P D F) (xs : List Lexeme) (end : ℕ) (a b : F) → FirstRefusal g xs end a → FirstRefusal g xs end b → a ≡ b
one_refusal g xs end a b x y =
    let one = refused_is g xs end a x in
    let two = refused_is g xs end b y in cc

-- what is read is not refused
pub read_not_refused : {P D F : Type 0} (g : Grammar P D F) (p q : P) (d e : D) (xs : List Lexeme) (end : ℕ) → read_on g p d xs ≡ Some (q, e) → g.may_end q ≡ true → refusal g p xs end ≡ None
read_not_refused {P} {D} g p q d e [] end is ends =
    let same : p ≡ q = ap (λ (r : P × D). r.0) (same_Some (p, d) (q, e) is) in
    ap (λ p. at_end g p end) same ∙ ap (λ b. cond b None (Some (g.ends q end))) ends
read_not_refused {P} g p q d e (x ∷ xs) end is ends = by (g.leads p x) refl is (λ next h. read_not_refused g next q (g.adds p x d) e xs end h ends)
  where
    by : (o : Option P) → g.leads p x ≡ o → option_and_then (λ next. read_on g next (g.adds p x d) xs) o ≡ Some (q, e)
        → ((next : P) → read_on g next (g.adds p x d) xs ≡ Some (q, e) → refusal g next xs end ≡ None) → refusal g p (x ∷ xs) end ≡ None
    by None same is more = absurd cc
    by (Some next) same is more = ap (or_refused (g.refuses p x) (λ q. refusal g q xs end)) same ∙ more next is

-- what is read is led to its end
pub read_leads : {P D F : Type 0} (g : Grammar P D F) (p q : P) (d e : D) (xs : List Lexeme) → read_on g p d xs ≡ Some (q, e) → leads_all g p xs ≡ Some q
read_leads {P} {D} g p q d e [] is = ap Some (ap (λ (r : P × D). r.0) (same_Some (p, d) (q, e) is))
read_leads {P} g p q d e (x ∷ xs) is = by (g.leads p x) refl is (λ next h. read_leads g next q (g.adds p x d) e xs h)
  where
    by : (o : Option P) → g.leads p x ≡ o → option_and_then (λ next. read_on g next (g.adds p x d) xs) o ≡ Some (q, e)
        → ((next : P) → read_on g next (g.adds p x d) xs ≡ Some (q, e) → leads_all g next xs ≡ Some q) → leads_all g p (x ∷ xs) ≡ Some q
    by None same is more = absurd cc
    by (Some next) same is more = ap (option_and_then (λ next. leads_all g next xs)) same ∙ more next is

-- tokens that are not refused lead to a position where the text may end
pub refused_from_none : {P D F : Type 0} (g : Grammar P D F) (p : P) (xs : List Lexeme) (end : ℕ) → refusal g p xs end ≡ None → (q : P) × (leads_all g p xs ≡ Some q) × (g.may_end q ≡ true)
refused_from_none {P} g p [] end none = by (g.may_end p) refl none
  where
    by : (b : Bool) → g.may_end p ≡ b → cond b None (Some (g.ends p end)) ≡ None → (q : P) × (Some p ≡ Some q) × (g.may_end q ≡ true)
    by true e none = (p, refl, e)
    by false e none = absurd cc
refused_from_none {P} g p (x ∷ xs) end none = by (g.leads p x) refl none (λ next h. refused_from_none g next xs end h)
  where
    by : (o : Option P) → g.leads p x ≡ o → or_refused (g.refuses p x) (λ q. refusal g q xs end) o ≡ None
        → ((next : P) → refusal g next xs end ≡ None → (q : P) × (leads_all g next xs ≡ Some q) × (g.may_end q ≡ true))
        → (q : P) × (leads_all g p (x ∷ xs) ≡ Some q) × (g.may_end q ≡ true)
    by None e none more = absurd cc
    by (Some next) e none more = let r = more next none in (r.0, ap (option_and_then (λ next. leads_all g next xs)) e ∙ r.1, r.2)

-- a computed refusal is the first
pub refusal_is : {P D F : Type 0} (g : Grammar P D F) (p : P) (xs : List Lexeme) (end : ℕ) (fault : F) → refusal g p xs end ≡ Some fault
    → (front : List Lexeme) × (rest : List Lexeme) × (q : P) × (xs ≡ front ++ rest) × (leads_all g p front ≡ Some q) × IsRefused g q rest end fault
refusal_is {P} g p [] end fault is = by (g.may_end p) refl is
  where
    by : (b : Bool) → g.may_end p ≡ b → cond b None (Some (g.ends p end)) ≡ Some fault
        → (front : List Lexeme) × (rest : List Lexeme) × (q : P) × ([] ≡ front ++ rest) × (leads_all g p front ≡ Some q) × IsRefused g q rest end fault
    by true e is = absurd cc
    by false e is = ([], [], p, refl, refl, (e, let same : g.ends p end ≡ fault = cc in sym same))
refusal_is {P} g p (x ∷ xs) end fault is = by (g.leads p x) refl is (λ next h. refusal_is g next xs end fault h)
  where
    by : (o : Option P) → g.leads p x ≡ o → or_refused (g.refuses p x) (λ q. refusal g q xs end) o ≡ Some fault
        → ((next : P) → refusal g next xs end ≡ Some fault
        → (front : List Lexeme) × (rest : List Lexeme) × (q : P) × (xs ≡ front ++ rest) × (leads_all g next front ≡ Some q) × IsRefused g q rest end fault)
        → (front : List Lexeme) × (rest : List Lexeme) × (q : P) × (x ∷ xs ≡ front ++ rest) × (leads_all g p front ≡ Some q) × IsRefused g q rest end fault
    by None e is more = ([], x ∷ xs, p, refl, refl, (e, let same : g.refuses p x ≡ fault = cc in sym same))
    by (Some next) e is more =
        let r = more next is in
        (x ∷ r.0, r.1, r.2, ap (λ l. x ∷ l) r.3, ap (option_and_then (λ next. leads_all g next r.0)) e ∙ r.4, r.5)
