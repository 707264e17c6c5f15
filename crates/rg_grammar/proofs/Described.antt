-- A grammar and the things that its tokens spell: tokens are such things or one is refused, never both,
-- and what they mean is what a reader finds.
use Rattle.std.proofs.Common.{◌≡◌, ℕ, ◌+◌, ◌<◌, ◌≤◌, ◌⊎◌, inl, inr, true, false, cond, List, ◌∷◌, length, get_or, drop, map, Option, None, Some, refl, sym, ap, ◌∙◌}
use Rattle.std.specs.Option.{option_and_then}
use Rattle.std.proofs.lemmas.List.{drop_more, drop_all}
use Rattle.std.proofs.lemmas.Option.{same_Some}
use Rattle.rg_lexer.specs.declared.token.Token.{Token}
use Rattle.rg_lexer.specs.Lexeme.{Lexeme, lexeme}
use Rattle.rg_grammar.specs.Grammar.{Grammar, leads_all, read_on, Finds, FirstRefusal}
use Rattle.rg_grammar.proofs.Refusals.{refusal, refused_is, read_not_refused, read_leads, refused_from_none, refusal_is}

-- the grammar reads such things to what they mean, and what it leads to an end is such things
pub record Describes (P D F I : Type 0) (g : Grammar P D F) (Are : I → List Lexeme → Type 0) (meaning : I → D) : Type 0 where
  pub read : (items : I) (xs : List Lexeme) → Are items xs → Finds g xs (meaning items)
  pub complete : (q : P) (xs : List Lexeme) → leads_all g g.start xs ≡ Some q → g.may_end q ≡ true → (items : I) × Are items xs

-- the tokens of items are not refused
pub items_or_refusal : {P D F I : Type 0} (g : Grammar P D F) (Are : I → List Lexeme → Type 0) (meaning : I → D) → Describes P D F I g Are meaning
    → (items : I) (xs : List Lexeme) (end : ℕ) (fault : F) → Are items xs → FirstRefusal g xs end fault → ⊥
items_or_refusal g Are meaning by items xs end fault are refused =
    let r = by.read items xs are in
    let none = read_not_refused g g.start r.0 g.nothing (meaning items) xs end r.2 r.1 in
    let some = refused_is g xs end fault refused in cc

-- one meaning
pub one_meaning : {P D F I : Type 0} (g : Grammar P D F) (Are : I → List Lexeme → Type 0) (meaning : I → D) → Describes P D F I g Are meaning
    → (a b : I) (xs : List Lexeme) → Are a xs → Are b xs → meaning a ≡ meaning b
one_meaning {P} {D} g Are meaning by a b xs x y =
    let r = by.read a xs x in
    let s = by.read b xs y in
    ap (λ (p : P × D). p.1) (same_Some (r.0, meaning a) (s.0, meaning b) (sym r.2 ∙ s.2))

-- tokens are items, or one of them is refused
pub items_or_refused : {P D F I : Type 0} (g : Grammar P D F) (Are : I → List Lexeme → Type 0) (meaning : I → D) → Describes P D F I g Are meaning
    → (xs : List Lexeme) (end : ℕ) → ((items : I) × Are items xs) ⊎ ((f : F) × FirstRefusal g xs end f)
items_or_refused {P} {D} {F} {I} g Are meaning is xs end = by (refusal g g.start xs end) refl
  where
    by : (o : Option F) → refusal g g.start xs end ≡ o → ((items : I) × Are items xs) ⊎ ((f : F) × FirstRefusal g xs end f)
    by None e = let r = refused_from_none g g.start xs end e in inl (is.complete r.0 xs r.1 r.2)
    by (Some f) e = inr (f, refusal_is g g.start xs end f e)

-- what is found of tokens is what the items mean that they are
pub found_items : {P D F I : Type 0} (g : Grammar P D F) (Are : I → List Lexeme → Type 0) (meaning : I → D) → Describes P D F I g Are meaning
    → (xs : List Lexeme) (d : D) → Finds g xs d → (items : I) × Are items xs × (d ≡ meaning items)
found_items {P} {D} g Are meaning by xs d found =
    let items = by.complete found.0 xs (read_leads g g.start found.0 g.nothing d xs found.2) found.1 in
    let meant = by.read items.0 xs items.1 in
    (items.0, items.1, ap (λ (x : P × D). x.1) (same_Some (found.0, d) (meant.0, meaning items.0) (sym found.2 ∙ meant.2)))

abbrev pub lexemes : List ℕ → List Token → List Lexeme
lexemes bytes tokens = map (lexeme bytes) tokens

-- what is left after i tokens is read and refused as the whole
pub record ReadsTo (P D F : Type 0) (g : Grammar P D F) (bytes : List ℕ) (tokens : List Token) (i : ℕ) (position : P) (found : D) : Type 0 where
  pub reads : read_on g g.start g.nothing (lexemes bytes tokens) ≡ read_on g position found (lexemes bytes (drop i tokens))
  pub refused : refusal g g.start (lexemes bytes tokens) (length bytes) ≡ refusal g position (lexemes bytes (drop i tokens)) (length bytes)

pub reads_none : {P D F : Type 0} (g : Grammar P D F) (bytes : List ℕ) (tokens : List Token) (position : P) (found : D) → position ≡ g.start → found ≡ g.nothing
    → ReadsTo P D F g bytes tokens 0 position found
reads_none g bytes tokens position found at none = record {
  reads = ap (λ p. read_on g p g.nothing (lexemes bytes tokens)) (sym at) ∙ ap (λ d. read_on g position d (lexemes bytes tokens)) (sym none);
  refused = ap (λ p. refusal g p (lexemes bytes tokens) (length bytes)) (sym at);
}

-- the next token
rest_is : (bytes : List ℕ) (tokens : List Token) (i : ℕ) (x : Token) → i < length tokens → x ≡ get_or tokens i x → lexemes bytes (drop i tokens) ≡ lexeme bytes x ∷ lexemes bytes (drop (i + 1) tokens)
rest_is bytes tokens i x lt is = ap (lexemes bytes) (drop_more tokens i x lt) ∙ ap (λ t. lexeme bytes t ∷ lexemes bytes (drop (i + 1) tokens)) (sym is)

pub reads_more : {P D F : Type 0} (g : Grammar P D F) (bytes : List ℕ) (tokens : List Token) (i : ℕ) (x : Token) (p q : P) (d e : D) → i < length tokens → x ≡ get_or tokens i x
    → g.leads p (lexeme bytes x) ≡ Some q → e ≡ g.adds p (lexeme bytes x) d → ReadsTo P D F g bytes tokens i p d → ReadsTo P D F g bytes tokens (i + 1) q e
reads_more {P} g bytes tokens i x p q d e lt is lead add r =
    let rest = lexemes bytes (drop (i + 1) tokens) in
    record {
      reads = r.reads ∙ ap (read_on g p d) (rest_is bytes tokens i x lt is)
          ∙ ap (option_and_then (λ next. read_on g next (g.adds p (lexeme bytes x) d) rest)) lead ∙ ap (λ f. read_on g q f rest) (sym add);
      refused = r.refused ∙ ap (λ l. refusal g p l (length bytes)) (rest_is bytes tokens i x lt is) ∙ next p q x rest lead;
    }
  where
    next : (p q : P) (x : Token) (rest : List Lexeme) → g.leads p (lexeme bytes x) ≡ Some q → refusal g p (lexeme bytes x ∷ rest) (length bytes) ≡ refusal g q rest (length bytes)
    next p q x rest lead = rw lead refl

pub refused_at : {P D F : Type 0} (g : Grammar P D F) (bytes : List ℕ) (tokens : List Token) (i : ℕ) (x : Token) (p : P) (d : D) → i < length tokens → x ≡ get_or tokens i x
    → g.leads p (lexeme bytes x) ≡ None → ReadsTo P D F g bytes tokens i p d → FirstRefusal g (lexemes bytes tokens) (length bytes) (g.refuses p (lexeme bytes x))
refused_at {P} g bytes tokens i x p d lt is lead r =
    refusal_is g g.start (lexemes bytes tokens) (length bytes) (g.refuses p (lexeme bytes x))
    (r.refused ∙ ap (λ l. refusal g p l (length bytes)) (rest_is bytes tokens i x lt is) ∙ next p x (lexemes bytes (drop (i + 1) tokens)) lead)
  where
    next : (p : P) (x : Token) (rest : List Lexeme) → g.leads p (lexeme bytes x) ≡ None → refusal g p (lexeme bytes x ∷ rest) (length bytes) ≡ Some (g.refuses p (lexeme bytes x))
    next p x rest lead = rw lead refl

-- at the end
pub refused_end : {P D F : Type 0} (g : Grammar P D F) (bytes : List ℕ) (tokens : List Token) (i : ℕ) (p : P) (d : D) → length tokens ≤ i → g.may_end p ≡ false
    → ReadsTo P D F g bytes tokens i p d → FirstRefusal g (lexemes bytes tokens) (length bytes) (g.ends p (length bytes))
refused_end g bytes tokens i p d past ends r =
    refusal_is g g.start (lexemes bytes tokens) (length bytes) (g.ends p (length bytes))
    (r.refused ∙ ap (λ l. refusal g p (lexemes bytes l) (length bytes)) (drop_all i tokens past)
    ∙ ap (λ b. cond b None (Some (g.ends p (length bytes)))) ends)

pub read_end : {P D F : Type 0} (g : Grammar P D F) (bytes : List ℕ) (tokens : List Token) (i : ℕ) (p : P) (d : D) → length tokens ≤ i → g.may_end p ≡ true
    → ReadsTo P D F g bytes tokens i p d → Finds g (lexemes bytes tokens) d
read_end g bytes tokens i p d past ends r = (p, ends, r.reads ∙ ap (λ l. read_on g p d (lexemes bytes l)) (drop_all i tokens past))
