-- Names on lines of their own, read as entries without options.
use Rattle.std.proofs.Common.{◌≡◌, ℕ, inr, List, [], ◌∷◌, ◌++◌, map, All, refl, sym, ap, ap₂, ◌∙◌, append_assoc}
use Rattle.std.proofs.lemmas.List.Elements.{All-head, All-tail}
use Rattle.rg_text.specs.Byte.{IsName}
use Rattle.rg_text.specs.Line.{fed}
use Rattle.rg_lexer.specs.Lexeme.{Lexeme}
use Rattle.rg_lexer.specs.declared.token.Kind.TheVariants.{Name}
use Rattle.rg_lexer.proofs.Printed.{Reads, Then, reads_name, reads_blank, reads_same, reads_more}
use Rattle.rg_grammar.specs.Entry.{Entry, IsEntry, AreEach}

-- an entry without options
abbrev pub bare : Lexeme → Entry
bare x = record { name = x; settings = [] }

abbrev pub lexeme_text : Lexeme → List ℕ
lexeme_text x = x.text

-- entries without options, of these names, and then tokens of which P holds
pub record NamesThen (names : List (List ℕ)) (P : List Lexeme → Type 0) (xs : List Lexeme) : Type 0 where
  pub named : List Lexeme
  pub others : List Lexeme
  pub texts : map lexeme_text named ≡ names
  pub entries : AreEach IsEntry (map bare named) named
  pub rest : P others
  pub whole : xs ≡ named ++ others

name_then : (name : List ℕ) (names : List (List ℕ)) (P : List Lexeme → Type 0) (xs : List Lexeme) → Then Name name (NamesThen names P) xs
    → NamesThen (name ∷ names) P xs
name_then name names P xs (x, more, kind, text, then, whole) = record {
  named = x ∷ then.named;
  others = then.others;
  texts = ap₂ (λ n ns. n ∷ ns) text then.texts;
  entries = (x ∷ [], then.named, (kind, ([], inr (refl, refl), refl)), then.entries, refl);
  rest = then.rest;
  whole = whole ∙ ap (λ l. x ∷ l) then.whole;
}

-- a line for each name is entries without options
pub reads_names : (names : List (List ℕ)) (text : List ℕ) (P : List Lexeme → Type 0) → All IsName names → Reads text P
    → Reads (fed names ++ text) (NamesThen names P)
reads_names [] text P are reads =
    reads_more text P (NamesThen [] P) (λ xs p. record { named = []; others = xs; texts = refl; entries = refl; rest = p; whole = refl }) reads
reads_names (name ∷ names) text P are reads =
    reads_same (name ++ 10 ∷ (fed names ++ text)) (fed (name ∷ names) ++ text) (NamesThen (name ∷ names) P)
    (sym (append_assoc name (10 ∷ fed names) text))
    (reads_more (name ++ 10 ∷ (fed names ++ text)) (Then Name name (NamesThen names P)) (NamesThen (name ∷ names) P) (name_then name names P)
    (reads_name name 10 (fed names ++ text) (NamesThen names P) (All-head IsName name names are) refl
    (reads_blank 10 (fed names ++ text) (NamesThen names P) refl
    (reads_names names text P (All-tail IsName name names are) reads))))
