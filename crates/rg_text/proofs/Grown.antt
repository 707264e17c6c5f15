-- Texts that grow piece by piece, and the lines that are left: for what is printed.
use Rattle.std.proofs.Common.{◌≡◌, ℕ, ◌+◌, List, [], ◌∷◌, ◌++◌, Some, slice_get, drop, refl, sym, ap, ◌∙◌, append_assoc}
use Rattle.std.proofs.lemmas.List.{drop_more}
use Rattle.std.proofs.lemmas.Option.{slice_get_within, get_or_from_slice_get}
use Rattle.rg_text.specs.Line.{fed}

-- a piece more, after pieces that are told
pub after : (text piece grown told : List ℕ) → grown ≡ text ++ piece → text ≡ told → grown ≡ told ++ piece
after text piece grown told e f = e ∙ ap (λ l. l ++ piece) f

-- a piece goes from what is left to the text
pub piece_step : (text piece left rest whole grown : List ℕ) → grown ≡ text ++ piece → left ≡ piece ++ rest → text ++ left ≡ whole
    → grown ++ rest ≡ whole
piece_step text piece left rest whole grown e f g =
    ap (λ l. l ++ rest) e ∙ append_assoc text piece rest ∙ ap (λ l. text ++ l) (sym f) ∙ g

-- what is read at a place is the first of what is left
pub first_left : {X : Type 0} (xs : List X) (i : ℕ) (x : X) → slice_get xs i ≡ Some x → drop i xs ≡ x ∷ drop (i + 1) xs
first_left xs i x at =
    drop_more xs i x (slice_get_within xs i x at) ∙ ap (λ y. y ∷ drop (i + 1) xs) (get_or_from_slice_get xs i x x at)

-- a line is itself and a line feed, and then what is left
pub line_left : (line : List ℕ) (rest : List (List ℕ)) → fed (line ∷ rest) ≡ (line ++ 10 ∷ []) ++ fed rest
line_left line rest = sym (append_assoc line (10 ∷ []) (fed rest))

pub fed-append : (xs ys : List (List ℕ)) → fed (xs ++ ys) ≡ fed xs ++ fed ys
fed-append [] ys = refl
fed-append (line ∷ xs) ys = ap (λ l. line ++ 10 ∷ l) (fed-append xs ys) ∙ sym (append_assoc line (10 ∷ fed xs) (fed ys))
