-- Texts of classes, word by word.
use Rattle.std.specs.Prelude.{◌≢◌, ℕ, List, [], ◌∷◌, ◌++◌, codes}

-- a text of words with one more, after a comma
abbrev pub with_word : List ℕ → List ℕ → List ℕ
with_word [] word = word
with_word (b ∷ text) word = (b ∷ text) ++ 44 ∷ word

abbrev pub with_words : List ℕ → List (List ℕ) → List ℕ
with_words text [] = text
with_words text (word ∷ more) = with_words (with_word text word) more

-- the word is none of those without a number
pub record IsOther (word : List ℕ) : Type 0 where
  pub pure : word ≢ codes "pure"
  pub plain : word ≢ codes "plain"
  pub safe : word ≢ codes "safe"
  pub nonbranching : word ≢ codes "output-nonbranching"
