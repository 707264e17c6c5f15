-- What the definitions say of texts that are written out.
use Rattle.std.proofs.Common.{◌≡◌, List, ℕ, [], ◌∷◌, codes, refl, length, map}
use Rattle.rg_theory.specs.System.{arc}
use Rattle.rg_text.specs.Faults.{AreNone}
use Rattle.rg_words.specs.declared.fault.WordFault.TheVariants.{BadByte}
use Rattle.rg_words.specs.Contents.{uses, prefixes, label_names, arc_of, faults}
use Rattle.rg_words.specs.Spells.{FirstFault}

-- two words with a common prefix, a remark, and the empty word
abbrev two : List ℕ
two = codes "a b a\n# a remark\n\na\tb  c\r\n"

two_right : AreNone (faults two)
two_right = tt

two_labels : label_names (uses two) ≡ codes "a" ∷ codes "b" ∷ codes "c" ∷ []
two_labels = refl

two_states : length (prefixes (uses two)) ≡ 5
two_states = refl

two_arcs : map (arc_of (prefixes (uses two)) (label_names (uses two))) (uses two)
    ≡ arc 0 0 1 ∷ arc 1 1 2 ∷ arc 2 0 3 ∷ arc 0 0 1 ∷ arc 1 1 2 ∷ arc 2 2 4 ∷ []
two_arcs = refl

-- the empty list is the empty word
empty : prefixes (uses []) ≡ [] ∷ []
empty = refl

-- a byte that may not stand in a name, in line 2; a remark begins at the first word alone
bad : FirstFault (codes "a b\na ;\n") (BadByte 2)
bad = refl

late_remark : FirstFault (codes "a b # c\n") (BadByte 1)
late_remark = refl
