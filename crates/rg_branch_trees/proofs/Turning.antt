-- The sides above the next node, behind a low side and behind a high side.
use Rattle.std.proofs.Common.{◌≡◌, List, [], ◌∷◌, ◌++◌, reverse, ap, ◌∙◌, ℤ}
use Rattle.std.proofs.lemmas.List.{reverse-append, reverse-reverse}
use Rattle.rg_branch_trees.specs.declared.Side.{Side}
use Rattle.rg_branch_trees.specs.Trees.{low_side, high_side}
use Rattle.rg_branch_trees.specs.Turning.{turned_back, turned}

pub turned_low : {F : Type 0} (above : List (Side F)) (form : F) (at : ℤ) → turned (above ++ low_side form at ∷ []) ≡ above ++ high_side form at ∷ []
turned_low above form at =
    ap (λ sides. reverse (turned_back sides)) (reverse-append above (low_side form at ∷ []))
    ∙ reverse-append (high_side form at ∷ []) (reverse above) ∙ ap (λ sides. sides ++ high_side form at ∷ []) (reverse-reverse above)

pub turned_high : {F : Type 0} (above : List (Side F)) (form : F) (at : ℤ) → turned (above ++ high_side form at ∷ []) ≡ turned above
turned_high above form at = ap (λ sides. reverse (turned_back sides)) (reverse-append above (high_side form at ∷ []))
