-- Texts that grow.
use Rattle.std.proofs.Common.{◌≡◌, ℕ, List, ◌++◌, append_assoc, ap, ◌∙◌}

-- a text to which three others were added, one after the other
pub three_joined : (text a b c with_a with_b with_c : List ℕ) → with_a ≡ text ++ a → with_b ≡ with_a ++ b → with_c ≡ with_b ++ c → with_c ≡ text ++ (a ++ b ++ c)
three_joined text a b c with_a with_b with_c e f g =
    g ∙ ap (λ l. l ++ c) (f ∙ ap (λ l. l ++ b) e ∙ append_assoc text a b) ∙ append_assoc text (a ++ b) c
