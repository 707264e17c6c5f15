-- How `selftest` ends for the lines of its trials.
use Rattle.std.proofs.Common.{◌≡◌, ℕ, min, List, ◌++◌, append_assoc, sym, ap, ap₂, subst, ◌∙◌}
use Rattle.rg_case_folds.specs.Shown.{Shown}
use Rattle.rg_families.specs.declared.Kind.TheVariants.{Lock}
use Rattle.rg_top.specs.SelfTest.{trial, most_users, lock_class, grid_trial, doubling_trial, HasLine, Passes, SelfTestEnds, three_lines, third_passes}
use Rattle.rg_top.specs.End.{says_yes, shows_term}
use Rattle.rg_top.specs.Terms.{of_net}

-- a text to which two others were added
pub three_joined : (first second third two all second' third' : List ℕ) → two ≡ first ++ second' → second' ≡ second → all ≡ two ++ third' → third' ≡ third → all ≡ first ++ (second ++ third)
three_joined first second third two all second' third' two_is second_is all_is third_is =
    all_is ∙ ap₂ (λ x y. x ++ y) (two_is ∙ ap (λ x. first ++ x) second_is) third_is ∙ append_assoc first second third

pub lines_end : (n users : ℕ) (first second third out : List ℕ) → users ≡ min n most_users → HasLine (grid_trial n) first → HasLine (doubling_trial n) second
    → HasLine (trial Lock users lock_class) third → out ≡ first ++ (second ++ third) → SelfTestEnds n (says_yes out)
lines_end n users first second third out users_is a b c out_is =
    subst (λ text. SelfTestEnds n (says_yes text)) (sym out_is) (three_lines first second third a b (subst (λ k. HasLine (trial Lock k lock_class) third) users_is c))

pub lock_passes : (n users : ℕ) (first second : List ℕ) (w : Shown) → users ≡ min n most_users → HasLine (grid_trial n) first → HasLine (doubling_trial n) second
    → Passes (trial Lock users lock_class) w → SelfTestEnds n (shows_term (of_net w))
lock_passes n users first second w users_is a b p = third_passes first second w a b (subst (λ k. Passes (trial Lock k lock_class) w) users_is p)
