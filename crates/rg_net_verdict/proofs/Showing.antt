-- What is shown of a firing that passes.
use Rattle.std.proofs.Common.{◌≡◌, ℕ, ◌-◌, refl, ap, sym, ◌∙◌}
use Rattle.std.specs.Prelude.{ℤ, pos, neg_ℤ}
use Rattle.std.proofs.lemmas.Option.{same_Some}
use Rattle.rg_theory.specs.declared.Arc.{Arc}
use Rattle.rg_theory.specs.Net.{Place, Net, Marking, pre_weight, post_weight, tokens, IsPlaceAt}
use Rattle.rg_net.specs.Firing.{IsFirstPassed}
use Rattle.rg_net_verdict.specs.Rows.{IsShownPassed}

pub is_shown : (net : Net) (m : Marking) (a : Arc) (i : ℕ) (p : Place) → IsFirstPassed net m a.label i → IsPlaceAt net i p → (x y : ℤ)
    → x ≡ pos (tokens m i - pre_weight p a.label) → y ≡ neg_ℤ (pos (post_weight p a.label))
    → IsShownPassed net m a (record { state = a.to; place = i; wide = record { a = x; b = pos 1; c = y; d = pos 1 } })
is_shown net m a i p passed at x y ex ey =
    record {
      state = refl;
      passed = passed;
      shown = λ k. record { a = (ex ∙ ap (λ q. pos (tokens m i - pre_weight q a.label)) same) k; b = pos 1; c = (ey ∙ ap (λ q. neg_ℤ (pos (post_weight q a.label))) same) k; d = pos 1 };
    }
  where
    same : p ≡ passed.place
    same = same_Some p passed.place (sym at ∙ passed.at)
