-- Lines that are made one after the other.
use Rattle.std.proofs.Common.{◌≡◌, ℕ, zero, suc, ◌+◌, ◌<◌, List, [], ◌∷◌, ◌++◌, length, map, take, get_or, Some, slice_get, codes, append-nil, append_assoc, sym, ap, ◌∙◌, arith}
use Rattle.std.specs.List.{flat_map, range_with_len}
use Rattle.std.proofs.Math.ListN.{get_or-map}
use Rattle.std.proofs.lemmas.Grind.{flat_map-append}
use Rattle.std.proofs.lemmas.List.{length-map, take_more}
use Rattle.std.proofs.lemmas.Option.{same_Some, none-some, slice_get-get_or, slice_get_within}
use Rattle.rg_cert.specs.Text.{state_name}
use Rattle.rg_product.specs.Product.{Factor, IsTuple}
use Rattle.rg_factor.proofs.Joinings.{range_more}
use Rattle.rg_messages.specs.FactorTexts.{factor_line, factor_lines, entries_text}

pub line_more : {X : Type 0} (f : X → List ℕ) (xs : List X) (k : ℕ) (d : X) (start old new : List ℕ) → k < length xs → new ≡ old ++ f (get_or xs k d)
    → old ≡ start ++ flat_map f (take k xs) → new ≡ start ++ flat_map f (take (k + 1) xs)
line_more f xs k d start old new lt is so_far =
    is ∙ ap (λ l. l ++ f (get_or xs k d)) so_far ∙ append_assoc start (flat_map f (take k xs)) (f (get_or xs k d))
    ∙ ap (λ l. start ++ l) (sym (ap (flat_map f) (take_more xs k d lt) ∙ flat_map-append f (take k xs) (get_or xs k d ∷ []) ∙ ap (λ l. flat_map f (take k xs) ++ l) (append-nil (f (get_or xs k d)))))

pub shown_at : {S X : Type 0} (view : S → X) (xs : List S) (i : ℕ) (d : S) → i < length xs → slice_get (map view xs) i ≡ Some (view (get_or xs i d))
shown_at view xs i d lt = slice_get-get_or (map view xs) i (view d) (omega (arith, length-map xs view)) ∙ ap (λ x. Some x) (get_or-map view xs i d)

pub entry_at : (fs : List Factor) (tuple : List ℕ) (i : ℕ) (f : Factor) → IsTuple fs tuple → slice_get fs i ≡ Some f → slice_get tuple i ≡ Some (get_or tuple i 0)
entry_at fs tuple i f is at = slice_get-get_or tuple i 0 (let n = is.one_each in let lt = slice_get_within fs i f at in omega arith)

pub entries_more : (fs : List Factor) (tuple : List ℕ) (i : ℕ) (f : Factor) (q : ℕ) → slice_get fs i ≡ Some f → slice_get tuple i ≡ Some q
    → entries_text (take (i + 1) fs) (take (i + 1) tuple) ≡ entries_text (take i fs) (take i tuple) ++ (codes " " ++ state_name f.lts q)
entries_more [] tuple i f q at at' = absurd (none-some f at)
entries_more (g ∷ fs) [] i f q at at' = absurd (none-some q at')
entries_more (g ∷ fs) (p ∷ tuple) zero f q at at' =
    ap (λ l. codes " " ++ l) (append-nil (state_name g.lts p)) ∙ ap (λ (h : Factor). codes " " ++ state_name h.lts p) (same_Some g f at) ∙ ap (λ k. codes " " ++ state_name f.lts k) (same_Some p q at')
entries_more (g ∷ fs) (p ∷ tuple) (suc i) f q at at' =
    let more : suc i + 1 ≡ suc (i + 1) = omega arith in
    ap (λ k. entries_text (take k (g ∷ fs)) (take k (p ∷ tuple))) more
    ∙ ap (λ l. codes " " ++ (state_name g.lts p ++ l)) (entries_more fs tuple i f q at at')
    ∙ ap (λ l. codes " " ++ l) (sym (append_assoc (state_name g.lts p) (entries_text (take i fs) (take i tuple)) (codes " " ++ state_name f.lts q)))

pub lines_more : (n : ℕ) (fs : List Factor) (i : ℕ) (f : Factor) → slice_get fs i ≡ Some f → factor_lines n (take (i + 1) fs) ≡ factor_lines n (take i fs) ++ factor_line (n + i) f
lines_more n [] i f at = absurd (none-some f at)
lines_more n (g ∷ fs) zero f at =
    let none : n ≡ n + 0 = omega arith in
    append-nil (factor_line n g) ∙ ap (factor_line n) (same_Some g f at) ∙ ap (λ k. factor_line k f) none
lines_more n (g ∷ fs) (suc i) f at =
    let more : suc i + 1 ≡ suc (i + 1) = omega arith in
    let place : n + 1 + i ≡ n + suc i = omega arith in
    ap (λ k. factor_lines n (take k (g ∷ fs))) more ∙ ap (λ l. factor_line n g ++ l) (lines_more (n + 1) fs i f at ∙ ap (λ k. factor_lines (n + 1) (take i fs) ++ factor_line k f) place)
    ∙ sym (append_assoc (factor_line n g) (factor_lines (n + 1) (take i fs)) (factor_line (n + suc i) f))

pub grown : (p e e' x old new : List ℕ) → new ≡ old ++ x → old ≡ p ++ e → e' ≡ e ++ x → new ≡ p ++ e'
grown p e e' x old new is so_far more = is ∙ ap (λ l. l ++ x) so_far ∙ append_assoc p e x ∙ ap (λ l. p ++ l) (sym more)

pub grown_inside : (a p e e' x old new : List ℕ) → new ≡ old ++ x → old ≡ a ++ (p ++ e) → e' ≡ e ++ x → new ≡ a ++ (p ++ e')
grown_inside a p e e' x old new is so_far more = grown a (p ++ e) (p ++ e') x old new is so_far (ap (λ l. p ++ l) more ∙ sym (append_assoc p e x))

pub states_more : (f : ℕ → List ℕ) (s : ℕ) → flat_map f (range_with_len 0 (s + 1)) ≡ flat_map f (range_with_len 0 s) ++ f s
states_more f s = ap (flat_map f) (range_more s) ∙ flat_map-append f (range_with_len 0 s) (s ∷ []) ∙ ap (λ l. flat_map f (range_with_len 0 s) ++ l) (append-nil (f s))
