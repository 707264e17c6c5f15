-- How far the bounds of the forms lie apart together.
use Rattle.std.proofs.Common.{◌≡◌, ℕ, suc, ◌+◌, ◌*◌, ◌<◌, ◌≤◌, is_some, unwrap_or, Option, Some, None, Bool, true, false, if◌then◌else◌, List, [], ◌∷◌, map, length, All, arith}
use Rattle.std.specs.Prelude.{ℤ, pos, ◌+ℤ◌, ◌-ℤ◌, ◌≤ℤ◌, IfSome}
use Rattle.std.proofs.lemmas.Int.{ints}
use Rattle.std.proofs.lemmas.List.{length-map, length-append}
use Rattle.std.proofs.lemmas.List.Elements.{All-head, All-tail}
use Rattle.rg_theory.specs.declared.Class.{Class}
use Rattle.rg_theory.specs.declared.Problem.{Problem}
use Rattle.rg_theory.specs.ClassWords.{HasNumbersInRange}
use Rattle.rg_theory.specs.System.{System, states, labels}
use Rattle.rg_integers.specs.Sum.{sum_over}
use Rattle.rg_cert_meaning.specs.declared.Form.{Form}
use Rattle.rg_case_folds.specs.Rewriting.{has_label, used_labels, all_numbers, splits_start, split_forms, form_low, form_high}
use Rattle.rg_case_parts.proofs.Picking.{where_few}
use Rattle.rg_rows.specs.Forms.{split_of}
use Rattle.rg_rows.specs.declared.named_form.NamedForm.{NamedForm}
use Rattle.rg_cert_meaning.specs.declared.Form.TheVariants as split_form

-- the bounds of a form
pub bounds_ordered : (lts : System) (class : Class) (split : Form) → form_low split ≤ℤ form_high lts class split
bounds_ordered lts class (split_form.Tokens q) = omega (arith, ints)
bounds_ordered lts class (split_form.Effect t) = omega (arith, ints)
bounds_ordered lts class split_form.Start = omega (arith, ints)

bound_small : (o : Option ℕ) (n : ℕ) → IfSome o (λ k. (0 < k) × (k ≤ 255)) → n ≤ 4096 → unwrap_or o n ≤ 4096
bound_small None n h few = few
bound_small (Some k) n h few = omega (arith, h.1)

bounds_near : (lts : System) (class : Class) (split : Form) → HasNumbersInRange class → states lts ≤ 4096 → (form_high lts class split -ℤ form_low split) ≤ℤ pos 4096
bounds_near lts class (split_form.Tokens q) h few = let b = bound_small class.bound 0 h.bound (omega arith) in omega (arith, ints)
bounds_near lts class (split_form.Effect t) h few = omega (arith, ints)
bounds_near lts class split_form.Start h few = let b = bound_small class.bound (states lts) h.bound few in omega (arith, ints)

-- as many forms as states or labels at most, and the start
pub forms_few : (lts : System) (class : Class) (problem : Problem) → length (split_forms lts class problem) ≤ states lts + labels lts + 1
forms_few lts class problem =
    let h = go (is_some class.bound) class.plain in
    let e = length-append named (if splits_start class problem then (split_form.Start ∷ []) else []) in
    let one = last (splits_start class problem) in
    omega arith
  where
    named : List Form
    named = if is_some class.bound then map split_form.Tokens (all_numbers (states lts)) else (if class.plain then map split_form.Effect (used_labels lts) else [])

    last : (b : Bool) → length (if b then (split_form.Start ∷ []) else []) ≤ 1
    last true = omega arith
    last false = omega arith

    go : (b p : Bool) → length (if b then map split_form.Tokens (all_numbers (states lts)) else (if p then map split_form.Effect (used_labels lts) else [])) ≤ states lts + labels lts
    go true p = let h = where_few (λ q. true) 0 (states lts) in let e = length-map (all_numbers (states lts)) split_form.Tokens in omega arith
    go false true = let h = where_few (λ t. has_label t lts.arcs) 0 (labels lts) in let e = length-map (used_labels lts) split_form.Effect in omega arith
    go false false = omega arith

abbrev pub HasBounds : System → Class → NamedForm → Type 0
HasBounds lts class f = (f.low ≡ form_low (split_of f)) × (f.high ≡ form_high lts class (split_of f))

pub room_few : (lts : System) (class : Class) (forms : List NamedForm) → HasNumbersInRange class → states lts ≤ 4096
    → All (HasBounds lts class) forms → sum_over (λ (f : NamedForm). f.high -ℤ f.low) forms ≤ℤ pos (4096 * length forms)
room_few lts class [] h few bounds = omega (arith, ints)
room_few lts class (f ∷ forms) h few bounds =
    let (low, high) = All-head (HasBounds lts class) f forms bounds in
    let rest = room_few lts class forms h few (All-tail (HasBounds lts class) f forms bounds) in
    close f.high f.low (form_high lts class (split_of f)) (form_low (split_of f)) _ (length forms) high low (bounds_near lts class (split_of f) h few) rest
  where
    close : (a b a' b' s : ℤ) (n : ℕ) → a ≡ a' → b ≡ b' → (a' -ℤ b') ≤ℤ pos 4096 → s ≤ℤ pos (4096 * n) → ((a -ℤ b) +ℤ s) ≤ℤ pos (4096 * suc n)
    close a b a' b' s n e g h k = omega (arith, ints)
