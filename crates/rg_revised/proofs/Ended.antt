-- How a descent over the rows of a system, which are in two lists, and further ones ends.
use Rattle.std.proofs.Common.{◌≡◌, ◌⊎◌, inl, inr, ℕ, ◌+◌, ◌-◌, ◌*◌, ◌^◌, ◌<◌, ◌≤◌, max, Bool, true, false, List, [], ◌++◌, length, length-append, map, Some, ap, ap₂, refl, subst, sym, ◌∙◌, arith, le_refl}
use Rattle.std.specs.Prelude.{pos}
use Rattle.std.proofs.lemmas.Bool.{cases_lt, false≢true}
use Rattle.std.proofs.lemmas.Bool.Decides.{nat_tests}
use Rattle.std.proofs.lemmas.List.{map-append, get_or_append_left, get_or-append_right}
use Rattle.std.proofs.Math.Nat.{mul-le-mul}
use Rattle.rg_linear.specs.System.{LinearSystem, LinearRow, with_rows}
use Rattle.rg_linear.specs.Norm.{row_norm, norm_at, greatest_norm, kept_norm}
use Rattle.rg_linear.specs.View.{linear_row, linear_system}
use Rattle.rg_linear.specs.declared.row.Row.{Row}
use Rattle.rg_linear.proofs.Norms.{at_most}
use Rattle.rg_revised.specs.Basis.{HasNorms}
use Rattle.rg_revised.specs.State.{HasRoomIn}
use Rattle.rg_revised.specs.Ending.{EndTells}
use Rattle.rg_revised.specs.View.{RevisedState}
use Rattle.rg_revised.specs.Settling.{IsCommonFactor, IsDescent}
use Rattle.rg_revised.specs.declared.descent.Descent.{Descent}
use Rattle.rg_revised.specs.declared.descent.Descent.TheVariants.{Point, Refuted, Large}

-- ---- the system

pub rows_behind : (system : LinearSystem) (columns : ℕ) (own shared further : List Row) → columns ≡ system.columns → map linear_row own ++ map linear_row shared ≡ system.rows
    → linear_system columns (own ++ shared ++ further) ≡ with_rows system (map linear_row further)
rows_behind system columns own shared further same are = ap₂ (λ n (rs : List LinearRow). record { columns = n; rows = rs }) same
    (map-append linear_row (own ++ shared) further ∙ ap (λ xs. xs ++ map linear_row further) (map-append linear_row own shared ∙ are))

-- ---- norms

unkept : (g a b n : ℕ) → a ≡ kept_norm g → n ≡ max a b → n < 2 ^ 63 → g ≤ n
unkept g a b n e m lt = grind (arith, nat_tests)

turned_max : (a b n : ℕ) → n ≡ max a b → n ≡ max b a
turned_max a b n m = grind (arith, nat_tests)

norms_of : (own further : List LinearRow) (a b n : ℕ) → a ≡ kept_norm (greatest_norm own) → b ≡ kept_norm (greatest_norm further) → n ≡ max a b → n < 2 ^ 63 → (i : ℕ)
    → i < length (own ++ further) → norm_at (own ++ further) i ≤ n
norms_of own further a b n first second greater small i lt = go (cases_lt i (length own))
  where
    norm_is : (x y : LinearRow) → x ≡ y → row_norm x.coeffs x.constant ≡ row_norm y.coeffs y.constant
    norm_is x y e = ap (λ (r : LinearRow). row_norm r.coeffs r.constant) e

    below : (m g : ℕ) → m ≤ g → g ≤ n → m ≤ n
    below m g h k = omega arith

    go : (i < length own) ⊎ (length own ≤ i) → norm_at (own ++ further) i ≤ n
    go (inl less) = subst (λ m. m ≤ n) (sym (norm_is _ _ (get_or_append_left own further (record { coeffs = []; constant = pos 0 }) i less)))
        (below _ _ (at_most (length own) (norm_at own) i less) (unkept (greatest_norm own) a b n first greater small))
    go (inr past) =
        let e = length-append own further in
        let inside : i - length own < length further = omega arith in
        subst (λ m. m ≤ n) (sym (norm_is _ _ (get_or-append_right own further (length own) i (record { coeffs = []; constant = pos 0 }) refl past)))
        (below _ _ (at_most (length further) (norm_at further) (i - length own) inside) (unkept (greatest_norm further) b a n second (turned_max a b n greater) small))

pub further_norms : (system : LinearSystem) (further : List LinearRow) (a b n most : ℕ) → a ≡ kept_norm (greatest_norm system.rows) → b ≡ kept_norm (greatest_norm further) → n ≡ max a b
    → n ≤ most → most < 2 ^ 63 → HasNorms (with_rows system further) most
further_norms system further a b n most first second greater le fits i lt = let h = norms_of system.rows further a b n first second greater (omega arith) i lt in omega arith

pub small_norm : (n most : ℕ) → 1 ≤ most → (n + 1) * most < 2 ^ 63 → n < 2 ^ 63
small_norm n most some room = let m = mul-le-mul (le_refl (n + 1)) some in omega arith

-- ---- room

-- numbers up to most in a short descent
pub short_room_in : (system : LinearSystem) (norm most : ℕ) → HasNorms system norm → 1 ≤ most → (norm + 1) * most < 2 ^ 63 → HasRoomIn system norm most false
short_room_in system norm most norms some room = record {
  norms = norms;
  norm_fits = (let m = mul-le-mul (le_refl (norm + 1)) some in omega arith);
  some = some;
  most_fits = (let m = mul-le-mul (one norm) (le_refl most) in omega arith);
  short = λ e. room;
}
  where
    one : (n : ℕ) → 1 ≤ n + 1
    one n = omega arith

-- the room of a long descent, at the start
pub long_room_in : (system : LinearSystem) (norm most : ℕ) (long : Bool) → HasRoomIn system norm most long → HasRoomIn system norm 1 true
long_room_in system norm most long room =
    record { norms = room.norms; norm_fits = room.norm_fits; some = le_refl 1; most_fits = omega arith; short = λ no. absurd (false≢true (sym no)) }

-- ---- the ends

pub refuted_at : (system : LinearSystem) (r : RevisedState) (i : ℕ) → EndTells system r.tableau (Refuted i) → r.failing ≡ Some i
    → IsCommonFactor r.tableau.over r.tableau.numbers r.factor → IsDescent system r (Refuted i)
refuted_at system r i (members, told) failing common =
    (members, record { held = told.held; outcome = told.outcome; relation = told.relation; failing = failing; common = common })

pub other_end : (system : LinearSystem) (r : RevisedState) (ended : Descent) → ((i : ℕ) → ended ≡ Refuted i → ⊥) → EndTells system r.tableau ended → IsDescent system r ended
other_end system r Point none told = told
other_end system r (Refuted i) none told = absurd (none i refl)
other_end system r Large none told = tt
