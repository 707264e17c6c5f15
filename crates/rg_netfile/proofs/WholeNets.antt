-- The net of what is declared, by the names that are known and what the steps add up to.
use Rattle.std.proofs.Common.{◌≡◌, ℕ, zero, suc, ◌<◌, ◌≤◌, Bool, true, false, List, [], ◌∷◌, length, map, slice_get, get_or, replicate, ⊎_elim, option_map, Some, All, refl, sym, ap, subst, ◌∙◌, arith}
use Rattle.std.proofs.Math.ListN.{get_or-eq_default}
use Rattle.std.proofs.lemmas.Bool.{cases_lt}
use Rattle.std.proofs.lemmas.List.{length-map, length-replicate, get_or-replicate}
use Rattle.std.proofs.lemmas.List.Elements.{All-replicate, All-contains}
use Rattle.std.proofs.lemmas.Option.{slice_get-map}
use Rattle.rg_theory.specs.System.{System, labels}
use Rattle.rg_theory.specs.Net.{Net, HasAllWeights, IsPlaceAt}
use Rattle.rg_lexer.specs.Lexeme.{Lexeme}
use Rattle.rg_lts.specs.WellFormed.{IsWellFormed}
use Rattle.rg_text.specs.Faults.{if_not, IsFirst, AreNone}
use Rattle.rg_theory.proofs.Lists.{there_at}
use Rattle.rg_net_grammar.specs.declared.found.Transition.{Transition}
use Rattle.rg_net_grammar.specs.Contents.{Declared, label_of}
use Rattle.rg_netfile.specs.declared.fault.NetFault.{NetFault}
use Rattle.rg_netfile.specs.declared.slot.Slot.{Slot}
use Rattle.rg_netfile.specs.declared.slot.Slot.TheVariants.{Start, Taken, Put}
use Rattle.rg_netfile.specs.Contents.{taken, put, start, steps, place_names, transition_names, IsNetOf}
use Rattle.rg_netfile.specs.Built.{KnownNames, IsKnownOf, HasLabel, AreNumbers, HasSums, Fits, number_in}
use Rattle.rg_netfile.proofs.Ranges.{zero_place}
use Rattle.rg_netfile.proofs.Apart.{apart_pairs}

pub if_none : (b : Bool) (g : NetFault) → b ≡ true → AreNone (if_not b g)
if_none true g e = tt
if_none false g e = absurd cc

pub if_first : (b : Bool) (g f : NetFault) → b ≡ false → f ≡ g → IsFirst (if_not b g) f
if_first true g f e same = absurd cc
if_first false g f e same = same

pub numbers_long : (names : List (List ℕ)) (transitions : List (Transition Lexeme)) (numbers : List ℕ) → AreNumbers names transitions numbers → length numbers ≡ length transitions
numbers_long names [] [] are = refl
numbers_long names [] (n ∷ numbers) are = absurd are
numbers_long names (t ∷ transitions) [] are = absurd are
numbers_long names (t ∷ transitions) (n ∷ numbers) are = omega (arith, numbers_long names transitions numbers are.1)

pub number_at : (names : List (List ℕ)) (transitions : List (Transition Lexeme)) (numbers : List ℕ) (i : ℕ) (t : Transition Lexeme) → AreNumbers names transitions numbers
    → slice_get transitions i ≡ Some t → (n : ℕ) × (slice_get numbers i ≡ Some n) × (slice_get names n ≡ Some (label_of t))
number_at names [] [] i t are at = absurd cc
number_at names [] (n ∷ numbers) i t are at = absurd are
number_at names (s ∷ transitions) [] i t are at = absurd are
number_at names (s ∷ transitions) (n ∷ numbers) zero t are at = let same : s ≡ t = cc in (n, refl, are.0 ∙ ap (λ (u : Transition Lexeme). Some (label_of u)) same)
number_at names (s ∷ transitions) (n ∷ numbers) (suc i) t are at = number_at names transitions numbers i t are.1 at

-- a place without tokens has what no step adds up to
zeros : (n i : ℕ) → get_or (replicate n zero) i zero ≡ zero
zeros n i = ⊎_elim (λ lt. get_or-replicate n i zero zero lt) (λ past. get_or-eq_default (replicate n zero) zero (subst (λ l. l ≤ i) (sym (length-replicate n zero)) past)) (cases_lt i n)

zero_in : (many : ℕ) (slot : Slot) → number_in (zero_place many) slot ≡ zero
zero_in many Start = refl
zero_in many (Taken t) = zeros many t
zero_in many (Put t) = zeros many t

pub no_sums : (k : KnownNames) (many count : ℕ) (net : Net) → net ≡ record { labels = many; places = replicate count (zero_place many) } → HasSums k [] net
no_sums k many count net is = record {
  sums = λ i name p slot cell at place for.
      ap (λ q. number_in q slot) (All-contains (λ q. q ≡ zero_place many) (replicate count (zero_place many)) p
      (All-replicate (λ q. q ≡ zero_place many) count (zero_place many) refl)
      (there_at (replicate count (zero_place many)) i p (subst (λ (n : Net). IsPlaceAt n i p) is place)))
      ∙ zero_in many slot;
}

named : {X : Type 0} (text : X → List ℕ) (xs : List X) (names : List (List ℕ)) (i : ℕ) (x : X) → names ≡ map text xs → slice_get xs i ≡ Some x
    → slice_get names i ≡ Some (text x)
named text xs names i x is at = ap (λ l. slice_get l i) is ∙ slice_get-map text xs i ∙ ap (λ o. option_map text o) at

-- the labels of the transitions, as the known names have them
label_is : (lts : System) (d : Declared) (k : KnownNames) → IsKnownOf lts d k → IsWellFormed lts → (i n : ℕ) (t : Transition Lexeme) → slice_get d.transitions i ≡ Some t
    → slice_get lts.label_names n ≡ Some (label_of t) → HasLabel k t.name.text n
label_is lts d k known formed i n t at label =
    let number = number_at lts.label_names d.transitions k.labels i t known.numbers at in
    let same = (apart_pairs lts.label_names formed.label_names.differ).same number.0 n (label_of t) number.2 label in
    (i, named (λ (s : Transition Lexeme). s.name.text) d.transitions k.transitions i t known.transitions at, number.1 ∙ ap Some same)

pub net_is : (lts : System) (d : Declared) (k : KnownNames) (net : Net) → IsKnownOf lts d k → IsWellFormed lts → HasSums k (steps d) net → HasAllWeights net
    → net.labels ≡ labels lts → length net.places ≡ length d.places → IsNetOf lts d net
net_is lts d k net known formed h weights same count = record {
  for_labels = same;
  weights = weights;
  count = count;
  each = λ i x p at place.
      let name = named (λ (y : Lexeme). y.text) d.places k.places i x known.places at in
      record {
        starts = h.sums i x.text p Start start name place tt;
        takes = λ j n t there_at label. h.sums i x.text p (Taken n) (taken t.name.text) name place (label_is lts d k known formed j n t there_at label);
        puts = λ j n t there_at label. h.sums i x.text p (Put n) (put t.name.text) name place (label_is lts d k known formed j n t there_at label);
      };
}

-- the places fit the names
pub fits_blank : (lts : System) (d : Declared) (k : KnownNames) (many count : ℕ) (net : Net) → IsKnownOf lts d k → All (λ t. t < labels lts) k.labels
    → net ≡ record { labels = many; places = replicate count (zero_place many) } → many ≡ labels lts → count ≡ length d.places → Fits k net
fits_blank lts d k many count net known within is same long = record {
  places = ap (λ (n : Net). length n.places) is ∙ length-replicate count (zero_place many) ∙ long ∙ sym (ap length known.places ∙ length-map d.places (λ (x : Lexeme). x.text));
  labels = subst (λ n. All (λ t. t < n) k.labels) (sym (ap (λ (n : Net). n.labels) is ∙ same)) within;
}

-- the steps' faults, by the declared names
pub by_known : (P : List (List ℕ) → List (List ℕ) → Type 0) (lts : System) (d : Declared) (k : KnownNames) → IsKnownOf lts d k → P k.places k.transitions
    → P (place_names d) (transition_names d)
by_known P lts d k known h = subst (λ ts. P (place_names d) ts) known.transitions (subst (λ ps. P ps k.transitions) known.places h)
