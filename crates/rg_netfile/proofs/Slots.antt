-- Slots of places, and the cells that are counted there_at.
use Rattle.std.proofs.Common.{◌≡◌, ℕ, ◌+◌, ◌<◌, ◌⊎◌, inl, inr, Bool, true, false, List, length, slice_get, All, refl, sym, ap, subst, ◌∙◌}
use Rattle.std.specs.Str.{bytes_eq}
use Rattle.std.proofs.lemmas.List.{get_or-set_same, get_or-set_other}
use Rattle.std.proofs.lemmas.List.Elements.{All-contains}
use Rattle.std.proofs.lemmas.Slice.Eq.{bytes_eq-Decides}
use Rattle.std.proofs.lemmas.Option.{same_Some}
use Rattle.rg_theory.specs.Net.{Place, Net}
use Rattle.rg_theory.proofs.Lists.{there_at}
use Rattle.rg_netfile.specs.declared.slot.Slot.{Slot}
use Rattle.rg_netfile.specs.declared.slot.Slot.TheVariants.{Start, Taken, Put}
use Rattle.rg_netfile.specs.Contents.{Cell, taken, put, start, same_cell}
use Rattle.rg_netfile.specs.Built.{KnownNames, IsKnown, HasLabel, Fits, SameSize, number_in, with_more, IsSlotIn, IsSlotFor}

pub number_same : (p : Place) (slot : Slot) (n : ℕ) → IsSlotIn (length p.pre) slot → IsSlotIn (length p.post) slot
    → number_in (with_more p slot n) slot ≡ number_in p slot + n
number_same p Start n pre post = refl
number_same p (Taken t) n pre post = get_or-set_same p.pre t (number_in p (Taken t) + n) 0 pre
number_same p (Put t) n pre post = get_or-set_same p.post t (number_in p (Put t) + n) 0 post

pub number_other : (p : Place) (slot other : Slot) (n : ℕ) → (other ≡ slot → ⊥) → number_in (with_more p slot n) other ≡ number_in p other
number_other p Start Start n ne = absurd (ne refl)
number_other p Start (Taken u) n ne = refl
number_other p Start (Put u) n ne = refl
number_other p (Taken t) Start n ne = refl
number_other p (Taken t) (Taken u) n ne = get_or-set_other p.pre t u (number_in p (Taken t) + n) 0 (λ e. ne (ap Taken e))
number_other p (Taken t) (Put u) n ne = refl
number_other p (Put t) Start n ne = refl
number_other p (Put t) (Taken u) n ne = refl
number_other p (Put t) (Put u) n ne = get_or-set_other p.post t u (number_in p (Put t) + n) 0 (λ e. ne (ap Put e))

abbrev pub SameOrOther : Cell → Cell → Type 0
SameOrOther a b = ((same_cell a b ≡ true) × (a ≡ b)) ⊎ ((same_cell a b ≡ false) × (a ≡ b → ⊥))

pub same_or_other : (a b : Cell) → SameOrOther a b
same_or_other start start = inl (refl, refl)
same_or_other start (taken y) = inr (refl, λ e. cc)
same_or_other start (put y) = inr (refl, λ e. cc)
same_or_other (taken x) start = inr (refl, λ e. cc)
same_or_other (taken x) (put y) = inr (refl, λ e. cc)
same_or_other (put x) start = inr (refl, λ e. cc)
same_or_other (put x) (taken y) = inr (refl, λ e. cc)
same_or_other (taken x) (taken y) = by (bytes_eq x y) refl
  where
    by : (b : Bool) → bytes_eq x y ≡ b → SameOrOther (taken x) (taken y)
    by true e = inl (e, ap taken ((bytes_eq-Decides x y).0 e))
    by false e = inr (e, λ same. let t = (bytes_eq-Decides x y).1 (name_of_taken same) in cc)
      where
        name_of_taken : taken x ≡ taken y → x ≡ y
        name_of_taken same = cc
same_or_other (put x) (put y) = by (bytes_eq x y) refl
  where
    by : (b : Bool) → bytes_eq x y ≡ b → SameOrOther (put x) (put y)
    by true e = inl (e, ap put ((bytes_eq-Decides x y).0 e))
    by false e = inr (e, λ same. let t = (bytes_eq-Decides x y).1 (name_of_put same) in cc)
      where
        name_of_put : put x ≡ put y → x ≡ y
        name_of_put same = cc

one_label : (k : KnownNames) → IsKnown k → (name : List ℕ) (t u : ℕ) → HasLabel k name t → HasLabel k name u → t ≡ u
one_label k known name t u (i, at, is) (j, at', is') =
    let same = known.transitions_apart.same i j name at at' in
    same_Some t u (sym is ∙ ap (slice_get k.labels) same ∙ is')

one_name : (k : KnownNames) → IsKnown k → (a b : List ℕ) (t : ℕ) → HasLabel k a t → HasLabel k b t → a ≡ b
one_name k known a b t (i, at, is) (j, at', is') =
    let same = known.labels_apart.same i j t is is' in
    same_Some a b (sym at ∙ ap (slice_get k.transitions) same ∙ at')

pub one_slot : (k : KnownNames) → IsKnown k → (s s' : Slot) (cell : Cell) → IsSlotFor k s cell → IsSlotFor k s' cell → s ≡ s'
one_slot k known Start Start cell h h' = refl
one_slot k known (Taken t) (Taken u) (taken name) h h' = ap Taken (one_label k known name t u h h')
one_slot k known (Put t) (Put u) (put name) h h' = ap Put (one_label k known name t u h h')
one_slot k known Start (Taken u) start h h' = absurd h'
one_slot k known Start (Taken u) (taken name) h h' = absurd h
one_slot k known Start (Taken u) (put name) h h' = absurd h
one_slot k known Start (Put u) start h h' = absurd h'
one_slot k known Start (Put u) (taken name) h h' = absurd h
one_slot k known Start (Put u) (put name) h h' = absurd h
one_slot k known (Taken t) Start start h h' = absurd h
one_slot k known (Taken t) Start (taken name) h h' = absurd h'
one_slot k known (Taken t) Start (put name) h h' = absurd h
one_slot k known (Taken t) (Taken u) start h h' = absurd h
one_slot k known (Taken t) (Taken u) (put name) h h' = absurd h
one_slot k known (Taken t) (Put u) start h h' = absurd h
one_slot k known (Taken t) (Put u) (taken name) h h' = absurd h'
one_slot k known (Taken t) (Put u) (put name) h h' = absurd h
one_slot k known (Put t) Start start h h' = absurd h
one_slot k known (Put t) Start (taken name) h h' = absurd h
one_slot k known (Put t) Start (put name) h h' = absurd h'
one_slot k known (Put t) (Taken u) start h h' = absurd h
one_slot k known (Put t) (Taken u) (taken name) h h' = absurd h
one_slot k known (Put t) (Taken u) (put name) h h' = absurd h'
one_slot k known (Put t) (Put u) start h h' = absurd h
one_slot k known (Put t) (Put u) (taken name) h h' = absurd h

pub one_cell : (k : KnownNames) → IsKnown k → (slot : Slot) (a b : Cell) → IsSlotFor k slot a → IsSlotFor k slot b → a ≡ b
one_cell k known Start start start h h' = refl
one_cell k known (Taken t) (taken x) (taken y) h h' = ap taken (one_name k known x y t h h')
one_cell k known (Put t) (put x) (put y) h h' = ap put (one_name k known x y t h h')
one_cell k known Start start (taken y) h h' = absurd h'
one_cell k known Start start (put y) h h' = absurd h'
one_cell k known Start (taken x) b h h' = absurd h
one_cell k known Start (put x) b h h' = absurd h
one_cell k known (Taken t) start b h h' = absurd h
one_cell k known (Taken t) (put x) b h h' = absurd h
one_cell k known (Taken t) (taken x) start h h' = absurd h'
one_cell k known (Taken t) (taken x) (put y) h h' = absurd h'
one_cell k known (Put t) start b h h' = absurd h
one_cell k known (Put t) (taken x) b h h' = absurd h
one_cell k known (Put t) (put x) start h h' = absurd h'
one_cell k known (Put t) (put x) (taken y) h h' = absurd h'

-- the label of a known transition is one of the net's
pub label_in : (k : KnownNames) (net : Net) (name : List ℕ) (t : ℕ) → Fits k net → HasLabel k name t → t < net.labels
label_in k net name t fits (i, at, is) = All-contains (λ u. u < net.labels) k.labels t fits.labels (there_at k.labels i t is)

pub fits_too : (k : KnownNames) (old new : Net) → Fits k old → SameSize old new → Fits k new
fits_too k old new fits same = record {
  places = same.same_places ∙ fits.places;
  labels = subst (λ n. All (λ t. t < n) k.labels) (sym same.same_labels) fits.labels;
}

pub slot_too : (old new : Net) (slot : Slot) → IsSlotIn old.labels slot → SameSize old new → IsSlotIn new.labels slot
slot_too old new slot h same = subst (λ n. IsSlotIn n slot) (sym same.same_labels) h

pub same_size : (net : Net) → SameSize net net
same_size net = record { same_labels = refl; same_places = refl }

pub same_sizes : (a b c : Net) → SameSize a b → SameSize b c → SameSize a c
same_sizes a b c x y = record { same_labels = y.same_labels ∙ x.same_labels; same_places = y.same_places ∙ x.same_places }
