-- A text spells one net for a system or has one first fault.
use Rattle.std.proofs.Common.{◌≡◌, ℕ, ◌⊎◌, inl, inr, ⊎_elim, Bool, true, false, List, [], ◌∷◌, ◌++◌, Option, None, Some, refl, sym, ap, subst}
use Rattle.rg_theory.specs.System.{System}
use Rattle.rg_theory.specs.Net.{Net}
use Rattle.rg_text.specs.Faults.{faults_after, if_not, IsFirst, AreNone}
use Rattle.rg_text.proofs.Left.{one_first, none_or_first, some_first}
use Rattle.rg_net_grammar.specs.Item.{Item}
use Rattle.rg_net_grammar.specs.Contents.{Declared, declared}
use Rattle.rg_net_grammar.specs.Text.{AreItemsOf, FirstItemFault}
use Rattle.rg_grammar.specs.declared.fault.ItemFault.{ItemFault}
use Rattle.rg_net_grammar.proofs.WholeTexts.{one_meaning, items_not_fault, one_first_fault as one_item_fault, items_or_fault}
use Rattle.rg_netfile.specs.declared.fault.NetFault.{NetFault}
use Rattle.rg_netfile.specs.declared.fault.NetFault.TheVariants.{NoType, TransitionsDiffer}
use Rattle.rg_netfile.specs.Contents.{place_fault, transition_fault, step_fault, have_each_once, place_names, transition_names, steps, faults, IsNetOf}
use Rattle.rg_netfile.specs.Spells.{Spells, FirstFault, of_items, in_items, in_net}
use Rattle.rg_netfile.proofs.OneNet.{one_net, net_exists}

-- the parts of a list without a fault
none_left : {F : Type 0} (xs ys : List (Option F)) → AreNone (xs ++ ys) → AreNone xs
none_left [] ys none = tt
none_left (None ∷ xs) ys none = none_left xs ys none
none_left (Some f ∷ xs) ys none = absurd none

none_right : {F : Type 0} (xs ys : List (Option F)) → AreNone (xs ++ ys) → AreNone ys
none_right [] ys none = none
none_right (None ∷ xs) ys none = none_right xs ys none
none_right (Some f ∷ xs) ys none = absurd none

-- with no fault each label is that of one transition
once_of : (lts : System) (d : Declared) → AreNone (faults lts d) → have_each_once lts.label_names d.transitions ≡ true
once_of lts d none =
    let a = if_not d.typed NoType in
    let b = faults_after place_fault [] d.places ++ faults_after transition_fault [] d.transitions in
    let c = if_not (have_each_once lts.label_names d.transitions) TransitionsDiffer in
    let e = faults_after (step_fault (place_names d) (transition_names d)) [] (steps d) in
    passed (have_each_once lts.label_names d.transitions) (none_right b c (none_right a (b ++ c) (none_left (a ++ (b ++ c)) e none)))
  where
    passed : (t : Bool) → AreNone (if_not t TransitionsDiffer) → t ≡ true
    passed true none = refl
    passed false none = absurd none

pub one_spelled : (bytes : List ℕ) (lts : System) (a b : Net) → Spells bytes lts a → Spells bytes lts b → a ≡ b
one_spelled bytes lts a b x y =
    let same = one_meaning bytes x.0 y.0 x.1 y.1 in
    one_net lts (declared x.0) (once_of lts (declared x.0) x.2) a b x.3 (subst (λ d. IsNetOf lts d b) (sym same) y.3)

pub spelled_or_fault : (bytes : List ℕ) (lts : System) (net : Net) (f : NetFault) → Spells bytes lts net → FirstFault bytes lts f → ⊥
spelled_or_fault bytes lts net f x (in_items e h) = items_not_fault bytes x.0 e x.1 h
spelled_or_fault bytes lts net f x (in_net items g are first) =
    none_or_first (faults lts (declared x.0)) g x.2 (subst (λ d. IsFirst (faults lts d) g) (sym (one_meaning bytes x.0 items x.1 are)) first)

-- one first fault, by where it lies
with_items : (bytes : List ℕ) (lts : System) (e : ItemFault) (f : NetFault) → FirstItemFault bytes e → FirstFault bytes lts f → of_items e ≡ f
with_items bytes lts e f h (in_items e' h') = ap of_items (one_item_fault bytes e e' h h')
with_items bytes lts e f h (in_net items g are first) = absurd (items_not_fault bytes items e are h)

with_net : (bytes : List ℕ) (lts : System) (items : List Item) (f g : NetFault) → AreItemsOf bytes items → IsFirst (faults lts (declared items)) f → FirstFault bytes lts g → f ≡ g
with_net bytes lts items f g are first (in_items e h) = absurd (items_not_fault bytes items e are h)
with_net bytes lts items f g are first (in_net items' g' are' first') =
    one_first (faults lts (declared items)) f g' first (subst (λ d. IsFirst (faults lts d) g') (sym (one_meaning bytes items items' are are')) first')

pub one_first_fault : (bytes : List ℕ) (lts : System) (f g : NetFault) → FirstFault bytes lts f → FirstFault bytes lts g → f ≡ g
one_first_fault bytes lts f g (in_items e h) y = with_items bytes lts e g h y
one_first_fault bytes lts f g (in_net items f' are first) y = with_net bytes lts items f' g are first y

-- a text spells a net or has a first fault
pub answered : (bytes : List ℕ) (lts : System) → ((net : Net) × Spells bytes lts net) ⊎ ((f : NetFault) × FirstFault bytes lts f)
answered bytes lts = ⊎_elim
    (λ items. ⊎_elim
    (λ none. let net = net_exists lts (declared items.0) (once_of lts (declared items.0) none) in inl (net.0, (items.0, items.1, none, net.1)))
    (λ first. inr (first.0, in_net items.0 first.0 items.1 first.1))
    (some_first (faults lts (declared items.0))))
    (λ fault. inr (of_items fault.0, in_items fault.0 fault.1))
    (items_or_fault bytes)
