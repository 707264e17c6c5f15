-- The whole of what is declared: its first fault, or its system.
use Rattle.std.proofs.Common.{◌≡◌, ℕ, Bool, true, false, List, [], ◌++◌, map, position, slice_get, Contains, Option, None, Some, refl, sym, ap, subst, ◌∙◌, arith}
use Rattle.std.specs.List.{list_any}
use Rattle.rg_lexer.specs.Lexeme.{Lexeme}
use Rattle.rg_theory.specs.System.{System}
use Rattle.rg_lts.specs.WellFormed.{IsWellFormed}
use Rattle.rg_lts.specs.Draft.{Draft, finished}
use Rattle.rg_apt.specs.declared.fault.TextFault.{TextFault}
use Rattle.rg_apt.specs.declared.fault.TextFault.TheVariants.{NoType, NoInitial}
use Rattle.rg_text.specs.Faults.{faults_after, if_not, IsFirst, AreNone}
use Rattle.rg_apt.specs.Contents.{StateEntry, Declared, faults, state_fault, label_fault, arc_fault, IsSystemOf}
use Rattle.rg_apt.specs.Built.{label_text, is_marked, HasStates, HasLabels, HasArcs}
use Rattle.rg_apt.proofs.Marks.{some_marked, any_of_some}
use Rattle.rg_text.proofs.Left.{first_left, first_right, none_joined}

abbrev typed_part : Declared → List (Option TextFault)
typed_part d = if_not d.typed NoType

abbrev state_part : Declared → List (Option TextFault)
state_part d = faults_after state_fault [] d.states

abbrev label_part : Declared → List (Option TextFault)
label_part d = faults_after label_fault [] d.labels

abbrev arc_part : Declared → List (Option TextFault)
arc_part d = faults_after (arc_fault d) [] d.arcs

abbrev mark_part : Declared → List (Option TextFault)
mark_part d = if_not (list_any (λ (e : StateEntry Lexeme). e.initial) d.states) NoInitial

if_none : (b : Bool) (f : TextFault) → b ≡ true → AreNone (if_not b f)
if_none true f e = tt
if_none false f e = absurd cc

if_some : (b : Bool) (f : TextFault) → b ≡ false → IsFirst (if_not b f) f
if_some true f e = absurd cc
if_some false f e = refl

pub no_type : (d : Declared) → d.typed ≡ false → IsFirst (faults d) NoType
no_type d e =
    first_left (typed_part d ++ state_part d ++ label_part d ++ arc_part d) (mark_part d) NoType
    (first_left (typed_part d ++ state_part d ++ label_part d) (arc_part d) NoType
    (first_left (typed_part d ++ state_part d) (label_part d) NoType
    (first_left (typed_part d) (state_part d) NoType (if_some d.typed NoType e))))

pub of_states : (d : Declared) (f : TextFault) → d.typed ≡ true → IsFirst (state_part d) f → IsFirst (faults d) f
of_states d f e is =
    first_left (typed_part d ++ state_part d ++ label_part d ++ arc_part d) (mark_part d) f
    (first_left (typed_part d ++ state_part d ++ label_part d) (arc_part d) f
    (first_left (typed_part d ++ state_part d) (label_part d) f
    (first_right (typed_part d) (state_part d) f (if_none d.typed NoType e) is)))

before_labels : (d : Declared) → d.typed ≡ true → AreNone (state_part d) → AreNone (typed_part d ++ state_part d)
before_labels d e s = none_joined (typed_part d) (state_part d) (if_none d.typed NoType e) s

pub of_labels : (d : Declared) (f : TextFault) → d.typed ≡ true → AreNone (state_part d) → IsFirst (label_part d) f → IsFirst (faults d) f
of_labels d f e s is =
    first_left (typed_part d ++ state_part d ++ label_part d ++ arc_part d) (mark_part d) f
    (first_left (typed_part d ++ state_part d ++ label_part d) (arc_part d) f
    (first_right (typed_part d ++ state_part d) (label_part d) f (before_labels d e s) is))

before_arcs : (d : Declared) → d.typed ≡ true → AreNone (state_part d) → AreNone (label_part d) → AreNone (typed_part d ++ state_part d ++ label_part d)
before_arcs d e s l = none_joined (typed_part d ++ state_part d) (label_part d) (before_labels d e s) l

pub of_arcs : (d : Declared) (f : TextFault) → d.typed ≡ true → AreNone (state_part d) → AreNone (label_part d) → IsFirst (arc_part d) f → IsFirst (faults d) f
of_arcs d f e s l is =
    first_left (typed_part d ++ state_part d ++ label_part d ++ arc_part d) (mark_part d) f
    (first_right (typed_part d ++ state_part d ++ label_part d) (arc_part d) f (before_arcs d e s l) is)

before_mark : (d : Declared) → d.typed ≡ true → AreNone (state_part d) → AreNone (label_part d) → AreNone (arc_part d) → AreNone (typed_part d ++ state_part d ++ label_part d ++ arc_part d)
before_mark d e s l a = none_joined (typed_part d ++ state_part d ++ label_part d) (arc_part d) (before_arcs d e s l) a

pub of_mark : (d : Declared) → d.typed ≡ true → AreNone (state_part d) → AreNone (label_part d) → AreNone (arc_part d) → position is_marked d.states ≡ None → IsFirst (faults d) NoInitial
of_mark d e s l a none =
    first_right (typed_part d ++ state_part d ++ label_part d ++ arc_part d) (mark_part d) NoInitial (before_mark d e s l a)
    (if_some (list_any is_marked d.states) NoInitial (by (list_any is_marked d.states) refl))
  where
    by : (b : Bool) → list_any is_marked d.states ≡ b → list_any is_marked d.states ≡ false
    by false e = e
    by true e = let k = some_marked is_marked d.states e in let same = sym none ∙ k.1 in absurd cc

pub all_none : (d : Declared) (k : ℕ) → d.typed ≡ true → AreNone (state_part d) → AreNone (label_part d) → AreNone (arc_part d) → position is_marked d.states ≡ Some k → AreNone (faults d)
all_none d k e s l a is =
    none_joined (typed_part d ++ state_part d ++ label_part d ++ arc_part d) (mark_part d) (before_mark d e s l a)
    (if_none (list_any is_marked d.states) NoInitial (any_of_some is_marked d.states k is))

-- states, and then labels
pub with_labels : (d : Declared) (one two : Draft) → HasStates d.states one → two ≡ record one { label_names = map label_text d.labels } → HasLabels d.states d.labels two
with_labels d one two h made = subst (HasLabels d.states d.labels) (sym made) (record {
  state_names = h.state_names;
  initial = h.initial;
  label_names = refl;
  arcs = h.arcs;
})

-- no arc yet
pub no_arcs : (d : Declared) (draft : Draft) → HasLabels d.states d.labels draft → HasArcs d [] draft
no_arcs d draft h = record {
  state_names = h.state_names;
  initial = h.initial;
  label_names = h.label_names;
  named = λ k x lt. absurd (omega arith);
  members = λ a. (
    λ has. let none = subst (λ l. Contains l a) h.arcs has in absurd (omega (arith, none.1)),
    λ any. absurd (omega (arith, any.2)),
  );
}

-- the system that is built is that of what is declared
pub system_is : (d : Declared) (draft : Draft) (lts : System) → HasArcs d d.arcs draft → draft.initial ≡ Some lts.initial → lts ≡ finished draft lts.initial → IsWellFormed lts → IsSystemOf d lts
system_is d draft lts h initial made formed =
    let states : lts.state_names ≡ draft.state_names = ap (λ (s : System). s.state_names) made in
    let labels : lts.label_names ≡ draft.label_names = ap (λ (s : System). s.label_names) made in
    let arcs : lts.arcs ≡ draft.arcs = ap (λ (s : System). s.arcs) made in
    record {
      state_names = states ∙ h.state_names;
      label_names = labels ∙ h.label_names;
      initial = sym h.initial ∙ initial;
      arcs = λ a. (
        λ has. let any = (h.members a).0 (subst (λ l. Contains l a) arcs has) in (
          any.0,
          any.1,
          any.2,
          any.3,
          (ap (λ l. slice_get l a.from) states ∙ any.4.from, ap (λ l. slice_get l a.label) labels ∙ any.4.label, ap (λ l. slice_get l a.to) states ∙ any.4.to),
        ),
        λ any. subst (λ l. Contains l a) (sym arcs) ((h.members a).1 (
          any.0,
          any.1,
          any.2,
          any.3,
          record {
            from = ap (λ l. slice_get l a.from) (sym states) ∙ any.4.0;
            label = ap (λ l. slice_get l a.label) (sym labels) ∙ any.4.1;
            to = ap (λ l. slice_get l a.to) (sym states) ∙ any.4.2;
          },
        )),
      );
      in_order = formed.arc_order;
    }
