-- From the parts of a text to what it spells, or its first fault.
use Rattle.std.proofs.Common.{◌≡◌, inl, inr, ℕ, zero, suc, ◌+◌, nat_lt, Bool, true, List, [], ◌∷◌, ◌++◌, length, map, slice_get, Contains, Option, None, Some, string_bytes, refl, sym, ap, subst, ◌∙◌, append_assoc, arith}
use Rattle.std.specs.List.{after_first, flat_map}
use Rattle.std.specs.Str.{bytes_eq}
use Rattle.std.proofs.lemmas.Bool.Decides.{nat_tests}
use Rattle.std.proofs.lemmas.Option.{same_Some}
use Rattle.rg_theory.specs.System.{System}
use Rattle.rg_lts.specs.WellFormed.{IsWellFormed}
use Rattle.rg_lts.specs.Draft.{Draft, finished}
use Rattle.rg_text.specs.Faults.{faults_after, if_not, IsFirst, AreNone}
use Rattle.rg_text.proofs.Left.{first_left, first_right, none_joined}
use Rattle.rg_theory.proofs.Lists.{there_at}
use Rattle.rg_line_formats.specs.First.{number_of}
use Rattle.rg_line_formats.specs.Numbered.{Line, numbered}
use Rattle.rg_line_formats.proofs.Present.{any_there, any_absent}
use Rattle.rg_line_formats.proofs.Numbers.{number_is, met}
use Rattle.rg_genet.specs.declared.fault.GraphFault.{GraphFault}
use Rattle.rg_genet.specs.declared.fault.GraphFault.TheVariants.{NoEnd, UnknownState}
use Rattle.rg_genet.specs.declared.reading.Marking.{Marking}
use Rattle.rg_genet.specs.Contents.{Triple, opens, heading, body, is_closed, heading_fault, line_fault, last_faults, triples, markings, ends, state_names, label_names, arc_of, arcs_of, faults}
use Rattle.rg_genet.specs.Spells.{or_alone, IsGraphOf, Spells, FirstFault}
use Rattle.rg_genet.specs.Reading.{Shows, marking_in, rest_faults, IsHeadFault, IsMarked, IsFinished, IsUnfinished}
use Rattle.rg_genet.proofs.Triples.{end_there}

pub finished_is : (old new : Draft) (name : List ℕ) (lts : System) (m : Marking) (marking : Option Marking) → IsMarked old new name
    → (new.initial ≡ Some lts.initial) × (lts ≡ finished new lts.initial) → IsWellFormed lts → marking ≡ Some m → name ≡ string_bytes m.name → IsFinished old marking lts
finished_is old new name lts m marking marked (initial, is) formed some name_is =
    let start = same_Some marked.state lts.initial (sym (ap (λ (d : Draft). d.initial) marked.new_is) ∙ initial) in
    let named : slice_get (or_alone old.state_names name) lts.initial ≡ Some name = subst (λ s. slice_get (or_alone old.state_names name) s ≡ Some name) start marked.at in
    record {
      mark = m;
      is = some;
      at = subst (λ n. slice_get (or_alone old.state_names n) lts.initial ≡ Some n) name_is named;
      well_formed = formed;
      state_names = ap (λ (l : System). l.state_names) is ∙ ap (λ (d : Draft). d.state_names) marked.new_is ∙ ap (or_alone old.state_names) name_is;
      label_names = ap (λ (l : System). l.label_names) is ∙ ap (λ (d : Draft). d.label_names) marked.new_is;
      arcs = ap (λ (l : System). l.arcs) is ∙ ap (λ (d : Draft). d.arcs) marked.new_is;
    }

module _ (bytes : List ℕ) where
  left : List Line
  left = after_first opens (numbered bytes)

  head : List (Option GraphFault)
  head = map heading_fault (heading bytes)

  last : List (Option GraphFault)
  last = last_faults (state_names (triples (body bytes))) (markings (body bytes))

  joined : (faults bytes ≡ (head ++ rest_faults [] (after_first opens (numbered bytes))) ++ last)
  unfolding head last
  joined = ap (λ l. l ++ last_faults (state_names (triples (body bytes))) (markings (body bytes)))
      (append_assoc (map heading_fault (heading bytes)) (faults_after line_fault [] (body bytes)) (if_not (is_closed bytes) NoEnd))

  pub body_first : (f : GraphFault) → AreNone (map heading_fault (heading bytes)) → IsFirst (rest_faults [] (after_first opens (numbered bytes))) f → FirstFault bytes f
  unfolding head
  body_first f none is =
      subst (λ l. IsFirst l f) (sym joined)
      (first_left (head ++ rest_faults [] (after_first opens (numbered bytes))) last f (first_right head (rest_faults [] (after_first opens (numbered bytes))) f none is))

  pub head_first : (f : GraphFault) → IsHeadFault (numbered bytes) f → FirstFault bytes f
  unfolding head
  head_first f (inl is) =
      subst (λ l. IsFirst l f) (sym joined) (first_left (head ++ rest_faults [] (after_first opens (numbered bytes))) last f
      (first_left head (rest_faults [] (after_first opens (numbered bytes))) f is))
  head_first f (inr (e, none, after)) = body_first f none (subst (λ l. IsFirst (rest_faults [] l) f) (sym after) e)

  pub last_first : (f : GraphFault) → AreNone (map heading_fault (heading bytes)) → AreNone (rest_faults [] (after_first opens (numbered bytes)))
      → IsFirst (last_faults (state_names (triples (body bytes))) (markings (body bytes))) f → FirstFault bytes f
  unfolding head last
  last_first f none rest is =
      subst (λ l. IsFirst l f) (sym joined)
      (first_right (head ++ rest_faults [] (after_first opens (numbered bytes))) last f (none_joined head (rest_faults [] (after_first opens (numbered bytes))) none rest) is)

  pub all_none : AreNone (map heading_fault (heading bytes)) → AreNone (rest_faults [] (after_first opens (numbered bytes)))
      → AreNone (last_faults (state_names (triples (body bytes))) (markings (body bytes))) → AreNone (faults bytes)
  unfolding head last
  all_none none rest ends =
      subst AreNone (sym joined)
      (none_joined (head ++ rest_faults [] (after_first opens (numbered bytes))) last (none_joined head (rest_faults [] (after_first opens (numbered bytes))) none rest) ends)

-- where there is an arc, there is a state
some_state : (arcs : List Triple) → true ≡ nat_lt 0 (length arcs) → state_names arcs ≡ [] → ⊥
some_state [] e none = absurd cc
some_state (t ∷ arcs) e none =
    let has = met [] (flat_map ends (t ∷ arcs)) t.from (end_there t (t ∷ arcs) (zero, omega arith, refl)).0 in
    let wrong = subst (λ l. Contains l t.from) none has in
    omega (arith, wrong.1)

-- the marking of what is unfinished
pub last_is : (lines : List Line) (d : Draft) (has : Bool) (m : Option Marking) (f : GraphFault) → Shows lines d has m → IsUnfinished d has m f
    → IsFirst (last_faults (state_names (triples lines)) (markings lines)) f
last_is lines d has None f shows un = subst (λ l. IsFirst (last_faults (state_names (triples lines)) l) f) (sym shows.marks) un
last_is lines d has (Some m) f shows (is, arcs, unknown) =
    subst (λ l. IsFirst (last_faults (state_names (triples lines)) l) f) (sym shows.marks)
    (by (state_names (triples lines)) (λ e. some_state (triples lines) (sym arcs ∙ shows.some) e) (λ has'. unknown (subst (λ l. Contains l (string_bytes m.name)) (sym shows.arcs.states) has')))
  where
    by : (names : List (List ℕ)) → (names ≡ [] → ⊥) → (Contains names (string_bytes m.name) → ⊥) → IsFirst (last_faults names ((m.line, string_bytes m.name) ∷ [])) f
    by [] some none = absurd (some refl)
    by (s ∷ names) some none = subst (λ b. IsFirst (if_not b (UnknownState m.line)) f) (sym (any_absent (s ∷ names) (string_bytes m.name) none)) is

-- the marking of what is finished names a state
pub last_none : (lines : List Line) (d : Draft) (has : Bool) (m : Option Marking) (lts : System) → Shows lines d has m → (fin : IsFinished d m lts)
    → AreNone (last_faults (state_names (triples lines)) (markings lines)) × (markings lines ≡ (fin.mark.line, string_bytes fin.mark.name) ∷ [])
last_none lines d has m lts shows fin =
    let name = string_bytes fin.mark.name in
    let marks : markings lines ≡ (fin.mark.line, name) ∷ [] = shows.marks ∙ ap marking_in fin.is in (
      subst (λ l. AreNone (last_faults (state_names (triples lines)) l)) (sym marks)
          (by (state_names (triples lines)) (subst (λ l. slice_get (or_alone l name) lts.initial ≡ Some name) shows.arcs.states fin.at)),
      marks,
    )
  where
    by : (names : List (List ℕ)) → slice_get (or_alone names (string_bytes fin.mark.name)) lts.initial ≡ Some (string_bytes fin.mark.name)
        → AreNone (last_faults names ((fin.mark.line, string_bytes fin.mark.name) ∷ []))
    by [] at = tt
    by (s ∷ names) at =
        subst (λ b. AreNone (if_not b (UnknownState fin.mark.line))) (sym (any_there (s ∷ names) (string_bytes fin.mark.name) (there_at (s ∷ names) lts.initial (string_bytes fin.mark.name) at))) tt

some_number_is : (n : ℕ) → true ≡ nat_lt 0 (n + 1)
some_number_is n = grind (arith, nat_tests)

pub same_arcs : (arcs : List Triple) (name : List ℕ) → map (arc_of (or_alone (state_names arcs) name) (label_names arcs)) arcs ≡ arcs_of arcs
same_arcs [] name = refl
same_arcs (t ∷ arcs) name = by (state_names (t ∷ arcs)) refl (λ e. some_state (t ∷ arcs) (positive (length arcs)) e)
  where
    positive : (n : ℕ) → true ≡ nat_lt 0 (suc n)
    positive n = let e : suc n ≡ n + 1 = omega arith in rw e (some_number_is n)

    by : (names : List (List ℕ)) → state_names (t ∷ arcs) ≡ names → (state_names (t ∷ arcs) ≡ [] → ⊥)
        → map (arc_of (or_alone (state_names (t ∷ arcs)) name) (label_names (t ∷ arcs))) (t ∷ arcs) ≡ arcs_of (t ∷ arcs)
    by [] e some = absurd (some e)
    by (s ∷ names) e some = ap (λ l. map (arc_of l (label_names (t ∷ arcs))) (t ∷ arcs)) (ap (λ l. or_alone l name) e ∙ sym e)

pub graph_is : (lines : List Line) (d : Draft) (has : Bool) (m : Option Marking) (lts : System) → Shows lines d has m → (fin : IsFinished d m lts)
    → IsGraphOf (triples lines) (string_bytes fin.mark.name) lts
graph_is lines d has m lts shows fin =
    let name = string_bytes fin.mark.name in
    let arcs = triples lines in
    let states : lts.state_names ≡ or_alone (state_names arcs) name = fin.state_names ∙ ap (λ l. or_alone l name) shows.arcs.states in
    let same = same_arcs arcs name in
    record {
      state_names = states;
      label_names = fin.label_names ∙ shows.arcs.labels;
      initial = sym (ap (λ l. number_of bytes_eq l name) (sym states) ∙ number_is lts.state_names lts.initial name fin.well_formed.state_names
          (subst (λ l. slice_get l lts.initial ≡ Some name) (sym fin.state_names) fin.at));
      members = λ a. (
        λ h. subst (λ l. Contains l a) (sym same) ((shows.arcs.members a).0 (subst (λ l. Contains l a) fin.arcs h)),
        λ h. subst (λ l. Contains l a) (sym fin.arcs) ((shows.arcs.members a).1 (subst (λ l. Contains l a) same h)),
      );
      in_order = fin.well_formed.arc_order;
    }

pub spelled : (bytes : List ℕ) (d : Draft) (has : Bool) (m : Option Marking) (lts : System) → AreNone (map heading_fault (heading bytes))
    → AreNone (rest_faults [] (after_first opens (numbered bytes)))
    → Shows (body bytes) d has m → IsFinished d m lts → Spells bytes lts
spelled bytes d has m lts none rest shows fin =
    let ends = last_none (body bytes) d has m lts shows fin in
    record {
      none = all_none bytes none rest ends.0;
      marking = (fin.mark.line, string_bytes fin.mark.name);
      only = ends.1;
      system = graph_is (body bytes) d has m lts shows fin;
    }

pub unfinished : (bytes : List ℕ) (d : Draft) (has : Bool) (m : Option Marking) (f : GraphFault) → AreNone (map heading_fault (heading bytes))
    → AreNone (rest_faults [] (after_first opens (numbered bytes)))
    → Shows (body bytes) d has m → IsUnfinished d has m f → FirstFault bytes f
unfinished bytes d has m f none rest shows un = last_first bytes f none rest (last_is (body bytes) d has m f shows un)
