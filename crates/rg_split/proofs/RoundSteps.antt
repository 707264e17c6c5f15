-- What a round of the code comes to.
use Rattle.std.proofs.Common.{◌≡◌, ℕ, zero, suc, ◌+◌, ◌<◌, ◌≤◌, List, [], ◌∷◌, ◌++◌, length, map, take, get_or, Some, slice_get, All, Bool, true, false, if◌then◌else◌, refl, sym, ap, ap₂, subst, ◌∙◌, arith}
use Rattle.std.specs.List.{range_with_len}
use Rattle.std.proofs.lemmas.Option.{slice_get_within, get_or_from_slice_get}
use Rattle.std.proofs.lemmas.List.{length-append, map-append, take_more, map-id}
use Rattle.std.proofs.lemmas.List.FromFn.{map-range_with_len_more}
use Rattle.rg_text.specs.Byte.{IsName}
use Rattle.rg_theory.specs.declared.Arc.{Arc}
use Rattle.rg_theory.specs.System.{System, labels, arc, IsInRange}
use Rattle.rg_theory.specs.Limits.{most_labels}
use Rattle.rg_theory.specs.ClassWords.{no_condition}
use Rattle.rg_lts.specs.WellFormed.{AreNames, IsWellFormed}
use Rattle.rg_line_formats.specs.Parts.{IsSystemWith}
use Rattle.rg_line_formats.proofs.Parts.{one_with}
use Rattle.rg_cert_meaning.specs.Refutes.{Reason}
use Rattle.rg_cert_data.specs.declared.certificate.Reason.{Reason as ReasonOfCode}
use Rattle.rg_cert_data.specs.declared.certificate.Reason.TheVariants as of_code
use Rattle.rg_cert_data.specs.Certificates.{reason_of}
use Rattle.rg_outcome.specs.Outcome.{Out, Answer.unsolvable as of_reason}
use Rattle.rg_split.specs.Erasing.{old_label}
use Rattle.rg_split.specs.Naming.{IsNewName}
use Rattle.rg_split.specs.Parts.{SplitsLabel, is_moved}
use Rattle.rg_split.specs.Building.{arcs_with}
use Rattle.rg_split.specs.Round.{IsToldApart}
use Rattle.rg_split.specs.Rounds as rounds
use Rattle.rg_split.specs.Rounds.{Labelling, labelling, itself, relabelled, first_name, IsNext, HasLabel, RoundsCome.goes_on, SplitsTo}
use Rattle.rg_split.specs.declared.splitting.Splitting.{Splitting}
use Rattle.rg_split.specs.declared.splitting.Splitting.TheVariants.{Done, Unreachable, Full, TooWide}
use Rattle.rg_split.specs.Answer.{splitting_of, Says, SaysInRound, LeadsTo}
use Rattle.rg_split.proofs.Once.{one_label}
use Rattle.rg_split.proofs.Parted.{to_split}
use Rattle.rg_split.proofs.Always.{told_next}
use Rattle.rg_split.proofs.Saying.{says}
use Rattle.rg_split.proofs.Renamed.{arcs_relabelled}

-- ---- the first labelling

arcs_same : (arcs : List Arc) → arcs_with (map (λ (a : Arc). a.label) arcs) arcs ≡ arcs
arcs_same [] = refl
arcs_same (a ∷ arcs) = ap (λ l. a ∷ l) (arcs_same arcs)

pub first_is : (lts system : System) (names : List (List ℕ)) (ts old : List ℕ) → IsWellFormed lts → names ≡ lts.label_names → ts ≡ map (λ (a : Arc). a.label) lts.arcs
    → IsSystemWith lts.state_names names (arcs_with ts lts.arcs) lts.initial system → old ≡ range_with_len 0 (labels lts) → labelling system old ≡ itself lts
first_is lts system names ts old fine are_names are_labels made is =
    let whole : IsSystemWith lts.state_names lts.label_names lts.arcs lts.initial system =
    subst (λ l. IsSystemWith lts.state_names lts.label_names l lts.initial system) (ap (λ l. arcs_with l lts.arcs) are_labels ∙ arcs_same lts.arcs)
    (subst (λ l. IsSystemWith lts.state_names l (arcs_with ts lts.arcs) lts.initial system) are_names made) in
    let own : IsSystemWith lts.state_names lts.label_names lts.arcs lts.initial lts =
    record { state_names = refl; label_names = refl; initial = refl; members = λ a. (λ h. h, λ h. h); in_order = fine.arc_order } in
    let same = one_with lts.state_names lts.label_names lts.arcs lts.initial system lts whole own in
    λ i. record { system = same i; old = is i }

pub labels_in_range : (lts : System) (ts : List ℕ) (n : ℕ) → IsInRange lts → ts ≡ map (λ (a : Arc). a.label) lts.arcs → labels lts ≤ n → All (λ t. t < n) ts
labels_in_range lts ts n fine are le = subst (All (λ t. t < n)) (sym are) (each lts.arcs (λ k d lt. (fine.arcs k d lt).1))
  where
    each : (arcs : List Arc) → ((k : ℕ) (d : Arc) → k < length arcs → (get_or arcs k d).label < labels lts) → All (λ t. t < n) (map (λ (a : Arc). a.label) arcs)
    each [] all k d lt = absurd (omega arith)
    each (a ∷ arcs) all zero d lt = (let l = all 0 a (omega arith) in omega arith)
    each (a ∷ arcs) all (suc k) d lt = each arcs (λ j e less. all (suc j) e (omega arith)) k d (omega arith)

pub names_taken : {S : Type 0} (view : S → List ℕ) (from : List (List ℕ)) (k : ℕ) (items new : List S) (s : S) (name : List ℕ)
    → slice_get from k ≡ Some name → view s ≡ name → new ≡ items ++ s ∷ [] → map view items ≡ take k from
    → map view new ≡ take (k + 1) from
names_taken view from k items new s name at is made so_far =
    ap (map view) made ∙ map-append view items (s ∷ []) ∙ ap₂ (λ ys y. ys ++ y ∷ []) so_far (is ∙ sym (get_or_from_slice_get from k name name at))
    ∙ sym (take_more from k name (slice_get_within from k name at))

pub range_more : (n : ℕ) → range_with_len 0 (n + 1) ≡ range_with_len 0 n ++ n ∷ []
range_more n =
    let plain : (k : ℕ) → map (λ (i : ℕ). i) (range_with_len 0 k) ≡ range_with_len 0 k = λ k. map-id (range_with_len 0 k) in
    sym (plain (n + 1)) ∙ map-range_with_len_more (λ (i : ℕ). i) 0 n n (omega arith) ∙ ap (λ ys. ys ++ n ∷ []) (plain n)

-- ---- the next one

pub label_below : (system : System) (reason : Reason) (t : ℕ) → IsWellFormed system → Out system no_condition (of_reason reason) → HasLabel reason → SplitsLabel system reason t → t < labels system
label_below system reason t fine out has splits =
    let s = to_split system reason fine out has in
    subst (λ u. u < labels system) (one_label system reason s.label t s.splits splits) s.below

pub first_below : (lts : System) (now : Labelling) (t first : ℕ) → IsToldApart lts now → t < labels now.system → first ≡ get_or now.old t first → first < labels lts
first_below lts now t first apart below is =
    let long = apart.erases.each in
    subst (λ k. k < labels lts) (sym is) (apart.erases.within t first (omega arith))

pub name_is_name : (names : List (List ℕ)) (k : ℕ) (name : List ℕ) → AreNames names → slice_get names k ≡ Some name → IsName name
name_is_name names k name are at = subst IsName (get_or_from_slice_get names k name name at) (are.each k name (slice_get_within names k name at))

pub pushed_name : {S : Type 0} (view : S → List ℕ) (names : List (List ℕ)) (items new : List S) (s : S) (name : List ℕ) → view s ≡ name
    → map view items ≡ names → new ≡ items ++ s ∷ [] → map view new ≡ names ++ name ∷ []
pushed_name view names items new s name is are made = ap (map view) made ∙ map-append view items (s ∷ []) ∙ ap₂ (λ ys y. ys ++ y ∷ []) are is

-- the reason is no state
pub has_label : (r : ReasonOfCode) → ((s : ℕ) → r ≡ of_code.Unreachable s → ⊥) → HasLabel (reason_of r)
has_label (of_code.Unreachable s) none = none s refl
has_label (of_code.Fork s t s₁ s₂) none = tt
has_label (of_code.Event s t case) none = tt
has_label (of_code.States s s' cases) none = tt

-- the first name of the label, as it is read
pub first_name_is : (lts : System) (old : List ℕ) (t first : ℕ) (name : List ℕ) → first ≡ old_label old t → slice_get lts.label_names first ≡ Some name → name ≡ first_name lts old t
first_name_is lts old t first name is at = sym (get_or_from_slice_get lts.label_names first name [] at) ∙ ap (λ k. get_or lts.label_names k []) is

relabelled_below : (reason : Reason) (t new n : ℕ) (a : Arc) → new < n → a.label < n → (relabelled reason t new a).label < n
relabelled_below reason t new n a lt lt' = by (is_moved reason t a)
  where
    by : (b : Bool) → (if b then arc a.from new a.to else a).label < n
    by true = lt
    by false = lt'

pub labels_below : (system : System) (reason : Reason) (t n : ℕ) (ts : List ℕ) → IsInRange system → n ≡ labels system + 1
    → ts ≡ map (λ a. (relabelled reason t (labels system) a).label) system.arcs → All (λ u. u < n) ts
labels_below system reason t n ts fine more are = subst (All (λ u. u < n)) (sym are) (each system.arcs (λ k d lt. (fine.arcs k d lt).1))
  where
    each : (arcs : List Arc) → ((k : ℕ) (d : Arc) → k < length arcs → (get_or arcs k d).label < labels system) → All (λ u. u < n) (map (λ a. (relabelled reason t (labels system) a).label) arcs)
    each [] all k d lt = absurd (omega arith)
    each (a ∷ arcs) all zero d lt = relabelled_below reason t (labels system) n a (omega arith) (let l = all 0 a (omega arith) in omega arith)
    each (a ∷ arcs) all (suc k) d lt = each arcs (λ j e less. all (suc j) e (omega arith)) k d (omega arith)

pub next_is : (lts : System) (reason : Reason) (now : Labelling) (system : System) (t first : ℕ) (names : List (List ℕ)) (name : List ℕ) (ts old : List ℕ) → SplitsLabel now.system reason t
    → ts ≡ map (λ a. (relabelled reason t (labels now.system) a).label) now.system.arcs → first ≡ old_label now.old t → IsNewName now.system.label_names (first_name lts now.old t) name
    → names ≡ now.system.label_names ++ name ∷ [] → IsSystemWith now.system.state_names names (arcs_with ts now.system.arcs) now.system.initial system → old ≡ now.old ++ first ∷ []
    → IsNext lts reason now (labelling system old)
next_is lts reason now system t first names name ts old splits are is new are_names made is_old = record {
  label = t;
  splits = splits;
  name = name;
  new = new;
  system = subst (λ l. IsSystemWith now.system.state_names (now.system.label_names ++ name ∷ []) l now.system.initial system)
      (ap (λ l. arcs_with l now.system.arcs) are ∙ arcs_relabelled reason t (labels now.system) now.system.arcs)
      (subst (λ l. IsSystemWith now.system.state_names l (arcs_with ts now.system.arcs) now.system.initial system) are_names made);
  old = is_old ∙ ap (λ k. now.old ++ k ∷ []) is;
}

-- ---- the rounds

pub leads : (lts : System) (reason : Reason) (now next : Labelling) → IsWellFormed lts → IsToldApart lts now
    → Out now.system no_condition (of_reason reason) → HasLabel reason → labels now.system < most_labels → IsNext lts reason now next
    → LeadsTo lts now next
leads lts reason now next fine apart out has room is = record {
  comes = λ r come. goes_on reason next out has room is come;
  apart = told_next lts reason now next fine apart is (label_below now.system reason is.label apart.formed out has is.splits) room;
  room = room;
  more = ap length is.system.label_names ∙ length-append now.system.label_names (is.name ∷ []);
}

pub says_in_all : (lts : System) (r : Splitting) → IsWellFormed lts → SplitsTo lts (splitting_of r) → SaysInRound lts r → Says lts r
says_in_all lts (Unreachable s) fine comes told = says lts fine (rounds.Splitting.unreachable s) comes
says_in_all lts (Done system old net) fine comes told = told
says_in_all lts (Full system old certificate) fine comes told = told
says_in_all lts (TooWide system old at) fine comes told = told
