-- The place that a point of a case's system makes.
use Rattle.std.specs.Prelude.{ℕ, ◌-◌, ◌%◌, ◌==◌, ◌&&◌, ◌||◌, not, is_some, unwrap_or, Bool, false, if◌then◌else◌, List, [], ◌∷◌, ◌++◌, map, slice_index_or, ℤ, pos, neg_ℤ, ◌*ℤ◌, int_lt, unsigned_abs, Result}
use Rattle.rg_theory.specs.declared.Arc.{Arc}
use Rattle.rg_theory.specs.System.{System, states, labels}
use Rattle.rg_theory.specs.Net.{Place}
use Rattle.rg_theory.specs.declared.Class.{Class}
use Rattle.rg_theory.specs.declared.Problem.{Problem}
use Rattle.rg_theory.specs.declared.Problem.TheVariants.{Event, States}
use Rattle.rg_integers.specs.declared.term.Wide.{Wide}
use Rattle.rg_folds.specs.Fold.{gives, ◌>>=◌, either, each, joined, Ratio, whole, quotient, add, mul, whole_sum, multiple_of_all}
use Rattle.rg_linear.specs.Cycle.{CycleBasis}
use Rattle.rg_case_folds.specs.Setting.{Setting}
use Rattle.rg_folds.specs.Substitution.{is_in}
use Rattle.rg_case_folds.specs.Rewriting.{has_label, free_columns, all_numbers, states_with}

-- what free label f with this value adds to the effect of label t
abbrev pub effect_share : CycleBasis → (ℕ → Ratio) → ℕ → ℕ → Result Ratio Wide → Type 0
effect_share basis value t f = do
  k ← quotient ((basis.relation t).coefficient f) (basis.relation t).d
  mul (value f) k

-- the effect of label t, where free label f has the value value f
abbrev pub effect_fold : System → CycleBasis → (ℕ → Ratio) → ℕ → Result Ratio Wide → Type 0
effect_fold lts basis value t =
    either (not (has_label t lts.arcs)) (gives (whole (pos 0)))
    (either (is_in basis.members t) (gives (value t))
    (joined add (effect_share basis value t) (whole (pos 0)) (free_columns lts basis)))

abbrev pub negated : Ratio → Ratio
negated f = record { top = neg_ℤ f.top; bottom = f.bottom }

-- each number times m
abbrev pub times_each : ℤ → List Ratio → Result (List Ratio) Wide → Type 0
times_each m numbers = each (λ r. mul r (whole m)) numbers

-- the numbers, times the marking that the class asks, if it asks one
abbrev pub marked_fold : Class → List Ratio → Result (List Ratio) Wide → Type 0
marked_fold class numbers = either (is_some class.marking) (times_each (pos (unwrap_or class.marking 1)) numbers) (gives numbers)

-- the numbers without denominators, and then multiples of what the start has to be a multiple of
abbrev pub whole_multiples : Class → List Ratio → Result (List Ratio) Wide → Type 0
whole_multiples class numbers = do
  m ← multiple_of_all (map (λ r. r.bottom) numbers)
  products ← times_each m numbers
  marked_fold class products

-- the effects by label, and Start after them, made whole in a class that is neither plain nor bounded
abbrev pub made_whole : Class → List Ratio → Result (List Ratio) Wide → Type 0
made_whole class numbers = either (class.plain || is_some class.bound) (gives numbers) (whole_multiples class numbers)

abbrev pub ratio_at : List Ratio → ℕ → Ratio
ratio_at numbers i = slice_index_or numbers i (whole (pos 0))

-- the numbers of the states, tree arc by tree arc
abbrev pub along_tree : (ℕ → Ratio) → (ℕ → Ratio) → List Arc → Result (ℕ → Ratio) Wide → Type 0
along_tree effect number [] = gives number
along_tree effect number (a ∷ tree) = do
  m ← add (number a.from) (effect a.label)
  along_tree effect (λ s. if s == a.to then m else number s) tree

abbrev pub lesser : Ratio → Ratio → Ratio
lesser f g = if int_lt (g.top *ℤ f.bottom) (f.top *ℤ g.bottom) then g else f

-- the least of the numbers, 0 of none
abbrev pub least_from : Ratio → List Ratio → Ratio
least_from f [] = f
least_from f (g ∷ rest) = least_from (lesser f g) rest

abbrev pub least_of : List Ratio → Ratio
least_of [] = whole (pos 0)
least_of (f ∷ rest) = least_from f rest

-- the numbers are moved so that the least is 0
abbrev pub is_shifted : Class → Bool
is_shifted class = not (is_some class.bound) && (class.plain || not class.pure)

abbrev pub tops : List Ratio → List ℤ
tops numbers = map (λ r. r.top) numbers

abbrev pub top_at : List Ratio → ℕ → ℤ
top_at numbers i = (ratio_at numbers i).top

-- how many more make m a multiple of n
abbrev pub missing : ℕ → ℕ → ℕ
missing n m = (n - m % n) % n

-- then they are moved back until the start is a multiple: in a problem of two states of a plain class without bound
abbrev pub is_lifted : Class → Problem → Bool
is_lifted class (Event s t) = false
is_lifted class (States s s') = is_some class.marking && (class.plain && not (is_some class.bound))

-- each number and m
abbrev pub add_each : Ratio → List Ratio → Result (List Ratio) Wide → Type 0
add_each m numbers = each (λ r. add r m) numbers

-- how much more makes the start a multiple
abbrev pub lift_of : System → Class → List Ratio → Ratio
lift_of lts class numbers = whole (pos (missing (unwrap_or class.marking 1) (unsigned_abs (top_at numbers lts.initial))))

-- the numbers less the least of them
abbrev pub moved_fold : Class → List Ratio → Result (List Ratio) Wide → Type 0
moved_fold class numbers = either (is_shifted class) (add_each (negated (least_of numbers)) numbers) (gives numbers)

-- the numbers and what the start lacks
abbrev pub lifted_fold : System → Class → Problem → List Ratio → Result (List Ratio) Wide → Type 0
lifted_fold lts class problem numbers = either (is_lifted class problem) (add_each (lift_of lts class numbers) numbers) (gives numbers)

-- the numbers, moved and then lifted
abbrev pub shift_fold : System → Class → Problem → List Ratio → Result (List Ratio) Wide → Type 0
shift_fold lts class problem numbers = do
  moved ← moved_fold class numbers
  lifted_fold lts class problem moved

-- what a label with this effect takes, if no more is asked of it
abbrev pub taken_by_effect : ℤ → ℤ
taken_by_effect e = if int_lt e (pos 0) then neg_ℤ e else pos 0

-- what label u takes from the place: the event's label as much as stops it
abbrev pub taken : System → Class → Problem → List Ratio → List Ratio → ℕ → ℤ
taken lts class (Event s t) numbers effects u =
    if not (u == t) then taken_by_effect (top_at effects u)
    else (if class.pure then neg_ℤ (top_at effects u)
    else (if class.plain then pos 1
    else (least_of (map (ratio_at numbers) (states_with lts t))).top))
taken lts class (States s s') numbers effects u = taken_by_effect (top_at effects u)

abbrev pub place_of : System → List Ratio → List ℤ → List ℤ → Place
place_of lts numbers pre post = record { start = unsigned_abs (top_at numbers lts.initial); pre = map unsigned_abs pre; post = map unsigned_abs post }

-- what each label takes from the place
abbrev pub pre_of : System → Class → Problem → List Ratio → List Ratio → List ℤ
pre_of lts class problem numbers effects = map (taken lts class problem numbers effects) (all_numbers (labels lts))

-- what label u puts into the place: what it takes, and its effect
abbrev pub put_fold : System → Class → Problem → List Ratio → List Ratio → ℕ → Result ℤ Wide → Type 0
put_fold lts class problem numbers effects u = whole_sum (taken lts class problem numbers effects u) (top_at effects u)

-- the place of the point that has Start and the values of the free labels
abbrev pub place_fold : Setting → Problem → Ratio → (ℕ → Ratio) → Result Place Wide → Type 0
place_fold s problem start value = do
  effects ← each (effect_fold s.lts s.basis value) (all_numbers (labels s.lts))
  found ← made_whole s.class (effects ++ start ∷ [])
  number ← along_tree (ratio_at found) (λ q. ratio_at found (labels s.lts)) s.tree
  numbers ← shift_fold s.lts s.class problem (map number (all_numbers (states s.lts)))
  post ← each (put_fold s.lts s.class problem numbers found) (all_numbers (labels s.lts))
  gives (place_of s.lts numbers (pre_of s.lts s.class problem numbers found) post)
