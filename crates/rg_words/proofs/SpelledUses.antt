-- The uses of labels in a text without a fault.
use Rattle.std.proofs.Common.{◌≡◌, ℕ, suc, ◌<◌, ◌≤◌, ◌==◌, Bool, true, false, cond, not, nat_lt, List, [], ◌∷◌, ◌++◌, length, filter, Contains}
use Rattle.std.proofs.Common.{Option, None, Some, refl, sym, ap, subst, ◌∙◌, arith, append_assoc, append-nil}
use Rattle.std.specs.List.{AllByRecursion, flat_map, slice_split}
use Rattle.std.proofs.lemmas.Bool.Decides.{nat_tests}
use Rattle.std.proofs.lemmas.List.Elements.{Contains-append_left, Contains-append_right}
use Rattle.std.proofs.lemmas.List.Sums.{prefix_len_passes}
use Rattle.std.proofs.lemmas.Bool.{ltb-false}
use Rattle.rg_text.specs.Byte.{is_name_byte, is_blank_byte, IsName}
use Rattle.rg_text.specs.Faults.{faults_after, IsFirst, AreNone}
use Rattle.rg_text.specs.Limits.{most_name_bytes}
use Rattle.rg_theory.specs.Limits.{most_states, most_labels}
use Rattle.rg_line_formats.specs.Numbered.{Line}
use Rattle.rg_line_formats.specs.Words.{words}
use Rattle.rg_words.specs.declared.fault.WordFault.{WordFault}
use Rattle.rg_words.specs.declared.fault.WordFault.TheVariants.{BadByte, TooManyStates, TooManyLabels, LongName, NoMemory}
use Rattle.rg_words.specs.Contents.{Word, Use, begins_with_hash, word_of, uses_from, prefix, prefixes, label_names, name_bytes, fault_of, use_fault}
use Rattle.rg_words.specs.Reading.{uses_of}

-- lists
both : {X : Type 0} (P : X → Type 0) (xs ys : List X) → AllByRecursion P xs → AllByRecursion P ys → AllByRecursion P (xs ++ ys)
both P [] ys a b = b
both P (x ∷ xs) ys a b = (a.0, both P xs ys a.1 b)

-- each label has a byte
abbrev HasByte : List ℕ → Type 0
HasByte label = 0 < length label

not_empty : (n : ℕ) → not (n == 0) ≡ true → 0 < n
not_empty n e = grind (arith, nat_tests)

filtered : (all : List (List ℕ)) → AllByRecursion HasByte (filter (λ word. not (length word == 0)) all)
filtered [] = tt
filtered (word ∷ all) = by (not (length word == 0)) refl (filtered all)
  where
    by : (b : Bool) → not (length word == 0) ≡ b → AllByRecursion HasByte (filter (λ w. not (length w == 0)) all)
        → AllByRecursion HasByte (cond b (word ∷ filter (λ w. not (length w == 0)) all) (filter (λ w. not (length w == 0)) all))
    by true e more = (not_empty (length word) e, more)
    by false e more = more

in_word : (all : List (List ℕ)) → AllByRecursion HasByte all → AllByRecursion HasByte (word_of all)
in_word [] has = tt
in_word (first ∷ more) has = by (begins_with_hash first)
  where
    by : (b : Bool) → AllByRecursion HasByte (cond b [] (first ∷ more))
    by true = tt
    by false = has

abbrev pub IsSome : Use → Type 0
IsSome u = 0 < length u.label

some_from : (n : ℕ) (before labels : Word) → AllByRecursion HasByte labels → AllByRecursion IsSome (uses_from n before labels)
some_from n before [] has = tt
some_from n before (label ∷ labels) has = (has.0, some_from n (before ++ label ∷ []) labels has.1)

pub uses_some : (lines : List Line) → AllByRecursion IsSome (flat_map uses_of lines)
uses_some [] = tt
uses_some (line ∷ lines) =
    both IsSome (uses_of line) (flat_map uses_of lines)
    (some_from line.0 [] (word_of (words line.1)) (in_word (words line.1) (filtered (slice_split is_blank_byte line.1))))
    (uses_some lines)

-- what stands before a label is the empty word or a prefix
abbrev pub IsKnown : List Word → Use → Type 0
IsKnown states u = Contains states u.before

known_from : (states : List Word) (n : ℕ) (before labels : Word) → Contains states before
    → ((u : Use) → Contains (uses_from n before labels) u → Contains states (prefix u)) → AllByRecursion (IsKnown states) (uses_from n before labels)
known_from states n before [] here all = tt
known_from states n before (label ∷ labels) here all = (
  here,
  known_from states n (before ++ label ∷ []) labels (all (record { line = n; before = before; label = label }) (0, omega arith, refl))
      (λ u has. all u (later has)),
)
  where
    later : {u : Use} → Contains (uses_from n (before ++ label ∷ []) labels) u → Contains (uses_from n before (label ∷ labels)) u
    later (k, lt, e) = (suc k, omega arith, e)

pub uses_known : (states : List Word) (lines : List Line) → Contains states []
    → ((u : Use) → Contains (flat_map uses_of lines) u → Contains states (prefix u)) → AllByRecursion (IsKnown states) (flat_map uses_of lines)
uses_known states [] empty all = tt
uses_known states (line ∷ lines) empty all =
    both (IsKnown states) (uses_of line) (flat_map uses_of lines)
    (known_from states line.0 [] (word_of (words line.1)) empty (λ u has. all u (Contains-append_left (uses_of line) (flat_map uses_of lines) u has)))
    (uses_known states lines empty (λ u has. all u (Contains-append_right (uses_of line) (flat_map uses_of lines) u has)))

-- what it is for a label to have no fault
pub record IsRight (label : List ℕ) (all : List Use) : Type 0 where
  pub short : name_bytes label ≤ most_name_bytes
  pub whole : length label ≤ name_bytes label
  pub few_labels : length (label_names all) ≤ most_labels
  pub few_states : length (prefixes all) ≤ most_states

right_of : (n : ℕ) (label : List ℕ) (all : List Use) → fault_of n label all ≡ None → IsRight label all
right_of n label all none =
    by (nat_lt most_name_bytes (name_bytes label)) (nat_lt (name_bytes label) (length label)) (nat_lt most_labels (length (label_names all)))
    (nat_lt most_states (length (prefixes all))) refl refl refl refl none
  where
    by : (p q r s : Bool) → nat_lt most_name_bytes (name_bytes label) ≡ p → nat_lt (name_bytes label) (length label) ≡ q
        → nat_lt most_labels (length (label_names all)) ≡ r → nat_lt most_states (length (prefixes all)) ≡ s
        → cond p (Some (LongName n)) (cond q (Some (BadByte n)) (cond r (Some (TooManyLabels n)) (cond s (Some (TooManyStates n)) None))) ≡ None → IsRight label all
    by true q r s a b c d none = absurd cc
    by false true r s a b c d none = absurd cc
    by false false true s a b c d none = absurd cc
    by false false false true a b c d none = absurd cc
    by false false false false a b c d none = record {
      short = ltb-false most_name_bytes (name_bytes label) a;
      whole = ltb-false (name_bytes label) (length label) b;
      few_labels = ltb-false most_labels (length (label_names all)) c;
      few_states = ltb-false most_states (length (prefixes all)) d;
    }

pub other_fault : (n : ℕ) (label : List ℕ) (all : List Use) → fault_of n label all ≡ Some NoMemory → ⊥
other_fault n label all e =
    by (nat_lt most_name_bytes (name_bytes label)) (nat_lt (name_bytes label) (length label)) (nat_lt most_labels (length (label_names all)))
    (nat_lt most_states (length (prefixes all))) e
  where
    by : (p q r s : Bool)
        → cond p (Some (LongName n)) (cond q (Some (BadByte n)) (cond r (Some (TooManyLabels n)) (cond s (Some (TooManyStates n)) None))) ≡ Some NoMemory → ⊥
    by true q r s e = absurd cc
    by false true r s e = absurd cc
    by false false true s e = absurd cc
    by false false false true e = absurd cc
    by false false false false e = absurd cc

none_head : (before : List Use) (u : Use) (more : List Use) → AreNone (faults_after use_fault before (u ∷ more))
    → (use_fault before u ≡ None) × AreNone (faults_after use_fault (before ++ u ∷ []) more)
none_head before u more none = by (use_fault before u) refl none
  where
    by : (o : Option WordFault) → use_fault before u ≡ o → AreNone (o ∷ faults_after use_fault (before ++ u ∷ []) more)
        → (use_fault before u ≡ None) × AreNone (faults_after use_fault (before ++ u ∷ []) more)
    by None e rest = (e, rest)
    by (Some f) e rest = absurd rest

-- labels of name bytes alone, and not too many of them
abbrev pub IsWhole : Use → Type 0
IsWhole u = (length u.label ≤ most_name_bytes) × (length u.label ≤ name_bytes u.label)

pub uses_whole : (before more : List Use) → AreNone (faults_after use_fault before more) → AllByRecursion IsWhole more
uses_whole before [] none = tt
uses_whole before (u ∷ more) none =
    let head = none_head before u more none in
    let right = right_of u.line u.label (before ++ u ∷ []) head.0 in
    ((omega (arith, right.short, right.whole), right.whole), uses_whole (before ++ u ∷ []) more head.1)

-- there are few labels and few prefixes
pub record AreFew (all : List Use) : Type 0 where
  pub labels : length (label_names all) ≤ most_labels
  pub states : length (prefixes all) ≤ most_states

pub uses_few : (before more : List Use) → AreFew before → AreNone (faults_after use_fault before more) → AreFew (before ++ more)
uses_few before [] few none = subst AreFew (sym (append-nil before)) few
uses_few before (u ∷ more) few none =
    let head = none_head before u more none in
    let right = right_of u.line u.label (before ++ u ∷ []) head.0 in
    subst AreFew (append_assoc before (u ∷ []) more)
    (uses_few (before ++ u ∷ []) more (record { labels = right.few_labels; states = right.few_states }) head.1)

-- no use is at fault for memory
pub memory_later : (before more : List Use) → IsFirst (faults_after use_fault before more) NoMemory → ⊥
memory_later before [] first = first
memory_later before (u ∷ more) first = by (use_fault before u) refl first (memory_later (before ++ u ∷ []) more)
  where
    by : (o : Option WordFault) → use_fault before u ≡ o → IsFirst (o ∷ faults_after use_fault (before ++ u ∷ []) more) NoMemory
        → (IsFirst (faults_after use_fault (before ++ u ∷ []) more) NoMemory → ⊥) → ⊥
    by None e first rest = rest first
    by (Some f) e first rest = let same : use_fault before u ≡ Some NoMemory = e ∙ ap Some (sym first) in other_fault u.line u.label (before ++ u ∷ []) same

-- the label of a right use is a name
pub label_is_name : (u : Use) → IsSome u → IsWhole u → IsName u.label
label_is_name u some whole = record {
  some = some;
  short = whole.0;
  bytes = λ k d lt. prefix_len_passes is_name_byte u.label k d (omega (arith, whole.1, lt));
}
