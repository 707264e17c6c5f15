-- The words of lines that are written out.
use Rattle.std.proofs.Common.{◌≡◌, ℕ, ◌==◌, Bool, true, false, not, ◌||◌, List, [], ◌∷◌, ◌++◌, length, filter, codes, refl, sym, ap, subst, ◌∙◌, append-nil, arith}
use Rattle.std.specs.List.{flat_map, list_all, list_any, slice_split, onto_first}
use Rattle.std.specs.Cmp.Derive.{both_true}
use Rattle.std.proofs.lemmas.Bool.{and_parts, or_parts, not-true, cond-true}
use Rattle.std.proofs.lemmas.Bool.Decides.{nat_tests}
use Rattle.std.proofs.lemmas.List.Folds.{list_all-append}
use Rattle.std.proofs.lemmas.List.Splits.{slice_split-cons_yes, slice_split-cons_no}
use Rattle.std.proofs.lemmas.List.Sums.{list_all-from_AllPass}
use Rattle.rg_text.specs.Byte.{is_name_byte, is_blank_byte, IsName}
use Rattle.rg_text.specs.Line.{is_feed, lines}
use Rattle.rg_line_formats.specs.Words.{words}
use Rattle.rg_genet.specs.Form.{uncommented, apart, tokens, is_named}
use Rattle.rg_genet.specs.Contents.{Triple, is_long}
use Rattle.rg_genet.specs.Text.{triple_text, labels_text}
use Rattle.rg_genet.proofs.BodySteps.{first_no}

-- no `#`, and no brace
abbrev pub is_no_hash : ℕ → Bool
is_no_hash b = not (b == 35)

abbrev pub is_no_brace : ℕ → Bool
is_no_brace b = not ((b == 123) || (b == 125))

pub whole_line : (line : List ℕ) → list_all is_no_hash line ≡ true → uncommented line ≡ line
whole_line [] e = refl
whole_line (b ∷ line) e =
    let h = and_parts (is_no_hash b) (list_all is_no_hash line) e in
    first_no (λ b. b == 35) b line (not-true (b == 35) h.0) ∙ ap (λ l. b ∷ l) (whole_line line h.1)

pub stays_apart : (line rest : List ℕ) → list_all is_no_brace line ≡ true → flat_map apart (line ++ rest) ≡ line ++ flat_map apart rest
stays_apart [] rest e = refl
stays_apart (b ∷ line) rest e =
    let h = and_parts (is_no_brace b) (list_all is_no_brace line) e in
    let here : apart b ≡ b ∷ [] = rw (not-true ((b == 123) || (b == 125)) h.0) refl in
    ap (λ l. l ++ flat_map apart (line ++ rest)) here ∙ ap (λ l. b ∷ l) (stays_apart line rest h.1)

pub all_apart : (line : List ℕ) → list_all is_no_brace line ≡ true → flat_map apart line ≡ line
all_apart line e = ap (flat_map apart) (sym (append-nil line)) ∙ stays_apart line [] e ∙ append-nil line

-- a part up to a byte at which a list is cut
pub first_part : (p : ℕ → Bool) (part rest : List ℕ) (b : ℕ) → list_any p part ≡ false → p b ≡ true → slice_split p (part ++ b ∷ rest) ≡ part ∷ slice_split p rest
first_part p [] rest b none told = slice_split-cons_yes p b rest told
first_part p (x ∷ part) rest b none told =
    let h = or_parts (p x) (list_any p part) none in
    slice_split-cons_no p x (part ++ b ∷ rest) h.0 ∙ ap (onto_first x) (first_part p part rest b h.1 told)

last_part : (p : ℕ → Bool) (part : List ℕ) → list_any p part ≡ false → slice_split p part ≡ part ∷ []
last_part p [] none = refl
last_part p (x ∷ part) none =
    let h = or_parts (p x) (list_any p part) none in
    slice_split-cons_no p x part h.0 ∙ ap (onto_first x) (last_part p part h.1)

-- a word, with some bytes and no blank ones
pub record IsWord (word : List ℕ) : Type 0 where
  pub some : not (length word == 0) ≡ true
  pub solid : list_any is_blank_byte word ≡ false

pub first_word : (word rest : List ℕ) → IsWord word → words (word ++ 32 ∷ rest) ≡ word ∷ words rest
first_word word rest is =
    ap (filter (λ w. not (length w == 0))) (first_part is_blank_byte word rest 32 is.solid refl)
    ∙ cond-true (not (length word == 0)) _ _ is.some

pub one_word : (word : List ℕ) → IsWord word → words word ≡ word ∷ []
one_word word is =
    ap (filter (λ w. not (length w == 0))) (last_part is_blank_byte word is.solid)
    ∙ cond-true (not (length word == 0)) _ _ is.some

-- a name byte is none that isn't
name_other : (b c : ℕ) → is_name_byte b ≡ true → is_name_byte c ≡ false → (b == c) ≡ false
name_other b c told not_told = by (b == c) refl
  where
    by : (t : Bool) → (b == c) ≡ t → (b == c) ≡ false
    by false e = e
    by true e =
        let same : b ≡ c = grind (arith, nat_tests) in
        let wrong = subst (λ n. is_name_byte n ≡ true) same told in
        absurd cc

name_hash : (b : ℕ) → is_name_byte b ≡ true → is_no_hash b ≡ true
name_hash b told = ap not (name_other b 35 told refl)

name_brace : (b : ℕ) → is_name_byte b ≡ true → is_no_brace b ≡ true
name_brace b told = λ i. not (name_other b 123 told refl i || name_other b 125 told refl i)

name_blank : (b : ℕ) → is_name_byte b ≡ true → is_blank_byte b ≡ false
name_blank b told = λ i. (name_other b 32 told refl i || name_other b 9 told refl i) || (name_other b 13 told refl i || name_other b 10 told refl i)

all_weaker : (p q : ℕ → Bool) → ((b : ℕ) → p b ≡ true → q b ≡ true) → (text : List ℕ) → list_all p text ≡ true → list_all q text ≡ true
all_weaker p q weak [] e = refl
all_weaker p q weak (b ∷ text) e =
    let h = and_parts (p b) (list_all p text) e in both_true (weak b h.0) (all_weaker p q weak text h.1)

none_weaker : (p q : ℕ → Bool) → ((b : ℕ) → p b ≡ true → q b ≡ false) → (text : List ℕ) → list_all p text ≡ true → list_any q text ≡ false
none_weaker p q weak [] e = refl
none_weaker p q weak (b ∷ text) e =
    let h = and_parts (p b) (list_all p text) e in λ i. weak b h.0 i || none_weaker p q weak text h.1 i

-- what a name is as a word
pub record IsNamed (name : List ℕ) : Type 0 where
  pub no_hash : list_all is_no_hash name ≡ true
  pub no_brace : list_all is_no_brace name ≡ true
  pub word : IsWord name
  pub no_feed : list_any is_feed name ≡ false
  pub named : is_named name ≡ true
  pub short : is_long name ≡ false

some_bytes : (name : List ℕ) → IsName name → not (length name == 0) ≡ true
some_bytes name is = let some = is.some in grind (arith, nat_tests)

short_bytes : (name : List ℕ) → IsName name → is_long name ≡ false
short_bytes name is = let short = is.short in grind (arith, nat_tests)

pub named_of : (name : List ℕ) → IsName name → IsNamed name
named_of name is =
    let all = list_all-from_AllPass is_name_byte name is.bytes in
    record {
      no_hash = all_weaker is_name_byte is_no_hash name_hash name all;
      no_brace = all_weaker is_name_byte is_no_brace name_brace name all;
      word = record { some = some_bytes name is; solid = none_weaker is_name_byte is_blank_byte name_blank name all };
      no_feed = none_weaker is_name_byte is_feed (λ b told. name_other b 10 told refl) name all;
      named = both_true (some_bytes name is) all;
      short = short_bytes name is;
    }

joined_all : (p : ℕ → Bool) (xs ys : List ℕ) → list_all p xs ≡ true → list_all p ys ≡ true → list_all p (xs ++ ys) ≡ true
joined_all p xs ys e f = list_all-append p xs ys ∙ both_true e f

pub joined_none : (p : ℕ → Bool) (xs ys : List ℕ) → list_any p xs ≡ false → list_any p ys ≡ false → list_any p (xs ++ ys) ≡ false
joined_none p [] ys e f = f
joined_none p (x ∷ xs) ys e f =
    let h = or_parts (p x) (list_any p xs) e in λ i. h.0 i || joined_none p xs ys h.1 f i

-- the three names of an arc
pub record AreNamed (t : Triple) : Type 0 where
  pub from : IsNamed t.from
  pub label : IsNamed t.label
  pub to : IsNamed t.to

all_three : (p : ℕ → Bool) (t : Triple) → p 32 ≡ true → list_all p t.from ≡ true → list_all p t.label ≡ true → list_all p t.to ≡ true → list_all p (triple_text t) ≡ true
all_three p t blank a b c =
    joined_all p t.from (32 ∷ (t.label ++ 32 ∷ t.to)) a (both_true blank (joined_all p t.label (32 ∷ t.to) b (both_true blank c)))

pub triple_tokens : (t : Triple) → AreNamed t → tokens (triple_text t) ≡ t.from ∷ t.label ∷ t.to ∷ []
triple_tokens t are =
    ap (λ l. words (flat_map apart l)) (whole_line (triple_text t) (all_three is_no_hash t refl are.from.no_hash are.label.no_hash are.to.no_hash))
    ∙ ap words (all_apart (triple_text t) (all_three is_no_brace t refl are.from.no_brace are.label.no_brace are.to.no_brace))
    ∙ first_word t.from (t.label ++ 32 ∷ t.to) are.from.word
    ∙ ap (λ l. t.from ∷ l) (first_word t.label t.to are.label.word ∙ ap (λ l. t.label ∷ l) (one_word t.to are.to.word))

pub triple_feed : (t : Triple) → AreNamed t → list_any is_feed (triple_text t) ≡ false
triple_feed t are =
    joined_none is_feed t.from (32 ∷ (t.label ++ 32 ∷ t.to)) are.from.no_feed (joined_none is_feed t.label (32 ∷ t.to) are.label.no_feed are.to.no_feed)

-- the line of the marking
abbrev pub mark_text : List ℕ → List ℕ
mark_text name = codes ".marking {" ++ (name ++ codes "}")

pub mark_tokens : (name : List ℕ) → IsNamed name → tokens (mark_text name) ≡ codes ".marking" ∷ codes "{" ∷ name ∷ codes "}" ∷ []
mark_tokens name is =
    let unspoilt = joined_all is_no_hash (codes ".marking {") (name ++ codes "}") refl (joined_all is_no_hash name (codes "}") is.no_hash refl) in
    let spread : flat_map apart (mark_text name) ≡ codes ".marking  { " ++ (name ++ codes " } ") = ap (λ l. codes ".marking  { " ++ l) (stays_apart name (codes "}") is.no_brace) in
    let cut : words (codes ".marking  { " ++ (name ++ codes " } ")) ≡ codes ".marking" ∷ codes "{" ∷ name ∷ codes "}" ∷ [] =
    ap (λ l. codes ".marking" ∷ codes "{" ∷ l) (first_word name (codes "} ") is.word) in
    ap (λ l. words (flat_map apart l)) (whole_line (mark_text name) unspoilt) ∙ ap words spread ∙ cut

pub mark_feed : (name : List ℕ) → IsNamed name → list_any is_feed (mark_text name) ≡ false
mark_feed name is = joined_none is_feed (codes ".marking {") (name ++ codes "}") refl (joined_none is_feed name (codes "}") is.no_feed refl)

-- names, each one as a word
abbrev pub AllNamed : List (List ℕ) → Type 0
AllNamed [] = Unit {0}
AllNamed (name ∷ names) = IsNamed name × AllNamed names

all_labels : (p : ℕ → Bool) → p 32 ≡ true → (names : List (List ℕ)) → ((name : List ℕ) → IsNamed name → list_all p name ≡ true) → AllNamed names → list_all p (labels_text names) ≡ true
all_labels p blank [] each are = refl
all_labels p blank (name ∷ names) each are =
    joined_all p (32 ∷ name) (labels_text names) (both_true blank (each name are.0)) (all_labels p blank names each are.1)

pub labels_feed : (names : List (List ℕ)) → AllNamed names → list_any is_feed (labels_text names) ≡ false
labels_feed [] are = refl
labels_feed (name ∷ names) are = joined_none is_feed (32 ∷ name) (labels_text names) are.0.no_feed (labels_feed names are.1)

-- the line of the labels begins with `.outputs`
pub outputs_tokens : (names : List (List ℕ)) → AllNamed names → (more : List (List ℕ)) × (tokens (codes ".outputs" ++ labels_text names) ≡ codes ".outputs" ∷ more)
outputs_tokens names are =
    let unspoilt = joined_all is_no_hash (codes ".outputs") (labels_text names) refl (all_labels is_no_hash refl names (λ name is. is.no_hash) are) in
    let alone = joined_all is_no_brace (codes ".outputs") (labels_text names) refl (all_labels is_no_brace refl names (λ name is. is.no_brace) are) in
    let whole : tokens (codes ".outputs" ++ labels_text names) ≡ words (codes ".outputs" ++ labels_text names) =
    ap (λ l. words (flat_map apart l)) (whole_line (codes ".outputs" ++ labels_text names) unspoilt) ∙ ap words (all_apart (codes ".outputs" ++ labels_text names) alone) in
    by names whole
  where
    by : (rest : List (List ℕ)) → tokens (codes ".outputs" ++ labels_text names) ≡ words (codes ".outputs" ++ labels_text rest)
        → (more : List (List ℕ)) × (tokens (codes ".outputs" ++ labels_text names) ≡ codes ".outputs" ∷ more)
    by [] e = ([], e)
    by (name ∷ rest) e = (words (name ++ labels_text rest), e)

-- a line and what follows its feed
pub first_line : (line rest : List ℕ) → list_any is_feed line ≡ false → lines (line ++ 10 ∷ rest) ≡ line ∷ lines rest
first_line line rest none = first_part is_feed line rest 10 none refl
