-- What lines are like can be decided.
use Rattle.std.proofs.Common.{◌≡◌, ◌≢◌, ◌⊎◌, inl, inr, ⊎_elim, ℕ, zero, suc, ◌<◌, ◌≤◌, ◌^◌, Bool, true, false, List, [], ◌∷◌, ◌++◌, length, get_or, Contains, ℤ, pos, negsuc, nat_abs, refl, ap, subst, ◌∙◌, arith}
use Rattle.std.specs.List.{list_all}
use Rattle.std.specs.Char.{is_ascii_digit}
use Rattle.std.proofs.lemmas.Bool.{cases_lt, cases_eq}
use Rattle.std.proofs.lemmas.List.Sums.{AllPass-from_list_all, list_all-from_AllPass}
use Rattle.std.proofs.lemmas.List.Elements.{All-cons, All-nil}
use Rattle.rg_text.specs.Byte.{IsName, is_name_byte}
use Rattle.rg_theory.specs.System.{System}
use Rattle.rg_theory.specs.declared.Class.{Class}
use Rattle.rg_theory.specs.ClassWords.{NamesClass}
use Rattle.rg_theory.proofs.ClassTold.{one_class}
use Rattle.rg_theory.proofs.ClassDecided.{Decided, same_bytes, class_of_text}
use Rattle.rg_cert.specs.Text.{Version, version_one, version_two, class_version}
use Rattle.rg_cert.specs.Numerals.{IsPlain, IsNumeral}
use Rattle.rg_cert.specs.Lines.{Range, multiplier, split_value, depth, IsIn, Field, word, one_of, class_words, state, label, number, HasFieldForm, IsFieldInRange, IsFieldKnown, AreAsked}
use Rattle.rg_cert.proofs.Cuts.{Lacks}
use Rattle.rg_cert.proofs.Decimal.{one_number}
use Rattle.rg_cert.proofs.Digits.{plain_numeral, minus_numeral, after_minus}

test_decided : (b : Bool) → Decided (b ≡ true)
test_decided true = inl refl
test_decided false = inr (λ e. absurd cc)

plain_decided : (digits : List ℕ) → Decided (IsPlain digits)
plain_decided digits = by (cases_lt 0 (length digits)) (test_decided (list_all is_ascii_digit digits)) (cases_eq (get_or digits 0 0) 48) (cases_eq (length digits) 1)
  where
    by : (0 < length digits) ⊎ (length digits ≤ 0) → Decided (list_all is_ascii_digit digits ≡ true)
        → (get_or digits 0 0 ≡ 48) ⊎ (get_or digits 0 0 ≡ 48 → ⊥) → (length digits ≡ 1) ⊎ (length digits ≡ 1 → ⊥)
        → Decided (IsPlain digits)
    by (inr none) each first one = inr (λ is. let some = is.some in absurd (omega arith))
    by (inl some) (inr other) first one = inr (λ is. other is.each)
    by (inl some) (inl each) (inr first) one = inl (record { some = some; each = each; first = λ e. absurd (first e) })
    by (inl some) (inl each) (inl first) (inl one) = inl (record { some = some; each = each; first = λ e. one })
    by (inl some) (inl each) (inl first) (inr one) = inr (λ is. one (is.first first))

numeral_decided : (text : List ℕ) → Decided ((z : ℤ) × IsNumeral text z)
numeral_decided [] = inr (λ (z, is). none z is)
  where
    none : (z : ℤ) → IsNumeral [] z → ⊥
    none z (inl (plain, value)) = let some = plain.some in absurd (omega arith)
    none z (inr minus) = let is : ◌≡◌ {A = List ℕ} [] (45 ∷ minus.0) = minus.1 in absurd cc
numeral_decided (c ∷ digits) = by (cases_eq c 45) (plain_decided digits) (same_bytes digits (48 ∷ [])) (plain_decided (c ∷ digits))
  where
    whole : (z : ℤ) → (c ≡ 45 → ⊥) → IsNumeral (c ∷ digits) z → IsPlain (c ∷ digits)
    whole z other (inl (plain, value)) = plain
    whole z other (inr minus) = let is : c ∷ digits ≡ 45 ∷ minus.0 = minus.1 in let first : c ≡ 45 = cc in absurd (other first)

    by : (c ≡ 45) ⊎ (c ≡ 45 → ⊥) → Decided (IsPlain digits) → Decided (digits ≡ 48 ∷ []) → Decided (IsPlain (c ∷ digits)) → Decided ((z : ℤ) × IsNumeral (c ∷ digits) z)
    by (inl minus) (inl plain) (inr other) _ = inl (minus_numeral (c ∷ digits) digits (ap (λ b. b ∷ digits) minus) plain other)
    by (inl minus) (inl plain) (inl none) _ = inr (λ (z, is). (after_minus (c ∷ digits) digits z (ap (λ b. b ∷ digits) minus) is).1 none)
    by (inl minus) (inr plain) other _ = inr (λ (z, is). plain (after_minus (c ∷ digits) digits z (ap (λ b. b ∷ digits) minus) is).0)
    by (inr minus) plain other (inl is) = inl (plain_numeral (c ∷ digits) is)
    by (inr minus) plain other (inr none) = inr (λ (z, is). none (whole z minus is))

name_decided : (text : List ℕ) → Decided (IsName text)
name_decided text = by (cases_lt 0 (length text)) (cases_lt 255 (length text)) (test_decided (list_all is_name_byte text))
  where
    by : (0 < length text) ⊎ (length text ≤ 0) → (255 < length text) ⊎ (length text ≤ 255) → Decided (list_all is_name_byte text ≡ true) → Decided (IsName text)
    by (inr none) long each = inr (λ is. let some = is.some in absurd (omega arith))
    by (inl some) (inl long) each = inr (λ is. let short = is.short in absurd (omega arith))
    by (inl some) (inr short) (inr other) = inr (λ is. other (list_all-from_AllPass is_name_byte text is.bytes))
    by (inl some) (inr short) (inl each) = inl (record { some = some; short = short; bytes = AllPass-from_list_all is_name_byte text each })

range_decided : (range : Range) (z : ℤ) → Decided (IsIn range z)
range_decided multiplier z = ⊎_elim (λ within. inl (omega (arith, within))) (λ over. inr (λ is. omega (arith, over, is))) (cases_lt (nat_abs z) (2 ^ 127))
range_decided split_value z = ⊎_elim (λ within. inl within) (λ over. inr (λ is. omega (arith, over, is))) (cases_lt (nat_abs z) (2 ^ 63))
range_decided depth (pos n) = ⊎_elim (λ within. inl (n, refl, within)) (λ over. inr (λ (d, is, less). let same : n ≡ d = cc in absurd (omega arith))) (cases_lt n (2 ^ 32))
range_decided depth (negsuc n) = inr (λ (d, is, less). absurd cc)

contains_decided : (names : List (List ℕ)) (name : List ℕ) → Decided (Contains names name)
contains_decided [] name = inr (λ (k, less, is). absurd (omega arith))
contains_decided (first ∷ names) name = by (same_bytes first name) (contains_decided names name)
  where
    none : (k : ℕ) → (first ≡ name → ⊥) → (Contains names name → ⊥) → k < suc (length names) → get_or (first ∷ names) k name ≡ name → ⊥
    none zero other never less is = other is
    none (suc k) other never less is = never (k, omega arith, is)

    by : Decided (first ≡ name) → Decided (Contains names name) → Decided (Contains (first ∷ names) name)
    by (inl same) more = inl (0, omega arith, same)
    by (inr other) (inl (k, less, is)) = inl (suc k, omega arith, is)
    by (inr other) (inr never) = inr (λ (k, less, is). none k other never less is)

version_decided : (v w : Version) → Decided (v ≡ w)
version_decided version_one version_one = inl refl
version_decided version_one version_two = inr (λ e. absurd cc)
version_decided version_two version_one = inr (λ e. absurd cc)
version_decided version_two version_two = inl refl

class_decided : (version : Version) (text : List ℕ) → Decided ((class : Class) × NamesClass text class) → Decided (HasFieldForm (class_words version) text)
class_decided version text (inr none) = inr (λ (class, named, first). none (class, named))
class_decided version text (inl (class, named)) = by (version_decided (class_version class) version)
  where
    by : Decided (class_version class ≡ version) → Decided (HasFieldForm (class_words version) text)
    by (inl same) = inl (class, named, same)
    by (inr other) = inr (λ (c, is, first). other (ap class_version (one_class text class c named is) ∙ first))

form_decided : (field : Field) (text : List ℕ) → Decided (HasFieldForm field text)
form_decided (word w) text = same_bytes text w
form_decided (one_of words) text = contains_decided words text
form_decided (class_words version) text = class_decided version text (class_of_text text)
form_decided state text = name_decided text
form_decided label text = name_decided text
form_decided (number range) text = numeral_decided text

in_range_decided : (field : Field) (text : List ℕ) → Decided (IsFieldInRange field text)
in_range_decided (word w) text = inl tt
in_range_decided (one_of words) text = inl tt
in_range_decided (class_words version) text = inl tt
in_range_decided state text = inl tt
in_range_decided label text = inl tt
in_range_decided (number range) text = by (numeral_decided text)
  where
    with_number : (z : ℤ) → IsNumeral text z → Decided (IsIn range z) → Decided (IsFieldInRange (number range) text)
    with_number z is (inl within) = inl (z, is, within)
    with_number z is (inr out) = inr (λ (y, is', within). out (subst (IsIn range) (one_number text y z is' is) within))

    by : Decided ((z : ℤ) × IsNumeral text z) → Decided (IsFieldInRange (number range) text)
    by (inl (z, is)) = with_number z is (range_decided range z)
    by (inr none) = inr (λ (z, is, within). none (z, is))

known_decided : (lts : System) (field : Field) (text : List ℕ) → Decided (IsFieldKnown lts field text)
known_decided lts (word w) text = inl tt
known_decided lts (one_of words) text = inl tt
known_decided lts (class_words version) text = inl tt
known_decided lts state text = contains_decided lts.state_names text
known_decided lts label text = contains_decided lts.label_names text
known_decided lts (number range) text = inl tt

asked_decided : (P : Field → List ℕ → Type 0) → ((field : Field) (text : List ℕ) → Decided (P field text)) → (fields : List Field) (texts : List (List ℕ)) → Decided (AreAsked P fields texts)
asked_decided P decides [] [] = inl tt
asked_decided P decides [] (text ∷ texts) = inr (λ are. are)
asked_decided P decides (field ∷ fields) [] = inr (λ are. are)
asked_decided P decides (field ∷ fields) (text ∷ texts) = by (decides field text) (asked_decided P decides fields texts)
  where
    by : Decided (P field text) → Decided (AreAsked P fields texts) → Decided (AreAsked P (field ∷ fields) (text ∷ texts))
    by (inl is) (inl more) = inl (is, more)
    by (inl is) (inr none) = inr (λ are. none are.1)
    by (inr none) more = inr (λ are. none are.0)

pub forms_decided : (fields : List Field) (texts : List (List ℕ)) → Decided (AreAsked HasFieldForm fields texts)
forms_decided fields texts = asked_decided HasFieldForm form_decided fields texts

pub ranges_decided : (fields : List Field) (texts : List (List ℕ)) → Decided (AreAsked IsFieldInRange fields texts)
ranges_decided fields texts = asked_decided IsFieldInRange in_range_decided fields texts

pub names_decided : (lts : System) (fields : List Field) (texts : List (List ℕ)) → Decided (AreAsked (IsFieldKnown lts) fields texts)
names_decided lts fields texts = asked_decided (IsFieldKnown lts) (known_decided lts) fields texts

-- a text has a first line, or no line feed
pub record IsCut (c : ℕ) (text : List ℕ) : Type 0 where
  pub line : List ℕ
  pub rest : List ℕ
  pub cut : text ≡ line ++ c ∷ rest
  pub lacks : Lacks c line

pub cut_or_not : (c : ℕ) (text : List ℕ) → IsCut c text ⊎ Lacks c text
cut_or_not c [] = inr (All-nil (λ b. b ≢ c))
cut_or_not c (b ∷ text) = by (cases_eq b c) (cut_or_not c text)
  where
    by : (b ≡ c) ⊎ (b ≡ c → ⊥) → IsCut c text ⊎ Lacks c text → IsCut c (b ∷ text) ⊎ Lacks c (b ∷ text)
    by (inl same) more = inl (record { line = []; rest = text; cut = ap (λ x. x ∷ text) same; lacks = All-nil (λ x. x ≢ c) })
    by (inr other) (inl is) = inl (record { line = b ∷ is.line; rest = is.rest; cut = ap (λ l. b ∷ l) is.cut; lacks = All-cons (λ x. x ≢ c) b is.line other is.lacks })
    by (inr other) (inr none) = inr (All-cons (λ x. x ≢ c) b text other none)
