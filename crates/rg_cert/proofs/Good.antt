-- The fields of a right line, one by one.
use Rattle.std.proofs.Common.{◌≡◌, ℕ, zero, suc, ◌<◌, List, [], ◌∷◌, length, get_or, Some, slice_get, refl, ap, subst, arith}
use Rattle.rg_theory.specs.System.{System}
use Rattle.rg_cert.specs.Lines.{Field, AreAsked, LineForm, fields_of}
use Rattle.rg_cert.specs.Drafts.{IsGood, IsGoodAt}

-- what is asked of the field at a position
pub asked_at : (P : Field → List ℕ → Type 0) (fields : List Field) (texts : List (List ℕ)) (i : ℕ) (field : Field) → AreAsked P fields texts → slice_get fields i ≡ Some field
    → (i < length texts) × P field (get_or texts i [])
asked_at P [] [] i field are at = absurd cc
asked_at P [] (text ∷ texts) i field are at = absurd are
asked_at P (f ∷ fields) [] i field are at = absurd are
asked_at P (f ∷ fields) (text ∷ texts) zero field are at = let same : f ≡ field = cc in (omega arith, subst (λ g. P g text) same are.0)
asked_at P (f ∷ fields) (text ∷ texts) (suc i) field are at =
    let more = asked_at P fields texts i field are.1 at in (omega (arith, more.0), more.1)

pub good_at : (lts : System) (form : LineForm) (texts : List (List ℕ)) (i : ℕ) (field : Field) → IsGood lts form texts → slice_get (fields_of form) i ≡ Some field
    → IsGoodAt lts texts i field
good_at lts form texts i field good at =
    let forms = asked_at _ (fields_of form) texts i field good.fields at in
    record {
      there = forms.0;
      form = forms.1;
      in_range = (asked_at _ (fields_of form) texts i field good.right.0 at).1;
      known = (asked_at _ (fields_of form) texts i field good.right.1 at).1;
    }

-- texts of so many fields, of which one is a word
pub two_texts : (P : Field → List ℕ → Type 0) (a b : Field) (texts : List (List ℕ)) → AreAsked P (a ∷ b ∷ []) texts → texts ≡ get_or texts 0 [] ∷ get_or texts 1 [] ∷ []
two_texts P a b [] are = absurd are
two_texts P a b (x ∷ []) are = absurd are.1
two_texts P a b (x ∷ y ∷ []) are = refl
two_texts P a b (x ∷ y ∷ z ∷ more) are = absurd are.1.1

pub three_texts : (P : Field → List ℕ → Type 0) (a b c : Field) (texts : List (List ℕ)) → AreAsked P (a ∷ b ∷ c ∷ []) texts
    → texts ≡ get_or texts 0 [] ∷ get_or texts 1 [] ∷ get_or texts 2 [] ∷ []
three_texts P a b c [] are = absurd are
three_texts P a b c (x ∷ texts) are = ap (λ l. x ∷ l) (two_texts P b c texts are.1)

pub four_texts : (P : Field → List ℕ → Type 0) (a b c d : Field) (texts : List (List ℕ)) → AreAsked P (a ∷ b ∷ c ∷ d ∷ []) texts
    → texts ≡ get_or texts 0 [] ∷ get_or texts 1 [] ∷ get_or texts 2 [] ∷ get_or texts 3 [] ∷ []
four_texts P a b c d [] are = absurd are
four_texts P a b c d (x ∷ texts) are = ap (λ l. x ∷ l) (three_texts P b c d texts are.1)

pub five_texts : (P : Field → List ℕ → Type 0) (a b c d e : Field) (texts : List (List ℕ)) → AreAsked P (a ∷ b ∷ c ∷ d ∷ e ∷ []) texts
    → texts ≡ get_or texts 0 [] ∷ get_or texts 1 [] ∷ get_or texts 2 [] ∷ get_or texts 3 [] ∷ get_or texts 4 [] ∷ []
five_texts P a b c d e [] are = absurd are
five_texts P a b c d e (x ∷ texts) are = ap (λ l. x ∷ l) (four_texts P b c d e texts are.1)
