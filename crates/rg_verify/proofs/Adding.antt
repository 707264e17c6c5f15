-- Terms and rows added to the table, one after another.
use Rattle.std.proofs.Common.{◌≡◌, ℕ, ◌+◌, ◌*◌, ◌<◌, Bool, true, false, if◌then◌else◌, List, [], ◌∷◌, ◌++◌, Option, Some, None, length, take, drop, get_or, All, Contains, refl, sym, subst, ap, ◌∙◌, append-nil, arith, ℤ, pos, ◌+ℤ◌, ◌*ℤ◌, nat_abs}
use Rattle.std.proofs.lemmas.Int.{ints, unsigned_abs-mul}
use Rattle.std.proofs.lemmas.List.{take_more, drop_more, take-append-drop}
use Rattle.std.proofs.lemmas.List.Elements.{All-contains, Contains-append_right}
use Rattle.std.proofs.lemmas.List.Sums.{sum_by-append}
use Rattle.rg_integers.proofs.ListSums.{sum_over-append}
use Rattle.rg_integers.proofs.Ring.{mul-add}
use Rattle.rg_cert_meaning.specs.Expression as linear
use Rattle.rg_cert_meaning.specs.Expression.{same_variable, coefficient_in}
use Rattle.rg_cert_data.specs.declared.term.Term.{Term}
use Rattle.rg_verify.specs.declared.sums.Sum.{Sum}
use Rattle.rg_verify.specs.declared.sums.Sums.{Sums}
use Rattle.rg_verify.specs.Terms.{size_in}
use Rattle.rg_cert_data.specs.Sums.{terms_in, term_of}
use Rattle.rg_verify.specs.Sums.{signed_of, size_of, entry_of, signed_at, size_at, HasEntry, HasSameEntries, AddsTerms, PassesByTerms}
use Rattle.rg_cert_meaning.proofs.Sums.{same_variable_is}
use Rattle.rg_verify.proofs.Tables.{same_entry}
use Rattle.rg_cert_meaning.specs.declared.Variable.{Variable}

-- ---- the terms of a list

pub terms_in-append : (ts us : List (Option Term)) → terms_in (ts ++ us) ≡ terms_in ts ++ terms_in us
terms_in-append [] us = refl
terms_in-append (None ∷ ts) us = terms_in-append ts us
terms_in-append (Some t ∷ ts) us = ap (λ ts. term_of t ∷ ts) (terms_in-append ts us)

pub coefficient_in-append : (ts us : List linear.Term) (v : Variable) → coefficient_in (ts ++ us) v ≡ coefficient_in ts v +ℤ coefficient_in us v
coefficient_in-append ts us v = sum_over-append (λ t. if same_variable t.variable v then t.coefficient else pos 0) ts us

pub size_in-append : (ts us : List linear.Term) (v : Variable) → size_in (ts ++ us) v ≡ size_in ts v + size_in us v
size_in-append ts us v = sum_by-append (λ t. if same_variable t.variable v then nat_abs t.coefficient else 0) ts us

-- ---- one term

-- the entry of the term's variable is another, and all else stays
pub adds_term : (k : ℤ) (t : linear.Term) (number : ℤ) (old mid new : Sums) (before after : Sum) → number ≡ k *ℤ t.coefficient
    → entry_of old t.variable ≡ Some before → after.signed ≡ before.signed +ℤ number → after.size ≡ before.size + nat_abs number
    → HasSameEntries old mid → mid.constant ≡ old.constant
    → ((w : Variable) → entry_of new w ≡ (if same_variable t.variable w then Some after else entry_of mid w)) → new.constant ≡ mid.constant
    → AddsTerms k (t ∷ []) old new
adds_term k t number old mid new before after is was signed size same kept entries constant = record {
  signed = λ w. signed_by w (same_variable t.variable w) refl;
  sizes = λ w. size_by w (same_variable t.variable w) refl;
  constant = constant ∙ kept;
}
  where
    at : (w : Variable) (b : Bool) → same_variable t.variable w ≡ b → entry_of new w ≡ (if b then Some after else entry_of old w)
    at w b e = entries w ∙ ap (λ (c : Bool). if c then Some after else entry_of mid w) e ∙ ap (λ (o : Option Sum). if b then Some after else o) (same_entry old mid w same)

    here : (w : Variable) → same_variable t.variable w ≡ true → entry_of old w ≡ Some before
    here w e = ap (entry_of old) (sym (same_variable_is t.variable w e)) ∙ was

    signed_by : (w : Variable) (b : Bool) → same_variable t.variable w ≡ b → signed_at new w ≡ signed_at old w +ℤ (k *ℤ ((if same_variable t.variable w then t.coefficient else pos 0) +ℤ pos 0))
    signed_by w true e =
        let p = ap signed_of (at w true e) in
        let q = ap signed_of (here w e) in
        let z : t.coefficient +ℤ pos 0 ≡ t.coefficient = omega (arith, ints) in
        rw (e, p, q, z, signed, is) refl
    signed_by w false e =
        let p = ap signed_of (at w false e) in
        rw (e, p) (omega (arith, ints))

    size_by : (w : Variable) (b : Bool) → same_variable t.variable w ≡ b → size_at new w ≡ size_at old w + nat_abs k * size_in (t ∷ []) w
    size_by w true e =
        let p = ap size_of (at w true e) in
        let q = ap size_of (here w e) in
        let m = ap nat_abs is ∙ unsigned_abs-mul k t.coefficient in
        rw (e, p, q) (omega arith)
    size_by w false e =
        let p = ap size_of (at w false e) in
        rw (e, p) (omega arith)

-- ---- more terms

pub adds_none : (k : ℤ) (sums : Sums) → AddsTerms k [] sums sums
adds_none k sums = record { signed = λ v. omega (arith, ints); sizes = λ v. omega arith; constant = refl }

adds_both : (k : ℤ) (ts us : List linear.Term) (a b c : Sums) → AddsTerms k ts a b → AddsTerms k us b c → AddsTerms k (ts ++ us) a c
adds_both k ts us a b c first second = record {
  signed = λ v.
      let p = first.signed v in let q = second.signed v in let e = coefficient_in-append ts us v in
      let m = mul-add k (coefficient_in ts v) (coefficient_in us v) in
      rw (e, m) (omega (arith, ints));
  sizes = λ v.
      let p = first.sizes v in let q = second.sizes v in let e = size_in-append ts us v in
      rw e (omega arith);
  constant = second.constant ∙ first.constant;
}

-- where a sum passes with some of the terms, it does with all
passes_with_all : (k : ℤ) (ts us rest : List linear.Term) (a b : Sums) → AddsTerms k ts a b → PassesByTerms k us b → PassesByTerms k (ts ++ (us ++ rest)) a
passes_with_all k ts us rest a b adds (v, more) =
    let p = adds.sizes v in let e = size_in-append ts (us ++ rest) v in let f = size_in-append us rest v in
    (v, rw (e, f) (omega arith))

-- ---- the terms at places

terms_more : (places : List (Option Term)) (i : ℕ) (d : Option Term) → i < length places → terms_in (take (i + 1) places) ≡ terms_in (take i places) ++ terms_in (get_or places i d ∷ [])
terms_more places i d lt = ap terms_in (take_more places i d lt) ∙ terms_in-append (take i places) (get_or places i d ∷ [])

terms_around : (places : List (Option Term)) (i : ℕ) (d : Option Term) → i < length places
    → terms_in places ≡ terms_in (take i places) ++ (terms_in (get_or places i d ∷ []) ++ terms_in (drop (i + 1) places))
terms_around places i d lt =
    ap terms_in (sym (take-append-drop i places)) ∙ terms_in-append (take i places) (drop i places)
    ∙ ap (λ ts. terms_in (take i places) ++ ts) (ap terms_in (drop_more places i d lt) ∙ terms_in-append (get_or places i d ∷ []) (drop (i + 1) places))

-- where a term stands, the terms before it, the term and those after it
parted : (places : List (Option Term)) (i : ℕ) (d : Option Term) (t : Term) → i < length places → get_or places i d ≡ Some t
    → terms_in places ≡ terms_in (take i places) ++ (term_of t ∷ terms_in (drop (i + 1) places))
parted places i d t lt is = terms_around places i d lt ∙ ap (λ (o : Option Term). terms_in (take i places) ++ (terms_in (o ∷ []) ++ terms_in (drop (i + 1) places))) is

pub term_entry : (sums : Sums) (places : List (Option Term)) (i : ℕ) (d : Option Term) (t : Term) → i < length places → get_or places i d ≡ Some t
    → All (λ u. HasEntry sums u.variable) (terms_in places)
    → HasEntry sums (term_of t).variable
term_entry sums places i d t lt is each =
    let there = Contains-append_right (terms_in (take i places)) (term_of t ∷ terms_in (drop (i + 1) places)) (term_of t) (0, omega arith, refl) in
    All-contains (λ (u : linear.Term). HasEntry sums u.variable) _ (term_of t) each (subst (λ us. Contains us (term_of t)) (sym (parted places i d t lt is)) there)

pub adds_at : (k : ℤ) (places : List (Option Term)) (i : ℕ) (d : Option Term) (t : Term) (a b c : Sums) → i < length places
    → get_or places i d ≡ Some t → AddsTerms k (terms_in (take i places)) a b → AddsTerms k (term_of t ∷ []) b c
    → AddsTerms k (terms_in (take (i + 1) places)) a c
adds_at k places i d t a b c lt is first second =
    let more : terms_in (take (i + 1) places) ≡ terms_in (take i places) ++ (term_of t ∷ []) = terms_more places i d lt ∙ ap (λ (o : Option Term). terms_in (take i places) ++ terms_in (o ∷ [])) is in
    subst (λ ts. AddsTerms k ts a c) (sym more) (adds_both k (terms_in (take i places)) (term_of t ∷ []) a b c first second)

pub adds_past : (k : ℤ) (places : List (Option Term)) (i : ℕ) (d : Option Term) (a b : Sums) → i < length places → get_or places i d ≡ None → AddsTerms k (terms_in (take i places)) a b
    → AddsTerms k (terms_in (take (i + 1) places)) a b
adds_past k places i d a b lt is first =
    let more : terms_in (take (i + 1) places) ≡ terms_in (take i places) ++ [] = terms_more places i d lt ∙ ap (λ (o : Option Term). terms_in (take i places) ++ terms_in (o ∷ [])) is in
    subst (λ ts. AddsTerms k ts a b) (sym (more ∙ append-nil (terms_in (take i places)))) first

pub passes_at : (k : ℤ) (places : List (Option Term)) (i : ℕ) (d : Option Term) (t : Term) (a b : Sums) → i < length places
    → get_or places i d ≡ Some t → AddsTerms k (terms_in (take i places)) a b → PassesByTerms k (term_of t ∷ []) b
    → PassesByTerms k (terms_in places) a
passes_at k places i d t a b lt is first passes =
    subst (λ ts. PassesByTerms k ts a) (sym (parted places i d t lt is)) (passes_with_all k (terms_in (take i places)) (term_of t ∷ []) (terms_in (drop (i + 1) places)) a b first passes)
