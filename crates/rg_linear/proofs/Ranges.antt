-- Where the terms of an exchange fit, so do the new relations.
use Rattle.std.proofs.Common.{◌≡◌, ◌≢◌, ◌⊎◌, ⊎_elim, ℕ, zero, suc, List, [], ◌∷◌, ◌++◌, map, Contains, Some, slice_get, ap, refl, subst, sym, ◌∙◌, inl, inr}
use Rattle.std.specs.Prelude.{ℤ, pos}
use Rattle.std.proofs.lemmas.Option.{same_Some, none-some}
use Rattle.rg_linear.specs.System.{LinearSystem, variables}
use Rattle.rg_linear.specs.Dictionary.{Relation, DictionaryRow, HasDictionary}
use Rattle.rg_integers.specs.declared.term.Wide.{Wide}
use Rattle.rg_integers.specs.Term.{term_value, FitsTerm}
use Rattle.rg_integers.specs.Range.{InRange}
use Rattle.rg_linear.specs.Exchange.{without, exchanged, terms, AllFit, renewed, turned, IsReduced, FitsRelation, SetFits}
use Rattle.rg_integers.proofs.Order.{is_zero_or_not}
use Rattle.rg_linear.proofs.Members.{is_member, equal_or_not, differs, same, Contains-cons_cases, Contains-nil, Contains-without, Contains-exchanged_new, Contains-exchanged_old, exchanged-Contains}
use Rattle.rg_linear.proofs.Unique.{same_relation}
use Rattle.rg_linear.proofs.Reducing.{reduce}
use Rattle.rg_linear.proofs.Exchanging.{turned_row, kept_row, renewed_row, renewed-positive, renewed-over}
use Rattle.rg_linear.proofs.Leaving.{terms-values, turned_reduced}
use Rattle.rg_linear.proofs.Having.{none_past}
use Rattle.rg_integers.proofs.Ranges.{zero_in_range, in_range-neg, in_range-signed, in_range-factor}

fits_reduced : (raw l : Relation) → IsReduced raw l → FitsRelation raw → FitsRelation l
fits_reduced raw l r f = record {
  d = in_range-factor r.factor _ _ r.positive r.d f.d;
  constant = in_range-factor r.factor _ _ r.positive r.constant f.constant;
  coefficients = λ m. in_range-factor r.factor _ _ r.positive (r.coefficients m) (f.coefficients m);
}

fits_turned : (k : Relation) (i j : ℕ) → FitsRelation k → FitsRelation (turned k i j)
fits_turned k i j f = record {
  d = f.coefficients j;
  constant = in_range-neg _ (in_range-signed (k.coefficient j) k.constant f.constant);
  coefficients = λ m. at m (equal_or_not m j) (equal_or_not m i);
}
  where
    at : (m : ℕ) → (m ≡ j) ⊎ (m ≢ j) → (m ≡ i) ⊎ (m ≢ i) → InRange ((turned k i j).coefficient m)
    at m (inl e) _ = rw (e, same j) zero_in_range
    at m (inr ne) (inl e) = rw (differs m j ne, e, same i) (in_range-signed (k.coefficient j) k.d f.d)
    at m (inr ne) (inr ni) = rw (differs m j ne, differs m i ni) (in_range-neg _ (in_range-signed (k.coefficient j) (k.coefficient m) (f.coefficients m)))

-- the values of terms that fit
values_fit : (ts : List Wide) → ((n : ℕ) (t : Wide) → slice_get ts n ≡ Some t → FitsTerm t) → (n : ℕ) (z : ℤ) → slice_get (map term_value ts) n ≡ Some z → InRange z
values_fit [] fit n z e = absurd (none-some z e)
values_fit (t ∷ ts) fit zero z e = subst InRange (same_Some (term_value t) z e) (fit 0 t refl).difference
values_fit (t ∷ ts) fit (suc n) z e = values_fit ts (λ k. fit (suc k)) n z e

at_member : (f : ℕ → ℤ) (y : ℤ) (ms : List ℕ) (m : ℕ) → Contains ms m → (p : ℕ) × (slice_get (map f ms ++ y ∷ []) p ≡ Some (f m))
at_member f y [] m has = absurd (Contains-nil m has)
at_member f y (x ∷ ms) m has = ⊎_elim (λ e. (0, ap (λ z. Some (f z)) e)) (λ there. (let (p, e) = at_member f y ms m there in (suc p, e))) (Contains-cons_cases x m ms has)

at_last : (f : ℕ → ℤ) (y : ℤ) (ms : List ℕ) → (p : ℕ) × (slice_get (map f ms ++ y ∷ []) p ≡ Some y)
at_last f y [] = (0, refl)
at_last f y (x ∷ ms) = let (p, e) = at_last f y ms in (suc p, e)

fits_renewed : (system : LinearSystem) (members : List ℕ) (i j w : ℕ) (k l : Relation) → DictionaryRow system members i k → Contains members j
    → k.coefficient j ≢ pos 0 → DictionaryRow system members w l → w ≢ i → l.coefficient j ≢ pos 0 → AllFit system members i j → FitsRelation (renewed k i j l)
fits_renewed system members i j w k l row member named target other names fit = record {
  d = all 0 (renewed k i j l).d refl;
  constant = all 1 (renewed k i j l).constant refl;
  coefficients = λ m. at m (equal_or_not m i) (equal_or_not m j) (is_member members m);
}
  where
    all : (n : ℕ) (z : ℤ) → slice_get ((renewed k i j l).d ∷ (renewed k i j l).constant ∷ map (renewed k i j l).coefficient (without j members)
        ++ (renewed k i j l).coefficient i ∷ []) n ≡ Some z → InRange z
    all n z e = values_fit (terms members k j l)
        (λ n t here. fit w n t (record { k = k; l = l; pivot = row; target = target; other = other; named = names; here = here })) n z
        (ap (λ zs. slice_get zs n) (terms-values members k i j l row.outside) ∙ e)

    at : (m : ℕ) → (m ≡ i) ⊎ (m ≢ i) → (m ≡ j) ⊎ (m ≢ j) → Contains members m ⊎ ¬ Contains members m → InRange ((renewed k i j l).coefficient m)
    at m (inl e) _ _ = let (p, is) = at_last (renewed k i j l).coefficient ((renewed k i j l).coefficient i) (without j members) in
        subst (λ x. InRange ((renewed k i j l).coefficient x)) (sym e) (all (suc (suc p)) _ is)
    at m (inr ni) (inr nj) (inl has) = let (p, is) =
        at_member (renewed k i j l).coefficient ((renewed k i j l).coefficient i) (without j members) m (Contains-without j m members has nj) in all (suc (suc p)) _ is
    at m (inr ni) (inl e) _ = gone (λ has. ⊎_elim (λ is. ni (sym is)) (λ old. old.1 e) (exchanged-Contains i j m members has))
      where
        gone : ¬ Contains (exchanged members i j) m → InRange ((renewed k i j l).coefficient m)
        gone lacks = subst InRange (sym (renewed-over system members i j k row member named w l target other m lacks)) zero_in_range
    at m (inr ni) (inr nj) (inr absent) = gone (λ has. ⊎_elim (λ is. ni (sym is)) (λ old. absent old.0) (exchanged-Contains i j m members has))
      where
        gone : ¬ Contains (exchanged members i j) m → InRange ((renewed k i j l).coefficient m)
        gone lacks = subst InRange (sym (renewed-over system members i j k row member named w l target other m lacks)) zero_in_range

-- relations in range stay in range where no term passes
pub exchanged_fits : (system : LinearSystem) (members : List ℕ) (i j : ℕ) (k : Relation) → HasDictionary system members
    → DictionaryRow system members i k → Contains members j → k.coefficient j ≢ pos 0 → AllFit system members i j → SetFits system members
    → SetFits system (exchanged members i j)
exchanged_fits system members i j k has row member named fit fits w l target = at (equal_or_not w j) (equal_or_not w i) (is_member members w)
  where
    is_that : (l' : Relation) → DictionaryRow system (exchanged members i j) w l' → FitsRelation l' → FitsRelation l
    is_that l' row' f = subst FitsRelation (same_relation system (exchanged members i j) w l' l row' target) f

    leaving : w ≡ j → FitsRelation l
    leaving e = is_that (turned k i j) (subst (λ x. DictionaryRow system (exchanged members i j) x (turned k i j)) (sym e)
        (turned_row system members i j k row member named (turned k i j) (turned_reduced system members i j k row member))) (fits_turned k i j (fits i k row))

    old : w ≢ i → (l₀ : Relation) → DictionaryRow system members w l₀ → (l₀.coefficient j ≡ pos 0) ⊎ (l₀.coefficient j ≢ pos 0) → FitsRelation l
    old other l₀ row₀ (inl e) = is_that l₀ (kept_row system members i j k row member named w l₀ row₀ other e) (fits w l₀ row₀)
    old other l₀ row₀ (inr ne) =
        let (l', r) = reduce (renewed k i j l₀) (variables system) (renewed-positive system members i j k row member named w l₀ row₀ other)
        (none_past system (exchanged members i j) (renewed k i j l₀) target.free (renewed-over system members i j k row member named w l₀ row₀ other)) in
        is_that l' (renewed_row system members i j k row member named w l₀ row₀ other l' r)
        (fits_reduced (renewed k i j l₀) l' r (fits_renewed system members i j w k l₀ row member named row₀ other ne fit))

    at : (w ≡ j) ⊎ (w ≢ j) → (w ≡ i) ⊎ (w ≢ i) → Contains members w ⊎ ¬ Contains members w → FitsRelation l
    at (inl e) _ _ = leaving e
    at (inr nj) (inl e) _ = absurd (target.outside (subst (Contains (exchanged members i j)) (sym e) (Contains-exchanged_new i j members)))
    at (inr nj) (inr ni) (inl there) = absurd (target.outside (Contains-exchanged_old i j w members there nj))
    at (inr nj) (inr ni) (inr lacks) = let (l₀, row₀) = has.rows w target.variable lacks in old ni l₀ row₀ (is_zero_or_not (l₀.coefficient j))
