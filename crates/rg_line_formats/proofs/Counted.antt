-- Arcs in order are as many as the different ones of a list with the same members.
use Rattle.std.proofs.Common.{◌≡◌, ◌⊎◌, inl, inr, ⊎_elim, ℕ, ◌+◌, ◌==◌, Bool, true, false, List, [], ◌∷◌, ◌++◌, length, refl, sym, ap, subst, ◌∙◌, arith}
use Rattle.std.specs.List.{fold, list_any}
use Rattle.std.proofs.lemmas.Bool.{cond-true, cond-false, or_cases, or_right}
use Rattle.std.proofs.lemmas.Bool.Decides.{nat_tests}
use Rattle.std.proofs.lemmas.List.{length-append}
use Rattle.rg_theory.specs.declared.Arc.{Arc}
use Rattle.rg_theory.proofs.Arcs.{same_arc_is, same_arc_itself}
use Rattle.rg_lts.proofs.OrderedArcs.{Has, Ordered, one_order, inserted}
use Rattle.rg_line_formats.specs.First.{with_new, firsts, same_arc}

number_itself : (n : ℕ) → (n == n) ≡ true
number_itself n = grind (arith, nat_tests)

pub any_has : (x : Arc) (xs : List Arc) → list_any (same_arc x) xs ≡ true → Has xs x
any_has x [] e = absurd cc
any_has x (y ∷ xs) e = ⊎_elim (λ here. inl (sym (same_arc_is x y here))) (λ later. inr (any_has x xs later)) (or_cases (same_arc x y) (list_any (same_arc x) xs) e)

pub has_any : (x : Arc) (xs : List Arc) → Has xs x → list_any (same_arc x) xs ≡ true
has_any x [] h = absurd h
has_any x (y ∷ xs) (inl e) = rw (ap (same_arc x) e ∙ same_arc_itself x) refl
has_any x (y ∷ xs) (inr h) = or_right (same_arc x y) (list_any (same_arc x) xs) (has_any x xs h)

pub has_both : (x y : Arc) (xs : List Arc) → Has (xs ++ y ∷ []) x → Has xs x ⊎ (y ≡ x)
has_both x y [] (inl e) = inr e
has_both x y [] (inr h) = absurd h
has_both x y (z ∷ xs) (inl e) = inl (inl e)
has_both x y (z ∷ xs) (inr h) = ⊎_elim (λ a. inl (inr a)) (λ b. inr b) (has_both x y xs h)

pub has_left : (x y : Arc) (xs : List Arc) → Has xs x → Has (xs ++ y ∷ []) x
has_left x y [] h = absurd h
has_left x y (z ∷ xs) (inl e) = inl e
has_left x y (z ∷ xs) (inr h) = inr (has_left x y xs h)

pub has_last : (y : Arc) (xs : List Arc) → Has (xs ++ y ∷ []) y
has_last y [] = inl refl
has_last y (z ∷ xs) = inr (has_last y xs)

-- the same arcs in order
pub record Sized (xs zs : List Arc) : Type 0 where
  pub ordered : Ordered zs
  pub to : (c : Arc) → Has zs c → Has xs c
  pub from : (c : Arc) → Has xs c → Has zs c
  pub size : length zs ≡ length xs

pub record Joined (front xs ws : List Arc) : Type 0 where
  pub sized : Sized (fold (with_new same_arc) front xs) ws
  pub to : (c : Arc) → Has ws c → Has front c ⊎ Has xs c
  pub from : (c : Arc) → Has front c ⊎ Has xs c → Has ws c

joined : (front xs zs : List Arc) → Sized front zs → (ws : List Arc) × Joined front xs ws
joined front [] zs s = (zs, record { sized = s; to = λ c h. inl (s.to c h); from = λ c h. ⊎_elim (λ f. s.from c f) (λ n. absurd n) h })
joined front (x ∷ xs) zs s = by (list_any (same_arc x) front) refl (λ more zs' s'. joined more xs zs' s')
  where
    by : (b : Bool) → list_any (same_arc x) front ≡ b → ((more zs' : List Arc) → Sized more zs' → (ws : List Arc) × Joined more xs ws) → (ws : List Arc) × Joined front (x ∷ xs) ws
    by true e go =
        let same : with_new same_arc front x ≡ front = cond-true (list_any (same_arc x) front) front (front ++ x ∷ []) e in
        let r = go front zs s in (
          r.0,
          record {
            sized = subst (λ f. Sized (fold (with_new same_arc) f xs) r.0) (sym same) r.1.sized;
            to = λ c h. ⊎_elim (λ f. inl f) (λ l. inr (inr l)) (r.1.to c h);
            from = λ c h. ⊎_elim (λ f. r.1.from c (inl f))
                (λ l. ⊎_elim (λ is. r.1.from c (inl (subst (Has front) is (any_has x front e)))) (λ k. r.1.from c (inr k)) l) h;
          },
        )
    by false e go =
        let new : with_new same_arc front x ≡ front ++ x ∷ [] = cond-false (list_any (same_arc x) front) front (front ++ x ∷ []) e in
        let put = inserted x zs s.ordered in
        let absent : Has zs x → ⊥ = λ h. (let found = has_any x front (s.to x h) in cc) in
        let s' : Sized (front ++ x ∷ []) put.0 = record {
          ordered = put.1.ordered;
          to = λ c h. ⊎_elim (λ is. subst (Has (front ++ x ∷ [])) is (has_last x front)) (λ old. has_left c x front (s.to c old)) (put.1.to c h);
          from = λ c h. put.1.from c (⊎_elim (λ old. inr (s.from c old)) (λ is. inl is) (has_both c x front h));
          size = put.1.longer absent ∙ ap (λ n. n + 1) s.size ∙ sym (length-append front (x ∷ []));
        } in
        let r = go (front ++ x ∷ []) put.0 s' in (
          r.0,
          record {
            sized = subst (λ f. Sized (fold (with_new same_arc) f xs) r.0) (sym new) r.1.sized;
            to = λ c h. ⊎_elim (λ f. ⊎_elim (λ old. inl old) (λ is. inr (inl is)) (has_both c x front f)) (λ l. inr (inr l)) (r.1.to c h);
            from = λ c h. ⊎_elim (λ f. r.1.from c (inl (has_left c x front f)))
                (λ l. ⊎_elim (λ is. r.1.from c (inl (subst (Has (front ++ x ∷ [])) is (has_last x front)))) (λ k. r.1.from c (inr k)) l) h;
          },
        )

-- arcs in order with the members of a list are as many as its different arcs
pub how_many : (ys xs : List Arc) → Ordered ys → ((c : Arc) → Has ys c → Has xs c) → ((c : Arc) → Has xs c → Has ys c) → length ys ≡ length (firsts same_arc xs)
how_many ys xs ordered to from =
    let r = joined [] xs [] (record { ordered = tt; to = λ c h. h; from = λ c h. h; size = refl }) in
    let same = one_order ys r.0 ordered r.1.sized.ordered (λ c h. r.1.from c (inr (to c h))) (λ c h. from c (⊎_elim (λ n. absurd n) (λ k. k) (r.1.to c h))) in
    ap length same ∙ r.1.sized.size
