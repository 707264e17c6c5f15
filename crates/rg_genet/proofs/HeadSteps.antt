-- Going over the lines up to `.state graph`.
use Rattle.std.proofs.Common.{◌≡◌, inl, ℕ, suc, ◌+◌, Bool, true, false, List, ◌∷◌, drop, map, None, Some, refl, sym, ap, subst, ◌∙◌, arith}
use Rattle.std.specs.List.{after_first, before_first, position_or_len}
use Rattle.rg_text.specs.Faults.{IsFirst, AreNone}
use Rattle.rg_line_formats.specs.Numbered.{Line}
use Rattle.rg_genet.specs.declared.fault.GraphFault.{GraphFault}
use Rattle.rg_genet.specs.Contents.{opens, heading_fault}
use Rattle.rg_genet.specs.Reading.{HeadsTo, IsHeadFault}
use Rattle.rg_genet.proofs.BodySteps.{first_no}

drop_one : {X : Type 0} (x : X) (xs : List X) (n : ℕ) → drop (n + 1) (x ∷ xs) ≡ drop n xs
drop_one x xs n = let e : n + 1 ≡ suc n = omega arith in rw e refl

pub after_no : {X : Type 0} (p : X → Bool) (x : X) (xs : List X) → p x ≡ false → after_first p (x ∷ xs) ≡ after_first p xs
after_no p x xs e =
    let index : position_or_len p (x ∷ xs) ≡ 1 + position_or_len p xs = rw e refl in
    let more : position_or_len p (x ∷ xs) + 1 ≡ (position_or_len p xs + 1) + 1 = omega (arith, index) in
    ap (λ n. drop n (x ∷ xs)) more ∙ drop_one x xs (position_or_len p xs + 1)

pub after_yes : {X : Type 0} (p : X → Bool) (x : X) (xs : List X) → p x ≡ true → after_first p (x ∷ xs) ≡ xs
after_yes p x xs e =
    let index : position_or_len p (x ∷ xs) ≡ 0 = rw e refl in
    ap (λ n. drop (n + 1) (x ∷ xs)) index ∙ drop_one x xs 0

pub heads_more : (all : List Line) (x : Line) (xs : List Line) → opens x ≡ false → heading_fault x ≡ None → HeadsTo all (x ∷ xs) → HeadsTo all xs
heads_more all x xs e none r =
    let left : map heading_fault (before_first opens (x ∷ xs)) ≡ None ∷ map heading_fault (before_first opens xs) =
    ap (map heading_fault) (first_no opens x xs e) ∙ ap (λ o. o ∷ map heading_fault (before_first opens xs)) none in
    record {
      first = λ f is. r.first f (subst (λ l. IsFirst l f) (sym left) is);
      none = λ n. r.none (subst AreNone (sym left) n);
      after = r.after ∙ after_no opens x xs e;
    }

pub heads_fault : (all : List Line) (x : Line) (xs : List Line) (f : GraphFault) → opens x ≡ false → heading_fault x ≡ Some f → HeadsTo all (x ∷ xs) → IsHeadFault all f
heads_fault all x xs f e fault r =
    let left : map heading_fault (before_first opens (x ∷ xs)) ≡ Some f ∷ map heading_fault (before_first opens xs) =
    ap (map heading_fault) (first_no opens x xs e) ∙ ap (λ o. o ∷ map heading_fault (before_first opens xs)) fault in
    inl (r.first f (subst (λ l. IsFirst l f) (sym left) refl))
