-- Going over the lines up to `.end`.
use Rattle.std.proofs.Common.{◌≡◌, ℕ, suc, ◌+◌, nat_lt, Bool, true, false, List, [], ◌∷◌, ◌++◌, length, take, Option, None, Some, refl, sym, ap, subst, ◌∙◌, append_assoc, append-nil, arith}
use Rattle.std.specs.List.{before_first, list_any, position_or_len}
use Rattle.rg_lts.specs.Draft.{Draft}
use Rattle.rg_text.specs.Faults.{faults_after, if_not, IsFirst, AreNone}
use Rattle.rg_line_formats.specs.Numbered.{Line}
use Rattle.rg_genet.specs.declared.fault.GraphFault.{GraphFault}
use Rattle.rg_genet.specs.declared.fault.GraphFault.TheVariants.{NoEnd}
use Rattle.rg_genet.specs.declared.reading.Marking.{Marking}
use Rattle.rg_genet.specs.Form.{Form, blank, arc_line, marking_line, closing, other, is_closing}
use Rattle.rg_genet.specs.Contents.{says, closes, line_fault, triples, markings}
use Rattle.rg_genet.specs.Reading.{HasTriples, ReadsTo, Shows, rest_faults}
use Rattle.rg_genet.proofs.LineSteps.{triples_more, markings_more}

take_one : {X : Type 0} (x : X) (xs : List X) (n : ℕ) → take (1 + n) (x ∷ xs) ≡ x ∷ take n xs
take_one x xs n = let e : 1 + n ≡ suc n = omega arith in rw e refl

pub first_no : {X : Type 0} (p : X → Bool) (x : X) (xs : List X) → p x ≡ false → before_first p (x ∷ xs) ≡ x ∷ before_first p xs
first_no p x xs e = rw e (take_one x xs (position_or_len p xs))

pub first_yes : {X : Type 0} (p : X → Bool) (x : X) (xs : List X) → p x ≡ true → before_first p (x ∷ xs) ≡ []
first_yes p x xs e = rw e refl

pub any_no : {X : Type 0} (p : X → Bool) (x : X) (xs : List X) → p x ≡ false → list_any p (x ∷ xs) ≡ list_any p xs
any_no p x xs e = rw e refl

pub any_yes : {X : Type 0} (p : X → Bool) (x : X) (xs : List X) → p x ≡ true → list_any p (x ∷ xs) ≡ true
any_yes p x xs e = rw e refl

-- the faults of what is left, where its first line isn't `.end`
rest_no : (before : List Line) (x : Line) (xs : List Line) → closes x ≡ false → rest_faults before (x ∷ xs) ≡ line_fault before x ∷ rest_faults (before ++ x ∷ []) xs
rest_no before x xs e =
    ap (λ l. faults_after line_fault before l ++ if_not (list_any closes (x ∷ xs)) NoEnd) (first_no closes x xs e)
    ∙ ap (λ b. (line_fault before x ∷ faults_after line_fault (before ++ x ∷ []) (before_first closes xs)) ++ if_not b NoEnd) (any_no closes x xs e)

rest_yes : (before : List Line) (x : Line) (xs : List Line) → closes x ≡ true → rest_faults before (x ∷ xs) ≡ None ∷ []
rest_yes before x xs e =
    ap (λ l. faults_after line_fault before l ++ if_not (list_any closes (x ∷ xs)) NoEnd) (first_yes closes x xs e) ∙ ap (λ b. if_not b NoEnd) (any_yes closes x xs e)

pub reads_more : (all before : List Line) (x : Line) (xs : List Line) → closes x ≡ false → line_fault before x ≡ None → ReadsTo all before (x ∷ xs) → ReadsTo all (before ++ x ∷ []) xs
reads_more all before x xs e none r =
    let left : rest_faults before (x ∷ xs) ≡ None ∷ rest_faults (before ++ x ∷ []) xs = rest_no before x xs e ∙ ap (λ o. o ∷ rest_faults (before ++ x ∷ []) xs) none in
    record {
      body = r.body ∙ ap (λ l. before ++ l) (first_no closes x xs e) ∙ sym (append_assoc before (x ∷ []) (before_first closes xs));
      first = λ f is. r.first f (subst (λ l. IsFirst l f) (sym left) is);
      none = λ n. r.none (subst AreNone (sym left) n);
    }

pub reads_fault : (all before : List Line) (x : Line) (xs : List Line) (f : GraphFault) → closes x ≡ false → line_fault before x ≡ Some f → ReadsTo all before (x ∷ xs) → IsFirst (rest_faults [] all) f
reads_fault all before x xs f e fault r =
    let left : rest_faults before (x ∷ xs) ≡ Some f ∷ rest_faults (before ++ x ∷ []) xs = rest_no before x xs e ∙ ap (λ o. o ∷ rest_faults (before ++ x ∷ []) xs) fault in
    r.first f (subst (λ l. IsFirst l f) (sym left) refl)

pub reads_end : (all before : List Line) (x : Line) (xs : List Line) → closes x ≡ true → ReadsTo all before (x ∷ xs) → AreNone (rest_faults [] all)
reads_end all before x xs e r = r.none (subst AreNone (sym (rest_yes before x xs e)) tt)

pub reads_body : (all before : List Line) (x : Line) (xs : List Line) → closes x ≡ true → ReadsTo all before (x ∷ xs) → before_first closes all ≡ before
reads_body all before x xs e r = r.body ∙ ap (λ l. before ++ l) (first_yes closes x xs e) ∙ append-nil before

says_closing : (form : Form) → is_closing form ≡ true → form ≡ closing
says_closing closing e = refl
says_closing blank e = absurd cc
says_closing (arc_line from label to) e = absurd cc
says_closing (marking_line name) e = absurd cc
says_closing other e = absurd cc

-- `.end` adds nothing
pub nothing_at_end : (before : List Line) (x : Line) (d : Draft) (has : Bool) (m : Option Marking) → closes x ≡ true → Shows (before ++ x ∷ []) d has m → Shows before d has m
nothing_at_end before x d has m e shows =
    let s = says_closing (says x) e in
    let arcs : triples (before ++ x ∷ []) ≡ triples before = triples_more before x closing s ∙ append-nil (triples before) in
    record {
      arcs = subst (λ l. HasTriples l d) arcs shows.arcs;
      some = shows.some ∙ ap (λ l. nat_lt 0 (length l)) arcs;
      marks = sym (append-nil (markings before)) ∙ sym (markings_more before x closing s) ∙ shows.marks;
    }
