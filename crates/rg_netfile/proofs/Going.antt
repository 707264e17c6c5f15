-- Faults of a list that grows.
use Rattle.std.proofs.Common.{◌≡◌, List, [], ◌∷◌, ◌++◌, Option, None, Some, sym, ap, subst, ◌∙◌, append_assoc}
use Rattle.std.proofs.lemmas.List.{append-nil}
use Rattle.rg_text.specs.Faults.{faults_after, IsFirst, AreNone}
use Rattle.rg_text.proofs.Left.{first_left, first_right, none_joined}

pub faults_joined : {X F : Type 0} (fault : List X → X → Option F) (before xs ys : List X)
    → faults_after fault before (xs ++ ys) ≡ faults_after fault before xs ++ faults_after fault (before ++ xs) ys
faults_joined fault before [] ys = ap (λ b. faults_after fault b ys) (sym (append-nil before))
faults_joined fault before (x ∷ xs) ys =
    ap (λ l. fault before x ∷ l)
    (faults_joined fault (before ++ x ∷ []) xs ys
    ∙ ap (λ b. faults_after fault (before ++ x ∷ []) xs ++ faults_after fault b ys) (append_assoc before (x ∷ []) xs))

pub none_more : {X F : Type 0} (fault : List X → X → Option F) (before xs ys : List X) → AreNone (faults_after fault before xs)
    → AreNone (faults_after fault (before ++ xs) ys) → AreNone (faults_after fault before (xs ++ ys))
none_more fault before xs ys a b =
    subst AreNone (sym (faults_joined fault before xs ys)) (none_joined (faults_after fault before xs) (faults_after fault (before ++ xs) ys) a b)

pub first_later : {X F : Type 0} (fault : List X → X → Option F) (before xs ys : List X) (f : F) → AreNone (faults_after fault before xs)
    → IsFirst (faults_after fault (before ++ xs) ys) f → IsFirst (faults_after fault before (xs ++ ys)) f
first_later fault before xs ys f a b =
    subst (λ l. IsFirst l f) (sym (faults_joined fault before xs ys)) (first_right (faults_after fault before xs) (faults_after fault (before ++ xs) ys) f a b)

pub first_sooner : {X F : Type 0} (fault : List X → X → Option F) (before xs ys : List X) (f : F) → IsFirst (faults_after fault before xs) f
    → IsFirst (faults_after fault before (xs ++ ys)) f
first_sooner fault before xs ys f a =
    subst (λ l. IsFirst l f) (sym (faults_joined fault before xs ys)) (first_left (faults_after fault before xs) (faults_after fault (before ++ xs) ys) f a)

-- one thing
pub none_one : {X F : Type 0} (fault : List X → X → Option F) (before : List X) (x : X) → fault before x ≡ None → AreNone (faults_after fault before (x ∷ []))
none_one fault before x e = subst (λ o. AreNone (o ∷ [])) (sym e) tt

pub first_one : {X F : Type 0} (fault : List X → X → Option F) (before : List X) (x : X) (f : F) → fault before x ≡ Some f
    → IsFirst (faults_after fault before (x ∷ [])) f
first_one fault before x f e = subst (λ o. IsFirst (o ∷ []) f) (sym e) (λ i. f)
