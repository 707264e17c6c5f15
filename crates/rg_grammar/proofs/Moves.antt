-- Tokens that lead a reader from one position to another.
use Rattle.std.proofs.Common.{◌≡◌, Bool, true, false, List, [], ◌∷◌, ◌++◌, Some, refl, sym, ap, subst, ◌∙◌, append_assoc}
use Rattle.std.specs.Option.{option_and_then}
use Rattle.rg_lexer.specs.Lexeme.{Lexeme}
use Rattle.rg_lexer.specs.declared.token.Kind.{Kind}
use Rattle.rg_lexer.specs.declared.token.Kind.TheVariants.{Comma}
use Rattle.rg_grammar.specs.Entry.{AreSeparated, AreEnclosed, AreEach}
use Rattle.rg_grammar.specs.Grammar.{Grammar, read_on}

-- from a position the tokens lead to another, whatever follows them
abbrev pub Moves : {P D F : Type 0} → Grammar P D F → P → D → List Lexeme → P → D → Type 0
Moves g p d xs q e = (rest : List Lexeme) → read_on g p d (xs ++ rest) ≡ read_on g q e rest

pub moves_none : {P D F : Type 0} (g : Grammar P D F) (p : P) (d : D) → Moves g p d [] p d
moves_none g p d rest = refl

pub moves_both : {P D F : Type 0} (g : Grammar P D F) (p q r : P) (d e f : D) (xs ys : List Lexeme) → Moves g p d xs q e → Moves g q e ys r f → Moves g p d (xs ++ ys) r f
moves_both g p q r d e f xs ys one two rest = ap (read_on g p d) (append_assoc xs ys rest) ∙ one (ys ++ rest) ∙ two rest

pub moves_same : {P D F : Type 0} (g : Grammar P D F) (p q : P) (d e e' : D) (xs : List Lexeme) → e ≡ e' → Moves g p d xs q e → Moves g p d xs q e'
moves_same g p q d e e' xs same one rest = one rest ∙ ap (λ f. read_on g q f rest) same

-- one token
pub step : {P D F : Type 0} (g : Grammar P D F) (p q : P) (d e : D) (x : Lexeme) → g.leads p x ≡ Some q → g.adds p x d ≡ e → Moves g p d (x ∷ []) q e
step g p q d e x lead add rest =
    ap (option_and_then (λ next. read_on g next (g.adds p x d) rest)) lead ∙ ap (λ f. read_on g q f rest) add

-- what is found with each thing of a list
abbrev pub take_all : {X D : Type 0} → (X → D → D) → List X → D → D
take_all take [] d = d
take_all take (x ∷ xs) d = take_all take xs (take x d)

-- things of one sort, each of which leads from one of some positions to one of them
pub each_move : {P D F X B : Type 0} (g : Grammar P D F) (free : B → P) (Is : X → List Lexeme → Type 0) (take : X → D → D)
    → ((b : B) (d : D) (thing : X) (xs : List Lexeme) → Is thing xs → (c : B) × Moves g (free b) d xs (free c) (take thing d))
    → (b : B) (d : D) (things : List X) (xs : List Lexeme) → AreEach Is things xs → (c : B) × Moves g (free b) d xs (free c) (take_all take things d)
each_move g free Is take one b d [] xs is = (b, subst (λ l. Moves g (free b) d l (free b) d) (sym is) (moves_none g (free b) d))
each_move g free Is take one b d (thing ∷ things) xs is =
    let first = one b d thing is.0 is.2 in
    let more = each_move g free Is take one first.0 (take thing d) things is.1 is.3 in (
      more.0,
      subst (λ l. Moves g (free b) d l (free more.0) (take_all take things (take thing d))) (sym is.4)
          (moves_both g (free b) (free first.0) (free more.0) d (take thing d) (take_all take things (take thing d)) is.0 is.1 first.1 more.1),
    )

-- where a thing may stand: after the opening token or after a comma
abbrev pub thing_position : {P : Type 0} → Bool → P → P → P
thing_position true first next = first
thing_position false first next = next

-- a grammar with things between an opening and a closing token
pub record Encloses (P D F X : Type 0) (g : Grammar P D F) (opening closing : Kind) (Is : X → List Lexeme → Type 0) (take : X → D → D) (before first next after : P) : Type 0 where
  pub opens : (d : D) (x : Lexeme) → x.kind ≡ opening → Moves g before d (x ∷ []) first d
  pub closes : (d : D) (x : Lexeme) → x.kind ≡ closing → Moves g first d (x ∷ []) after d
  pub at_comma : (b : Bool) (d : D) (thing : X) (xs : List Lexeme) (x : Lexeme) → Is thing xs → x.kind ≡ Comma → Moves g (thing_position b first next) d (xs ++ x ∷ []) next (take thing d)
  pub at_close : (b : Bool) (d : D) (thing : X) (xs : List Lexeme) (x : Lexeme) → Is thing xs → x.kind ≡ closing → Moves g (thing_position b first next) d (xs ++ x ∷ []) after (take thing d)

-- things, and the token that closes their list
separated_move : {P D F X : Type 0} (g : Grammar P D F) (opening closing : Kind) (Is : X → List Lexeme → Type 0) (take : X → D → D) (before first next after : P)
    → Encloses P D F X g opening closing Is take before first next after
    → (b : Bool) (d : D) (thing : X) (more : List X) (xs : List Lexeme) (x : Lexeme) → AreSeparated Is (thing ∷ more) xs → x.kind ≡ closing
    → Moves g (thing_position b first next) d (xs ++ x ∷ []) after (take_all take (thing ∷ more) d)
separated_move g opening closing Is take before first next after by b d thing [] xs x is close = by.at_close b d thing xs x is close
separated_move g opening closing Is take before first next after by b d thing (t ∷ more) xs x is close =
    let front = is.0 in
    let comma = is.1 in
    let rest = is.2 in
    let e = take thing d in
    let f = take_all take (t ∷ more) e in
    subst (λ l. Moves g (thing_position b first next) d l after f)
    (sym (ap (λ l. l ++ x ∷ []) is.6 ∙ append_assoc front (comma ∷ rest) (x ∷ []) ∙ sym (append_assoc front (comma ∷ []) (rest ++ x ∷ []))))
    (moves_both g (thing_position b first next) next after d e f (front ++ comma ∷ []) (rest ++ x ∷ [])
    (by.at_comma b d thing front comma is.3 is.4)
    (separated_move g opening closing Is take before first next after by false e t more rest x is.5 close))

pub enclosed_move : {P D F X : Type 0} (g : Grammar P D F) (opening closing : Kind) (Is : X → List Lexeme → Type 0) (take : X → D → D) (before first next after : P)
    → Encloses P D F X g opening closing Is take before first next after
    → (d : D) (things : List X) (xs : List Lexeme) → AreEnclosed opening closing Is things xs → Moves g before d xs after (take_all take things d)
enclosed_move {P} {D} {F} {X} g opening closing Is take before first next after by d things xs is =
    subst (λ l. Moves g before d l after (take_all take things d)) (sym is.6) (inside things is.4)
  where
    inside : (things : List X) → AreSeparated Is things is.1 → Moves g before d (is.0 ∷ (is.1 ++ is.2 ∷ [])) after (take_all take things d)
    inside [] none =
        subst (λ l. Moves g before d (is.0 ∷ (l ++ is.2 ∷ [])) after d) (sym none)
        (moves_both g before first after d d d (is.0 ∷ []) (is.2 ∷ []) (by.opens d is.0 is.3) (by.closes d is.2 is.5))
    inside (t ∷ more) are =
        moves_both g before first after d d (take_all take (t ∷ more) d) (is.0 ∷ []) (is.1 ++ is.2 ∷ []) (by.opens d is.0 is.3)
        (separated_move g opening closing Is take before first next after by true d t more is.1 is.2 are is.5)
