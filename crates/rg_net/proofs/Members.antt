-- The weights of a set of places, and what follows it, are told by the set's text.
use Rattle.std.proofs.Common.{◌≡◌, ℕ, ◌+◌, ◌==◌, ◌<◌, Bool, true, false, List, [], ◌∷◌, ◌++◌, length, codes, decimal, refl, sym, ap, ◌∙◌, arith, append_assoc}
use Rattle.std.proofs.lemmas.List.{append_cancel_left}
use Rattle.std.proofs.lemmas.Bool.{eqb-true}
use Rattle.std.specs.Char.{is_ascii_digit}
use Rattle.rg_text.specs.Byte.{StopsAt}
use Rattle.rg_net.specs.NetText.{member_text, comma_if, members_text, set_text}
use Rattle.rg_net.proofs.Digits.{IsPrinted, told_number, heads_apart, number_apart}

-- the text of a member, with what follows it
member_of_one : (q : List ℕ) (i w : ℕ) (x : List ℕ) → (w == 1) ≡ true → member_text (112 ∷ q) i w ++ x ≡ 112 ∷ (q ++ (decimal i ++ x))
member_of_one q i w x one = rw one (ap (λ l. 112 ∷ l) (append_assoc q (decimal i) x))

four_parts : (a b c d x : List ℕ) → ((a ++ b) ++ (c ++ d)) ++ x ≡ a ++ (b ++ (c ++ (d ++ x)))
four_parts a b c d x = simp append_assoc

member_of_more : (q : List ℕ) (i w : ℕ) (x : List ℕ) → (w == 1) ≡ false
    → member_text (112 ∷ q) i w ++ x ≡ decimal w ++ (42 ∷ 112 ∷ (q ++ (decimal i ++ x)))
member_of_more q i w x more = rw more (four_parts (decimal w) (codes "*") (112 ∷ q) (decimal i) x)

-- the weight, the place and what follows are told
pub told_member : (q : List ℕ) (i j v w : ℕ) (x y : List ℕ) → IsPrinted i → IsPrinted j → IsPrinted v → IsPrinted w
    → StopsAt is_ascii_digit x → StopsAt is_ascii_digit y → member_text (112 ∷ q) i v ++ x ≡ member_text (112 ∷ q) j w ++ y
    → (v ≡ w) × (i ≡ j) × (x ≡ y)
told_member q i j v w x y hi hj hv hw p r same = by (v == 1) (w == 1) refl refl
  where
    tails : q ++ (decimal i ++ x) ≡ q ++ (decimal j ++ y) → (i ≡ j) × (x ≡ y)
    tails e = told_number i j x y hi hj p r (append_cancel_left q _ _ e)

    by : (b c : Bool) → (v == 1) ≡ b → (w == 1) ≡ c → (v ≡ w) × (i ≡ j) × (x ≡ y)
    by true true e f =
        let whole = sym (member_of_one q i v x e) ∙ same ∙ member_of_one q j w y f in
        let t = tails cc in
        (eqb-true v 1 e ∙ sym (eqb-true w 1 f), t.0, t.1)
    by true false e f = absurd (number_apart w 112 _ _ hw refl (sym (sym (member_of_one q i v x e) ∙ same ∙ member_of_more q j w y f)))
    by false true e f = absurd (number_apart v 112 _ _ hv refl (sym (member_of_more q i v x e) ∙ same ∙ member_of_one q j w y f))
    by false false e f =
        let whole = sym (member_of_more q i v x e) ∙ same ∙ member_of_more q j w y f in
        let n = told_number v w _ _ hv hw refl refl whole in
        let t = tails cc in
        (n.0, t.0, t.1)

-- after a member no digit follows
after_member : (q : List ℕ) (i : ℕ) (ws x : List ℕ) → StopsAt is_ascii_digit (members_text (112 ∷ q) true i ws ++ x)
after_member q i [] x = refl
after_member q i (w ∷ ws) x = by (w == 0) refl (after_member q (i + 1) ws x)
  where
    by : (b : Bool) → (w == 0) ≡ b → StopsAt is_ascii_digit (members_text (112 ∷ q) true (i + 1) ws ++ x)
        → StopsAt is_ascii_digit (members_text (112 ∷ q) true i (w ∷ ws) ++ x)
    by true e more = rw e more
    by false e more = rw e refl

-- a member of weight 0 isn't written, and another is, with what follows
skips : (q : List ℕ) (later : Bool) (i w : ℕ) (ws : List ℕ) → (w == 0) ≡ true
    → members_text (112 ∷ q) later i (w ∷ ws) ≡ members_text (112 ∷ q) later (i + 1) ws
skips q later i w ws e = rw e refl

writes : (q : List ℕ) (later : Bool) (i w : ℕ) (ws x : List ℕ) → (w == 0) ≡ false
    → members_text (112 ∷ q) later i (w ∷ ws) ++ x ≡ comma_if later ++ (member_text (112 ∷ q) i w ++ (members_text (112 ∷ q) true (i + 1) ws ++ x))
writes q later i w ws x e =
    rw e (append_assoc (comma_if later) (member_text (112 ∷ q) i w ++ members_text (112 ∷ q) true (i + 1) ws) x
    ∙ ap (λ l. comma_if later ++ l) (append_assoc (member_text (112 ∷ q) i w) (members_text (112 ∷ q) true (i + 1) ws) x))

-- numbers that are all printed
abbrev pub ArePrinted : List ℕ → Type 0
ArePrinted [] = Unit {0}
ArePrinted (w ∷ ws) = IsPrinted w × ArePrinted ws

-- no member is a closing brace
not_closing : (q : List ℕ) (i w : ℕ) (x y : List ℕ) → IsPrinted w → 125 ∷ x ≡ member_text (112 ∷ q) i w ++ y → ⊥
not_closing q i w x y h same = by (w == 1) refl
  where
    by : (b : Bool) → (w == 1) ≡ b → ⊥
    by true e = heads_apart 125 112 _ _ refl (same ∙ member_of_one q i w y e)
    by false e = number_apart w 125 _ _ h refl (sym (same ∙ member_of_more q i w y e))

closing_apart : (q : List ℕ) (later : Bool) (i w : ℕ) (x y : List ℕ) → IsPrinted w → 125 ∷ x ≡ comma_if later ++ (member_text (112 ∷ q) i w ++ y) → ⊥
closing_apart q true i w x y h same = heads_apart 125 44 _ _ refl same
closing_apart q false i w x y h same = not_closing q i w x y h same

-- the members of later places don't begin with a member of an earlier place
later_apart : (q : List ℕ) (later : Bool) (i j v : ℕ) (ws x y : List ℕ) → i < j → IsPrinted (j + length ws) → IsPrinted v → ArePrinted ws
    → StopsAt is_ascii_digit y → members_text (112 ∷ q) later j ws ++ x ≡ comma_if later ++ (member_text (112 ∷ q) i v ++ y) → ⊥
later_apart q later i j v [] x y less hj hv all stops same = closing_apart q later i v x y hv same
later_apart q later i j v (w ∷ ws) x y less hj hv all stops same =
    by (w == 0) refl (λ e. later_apart q later i (j + 1) v ws x y (omega arith) (omega arith) hv all.1 stops e)
  where
    by : (b : Bool) → (w == 0) ≡ b → (members_text (112 ∷ q) later (j + 1) ws ++ x ≡ comma_if later ++ (member_text (112 ∷ q) i v ++ y) → ⊥) → ⊥
    by true e more = more (ap (λ l. l ++ x) (sym (skips q later j w ws e)) ∙ same)
    by false e more =
        let whole = append_cancel_left (comma_if later) _ _ (sym (writes q later j w ws x e) ∙ same) in
        let told = told_member q j i w v _ y (omega arith) (omega arith) all.0 hv (after_member q (j + 1) ws x) stops whole in
        let one : j ≡ i = told.1 in
        absurd (omega arith)

-- the weights and what follows them are told
pub told_members : (q : List ℕ) (later : Bool) (i : ℕ) (ws vs x y : List ℕ) → length ws ≡ length vs → IsPrinted (i + length ws)
    → ArePrinted ws → ArePrinted vs
    → members_text (112 ∷ q) later i ws ++ x ≡ members_text (112 ∷ q) later i vs ++ y → (ws ≡ vs) × (x ≡ y)
told_members q later i [] [] x y long hi hw hv same = (refl, cc)
told_members q later i [] (v ∷ vs) x y long hi hw hv same = absurd (omega arith)
told_members q later i (w ∷ ws) [] x y long hi hw hv same = absurd (omega arith)
told_members q later i (w ∷ ws) (v ∷ vs) x y long hi hw hv same =
    by (w == 0) (v == 0) refl refl (λ later e. told_members q later (i + 1) ws vs x y (omega arith) (omega arith) hw.1 hv.1 e)
  where
    more : w ≡ v → (ws ≡ vs) × (x ≡ y) → (w ∷ ws ≡ v ∷ vs) × (x ≡ y)
    more one rest = let tails = rest.0 in (cc, rest.1)

    by : (b c : Bool) → (w == 0) ≡ b → (v == 0) ≡ c
        → ((later : Bool) → members_text (112 ∷ q) later (i + 1) ws ++ x ≡ members_text (112 ∷ q) later (i + 1) vs ++ y → (ws ≡ vs) × (x ≡ y))
        → (w ∷ ws ≡ v ∷ vs) × (x ≡ y)
    by true true e f rest =
        more (eqb-true w 0 e ∙ sym (eqb-true v 0 f)) (rest later
        (ap (λ l. l ++ x) (sym (skips q later i w ws e)) ∙ same ∙ ap (λ l. l ++ y) (skips q later i v vs f)))
    by true false e f rest =
        absurd (later_apart q later i (i + 1) v ws x _ (omega arith) (omega arith) hv.0 hw.1 (after_member q (i + 1) vs y)
        (ap (λ l. l ++ x) (sym (skips q later i w ws e)) ∙ same ∙ writes q later i v vs y f))
    by false true e f rest =
        absurd (later_apart q later i (i + 1) w vs y _ (omega arith) (omega arith) hw.0 hv.1 (after_member q (i + 1) ws x)
        (ap (λ l. l ++ y) (sym (skips q later i v vs f)) ∙ sym same ∙ writes q later i w ws x e))
    by false false e f rest =
        let whole = append_cancel_left (comma_if later) _ _ (sym (writes q later i w ws x e) ∙ same ∙ writes q later i v vs y f) in
        let told = told_member q i i w v _ _ (omega arith) (omega arith) hw.0 hv.0 (after_member q (i + 1) ws x)
        (after_member q (i + 1) vs y) whole in
        more told.0 (rest true told.2)

-- a set and what follows it are told
pub told_set : (q ws vs x y : List ℕ) → length ws ≡ length vs → IsPrinted (length ws) → ArePrinted ws → ArePrinted vs
    → set_text (112 ∷ q) ws ++ x ≡ set_text (112 ∷ q) vs ++ y → (ws ≡ vs) × (x ≡ y)
told_set q ws vs x y long hi hw hv same = told_members q false 0 ws vs x y long (omega arith) hw hv cc
