-- The text of a set is read as its members.
use Rattle.std.proofs.Common.{◌≡◌, ℕ, ◌+◌, ◌<◌, ◌^◌, ◌==◌, ◌⊎◌, inl, inr, Bool, true, false, cond, List, [], ◌∷◌, ◌++◌, length, None, Some, decimal, codes, All, refl, sym, ap, subst, ◌∙◌, arith, append_assoc, append-nil}
use Rattle.std.specs.List.{AllPass}
use Rattle.std.specs.Char.{is_ascii_digit}
use Rattle.std.specs.Str.Parse.{digits_value}
use Rattle.std.proofs.lemmas.Bool.{eqb-true}
use Rattle.std.proofs.lemmas.List.Elements.{All-head, All-tail}
use Rattle.rg_text.specs.Byte.{is_name_byte, IsName, StopsAt}
use Rattle.rg_lexer.specs.Lexeme.{Lexeme}
use Rattle.rg_lexer.specs.declared.token.Kind.TheVariants.{Name, LeftBrace, RightBrace, Comma, Star}
use Rattle.rg_lexer.proofs.Printed.{Reads, Then, reads_same, reads_more, reads_token, reads_blank, reads_name}
use Rattle.rg_grammar.specs.Entry.{AreSeparated}
use Rattle.rg_netfile.proofs.Decimals.{decimal_digits, decimal_name}
use Rattle.rg_net.specs.NetText.{place_name, member_text, members_text, set_text}
use Rattle.rg_net_grammar.specs.declared.found.Member.{Member}
use Rattle.rg_net_grammar.specs.Item.{IsMember, IsSet}
use Rattle.rg_netfile.specs.Contents.{count_of}
use Rattle.rg_netfile.proofs.PlaceNames.{IsPrefix, place_name_is, decimal_value}

-- these are the members of the set of these weights, of which the first is that of place i
abbrev pub AreMembers : List ℕ → ℕ → List ℕ → List (Member Lexeme) → Type 0
AreMembers q i [] ms = ms ≡ []
AreMembers q i (w ∷ ws) ms =
    ((w ≡ 0) × AreMembers q (i + 1) ws ms)
    ⊎ ((m : Member Lexeme) × (more : List (Member Lexeme)) × (ms ≡ m ∷ more) × (m.place.text ≡ place_name q i) × (count_of m.number ≡ w) × AreMembers q (i + 1) ws more)

-- a member of so many, and then tokens of which P holds
pub record MemberThen (name : List ℕ) (w : ℕ) (P : List Lexeme → Type 0) (xs : List Lexeme) : Type 0 where
  pub member : Member Lexeme
  pub front : List Lexeme
  pub others : List Lexeme
  pub is : IsMember member front
  pub of_place : member.place.text ≡ name
  pub counts : count_of member.number ≡ w
  pub rest : P others
  pub whole : xs ≡ front ++ others

alone_then : (name : List ℕ) (w : ℕ) (P : List Lexeme → Type 0) (xs : List Lexeme) → w ≡ 1 → Then Name name P xs → MemberThen name w P xs
alone_then name w P xs e (x, more, kind, text, p, whole) = record {
  member = record { number = None; place = x };
  front = x ∷ [];
  others = more;
  is = (kind, refl);
  of_place = text;
  counts = sym e;
  rest = p;
  whole = whole;
}

numbered_then : (name : List ℕ) (w : ℕ) (P : List Lexeme → Type 0) (xs : List Lexeme) → w < 10 ^ 64
    → Then Name (decimal w) (Then Star (codes "*") (Then Name name P)) xs → MemberThen name w P xs
numbered_then name w P xs lt (n, after_n, n_kind, n_text, (star, after_star, star_kind, star_text, (x, more, kind, text, p, whole₃), whole₂), whole₁) = record {
  member = record { number = Some n; place = x };
  front = n ∷ star ∷ x ∷ [];
  others = more;
  is = (kind, ((n_kind, subst (λ t. AllPass is_ascii_digit t) (sym n_text) (decimal_digits w lt).each), (star, star_kind, refl)));
  of_place = text;
  counts = ap (digits_value 10) n_text ∙ decimal_value w lt;
  rest = p;
  whole = whole₁ ∙ ap (λ l. n ∷ l) (whole₂ ∙ ap (λ l. star ∷ l) whole₃);
}

reads_member : (q : List ℕ) (i w : ℕ) (text : List ℕ) (P : List Lexeme → Type 0) → IsPrefix q → i < 10 ^ 64 → w < 10 ^ 64 → StopsAt is_name_byte text
    → Reads text P → Reads (member_text q i w ++ text) (MemberThen (place_name q i) w P)
reads_member q i w text P prefix lt small stops reads = by (w == 1) refl
  where
    name : IsName (place_name q i)
    name = place_name_is q i prefix lt

    by : (b : Bool) → (w == 1) ≡ b → Reads (member_text q i w ++ text) (MemberThen (place_name q i) w P)
    by true e =
        reads_same (place_name q i ++ text) (member_text q i w ++ text) (MemberThen (place_name q i) w P)
        (ap (λ b. cond b (place_name q i) (decimal w ++ codes "*" ++ place_name q i) ++ text) (sym e))
        (reads_more (place_name q i ++ text) (Then Name (place_name q i) P) (MemberThen (place_name q i) w P) (λ xs. alone_then (place_name q i) w P xs (eqb-true w 1 e))
        (reads_token Name (place_name q i) text P (place_name_is q i prefix lt) stops reads))
    by false e =
        let Place_then = Then Name (place_name q i) P in
        let spelled = decimal w ++ 42 ∷ (place_name q i ++ text) in
        reads_same spelled (member_text q i w ++ text) (MemberThen (place_name q i) w P)
        (sym (append_assoc (decimal w ++ codes "*") (place_name q i) text ∙ append_assoc (decimal w) (codes "*") (place_name q i ++ text))
        ∙ ap (λ b. cond b (place_name q i) (decimal w ++ codes "*" ++ place_name q i) ++ text) (sym e))
        (reads_more spelled (Then Name (decimal w) (Then Star (codes "*") Place_then)) (MemberThen (place_name q i) w P) (λ xs. numbered_then (place_name q i) w P xs small)
        (reads_name (decimal w) 42 (place_name q i ++ text) (Then Star (codes "*") Place_then) (decimal_name w small) refl
        (reads_token Star (codes "*") (place_name q i ++ text) Place_then refl tt
        (reads_token Name (place_name q i) text P (place_name_is q i prefix lt) stops reads))))

-- members, each after a comma
abbrev AreTail : List (Member Lexeme) → List Lexeme → Type 0
AreTail [] xs = xs ≡ []
AreTail (m ∷ more) xs = (comma : Lexeme) × (front : List Lexeme) × (rest : List Lexeme) × (comma.kind ≡ Comma) × IsMember m front × AreTail more rest
    × (xs ≡ comma ∷ (front ++ rest))

separated_from : (m : Member Lexeme) (more : List (Member Lexeme)) (front rest : List Lexeme) → IsMember m front → AreTail more rest
    → AreSeparated IsMember (m ∷ more) (front ++ rest)
separated_from m [] front rest is tail = subst (IsMember m) (sym (ap (λ l. front ++ l) tail ∙ append-nil front)) is
separated_from m (n ∷ more) front rest is (comma, after, others, kind, is', tail, whole) =
    (front, comma, after ++ others, is, kind, separated_from n more after others is' tail, ap (λ l. front ++ l) whole)

-- the members from place i on, the closing brace, and then tokens of which P holds
pub record TailThen (q : List ℕ) (i : ℕ) (ws : List ℕ) (P : List Lexeme → Type 0) (xs : List Lexeme) : Type 0 where
  pub members : List (Member Lexeme)
  pub inner : List Lexeme
  pub right : Lexeme
  pub others : List Lexeme
  pub are : AreMembers q i ws members
  pub tail : AreTail members inner
  pub closing : right.kind ≡ RightBrace
  pub rest : P others
  pub whole : xs ≡ inner ++ right ∷ others

pub record InnerThen (q : List ℕ) (i : ℕ) (ws : List ℕ) (P : List Lexeme → Type 0) (xs : List Lexeme) : Type 0 where
  pub members : List (Member Lexeme)
  pub inner : List Lexeme
  pub right : Lexeme
  pub others : List Lexeme
  pub are : AreMembers q i ws members
  pub separated : AreSeparated IsMember members inner
  pub closing : right.kind ≡ RightBrace
  pub rest : P others
  pub whole : xs ≡ inner ++ right ∷ others

-- no byte of a name follows a member
stops_tail : (q : List ℕ) (i : ℕ) (ws text : List ℕ) → StopsAt is_name_byte (members_text q true i ws ++ text)
stops_tail q i [] text = refl
stops_tail q i (w ∷ ws) text = by (w == 0) refl (stops_tail q (i + 1) ws text)
  where
    by : (b : Bool) → (w == 0) ≡ b → StopsAt is_name_byte (members_text q true (i + 1) ws ++ text) → StopsAt is_name_byte (members_text q true i (w ∷ ws) ++ text)
    by true e more = rw e more
    by false e more = rw e refl

tail_skips : (q : List ℕ) (i w : ℕ) (ws : List ℕ) (P : List Lexeme → Type 0) (xs : List Lexeme) → w ≡ 0 → TailThen q (i + 1) ws P xs → TailThen q i (w ∷ ws) P xs
tail_skips q i w ws P xs e t = record {
  members = t.members;
  inner = t.inner;
  right = t.right;
  others = t.others;
  are = inl (e, t.are);
  tail = t.tail;
  closing = t.closing;
  rest = t.rest;
  whole = t.whole;
}

tail_adds : (q : List ℕ) (i w : ℕ) (ws : List ℕ) (P : List Lexeme → Type 0) (xs : List Lexeme)
    → Then Comma (codes ",") (MemberThen (place_name q i) w (TailThen q (i + 1) ws P)) xs → TailThen q i (w ∷ ws) P xs
tail_adds q i w ws P xs (comma, after, kind, text, m, whole) =
    let t = m.rest in
    record {
      members = m.member ∷ t.members;
      inner = comma ∷ (m.front ++ t.inner);
      right = t.right;
      others = t.others;
      are = inr (m.member, t.members, refl, m.of_place, m.counts, t.are);
      tail = (comma, m.front, t.inner, kind, m.is, t.tail, refl);
      closing = t.closing;
      rest = t.rest;
      whole = whole ∙ ap (λ l. comma ∷ l) (m.whole ∙ ap (λ l. m.front ++ l) t.whole ∙ sym (append_assoc m.front t.inner (t.right ∷ t.others)));
    }

reads_tail : (q : List ℕ) (i : ℕ) (ws text : List ℕ) (P : List Lexeme → Type 0) → IsPrefix q → i + length ws < 10 ^ 64 → All (λ w. w < 10 ^ 64) ws
    → Reads text P → Reads (members_text q true i ws ++ text) (TailThen q i ws P)
reads_tail q i [] text P prefix lt small reads =
    reads_more (125 ∷ text) (Then RightBrace (codes "}") P) (TailThen q i [] P)
    (λ xs (right, more, kind, token, p, whole). record { members = []; inner = []; right = right; others = more; are = refl; tail = refl; closing = kind; rest = p; whole = whole })
    (reads_token RightBrace (codes "}") text P refl tt reads)
reads_tail q i (w ∷ ws) text P prefix lt small reads =
    by (w == 0) refl (reads_tail q (i + 1) ws text P prefix (omega arith) (All-tail (λ w. w < 10 ^ 64) w ws small) reads)
  where
    by : (b : Bool) → (w == 0) ≡ b → Reads (members_text q true (i + 1) ws ++ text) (TailThen q (i + 1) ws P) → Reads (members_text q true i (w ∷ ws) ++ text) (TailThen q i (w ∷ ws) P)
    by true e more =
        reads_same (members_text q true (i + 1) ws ++ text) (members_text q true i (w ∷ ws) ++ text) (TailThen q i (w ∷ ws) P) (rw e refl)
        (reads_more (members_text q true (i + 1) ws ++ text) (TailThen q (i + 1) ws P) (TailThen q i (w ∷ ws) P) (λ xs. tail_skips q i w ws P xs (eqb-true w 0 e)) more)
    by false e more =
        let later = members_text q true (i + 1) ws ++ text in
        let Member_then = MemberThen (place_name q i) w (TailThen q (i + 1) ws P) in
        let spelled = 44 ∷ 32 ∷ (member_text q i w ++ later) in
        reads_same spelled (members_text q true i (w ∷ ws) ++ text) (TailThen q i (w ∷ ws) P)
        (ap (λ l. 44 ∷ 32 ∷ l) (sym (append_assoc (member_text q i w) (members_text q true (i + 1) ws) text)) ∙ rw e refl)
        (reads_more spelled (Then Comma (codes ",") Member_then) (TailThen q i (w ∷ ws) P) (λ xs. tail_adds q i w ws P xs)
        (reads_token Comma (codes ",") (32 ∷ (member_text q i w ++ later)) Member_then refl tt
        (reads_blank 32 (member_text q i w ++ later) Member_then refl
        (reads_member q i w later (TailThen q (i + 1) ws P) prefix (omega arith) (All-head (λ w. w < 10 ^ 64) w ws small) (stops_tail q (i + 1) ws text) more))))

inner_skips : (q : List ℕ) (i w : ℕ) (ws : List ℕ) (P : List Lexeme → Type 0) (xs : List Lexeme) → w ≡ 0 → InnerThen q (i + 1) ws P xs → InnerThen q i (w ∷ ws) P xs
inner_skips q i w ws P xs e t = record {
  members = t.members;
  inner = t.inner;
  right = t.right;
  others = t.others;
  are = inl (e, t.are);
  separated = t.separated;
  closing = t.closing;
  rest = t.rest;
  whole = t.whole;
}

inner_adds : (q : List ℕ) (i w : ℕ) (ws : List ℕ) (P : List Lexeme → Type 0) (xs : List Lexeme) → MemberThen (place_name q i) w (TailThen q (i + 1) ws P) xs
    → InnerThen q i (w ∷ ws) P xs
inner_adds q i w ws P xs m =
    let t = m.rest in
    record {
      members = m.member ∷ t.members;
      inner = m.front ++ t.inner;
      right = t.right;
      others = t.others;
      are = inr (m.member, t.members, refl, m.of_place, m.counts, t.are);
      separated = separated_from m.member t.members m.front t.inner m.is t.tail;
      closing = t.closing;
      rest = t.rest;
      whole = m.whole ∙ ap (λ l. m.front ++ l) t.whole ∙ sym (append_assoc m.front t.inner (t.right ∷ t.others));
    }

reads_inner : (q : List ℕ) (i : ℕ) (ws text : List ℕ) (P : List Lexeme → Type 0) → IsPrefix q → i + length ws < 10 ^ 64 → All (λ w. w < 10 ^ 64) ws
    → Reads text P → Reads (members_text q false i ws ++ text) (InnerThen q i ws P)
reads_inner q i [] text P prefix lt small reads =
    reads_more (125 ∷ text) (Then RightBrace (codes "}") P) (InnerThen q i [] P)
    (λ xs (right, more, kind, token, p, whole). record { members = []; inner = []; right = right; others = more; are = refl; separated = refl; closing = kind; rest = p; whole = whole })
    (reads_token RightBrace (codes "}") text P refl tt reads)
reads_inner q i (w ∷ ws) text P prefix lt small reads =
    by (w == 0) refl (reads_inner q (i + 1) ws text P prefix (omega arith) (All-tail (λ w. w < 10 ^ 64) w ws small) reads)
    (reads_tail q (i + 1) ws text P prefix (omega arith) (All-tail (λ w. w < 10 ^ 64) w ws small) reads)
  where
    by : (b : Bool) → (w == 0) ≡ b → Reads (members_text q false (i + 1) ws ++ text) (InnerThen q (i + 1) ws P)
        → Reads (members_text q true (i + 1) ws ++ text) (TailThen q (i + 1) ws P) → Reads (members_text q false i (w ∷ ws) ++ text) (InnerThen q i (w ∷ ws) P)
    by true e more tail =
        reads_same (members_text q false (i + 1) ws ++ text) (members_text q false i (w ∷ ws) ++ text) (InnerThen q i (w ∷ ws) P) (rw e refl)
        (reads_more (members_text q false (i + 1) ws ++ text) (InnerThen q (i + 1) ws P) (InnerThen q i (w ∷ ws) P) (λ xs. inner_skips q i w ws P xs (eqb-true w 0 e)) more)
    by false e more tail =
        let later = members_text q true (i + 1) ws ++ text in
        let spelled = member_text q i w ++ later in
        reads_same spelled (members_text q false i (w ∷ ws) ++ text) (InnerThen q i (w ∷ ws) P)
        (sym (append_assoc (member_text q i w) (members_text q true (i + 1) ws) text) ∙ rw e refl)
        (reads_more spelled (MemberThen (place_name q i) w (TailThen q (i + 1) ws P)) (InnerThen q i (w ∷ ws) P) (λ xs. inner_adds q i w ws P xs)
        (reads_member q i w later (TailThen q (i + 1) ws P) prefix (omega arith) (All-head (λ w. w < 10 ^ 64) w ws small) (stops_tail q (i + 1) ws text) tail))

-- a set, and then tokens of which P holds
pub record SetThen (q : List ℕ) (ws : List ℕ) (P : List Lexeme → Type 0) (xs : List Lexeme) : Type 0 where
  pub members : List (Member Lexeme)
  pub front : List Lexeme
  pub others : List Lexeme
  pub are : AreMembers q 0 ws members
  pub is : IsSet members front
  pub rest : P others
  pub whole : xs ≡ front ++ others

set_then : (q : List ℕ) (ws : List ℕ) (P : List Lexeme → Type 0) (xs : List Lexeme) → Then LeftBrace (codes "{") (InnerThen q 0 ws P) xs → SetThen q ws P xs
set_then q ws P xs (left, more, kind, text, t, whole) = record {
  members = t.members;
  front = left ∷ (t.inner ++ t.right ∷ []);
  others = t.others;
  are = t.are;
  is = (left, t.inner, t.right, kind, t.separated, t.closing, refl);
  rest = t.rest;
  whole = whole ∙ ap (λ l. left ∷ l) (t.whole ∙ sym (append_assoc t.inner (t.right ∷ []) t.others));
}

pub reads_set : (q : List ℕ) (ws text : List ℕ) (P : List Lexeme → Type 0) → IsPrefix q → length ws < 10 ^ 64 → All (λ w. w < 10 ^ 64) ws
    → Reads text P → Reads (set_text q ws ++ text) (SetThen q ws P)
reads_set q ws text P prefix lt small reads =
    reads_more (123 ∷ (members_text q false 0 ws ++ text)) (Then LeftBrace (codes "{") (InnerThen q 0 ws P)) (SetThen q ws P) (λ xs. set_then q ws P xs)
    (reads_token LeftBrace (codes "{") (members_text q false 0 ws ++ text) (InnerThen q 0 ws P) refl tt
    (reads_inner q 0 ws text P prefix (omega arith) small reads))
