-- The text of a labelled net tells the net and its labels, and without what is in brackets spells the net.
use Rattle.std.proofs.Common.{◌≡◌, ℕ, ◌+◌, ◌==◌, ◌<◌, ◌≤◌, ◌^◌, inr, Bool, true, false, not, List, [], ◌∷◌, ◌++◌, length, codes, decimal, get_or, slice_index_or, All, if◌then◌else◌, refl, sym, ap, subst, ◌∙◌, arith, append-nil, append_assoc}
use Rattle.std.specs.List.{AllPass}
use Rattle.std.proofs.lemmas.Bool.{eqb-true, both_ways}
use Rattle.std.proofs.lemmas.List.{append_cancel_left, append_cancel_right, length-map}
use Rattle.std.proofs.lemmas.List.Elements.{All-head, All-tail, All-map}
use Rattle.rg_text.specs.Byte.{is_name_byte, IsName}
use Rattle.rg_text.specs.Line.{fed}
use Rattle.rg_theory.specs.System.{System, labels}
use Rattle.rg_theory.specs.Net.{Net, pre_weight, post_weight}
use Rattle.rg_lts.specs.WellFormed.{IsWellFormed}
use Rattle.rg_net.specs.Range.{IsNetInRange}
use Rattle.rg_net.specs.NetText.{net_text, place_name, place_prefix, member_text, comma_if, members_text, set_text, taken_by, put_by, starts, flow_line, flow_lines}
use Rattle.rg_netfile.specs.Contents.{most_places}
use Rattle.rg_netfile.specs.LabelledTexts.{labelled_line, labelled_lines, named_labels, labelled_text, IsLabelledNet, outside, without_options}
use Rattle.rg_netfile.specs.Spells.{Spells}
use Rattle.rg_netfile.proofs.Decimals.{decimal_name}
use Rattle.rg_netfile.proofs.PlaceNames.{IsPrefix, prefix_is, place_name_is}
use Rattle.rg_netfile.proofs.NetTexts.{IsPrintable, typed_lines}
use Rattle.rg_netfile.proofs.PrintedNets.{names_of}
use Rattle.rg_netfile.proofs.PrintedTexts.{printable, place_names_are, lines_spelled}
use Rattle.rg_netfile.proofs.Texts.{place_lines, flows_of, marking_of, parts_with}

-- ---- bytes outside of brackets

no_mark : (mark b : ℕ) → is_name_byte mark ≡ false → is_name_byte b ≡ true → (b == mark) ≡ false
no_mark mark b none is = by (b == mark) refl
  where
    by : (t : Bool) → (b == mark) ≡ t → (b == mark) ≡ false
    by false e = e
    by true e = absurd (both_ways (is_name_byte mark) none (ap is_name_byte (sym (eqb-true b mark e)) ∙ is))

-- the bytes stay, whatever follows them
abbrev IsKept : List ℕ → Type 0
IsKept xs = (ys : List ℕ) → outside false (xs ++ ys) ≡ xs ++ outside false ys

kept_both : (xs ys : List ℕ) → IsKept xs → IsKept ys → IsKept (xs ++ ys)
kept_both xs ys k l zs = ap (outside false) (append_assoc xs ys zs) ∙ k (ys ++ zs) ∙ ap (λ t. xs ++ t) (l zs) ∙ sym (append_assoc xs ys (outside false zs))

kept_all : (xs : List ℕ) → IsKept xs → outside false xs ≡ xs
kept_all xs k = ap (outside false) (sym (append-nil xs)) ∙ k [] ∙ append-nil xs

kept_name : (xs : List ℕ) → AllPass is_name_byte xs → IsKept xs
kept_name [] all ys = refl
kept_name (b ∷ xs) all ys =
    ap (λ t. if t then outside true (xs ++ ys) else b ∷ outside false (xs ++ ys)) (no_mark 91 b refl (All-head (λ c. is_name_byte c ≡ true) b xs all))
    ∙ ap (λ l. b ∷ l) (kept_name xs (All-tail (λ c. is_name_byte c ≡ true) b xs all) ys)

-- a name in brackets goes
left_out : (xs ys : List ℕ) → AllPass is_name_byte xs → outside true (xs ++ ys) ≡ outside true ys
left_out [] ys all = refl
left_out (b ∷ xs) ys all =
    ap (λ t. outside (not t) (xs ++ ys)) (no_mark 93 b refl (All-head (λ c. is_name_byte c ≡ true) b xs all))
    ∙ left_out xs ys (All-tail (λ c. is_name_byte c ≡ true) b xs all)

kept_lines : (lines : List (List ℕ)) → All IsName lines → IsKept (fed lines)
kept_lines [] are = λ ys. refl
kept_lines (line ∷ lines) are =
    kept_both line (10 ∷ fed lines) (kept_name line (All-head IsName line lines are).bytes) (λ ys. ap (λ l. 10 ∷ l) (kept_lines lines (All-tail IsName line lines are) ys))

kept_comma : (later : Bool) → IsKept (comma_if later)
kept_comma true ys = refl
kept_comma false ys = refl

module _ (q : List ℕ) (prefix : IsPrefix q) where
  kept_member : (i w : ℕ) → i < 10 ^ 64 → w < 10 ^ 64 → IsKept (member_text q i w)
  kept_member i w few small = by (w == 1)
    where
      place : IsKept (place_name q i)
      place = kept_name (place_name q i) (place_name_is q i prefix few).bytes

      by : (one : Bool) → IsKept (if one then place_name q i else decimal w ++ codes "*" ++ place_name q i)
      by true = place
      by false = kept_both (decimal w ++ codes "*") (place_name q i) (kept_both (decimal w) (codes "*") (kept_name (decimal w) (decimal_name w small).bytes) (λ ys. refl)) place

  kept_members : (later : Bool) (i : ℕ) (ws : List ℕ) → i + length ws < 10 ^ 64 → All (λ w. w < 10 ^ 64) ws → IsKept (members_text q later i ws)
  kept_members later i [] few small = λ ys. refl
  kept_members later i (w ∷ ws) few small =
      by (w == 0) (λ after. kept_members after (i + 1) ws (omega arith) (All-tail (λ v. v < 10 ^ 64) w ws small))
    where
      by : (none : Bool) → ((after : Bool) → IsKept (members_text q after (i + 1) ws))
          → IsKept (if none then members_text q later (i + 1) ws else comma_if later ++ (member_text q i w ++ members_text q true (i + 1) ws))
      by true rest = rest later
      by false rest =
          kept_both (comma_if later) (member_text q i w ++ members_text q true (i + 1) ws) (kept_comma later)
          (kept_both (member_text q i w) (members_text q true (i + 1) ws) (kept_member i w (omega arith) (All-head (λ v. v < 10 ^ 64) w ws small)) (rest true))

  kept_set : (ws : List ℕ) → length ws < 10 ^ 64 → All (λ w. w < 10 ^ 64) ws → IsKept (set_text q ws)
  kept_set ws few small = kept_both (codes "{") (members_text q false 0 ws) (λ ys. refl) (kept_members false 0 ws (omega arith) small)

  module _ (net : Net) (small : IsPrintable net) where
    kept_flow : (t : ℕ) (name : List ℕ) → IsName name → IsKept (flow_line q net t name)
    kept_flow t name is =
        let few = small.few in
        let taken = kept_set (taken_by net t) (omega (arith, length-map net.places (λ p. pre_weight p t))) (small.pre t) in
        let given = kept_set (put_by net t) (omega (arith, length-map net.places (λ p. post_weight p t))) (small.post t) in
        kept_both (name ++ codes ": " ++ set_text q (taken_by net t) ++ codes " -> ") (set_text q (put_by net t))
        (kept_both (name ++ codes ": " ++ set_text q (taken_by net t)) (codes " -> ")
        (kept_both (name ++ codes ": ") (set_text q (taken_by net t)) (kept_both name (codes ": ") (kept_name name is.bytes) (λ ys. refl)) taken) (λ ys. refl)) given

    kept_flows : (t : ℕ) (names : List (List ℕ)) → All IsName names → IsKept (fed (flow_lines q net t names))
    kept_flows t [] are = λ ys. refl
    kept_flows t (name ∷ names) are =
        kept_both (flow_line q net t name) (10 ∷ fed (flow_lines q net (t + 1) names)) (kept_flow t name (All-head IsName name names are))
        (λ ys. ap (λ l. 10 ∷ l) (kept_flows (t + 1) names (All-tail IsName name names are) ys))

    kept_marking : IsKept (marking_of q net)
    kept_marking =
        let few = small.few in
        kept_both (codes ".initial_marking " ++ set_text q (starts net)) (10 ∷ [])
        (kept_both (codes ".initial_marking ") (set_text q (starts net)) (λ ys. refl)
        (kept_set (starts net) (omega (arith, length-map net.places (λ p. p.start))) small.start)) (λ ys. refl)

-- ---- the lines of the transitions

labelled_parts : (name label more : List ℕ) → labelled_line name label ++ more ≡ name ++ (codes "[label=\"" ++ (label ++ (codes "\"]" ++ more)))
labelled_parts name label more = simp append_assoc

-- without the labels they are the names
unlabelled : (names labels : List (List ℕ)) (rest : List ℕ) → length labels ≡ length names → All IsName names → All IsName labels
    → outside false (fed (labelled_lines names labels) ++ rest) ≡ fed names ++ outside false rest
unlabelled [] labels rest long are named = refl
unlabelled (name ∷ names) [] rest long are named = absurd (omega arith)
unlabelled (name ∷ names) (label ∷ labels) rest long are named =
    let more = fed (labelled_lines names labels) in
    ap (outside false) (append_assoc (labelled_line name label) (10 ∷ more) rest ∙ labelled_parts name label (10 ∷ (more ++ rest)))
    ∙ kept_name name (All-head IsName name names are).bytes (codes "[label=\"" ++ (label ++ (codes "\"]" ++ 10 ∷ (more ++ rest))))
    ∙ ap (λ l. name ++ l) (left_out label (codes "\"]" ++ 10 ∷ (more ++ rest)) (All-head IsName label labels named).bytes)
    ∙ ap (λ l. name ++ 10 ∷ l) (unlabelled names labels rest (omega arith) (All-tail IsName name names are) (All-tail IsName label labels named))
    ∙ sym (append_assoc name (10 ∷ fed names) (outside false rest))

-- a name before a quotation mark is told, and what follows
told_name : (x y u v : List ℕ) → AllPass is_name_byte x → AllPass is_name_byte y → x ++ 34 ∷ u ≡ y ++ 34 ∷ v → (x ≡ y) × (u ≡ v)
told_name [] [] u v all every same = (refl, cc)
told_name [] (c ∷ y) u v all every same =
    let head : 34 ≡ c = cc in
    absurd (both_ways (is_name_byte 34) refl (ap is_name_byte head ∙ All-head (λ b. is_name_byte b ≡ true) c y every))
told_name (b ∷ x) [] u v all every same =
    let head : b ≡ 34 = cc in
    absurd (both_ways (is_name_byte 34) refl (ap is_name_byte (sym head) ∙ All-head (λ d. is_name_byte d ≡ true) b x all))
told_name (b ∷ x) (c ∷ y) u v all every same =
    let head : b ≡ c = cc in
    let tail : x ++ 34 ∷ u ≡ y ++ 34 ∷ v = cc in
    let (rest, after) = told_name x y u v (All-tail (λ d. is_name_byte d ≡ true) b x all) (All-tail (λ d. is_name_byte d ≡ true) c y every) tail in
    (cc, after)

told_labels : (names labels others : List (List ℕ)) → length labels ≡ length names → length others ≡ length names → All IsName labels → All IsName others
    → fed (labelled_lines names labels) ≡ fed (labelled_lines names others) → labels ≡ others
told_labels [] [] [] long long' named named' same = refl
told_labels [] [] (other ∷ others) long long' named named' same = absurd (omega arith)
told_labels [] (label ∷ labels) others long long' named named' same = absurd (omega arith)
told_labels (name ∷ names) [] others long long' named named' same = absurd (omega arith)
told_labels (name ∷ names) (label ∷ labels) [] long long' named named' same = absurd (omega arith)
told_labels (name ∷ names) (label ∷ labels) (other ∷ others) long long' named named' same =
    let more = fed (labelled_lines names labels) in
    let more' = fed (labelled_lines names others) in
    let whole = sym (labelled_parts name label (10 ∷ more)) ∙ same ∙ labelled_parts name other (10 ∷ more') in
    let (first, after) = told_name label other (93 ∷ 10 ∷ more) (93 ∷ 10 ∷ more') (All-head IsName label labels named).bytes (All-head IsName other others named').bytes
    (append_cancel_left (codes "[label=\"") _ _ (append_cancel_left name _ _ whole)) in
    let rest = told_labels names labels others (omega arith) (omega arith) (All-tail IsName label labels named) (All-tail IsName other others named')
    (append_cancel_left (codes "]\n") _ _ after) in
    cc

-- ---- the whole text

module _ (system : System) (formed : IsWellFormed system) where
  abbrev names_there : List (List ℕ)
  names_there = system.label_names

  abbrev prefix : List ℕ
  prefix = place_prefix system.label_names

  -- what follows the transitions, and the parts of the whole
  abbrev after : Net → List ℕ
  after net = codes ".flows\n" ++ (flows_of prefix net names_there ++ marking_of prefix net)

  abbrev parts : Net → List (List ℕ) → List ℕ
  parts net transitions = codes ".type LPN\n.places\n" ++ (place_lines prefix (length net.places) ++ (codes ".transitions\n" ++ (fed transitions ++ after net)))

  labelled_is : (net : Net) (names : List (List ℕ)) → labelled_text net system names ≡ parts net (labelled_lines names_there names)
  labelled_is net names = parts_with (codes ".type LPN\n.places\n") (codes ".type LPN") (labelled_lines names_there names) prefix net names_there (λ more. refl)

  plain_is : (net : Net) → fed (typed_lines (codes "LPN") prefix net names_there) ≡ parts net names_there
  plain_is net = parts_with (codes ".type LPN\n.places\n") (codes ".type LPN") names_there prefix net names_there (λ more. refl)

  without_labels : (net : Net) (names : List (List ℕ)) → IsLabelledNet system net names
      → without_options (labelled_text net system names) ≡ fed (typed_lines (codes "LPN") prefix net names_there)
  without_labels net names is =
      let begins = prefix_is names_there in
      let small = printable net is.in_range in
      let few = small.few in
      let are = formed.label_names.each in
      let flows = flows_of prefix net names_there in
      let labelled = fed (labelled_lines names_there names) in
      let ends = kept_all (flows ++ marking_of prefix net) (kept_both flows (marking_of prefix net) (kept_flows prefix begins net small 0 names_there are) (kept_marking prefix begins net small)) in
      ap (outside false) (labelled_is net names)
      ∙ ap (λ l. codes ".type LPN\n.places\n" ++ l)
      (kept_lines (names_of prefix (length net.places)) (place_names_are prefix (length net.places) (λ i lt. place_name_is prefix i begins (omega arith))) (codes ".transitions\n" ++ (labelled ++ after net))
      ∙ ap (λ l. place_lines prefix (length net.places) ++ (codes ".transitions\n" ++ l))
      (unlabelled names_there names (after net) is.each are is.are ∙ ap (λ l. fed names_there ++ (codes ".flows\n" ++ l)) ends))
      ∙ sym (plain_is net)

  pub labelled_spelled : (net : Net) (names : List (List ℕ)) → IsLabelledNet system net names → length net.places ≤ most_places
      → Spells (without_options (labelled_text net system names)) system net
  labelled_spelled net names is few =
      subst (λ bytes. Spells bytes system net) (sym (without_labels net names is)) (lines_spelled (codes "LPN") net system (inr refl) formed is.transitions is.in_range few)

  -- where two nets with one plain text are the same
  pub labelled_told : (told_net : (a b : Net) → a.labels ≡ labels system → b.labels ≡ labels system → IsNetInRange a → IsNetInRange b → net_text a system ≡ net_text b system → a ≡ b)
      → (a b : Net) (names others : List (List ℕ)) → IsLabelledNet system a names → IsLabelledNet system b others
      → labelled_text a system names ≡ labelled_text b system others → (a ≡ b) × (names ≡ others)
  labelled_told told_net a b names others is is' same =
      let plain = sym (without_labels a names is) ∙ ap (outside false) same ∙ without_labels b others is' in
      let one : a ≡ b = told_net a b is.transitions is'.transitions is.in_range is'.in_range
      (ap (λ l. codes ".type PN\n" ++ l) (append_cancel_left (codes ".type LPN\n") _ _ plain)) in
      let whole = sym (labelled_is b names) ∙ subst (λ (n : Net). labelled_text n system names ≡ labelled_text b system others) one same ∙ labelled_is b others in
      let lines = append_cancel_right _ _ (after b) (append_cancel_left (codes ".transitions\n") _ _ (append_cancel_left (place_lines prefix (length b.places)) _ _
      (append_cancel_left (codes ".type LPN\n.places\n") _ _ whole))) in
      (one, told_labels names_there names others is.each is'.each is.are is'.are lines)

-- a net whose transitions have labels of a system, by their names
pub named_net : (lts system : System) (net : Net) (old : List ℕ) → IsWellFormed lts → net.labels ≡ labels system → IsNetInRange net → length old ≡ net.labels → All (λ t. t < labels lts) old
    → IsLabelledNet system net (named_labels lts old)
named_net lts system net old formed same range long within = record {
  transitions = same;
  in_range = range;
  each = length-map old (λ t. slice_index_or lts.label_names t []) ∙ long ∙ same;
  are = All-map IsName (λ t. slice_index_or lts.label_names t []) old (λ k d lt. formed.label_names.each (get_or old k d) [] (within k d lt));
}
