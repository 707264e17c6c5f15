-- A text has one first fault, and none where it is whole.
use Rattle.std.proofs.Common.{◌≡◌, ◌⊎◌, inl, inr, ℕ, suc, ◌+◌, List, [], ◌∷◌, ◌++◌, length, append_assoc, refl, sym, ap, ap₂, subst, ◌∙◌, arith}
use Rattle.rg_text.specs.Line.{fed}
use Rattle.rg_theory.specs.System.{System}
use Rattle.rg_cert.specs.declared.fault.CertFault.{CertFault}
use Rattle.rg_cert.specs.declared.fault.CertFault.TheVariants.{Expected, UnknownName, NumberPasses, TreeShort, TreeLong, NoMemory}
use Rattle.rg_cert.specs.Lines.{HasFieldForm, AreAsked, LineForm, heading_line, class_line, unreachable_line, fork_line, event_line, states_line, case_line}
use Rattle.rg_cert.specs.Lines.{split_tokens_line, split_effect_line, split_start_line, leaf_line, row_line, end_line, fields_of, HasForm, Position, at_heading, at_class}
use Rattle.rg_cert.specs.Lines.{at_reason, at_last, at_one_case, at_cases, at_node, at_row, at_end, to, short, long, refused, follows}
use Rattle.rg_cert.specs.Faults.{IsRight, LineLeads, LinesLead, TextGoesOn, BeginsWith, BreaksAt, HasNumberOut, HasUnknownName, IsFaultAt, FaultFrom}
use Rattle.rg_cert.proofs.Cuts.{one_cut}
use Rattle.rg_cert.proofs.LineTexts.{line_lacks, fields_are}
use Rattle.rg_cert.proofs.FormKeys.{one_form}
use Rattle.rg_cert.proofs.NextLines.{same_line}

-- nothing may stand after the end
pub end_refuses : (form : LineForm) → follows at_end form ≡ refused
end_refuses (heading_line v) = refl
end_refuses (class_line v) = refl
end_refuses unreachable_line = refl
end_refuses fork_line = refl
end_refuses event_line = refl
end_refuses states_line = refl
end_refuses case_line = refl
end_refuses split_tokens_line = refl
end_refuses split_effect_line = refl
end_refuses split_start_line = refl
end_refuses leaf_line = refl
end_refuses (row_line row) = refl
end_refuses end_line = refl

-- what breaks off begins with no line
breaks_begins : (position : Position) (rest : List ℕ) (form : LineForm) (texts : List (List ℕ)) → BreaksAt position rest → BeginsWith position rest form texts → ⊥
breaks_begins at_heading rest form texts breaks b = breaks form texts b
breaks_begins (at_class v) rest form texts breaks b = breaks form texts b
breaks_begins (at_reason v) rest form texts breaks b = breaks form texts b
breaks_begins at_last rest form texts breaks b = breaks form texts b
breaks_begins (at_one_case v) rest form texts breaks b = breaks form texts b
breaks_begins (at_cases v) rest form texts breaks b = breaks form texts b
breaks_begins (at_node v c due) rest form texts breaks b = breaks form texts b
breaks_begins (at_row v c due) rest form texts breaks b = breaks form texts b
breaks_begins at_end rest form texts breaks b = b.due (end_refuses form)

-- a line has one form and one list of texts
pub same_texts : (f g : LineForm) (line : List ℕ) (xs ys : List (List ℕ)) → HasForm f line xs → HasForm g line ys → (f ≡ g) × (xs ≡ ys)
same_texts f g line xs ys x y =
    let texts = sym (fields_are f line xs x) ∙ fields_are g line ys y in
    (one_form f g ys (subst (AreAsked HasFieldForm (fields_of f)) texts x.fields) y.fields, texts)

-- the fault of a line with these texts
abbrev pub IsLineFault : System → Position → LineForm → List (List ℕ) → ℕ → CertFault → Type 0
IsLineFault lts position form texts n (NumberPasses line) = (line ≡ n) × HasNumberOut form texts
IsLineFault lts position form texts n (UnknownName line) = (line ≡ n) × HasUnknownName lts form texts
IsLineFault lts position form texts n TreeShort = IsRight lts form texts × (follows position form ≡ short)
IsLineFault lts position form texts n TreeLong = IsRight lts form texts × (follows position form ≡ long)
IsLineFault lts position form texts n _ = ⊥

-- the text breaks off, or its line is at fault
abbrev pub IsEither : System → Position → List ℕ → ℕ → CertFault → Type 0
IsEither lts position rest n fault =
    ((fault ≡ Expected n) × BreaksAt position rest)
    ⊎ ((form : LineForm) × (texts : List (List ℕ)) × BeginsWith position rest form texts × IsLineFault lts position form texts n fault)

pub either : (lts : System) (position : Position) (rest : List ℕ) (n : ℕ) (fault : CertFault) → IsFaultAt lts position rest n fault → IsEither lts position rest n fault
either lts position rest n (Expected line) is = inl (ap Expected is.0, is.1)
either lts position rest n (NumberPasses line) is = inr (is.1.0, is.1.1, is.1.2, (is.0, is.1.3))
either lts position rest n (UnknownName line) is = inr (is.1.0, is.1.1, is.1.2, (is.0, is.1.3))
either lts position rest n TreeShort is = inr (is.0, is.1, is.2, is.3)
either lts position rest n TreeLong is = inr (is.0, is.1, is.2, is.3)
either lts position rest n NoMemory is = absurd is

one_line_fault : (lts : System) (position : Position) (form : LineForm) (texts : List (List ℕ)) (n : ℕ) (d e : CertFault)
    → IsLineFault lts position form texts n d → IsLineFault lts position form texts n e → d ≡ e
one_line_fault lts position form texts n (NumberPasses i) (NumberPasses j) x y = ap NumberPasses (x.0 ∙ sym y.0)
one_line_fault lts position form texts n (NumberPasses i) (UnknownName j) x y = absurd (x.1 y.1.0)
one_line_fault lts position form texts n (NumberPasses i) TreeShort x y = absurd (x.1 y.0.0)
one_line_fault lts position form texts n (NumberPasses i) TreeLong x y = absurd (x.1 y.0.0)
one_line_fault lts position form texts n (UnknownName i) (NumberPasses j) x y = absurd (y.1 x.1.0)
one_line_fault lts position form texts n (UnknownName i) (UnknownName j) x y = ap UnknownName (x.0 ∙ sym y.0)
one_line_fault lts position form texts n (UnknownName i) TreeShort x y = absurd (x.1.1 y.0.1)
one_line_fault lts position form texts n (UnknownName i) TreeLong x y = absurd (x.1.1 y.0.1)
one_line_fault lts position form texts n TreeShort (NumberPasses j) x y = absurd (y.1 x.0.0)
one_line_fault lts position form texts n TreeShort (UnknownName j) x y = absurd (y.1.1 x.0.1)
one_line_fault lts position form texts n TreeShort TreeShort x y = refl
one_line_fault lts position form texts n TreeShort TreeLong x y = let both = sym x.1 ∙ y.1 in absurd cc
one_line_fault lts position form texts n TreeLong (NumberPasses j) x y = absurd (y.1 x.0.0)
one_line_fault lts position form texts n TreeLong (UnknownName j) x y = absurd (y.1.1 x.0.1)
one_line_fault lts position form texts n TreeLong TreeShort x y = let both = sym x.1 ∙ y.1 in absurd cc
one_line_fault lts position form texts n TreeLong TreeLong x y = refl
one_line_fault lts position form texts n (Expected i) e x y = absurd x
one_line_fault lts position form texts n NoMemory e x y = absurd x
one_line_fault lts position form texts n d (Expected j) x y = absurd y
one_line_fault lts position form texts n d NoMemory x y = absurd y

-- one fault at a position
one_fault_at : (lts : System) (position : Position) (rest : List ℕ) (n : ℕ) (d e : CertFault) → IsEither lts position rest n d → IsEither lts position rest n e → d ≡ e
one_fault_at lts position rest n d e (inl x) (inl y) = x.0 ∙ sym y.0
one_fault_at lts position rest n d e (inl x) (inr (g, ys, b, y)) = absurd (breaks_begins position rest g ys x.1 b)
one_fault_at lts position rest n d e (inr (f, xs, b, x)) (inl y) = absurd (breaks_begins position rest f xs y.1 b)
one_fault_at lts position rest n d e (inr (f, xs, b, x)) (inr (g, ys, c, y)) =
    let has = same_line position rest c.line c.more c.text (line_lacks g c.line ys c.has) f xs b in
    let same = same_texts f g c.line xs ys has c.has in
    one_line_fault lts position g ys n d e (subst (λ h. IsLineFault lts position h ys n d) same.0 (subst (λ l. IsLineFault lts position f l n d) same.1 x)) y

-- a line that leads on isn't at fault
no_line_fault : (lts : System) (position : Position) (form : LineForm) (texts : List (List ℕ)) (n : ℕ) (fault : CertFault) (next : Position) → IsRight lts form texts → follows position form ≡ to next
    → IsLineFault lts position form texts n fault → ⊥
no_line_fault lts position form texts n (NumberPasses i) next right leads x = x.1 right.0
no_line_fault lts position form texts n (UnknownName i) next right leads x = x.1.1 right.1
no_line_fault lts position form texts n TreeShort next right leads x = let both = sym leads ∙ x.1 in absurd cc
no_line_fault lts position form texts n TreeLong next right leads x = let both = sym leads ∙ x.1 in absurd cc
no_line_fault lts position form texts n (Expected i) next right leads x = x
no_line_fault lts position form texts n NoMemory next right leads x = x

leads_begin : (lts : System) (position : Position) (line : List ℕ) (next : Position) (text rest : List ℕ) → text ≡ line ++ 10 ∷ rest
    → (is : LineLeads lts position line next) → BeginsWith position text is.form is.texts
leads_begin lts position line next text rest cut is =
    record { line = line; more = rest; text = cut; has = is.has; due = λ e. let both = sym is.leads ∙ e in absurd cc }

pub no_fault_at : (lts : System) (position : Position) (line : List ℕ) (next : Position) (text rest : List ℕ) (n : ℕ) (fault : CertFault) → text ≡ line ++ 10 ∷ rest → LineLeads lts position line next
    → IsEither lts position text n fault → ⊥
no_fault_at lts position line next text rest n fault cut is (inl x) = breaks_begins position text is.form is.texts x.1 (leads_begin lts position line next text rest cut is)
no_fault_at lts position line next text rest n fault cut is (inr (f, xs, b, x)) =
    let has = same_line position text line rest cut (line_lacks is.form line is.texts is.has) f xs b in
    let same = same_texts f is.form line xs is.texts has is.has in
    no_line_fault lts position is.form is.texts n fault next is.right is.leads
    (subst (λ h. IsLineFault lts position h is.texts n fault) same.0 (subst (λ l. IsLineFault lts position f l n fault) same.1 x))

-- a line leads to one position
pub one_next : (lts : System) (position : Position) (line : List ℕ) (p q : Position) → LineLeads lts position line p → LineLeads lts position line q → p ≡ q
one_next lts position line p q x y =
    let same = same_texts x.form y.form line x.texts y.texts x.has y.has in
    let both : to p ≡ to q = sym x.leads ∙ ap (follows position) same.0 ∙ y.leads in
    cc

-- two texts that go on with lines have the same first one
pub same_first : (lts : System) (from p q : Position) (a b r s : List ℕ) → LineLeads lts from a p → LineLeads lts from b q → a ++ 10 ∷ r ≡ b ++ 10 ∷ s → (a ≡ b) × (r ≡ s) × (p ≡ q)
same_first lts from p q a b r s x y e =
    let cut = one_cut 10 a b r s (line_lacks x.form a x.texts x.has) (line_lacks y.form b y.texts y.has) e in
    (cut.0, cut.1, one_next lts from b p q (subst (λ l. LineLeads lts from l p) cut.0 x) y)

abbrev first_cut : (line : List ℕ) (more : List (List ℕ)) (rest text : List ℕ) → text ≡ fed (line ∷ more) ++ rest → text ≡ line ++ 10 ∷ (fed more ++ rest)
first_cut line more rest text e = e ∙ append_assoc line (10 ∷ fed more) rest

-- the first fault, along two walks
faults_from : (lts : System) (from : Position) (text : List ℕ) (n : ℕ) (a : List (List ℕ)) (p : Position) (r : List ℕ) (b : List (List ℕ)) (q : Position) (s : List ℕ) (d e : CertFault)
    → text ≡ fed a ++ r → LinesLead lts from a p → IsFaultAt lts p r (length a + n) d → text ≡ fed b ++ s → LinesLead lts from b q → IsFaultAt lts q s (length b + n) e → d ≡ e
faults_from lts from text n [] p r [] q s d e cut leads x cut' leads' y =
    let x' : IsFaultAt lts from text (0 + n) d = subst (λ z. IsFaultAt lts from z (0 + n) d) (sym cut) (subst (λ z. IsFaultAt lts z r (0 + n) d) (sym leads) x) in
    let y' : IsFaultAt lts from text (0 + n) e = subst (λ z. IsFaultAt lts from z (0 + n) e) (sym cut') (subst (λ z. IsFaultAt lts z s (0 + n) e) (sym leads') y) in
    one_fault_at lts from text (0 + n) d e (either lts from text (0 + n) d x') (either lts from text (0 + n) e y')
faults_from lts from text n [] p r (line ∷ b) q s d e cut leads x cut' (next, first, more) y =
    let x' : IsFaultAt lts from text (0 + n) d = subst (λ z. IsFaultAt lts from z (0 + n) d) (sym cut) (subst (λ z. IsFaultAt lts z r (0 + n) d) (sym leads) x) in
    absurd (no_fault_at lts from line next text (fed b ++ s) (0 + n) d (first_cut line b s text cut') first (either lts from text (0 + n) d x'))
faults_from lts from text n (line ∷ a) p r [] q s d e cut (next, first, more) x cut' leads' y =
    let y' : IsFaultAt lts from text (0 + n) e = subst (λ z. IsFaultAt lts from z (0 + n) e) (sym cut') (subst (λ z. IsFaultAt lts z s (0 + n) e) (sym leads') y) in
    absurd (no_fault_at lts from line next text (fed a ++ r) (0 + n) e (first_cut line a r text cut) first (either lts from text (0 + n) e y'))
faults_from lts from text n (line ∷ a) p r (line' ∷ b) q s d e cut (next, first, more) x cut' (next', first', more') y =
    let one = same_first lts from next next' line line' (fed a ++ r) (fed b ++ s) first first' (sym (first_cut line a r text cut) ∙ first_cut line' b s text cut') in
    let more'' : LinesLead lts next b q = subst (λ z. LinesLead lts z b q) (sym one.2) more' in
    faults_from lts next (fed a ++ r) (suc n) a p r b q s d e refl more
    (subst (λ k. IsFaultAt lts p r k d) (omega arith) x) one.1 more'' (subst (λ k. IsFaultAt lts q s k e) (omega arith) y)

pub one_fault : (lts : System) (from : Position) (text : List ℕ) (n : ℕ) (d e : CertFault) → FaultFrom lts from text n d → FaultFrom lts from text n e → d ≡ e
one_fault lts from text n d e x y =
    faults_from lts from text n x.before x.position x.rest y.before y.position y.rest d e x.goes_on.cut x.goes_on.lines x.is y.goes_on.cut y.goes_on.lines y.is

-- no fault in a whole text
whole_from : (lts : System) (from : Position) (text : List ℕ) (n : ℕ) (a : List (List ℕ)) (b : List (List ℕ)) (q : Position) (s : List ℕ) (e : CertFault)
    → text ≡ fed a ++ [] → LinesLead lts from a at_end → text ≡ fed b ++ s → LinesLead lts from b q → IsFaultAt lts q s (length b + n) e → ⊥
whole_from lts from text n [] [] q s e cut leads cut' leads' y =
    let position : q ≡ at_end = sym leads' ∙ leads in
    let none : s ≡ [] = sym cut' ∙ cut in
    ended (either lts at_end [] (0 + n) e (subst (λ z. IsFaultAt lts at_end z (0 + n) e) none (subst (λ z. IsFaultAt lts z s (0 + n) e) position y)))
  where
    ended : IsEither lts at_end [] (0 + n) e → ⊥
    ended (inl x) = x.1 refl
    ended (inr (f, xs, b, x)) = b.due (end_refuses f)
whole_from lts from text n [] (line ∷ b) q s e cut leads cut' (next, first, more) y =
    let at : LineLeads lts at_end line next = subst (λ z. LineLeads lts z line next) leads first in
    let both = sym (end_refuses at.form) ∙ at.leads in
    absurd cc
whole_from lts from text n (line ∷ a) [] q s e cut (next, first, more) cut' leads' y =
    let y' : IsFaultAt lts from text (0 + n) e = subst (λ z. IsFaultAt lts from z (0 + n) e) (sym cut') (subst (λ z. IsFaultAt lts z s (0 + n) e) (sym leads') y) in
    no_fault_at lts from line next text (fed a ++ []) (0 + n) e (first_cut line a [] text cut) first (either lts from text (0 + n) e y')
whole_from lts from text n (line ∷ a) (line' ∷ b) q s e cut (next, first, more) cut' (next', first', more') y =
    let one = same_first lts from next next' line line' (fed a ++ []) (fed b ++ s) first first' (sym (first_cut line a [] text cut) ∙ first_cut line' b s text cut') in
    whole_from lts next (fed a ++ []) (suc n) a b q s e refl more one.1 (subst (λ z. LinesLead lts z b q) (sym one.2) more') (subst (λ k. IsFaultAt lts q s k e) (omega arith) y)

pub no_fault : (lts : System) (from : Position) (text : List ℕ) (n : ℕ) (whole : List (List ℕ)) (fault : CertFault) → TextGoesOn lts from text whole at_end [] → FaultFrom lts from text n fault → ⊥
no_fault lts from text n whole fault on f =
    whole_from lts from text n whole f.before f.position f.rest fault on.cut on.lines f.goes_on.cut f.goes_on.lines f.is

-- a whole text has one list of lines
pub one_walk : (lts : System) (from : Position) (text : List ℕ) (a b : List (List ℕ)) → text ≡ fed a ++ [] → LinesLead lts from a at_end → text ≡ fed b ++ [] → LinesLead lts from b at_end → a ≡ b
one_walk lts from text [] [] cut leads cut' leads' = refl
one_walk lts from text [] (line ∷ b) cut leads cut' (next, first, more) =
    let at : LineLeads lts at_end line next = subst (λ z. LineLeads lts z line next) leads first in
    let both = sym (end_refuses at.form) ∙ at.leads in
    absurd cc
one_walk lts from text (line ∷ a) [] cut (next, first, more) cut' leads' =
    let at : LineLeads lts at_end line next = subst (λ z. LineLeads lts z line next) leads' first in
    let both = sym (end_refuses at.form) ∙ at.leads in
    absurd cc
one_walk lts from text (line ∷ a) (line' ∷ b) cut (next, first, more) cut' (next', first', more') =
    let one = same_first lts from next next' line line' (fed a ++ []) (fed b ++ []) first first' (sym (first_cut line a [] text cut) ∙ first_cut line' b [] text cut') in
    ap₂ ◌∷◌ one.0 (one_walk lts next (fed a ++ []) a b refl more one.1 (subst (λ z. LinesLead lts z b at_end) (sym one.2) more'))
