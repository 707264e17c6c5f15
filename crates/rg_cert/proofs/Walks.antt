-- Lines that lead on, one after the other.
use Rattle.std.proofs.Common.{◌≡◌, ℕ, suc, ◌+◌, List, [], ◌∷◌, ◌++◌, length, append_assoc, refl, sym, ap, subst, ◌∙◌, arith}
use Rattle.rg_text.specs.Line.{fed}
use Rattle.rg_theory.specs.System.{System}
use Rattle.rg_cert.specs.declared.fault.CertFault.{CertFault}
use Rattle.rg_cert.specs.Lines.{LineForm, Position}
use Rattle.rg_cert.specs.Faults.{LineLeads, LinesLead, TextGoesOn, IsFaultAt, FaultFrom}
use Rattle.rg_cert.specs.Drafts.{IsNextLine}
use Rattle.rg_text.proofs.Grown.{fed-append as fed_append}

pub fed_more : (before : List (List ℕ)) (line rest : List ℕ) → fed (before ++ line ∷ []) ++ rest ≡ fed before ++ (line ++ 10 ∷ rest)
fed_more before line rest =
    ap (λ l. l ++ rest) (fed_append before (line ∷ [])) ∙ append_assoc (fed before) (line ++ 10 ∷ []) rest ∙ ap (λ l. fed before ++ l) (append_assoc line (10 ∷ []) rest)

lead_more : (lts : System) (from : Position) (before : List (List ℕ)) (position : Position) (line : List ℕ) (next : Position) → LinesLead lts from before position → LineLeads lts position line next
    → LinesLead lts from (before ++ line ∷ []) next
lead_more lts from [] position line next same leads = (next, subst (λ p. LineLeads lts p line next) (sym same) leads, refl)
lead_more lts from (first ∷ before) position line next (second, leads, more) last = (second, leads, lead_more lts second before position line next more last)

pub start : (lts : System) (position : Position) (text : List ℕ) → TextGoesOn lts position text [] position text
start lts position text = record { cut = refl; lines = refl }

next_leads : (lts : System) (position : Position) (text : List ℕ) (form : LineForm) (texts : List (List ℕ)) (next : Position) (rest : List ℕ)
    → (is : IsNextLine lts position text form texts next rest) → LineLeads lts position is.line next
next_leads lts position text form texts next rest is = record { form = form; texts = texts; has = is.has; right = is.right; leads = is.leads }

-- one line more
pub goes_more : (lts : System) (from : Position) (text : List ℕ) (before : List (List ℕ)) (position : Position) (rest : List ℕ) (form : LineForm)
    (texts : List (List ℕ)) (next : Position) (after : List ℕ)
    → TextGoesOn lts from text before position rest → (is : IsNextLine lts position rest form texts next after) → TextGoesOn lts from text (before ++ is.line ∷ []) next after
goes_more lts from text before position rest form texts next after on is = record {
  cut = on.cut ∙ ap (λ l. fed before ++ l) is.cut ∙ sym (fed_more before is.line after);
  lines = lead_more lts from before position is.line next on.lines (next_leads lts position rest form texts next after is);
}

-- lines before those of a walk
pub goes_before : (lts : System) (first : Position) (line : List ℕ) (from : Position) (whole text : List ℕ) (before : List (List ℕ)) (position : Position) (rest : List ℕ)
    → whole ≡ line ++ 10 ∷ text → LineLeads lts first line from → TextGoesOn lts from text before position rest → TextGoesOn lts first whole (line ∷ before) position rest
goes_before lts first line from whole text before position rest is leads on = record {
  cut = is ∙ ap (λ l. line ++ 10 ∷ l) on.cut ∙ sym (append_assoc line (10 ∷ fed before) rest);
  lines = (from, leads, on.lines);
}

pub count_before : (lts : System) (position : Position) (rest : List ℕ) (n m : ℕ) (fault : CertFault) → n ≡ m → IsFaultAt lts position rest n fault → IsFaultAt lts position rest m fault
count_before lts position rest n m fault same is = subst (λ k. IsFaultAt lts position rest k fault) same is

-- a fault after one line more
pub fault_before : (lts : System) (first : Position) (line : List ℕ) (from : Position) (whole text : List ℕ) (n : ℕ) (fault : CertFault)
    → whole ≡ line ++ 10 ∷ text → LineLeads lts first line from → FaultFrom lts from text (n + 1) fault → FaultFrom lts first whole n fault
fault_before lts first line from whole text n fault is leads f = record {
  before = line ∷ f.before;
  position = f.position;
  rest = f.rest;
  goes_on = goes_before lts first line from whole text f.before f.position f.rest is leads f.goes_on;
  is = count_before lts f.position f.rest (length f.before + (n + 1)) (suc (length f.before) + n) fault (omega arith) f.is;
}
