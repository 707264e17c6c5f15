-- The first fault of a text of a certificate.
use Rattle.std.specs.Prelude.{◌≡◌, ◌≢◌, ℕ, ◌+◌, List, [], ◌∷◌, ◌++◌, length}
use Rattle.rg_text.specs.Line.{fed}
use Rattle.rg_theory.specs.System.{System}
use Rattle.rg_cert.specs.declared.fault.CertFault.{CertFault}
use Rattle.rg_cert.specs.declared.fault.CertFault.TheVariants.{Expected, UnknownName, NumberPasses, TreeShort, TreeLong, NoMemory}
use Rattle.rg_cert.specs.Lines.{LineForm, Position, at_heading, at_end, to, short, long, refused, IsFieldInRange, IsFieldKnown, AreAsked, fields_of, HasForm, follows}

-- the numbers are in range, and the names are those of states and labels
abbrev pub IsRight : System → LineForm → List (List ℕ) → Type 0
IsRight lts form texts = AreAsked IsFieldInRange (fields_of form) texts × AreAsked (IsFieldKnown lts) (fields_of form) texts

-- the line is right in itself, and leads from a position to the next
pub record LineLeads (lts : System) (position : Position) (line : List ℕ) (next : Position) : Type 0 where
  pub form : LineForm
  pub texts : List (List ℕ)
  pub has : HasForm form line texts
  pub right : IsRight lts form texts
  pub leads : follows position form ≡ to next

-- lines that lead from a position to a position, one after the other
abbrev pub LinesLead : System → Position → List (List ℕ) → Position → Type 0
LinesLead lts position [] last = position ≡ last
LinesLead lts position (line ∷ more) last = (next : Position) × LineLeads lts position line next × LinesLead lts next more last

-- from a position on the text has these lines, and goes on with the rest at a position
pub record TextGoesOn (lts : System) (from : Position) (text : List ℕ) (before : List (List ℕ)) (position : Position) (rest : List ℕ) : Type 0 where
  pub cut : text ≡ fed before ++ rest
  pub lines : LinesLead lts from before position

-- the rest begins with a line of a form that isn't refused at the position
pub record BeginsWith (position : Position) (rest : List ℕ) (form : LineForm) (texts : List (List ℕ)) : Type 0 where
  pub line : List ℕ
  pub more : List ℕ
  pub text : rest ≡ line ++ 10 ∷ more
  pub has : HasForm form line texts
  pub due : follows position form ≢ refused

-- the rest of the text isn't allowed at the position: it begins with no line of a form allowed there, or it follows the end
abbrev pub BreaksAt : Position → List ℕ → Type 0
BreaksAt at_end rest = rest ≢ []
BreaksAt position rest = (form : LineForm) (texts : List (List ℕ)) → ¬ BeginsWith position rest form texts

-- a number in the line is out of its range
abbrev pub HasNumberOut : LineForm → List (List ℕ) → Type 0
HasNumberOut form texts = ¬ AreAsked IsFieldInRange (fields_of form) texts

-- the numbers are in range, and a name is that of no state or label
abbrev pub HasUnknownName : System → LineForm → List (List ℕ) → Type 0
HasUnknownName lts form texts = AreAsked IsFieldInRange (fields_of form) texts × ¬ AreAsked (IsFieldKnown lts) (fields_of form) texts

-- the text goes on with a line of a form with these texts, and this holds of them
abbrev pub HasLine : Position → List ℕ → (LineForm → List (List ℕ) → Type 0) → Type 0
HasLine position rest Holds = (form : LineForm) × (texts : List (List ℕ)) × BeginsWith position rest form texts × Holds form texts

-- what the text goes on with at a position, in line n, is at fault
abbrev pub IsFaultAt : System → Position → List ℕ → ℕ → CertFault → Type 0
IsFaultAt lts position rest n (Expected line) = (line ≡ n) × BreaksAt position rest
IsFaultAt lts position rest n (NumberPasses line) = (line ≡ n) × HasLine position rest HasNumberOut
IsFaultAt lts position rest n (UnknownName line) = (line ≡ n) × HasLine position rest (HasUnknownName lts)
IsFaultAt lts position rest n TreeShort = HasLine position rest (λ form texts. IsRight lts form texts × (follows position form ≡ short))
IsFaultAt lts position rest n TreeLong = HasLine position rest (λ form texts. IsRight lts form texts × (follows position form ≡ long))
IsFaultAt lts position rest n NoMemory = ⊥

-- the first fault of a text that begins at a position, after right lines; its first line has a number
pub record FaultFrom (lts : System) (from : Position) (text : List ℕ) (first : ℕ) (fault : CertFault) : Type 0 where
  pub before : List (List ℕ)
  pub position : Position
  pub rest : List ℕ
  pub goes_on : TextGoesOn lts from text before position rest
  pub is : IsFaultAt lts position rest (length before + first) fault

-- the first fault of a text; lines are numbered from 1
abbrev pub FirstFault : List ℕ → System → CertFault → Type 0
FirstFault bytes lts fault = FaultFrom lts at_heading bytes 1 fault
