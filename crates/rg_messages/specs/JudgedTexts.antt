-- The lines that `verify` writes to out.
use Rattle.std.specs.Prelude.{ℕ, List, ◌++◌, codes, decimal}
use Rattle.rg_theory.specs.System.{System}
use Rattle.rg_theory.specs.declared.Class.{Class}
use Rattle.rg_theory.specs.ClassWords.{class_text}
use Rattle.rg_cert.specs.declared.fault.CertFault.{CertFault}
use Rattle.rg_cert.specs.declared.fault.CertFault.TheVariants.{Expected, UnknownName, NumberPasses, TreeShort, TreeLong, NoMemory}
use Rattle.rg_cert_data.specs.Certificates.{IsVariableOf}
use Rattle.rg_cert.specs.Text.{state_name, label_name}
use Rattle.rg_verify.specs.declared.verdict.Defect.{Defect}
use Rattle.rg_verify.specs.declared.verdict.Defect.TheVariants.{WrongRow, NotPositive, LeftOver, SumPasses, WrongForm, CaseMissing, NotSo}
use Rattle.rg_cert_meaning.specs.declared.Variable.{Variable}
use Rattle.rg_cert_meaning.specs.declared.Variable.TheVariants.{Tokens, Effect}

-- the certificate holds, so there is no net of its class
abbrev pub accepted_line : Class → List ℕ
accepted_line class = codes "accepted: no net of class " ++ class_text class ++ codes "\n"

-- the text is that of no certificate; want of memory is never written
abbrev pub cert_fault_text : CertFault → List ℕ
cert_fault_text (Expected line) = codes "line " ++ decimal line ++ codes ": expected form"
cert_fault_text (UnknownName line) = codes "line " ++ decimal line ++ codes ": unknown name"
cert_fault_text (NumberPasses line) = codes "line " ++ decimal line ++ codes ": number passes"
cert_fault_text TreeShort = codes "tree short"
cert_fault_text TreeLong = codes "tree long"
cert_fault_text NoMemory = codes "no memory"

-- a variable with the name of its state or label
abbrev pub variable_text : System → Variable → List ℕ
variable_text lts (Tokens q) = codes "tokens " ++ state_name lts q
variable_text lts (Effect t) = codes "effect " ++ label_name lts t

-- the variable that is left over is the system's
abbrev pub HasName : System → Defect → Type 0
HasName lts (LeftOver v) = IsVariableOf lts v
HasName lts defect = Unit {0}

-- what is wrong with a node
abbrev pub leaf_text : System → Defect → List ℕ
leaf_text lts WrongRow = codes "wrong row"
leaf_text lts NotPositive = codes "not positive"
leaf_text lts SumPasses = codes "sum passes"
leaf_text lts (LeftOver v) = codes "left over " ++ variable_text lts v
leaf_text lts WrongForm = codes "wrong form"
leaf_text lts defect = codes "no contradiction"

-- the certificate doesn't hold; a node's defect is written with its case and node
abbrev pub defect_text : System → ℕ → ℕ → Defect → List ℕ
defect_text lts case node NotSo = codes "not so"
defect_text lts case node CaseMissing = codes "case missing"
defect_text lts case node defect = codes "case " ++ decimal case ++ codes " node " ++ decimal node ++ codes ": " ++ leaf_text lts defect

abbrev pub refused_line : List ℕ → List ℕ
refused_line why = codes "refused: " ++ why ++ codes "\n"
