-- What a reader of system files has found at each token, and the grammar of system files. The crate's laws
-- tie it to the items of a file.
use Rattle.std.specs.Prelude.{ℕ, Bool, true, false, List, [], ◌∷◌, ◌++◌, if◌then◌else◌}
use Rattle.rg_lexer.specs.Lexeme.{Lexeme}
use Rattle.rg_lexer.specs.declared.token.Kind.{Kind}
use Rattle.rg_lexer.specs.declared.token.Kind.TheVariants.{Name}
use Rattle.rg_grammar.specs.declared.list_position.Setting.{Setting}
use Rattle.rg_grammar.specs.ListPosition.{completed_by, with_completed}
use Rattle.rg_grammar.specs.Grammar.{Grammar}
use Rattle.rg_grammar.specs.Last.{change_last}
use Rattle.rg_grammar.specs.Grammar as grammar
use Rattle.rg_grammar.specs.declared.fault.ItemFault.{ItemFault}
use Rattle.rg_grammar.specs.declared.fault.ItemFault.TheVariants.{Expected}
use Rattle.rg_apt.specs.Table.{Section, States, Labels, Arcs, Position, Start, TypeName, InSection, AfterEntry, Third, InList, wanted, may_end, leads, refusal_by}
use Rattle.rg_apt.specs.Contents.{StateEntry, marks, Declared}

-- nothing is found
abbrev pub nothing : Declared
nothing = record { typed = false; states = []; labels = []; arcs = [] }

abbrev pub marked_entry : StateEntry Lexeme → StateEntry Lexeme
marked_entry e = record e { initial = true }

-- the last entry is marked
abbrev pub mark_last : List (StateEntry Lexeme) → List (StateEntry Lexeme)
mark_last es = change_last marked_entry es

-- an option that marks is seen in a section's list
abbrev pub marked : Section → Bool → Declared → Declared
marked States mark d = record d { states = if mark then mark_last d.states else d.states }
marked Labels mark d = d
marked Arcs mark d = d

abbrev pub with_setting : Section → Setting Lexeme → Declared → Declared
with_setting s setting d = marked s (marks setting) d

-- a name begins an entry or triple
abbrev pub with_name : Section → Lexeme → Declared → Declared
with_name States x d = record d { states = d.states ++ record { name = x; initial = false } ∷ [] }
with_name Labels x d = record d { labels = d.labels ++ x ∷ [] }
with_name Arcs x d = d

-- what is found after a token at a position
abbrev pub adds_by : Position Lexeme → Kind → Lexeme → Declared → Declared
adds_by TypeName Name x d = record d { typed = true }
adds_by (InSection s) Name x d = with_name s x d
adds_by (AfterEntry s) Name x d = with_name s x d
adds_by (Third from label) Name x d = record d { arcs = d.arcs ++ record { from = from; label = label; to = x } ∷ [] }
adds_by (InList s position) kind x d = with_completed (with_setting s) (completed_by position kind x) d
adds_by _ _ _ d = d

abbrev pub adds : Position Lexeme → Lexeme → Declared → Declared
adds position x d = adds_by position x.kind x d

-- the grammar of system files
abbrev pub system_grammar : Grammar (Position Lexeme) Declared ItemFault
system_grammar = record {
  start = Start;
  nothing = nothing;
  leads = leads;
  adds = adds;
  may_end = may_end;
  refuses = λ position x. refusal_by position x.kind x.at;
  ends = λ position end. Expected end (wanted position);
}

-- the first token that can't continue the grammar
abbrev pub FirstRefusal : List Lexeme → ℕ → ItemFault → Type 0
FirstRefusal xs end fault = grammar.FirstRefusal system_grammar xs end fault
