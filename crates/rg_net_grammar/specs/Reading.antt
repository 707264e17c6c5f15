-- What a reader of net files has found at each token, and the grammar of net files.
use Rattle.std.specs.Prelude.{true, false, [], ◌∷◌, ◌++◌, Option, None, Some}
use Rattle.std.specs.Option.{option_or}
use Rattle.rg_lexer.specs.Lexeme.{Lexeme}
use Rattle.rg_lexer.specs.declared.token.Kind.{Kind}
use Rattle.rg_lexer.specs.declared.token.Kind.TheVariants.{Name, RightBrace, Comma}
use Rattle.rg_grammar.specs.declared.list_position.Setting.{Setting}
use Rattle.rg_grammar.specs.ListPosition.{completed_by, with_completed}
use Rattle.rg_grammar.specs.Grammar.{Grammar}
use Rattle.rg_grammar.specs.Last.{change_last}
use Rattle.rg_grammar.specs.declared.fault.ItemFault.{ItemFault}
use Rattle.rg_grammar.specs.declared.fault.ItemFault.TheVariants.{Expected}
use Rattle.rg_net_grammar.specs.Item.{Member, Flow}
use Rattle.rg_net_grammar.specs.Contents.{Transition, Declared, label_in}
use Rattle.rg_net_grammar.specs.Table.{Section, Places, Transitions, Side, Pre, Post, Marking, SetPosition, AfterName, AfterStar, Position, Start, TypeName, InSection, AfterEntry, InList, InFlows, InSet, wanted, may_end, leads_by, refusal_by}

-- nothing is found
abbrev pub nothing : Declared
nothing = record { typed = false; places = []; transitions = []; flows = []; marking = [] }

-- a transition gets the value of an option, if the option gives one and none came before
abbrev pub with_value : Setting Lexeme → Transition Lexeme → Transition Lexeme
with_value setting t = record t { label = option_or t.label (label_in setting) }

-- an option of the last entry of a section
abbrev pub with_setting : Section → Setting Lexeme → Declared → Declared
with_setting Places setting d = d
with_setting Transitions setting d = record d { transitions = change_last (with_value setting) d.transitions }

-- an entry of a section
abbrev pub with_name : Section → Lexeme → Declared → Declared
with_name Places x d = record d { places = d.places ++ x ∷ [] }
with_name Transitions x d = record d { transitions = d.transitions ++ record { name = x; label = None } ∷ [] }

abbrev pub with_pre : Member Lexeme → Flow → Flow
with_pre member flow = record flow { pre = flow.pre ++ member ∷ [] }

abbrev pub with_post : Member Lexeme → Flow → Flow
with_post member flow = record flow { post = flow.post ++ member ∷ [] }

-- a member of the set that is read
abbrev pub with_member : Side → Member Lexeme → Declared → Declared
with_member Pre member d = record d { flows = change_last (with_pre member) d.flows }
with_member Post member d = record d { flows = change_last (with_post member) d.flows }
with_member Marking member d = record d { marking = d.marking ++ member ∷ [] }

-- the member that a token completes
abbrev pub member_by : SetPosition Lexeme → Kind → Lexeme → Option (Member Lexeme)
member_by (AfterName name) Comma x = Some (record { number = None; place = name })
member_by (AfterName name) RightBrace x = Some (record { number = None; place = name })
member_by (AfterStar number) Name x = Some (record { number = Some number; place = x })
member_by _ _ _ = None

-- what is found after a token at a position
abbrev pub adds_by : Position Lexeme → Kind → Lexeme → Declared → Declared
adds_by TypeName Name x d = record d { typed = true }
adds_by (InSection s) Name x d = with_name s x d
adds_by (AfterEntry s) Name x d = with_name s x d
adds_by (InList s position) kind x d = with_completed (with_setting s) (completed_by position kind x) d
adds_by InFlows Name x d = record d { flows = d.flows ++ record { name = x; pre = []; post = [] } ∷ [] }
adds_by (InSet side position) kind x d = with_completed (with_member side) (member_by position kind x) d
adds_by _ _ _ d = d

abbrev pub leads : Position Lexeme → Lexeme → Option (Position Lexeme)
leads position x = leads_by position x.kind x

abbrev pub adds : Position Lexeme → Lexeme → Declared → Declared
adds position x d = adds_by position x.kind x d

-- the grammar of net files
abbrev pub net_grammar : Grammar (Position Lexeme) Declared ItemFault
net_grammar = record {
  start = Start;
  nothing = nothing;
  leads = leads;
  adds = adds;
  may_end = may_end;
  refuses = λ position x. refusal_by position x.kind x.at;
  ends = λ position end. Expected end (wanted position);
}
