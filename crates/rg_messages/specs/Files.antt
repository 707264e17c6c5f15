-- The lines that refuse files, written to err.
use Rattle.std.specs.Prelude.{ℕ, List, [], ◌++◌, Option, None, Some, codes, decimal}
use Rattle.rg_lexer.specs.declared.token.Want.{Want}
use Rattle.rg_lexer.specs.declared.token.Want.TheVariants as want
use Rattle.rg_apt.specs.declared.fault.TextFault.{TextFault}
use Rattle.rg_apt.specs.declared.fault.TextFault.TheVariants as apt
use Rattle.rg_genet.specs.declared.fault.GraphFault.{GraphFault}
use Rattle.rg_genet.specs.declared.fault.GraphFault.TheVariants as graph
use Rattle.rg_words.specs.declared.fault.WordFault.{WordFault}
use Rattle.rg_words.specs.declared.fault.WordFault.TheVariants as word
use Rattle.rg_netfile.specs.declared.fault.NetFault.{NetFault}
use Rattle.rg_netfile.specs.declared.fault.NetFault.TheVariants as net
use Rattle.rg_messages.specs.declared.fault.Fault.{Fault}
use Rattle.rg_messages.specs.declared.fault.Fault.TheVariants.{Missing, TooLong, Apt, Graph, Words, Net}
use Rattle.rg_messages.specs.declared.fault.FileFault.{FileFault}

-- what the grammar wants
abbrev pub wanted_words : Want → List ℕ
wanted_words want.Section = codes "expected Section"
wanted_words want.Name = codes "expected Name"
wanted_words want.Text = codes "expected Text"
wanted_words want.Key = codes "expected Key"
wanted_words want.CloseList = codes "expected CloseList"
wanted_words want.Value = codes "expected Value"
wanted_words want.Colon = codes "expected Colon"
wanted_words want.Set = codes "expected Set"
wanted_words want.Arrow = codes "expected Arrow"
wanted_words want.Member = codes "expected Member"
wanted_words want.CloseSet = codes "expected CloseSet"
wanted_words want.Number = codes "expected Number"

-- the number of a place, if there is one, after these words
abbrev pub number_after : List ℕ → Option ℕ → List ℕ
number_after words None = []
number_after words (Some n) = words ++ decimal n

-- a place among the bytes
abbrev pub place_text : Option ℕ → List ℕ
place_text place = number_after (codes " at ") place

-- a place among the lines
abbrev pub line_text : Option ℕ → List ℕ
line_text line = number_after (codes " at line ") line

-- ---- system files in the format of APT

-- the fault of a text, without its place; want of memory is never written
abbrev pub text_fault_words : TextFault → List ℕ
text_fault_words (apt.BadByte at) = codes "bad byte"
text_fault_words (apt.OpenString at) = codes "open string"
text_fault_words (apt.OpenComment at) = codes "open comment"
text_fault_words (apt.LongName at) = codes "long name"
text_fault_words (apt.Expected at wants) = wanted_words wants
text_fault_words apt.NoType = codes "no type"
text_fault_words (apt.WrongType at) = codes "wrong type"
text_fault_words (apt.TwiceState at) = codes "state twice"
text_fault_words (apt.TwiceLabel at) = codes "label twice"
text_fault_words (apt.UnknownState at) = codes "unknown state"
text_fault_words (apt.UnknownLabel at) = codes "unknown label"
text_fault_words (apt.TwoInitial at) = codes "two initial states"
text_fault_words apt.NoInitial = codes "no initial state"
text_fault_words (apt.TooManyStates at) = codes "too many states"
text_fault_words (apt.TooManyLabels at) = codes "too many labels"
text_fault_words (apt.TooManyArcs at) = codes "too many arcs"
text_fault_words apt.NoMemory = codes "no memory"

-- the place of the fault of a text
abbrev pub text_fault_place : TextFault → Option ℕ
text_fault_place (apt.BadByte at) = Some at
text_fault_place (apt.OpenString at) = Some at
text_fault_place (apt.OpenComment at) = Some at
text_fault_place (apt.LongName at) = Some at
text_fault_place (apt.Expected at wants) = Some at
text_fault_place apt.NoType = None
text_fault_place (apt.WrongType at) = Some at
text_fault_place (apt.TwiceState at) = Some at
text_fault_place (apt.TwiceLabel at) = Some at
text_fault_place (apt.UnknownState at) = Some at
text_fault_place (apt.UnknownLabel at) = Some at
text_fault_place (apt.TwoInitial at) = Some at
text_fault_place apt.NoInitial = None
text_fault_place (apt.TooManyStates at) = Some at
text_fault_place (apt.TooManyLabels at) = Some at
text_fault_place (apt.TooManyArcs at) = Some at
text_fault_place apt.NoMemory = None

-- the fault of a text
abbrev pub text_fault_text : TextFault → List ℕ
text_fault_text fault = text_fault_words fault ++ place_text (text_fault_place fault)

-- ---- state graphs

-- the fault of a state graph, without its line; want of memory is never written
abbrev pub graph_fault_words : GraphFault → List ℕ
graph_fault_words (graph.Expected line) = codes "expected form"
graph_fault_words graph.NoMarking = codes "no marking"
graph_fault_words (graph.UnknownState line) = codes "unknown state"
graph_fault_words graph.NoEnd = codes "no end"
graph_fault_words (graph.TooManyStates line) = codes "too many states"
graph_fault_words (graph.TooManyLabels line) = codes "too many labels"
graph_fault_words (graph.TooManyArcs line) = codes "too many arcs"
graph_fault_words (graph.LongName line) = codes "long name"
graph_fault_words graph.NoMemory = codes "no memory"

-- the line of the fault of a state graph
abbrev pub graph_fault_line : GraphFault → Option ℕ
graph_fault_line (graph.Expected line) = Some line
graph_fault_line graph.NoMarking = None
graph_fault_line (graph.UnknownState line) = Some line
graph_fault_line graph.NoEnd = None
graph_fault_line (graph.TooManyStates line) = Some line
graph_fault_line (graph.TooManyLabels line) = Some line
graph_fault_line (graph.TooManyArcs line) = Some line
graph_fault_line (graph.LongName line) = Some line
graph_fault_line graph.NoMemory = None

-- the fault of a state graph
abbrev pub graph_fault_text : GraphFault → List ℕ
graph_fault_text fault = graph_fault_words fault ++ line_text (graph_fault_line fault)

-- ---- word lists

-- the fault of a word list, without its line; want of memory is never written
abbrev pub word_fault_words : WordFault → List ℕ
word_fault_words (word.BadByte line) = codes "bad byte"
word_fault_words (word.TooManyStates line) = codes "too many states"
word_fault_words (word.TooManyLabels line) = codes "too many labels"
word_fault_words (word.LongName line) = codes "long name"
word_fault_words word.NoMemory = codes "no memory"

-- the line of the fault of a word list
abbrev pub word_fault_line : WordFault → Option ℕ
word_fault_line (word.BadByte line) = Some line
word_fault_line (word.TooManyStates line) = Some line
word_fault_line (word.TooManyLabels line) = Some line
word_fault_line (word.LongName line) = Some line
word_fault_line word.NoMemory = None

-- the fault of a word list
abbrev pub word_fault_text : WordFault → List ℕ
word_fault_text fault = word_fault_words fault ++ line_text (word_fault_line fault)

-- ---- net files

-- the fault of a net, without its place; want of memory is never written
abbrev pub net_fault_words : NetFault → List ℕ
net_fault_words (net.BadByte at) = codes "bad byte"
net_fault_words (net.OpenString at) = codes "open string"
net_fault_words (net.OpenComment at) = codes "open comment"
net_fault_words (net.LongName at) = codes "long name"
net_fault_words (net.Expected at wants) = wanted_words wants
net_fault_words net.NoType = codes "no type"
net_fault_words (net.WrongType at) = codes "wrong type"
net_fault_words (net.TwicePlace at) = codes "place twice"
net_fault_words (net.TooManyPlaces at) = codes "too many places"
net_fault_words (net.TwiceTransition at) = codes "transition twice"
net_fault_words net.TransitionsDiffer = codes "transitions differ"
net_fault_words (net.UnknownTransition at) = codes "unknown transition"
net_fault_words (net.UnknownPlace at) = codes "unknown place"
net_fault_words (net.NumberPasses at) = codes "number passes"
net_fault_words net.NoMemory = codes "no memory"

-- the place of the fault of a net
abbrev pub net_fault_place : NetFault → Option ℕ
net_fault_place (net.BadByte at) = Some at
net_fault_place (net.OpenString at) = Some at
net_fault_place (net.OpenComment at) = Some at
net_fault_place (net.LongName at) = Some at
net_fault_place (net.Expected at wants) = Some at
net_fault_place net.NoType = None
net_fault_place (net.WrongType at) = Some at
net_fault_place (net.TwicePlace at) = Some at
net_fault_place (net.TooManyPlaces at) = Some at
net_fault_place (net.TwiceTransition at) = Some at
net_fault_place net.TransitionsDiffer = None
net_fault_place (net.UnknownTransition at) = Some at
net_fault_place (net.UnknownPlace at) = Some at
net_fault_place (net.NumberPasses at) = Some at
net_fault_place net.NoMemory = None

-- the fault of a net
abbrev pub net_fault_text : NetFault → List ℕ
net_fault_text fault = net_fault_words fault ++ place_text (net_fault_place fault)

-- ---- any file

-- the fault of a file
abbrev pub fault_text : Fault → List ℕ
fault_text Missing = codes "missing"
fault_text TooLong = codes "too long"
fault_text (Apt fault) = text_fault_text fault
fault_text (Graph fault) = graph_fault_text fault
fault_text (Words fault) = word_fault_text fault
fault_text (Net fault) = net_fault_text fault

-- which of the files has which fault
abbrev pub file_line : FileFault → List ℕ
file_line f = codes "file " ++ decimal f.file ++ codes ": " ++ fault_text f.fault ++ codes "\n"
