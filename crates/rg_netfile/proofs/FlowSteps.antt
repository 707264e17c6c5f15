-- The steps of a flow: its name, and its two sets.
use Rattle.std.proofs.Common.{List, [], ◌∷◌, ◌++◌, Contains}
use Rattle.rg_theory.specs.Net.{Net}
use Rattle.rg_lexer.specs.Lexeme.{Lexeme}
use Rattle.rg_netfile.specs.declared.fault.NetFault.{NetFault}
use Rattle.rg_netfile.specs.declared.fault.NetFault.TheVariants.{UnknownTransition}
use Rattle.rg_netfile.specs.Contents.{Step, flow_of}
use Rattle.rg_netfile.specs.Built.{KnownNames, Passes, Stops}
use Rattle.rg_netfile.proofs.Steps.{passes_both, stops_sooner, stops_later}
use Rattle.rg_netfile.proofs.MemberSteps.{flow_passes, flow_stops}

pub whole_passes : (k : KnownNames) (name : Lexeme) (pre post : List Step) (old mid new : Net) → Contains k.transitions name.text → Passes k pre old mid
    → Passes k post mid new → Passes k (flow_of name ∷ (pre ++ post)) old new
whole_passes k name pre post old mid new has p q =
    passes_both k (flow_of name ∷ []) (pre ++ post) old old new (flow_passes k old name has) (passes_both k pre post old mid new p q)

pub name_stops : (k : KnownNames) (name : Lexeme) (pre post : List Step) (old : Net) → (Contains k.transitions name.text → ⊥)
    → Stops k (flow_of name ∷ (pre ++ post)) old (UnknownTransition name.at)
name_stops k name pre post old absent = stops_sooner k (flow_of name ∷ []) (pre ++ post) old (UnknownTransition name.at) (flow_stops k old name absent)

pub pre_stops : (k : KnownNames) (name : Lexeme) (pre post : List Step) (old : Net) (f : NetFault) → Contains k.transitions name.text → Stops k pre old f
    → Stops k (flow_of name ∷ (pre ++ post)) old f
pre_stops k name pre post old f has s =
    stops_later k (flow_of name ∷ []) (pre ++ post) old old f (flow_passes k old name has) (stops_sooner k pre post old f s)

pub post_stops : (k : KnownNames) (name : Lexeme) (pre post : List Step) (old mid : Net) (f : NetFault) → Contains k.transitions name.text → Passes k pre old mid
    → Stops k post mid f → Stops k (flow_of name ∷ (pre ++ post)) old f
post_stops k name pre post old mid f has p s =
    stops_later k (flow_of name ∷ []) (pre ++ post) old old f (flow_passes k old name has) (stops_later k pre post old mid f p s)
