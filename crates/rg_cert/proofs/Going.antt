-- Right lines that lead anywhere can go on to a whole certificate.
use Rattle.std.proofs.Common.{◌≡◌, ℕ, zero, suc, List, [], ◌∷◌, ◌++◌, codes, map, None, false, refl, sym, subst}
use Rattle.rg_text.specs.Line.{fed}
use Rattle.rg_theory.specs.System.{System}
use Rattle.rg_theory.specs.declared.Class.{Class}
use Rattle.rg_theory.specs.ClassWords.{class_text}
use Rattle.rg_theory.proofs.ClassWritten.{written}
use Rattle.rg_lts.specs.WellFormed.{IsWellFormed}
use Rattle.rg_cert_data.specs.Certificates.{Claim}
use Rattle.rg_cert.specs.Text.{Version, version_one, spaced}
use Rattle.rg_cert.specs.Spells.{Spells}
use Rattle.rg_cert.specs.Lines.{leaf_line, case_line, Count, one, several, Position, at_heading, at_class, at_reason, at_last, at_one_case, at_cases, at_node, at_row, at_end, to, follows}
use Rattle.rg_cert.specs.Faults.{LinesLead}
use Rattle.rg_cert.specs.Drafts.{of_unreachable}
use Rattle.rg_cert.proofs.Canonical.{TextsLead, TextsLeadAll, lead_all_of, heading_leads, class_leads, head_leads, end_leads}
use Rattle.rg_cert.proofs.SomeAnswer.{from_lines}

-- lines lead from the position to the end
record CanEnd (lts : System) (position : Position) : Type 0 where
  lines : List (List (List ℕ))
  lead : TextsLeadAll lts position lines at_end

one_more : (lts : System) (position : Position) (texts : List (List ℕ)) (next : Position) → TextsLead lts position texts next → CanEnd lts next → CanEnd lts position
one_more lts position texts next first rest = record { lines = texts ∷ rest.lines; lead = (next, first, rest.lead) }

leaf : (lts : System) (position next : Position) → follows position leaf_line ≡ to next → TextsLead lts position (codes "leaf" ∷ []) next
leaf lts position next may = record { form = leaf_line; fields = (refl, tt); right = ((tt, tt), (tt, tt)); leads = may }

case_here : (lts : System) (position next : Position) → follows position case_line ≡ to next → TextsLead lts position (codes "case" ∷ []) next
case_here lts position next may = record { form = case_line; fields = (refl, tt); right = ((tt, tt), (tt, tt)); leads = may }

end_here : (lts : System) (position : Position) → TextsLeadAll lts position ((codes "end" ∷ []) ∷ []) at_end → CanEnd lts position
end_here lts position lead = record { lines = (codes "end" ∷ []) ∷ []; lead = lead }

-- the nodes that are due may be leaves
row_ends : (lts : System) (version : Version) (count : Count) (due : ℕ) → CanEnd lts (at_row version count due)
row_ends lts version one zero = end_here lts (at_row version one zero) (end_leads lts (at_row version one zero) refl)
row_ends lts version several zero = end_here lts (at_row version several zero) (end_leads lts (at_row version several zero) refl)
row_ends lts version count (suc due) = one_more lts (at_row version count (suc due)) (codes "leaf" ∷ []) (at_row version count due)
    (leaf lts (at_row version count (suc due)) (at_row version count due) refl) (row_ends lts version count due)

node_ends : (lts : System) (version : Version) (count : Count) (due : ℕ) → CanEnd lts (at_node version count due)
node_ends lts version count due = one_more lts (at_node version count due) (codes "leaf" ∷ []) (at_row version count due)
    (leaf lts (at_node version count due) (at_row version count due) refl) (row_ends lts version count due)

last_ends : (lts : System) → CanEnd lts at_last
last_ends lts = end_here lts at_last (end_leads lts at_last refl)

-- the initial state has a name
reason_ends : (lts : System) (version : Version) → IsWellFormed lts → CanEnd lts (at_reason version)
reason_ends lts version fine = one_more lts (at_reason version) _ at_last (head_leads lts version (of_unreachable lts.initial) fine fine.in_range.initial) (last_ends lts)

abbrev all_nets : Class
all_nets = record { pure = false; plain = false; bound = None; marking = None; nonbranching = false }

class_ends : (lts : System) (version : Version) → IsWellFormed lts → CanEnd lts (at_class version)
class_ends lts version fine =
    one_more lts (at_class version) _ (at_reason version)
    (class_leads lts version (class_text all_nets) all_nets (written all_nets (record { bound = tt; marking = tt })) (λ one. refl)) (reason_ends lts version fine)

can_end : (lts : System) (position : Position) → IsWellFormed lts → CanEnd lts position
can_end lts at_heading fine = one_more lts at_heading _ (at_class version_one) (heading_leads lts version_one) (class_ends lts version_one fine)
can_end lts (at_class version) fine = class_ends lts version fine
can_end lts (at_reason version) fine = reason_ends lts version fine
can_end lts at_last fine = last_ends lts
can_end lts (at_one_case version) fine = one_more lts (at_one_case version) (codes "case" ∷ []) (at_node version one 0)
    (case_here lts (at_one_case version) (at_node version one 0) refl) (node_ends lts version one 0)
can_end lts (at_cases version) fine = end_here lts (at_cases version) (end_leads lts (at_cases version) refl)
can_end lts (at_node version count due) fine = node_ends lts version count due
can_end lts (at_row version count due) fine = row_ends lts version count due
can_end lts at_end fine = record { lines = []; lead = refl }

lead_on : (lts : System) (from : Position) (before : List (List ℕ)) (position : Position) (more : List (List ℕ)) (last : Position)
    → LinesLead lts from before position → LinesLead lts position more last
    → LinesLead lts from (before ++ more) last
lead_on lts from [] position more last same rest = subst (λ p. LinesLead lts p more last) (sym same) rest
lead_on lts from (line ∷ before) position more last (next, leads, lead) rest = (next, leads, lead_on lts next before position more last lead rest)

pub goes_on : (lts : System) (before : List (List ℕ)) (position : Position) → IsWellFormed lts → LinesLead lts at_heading before position
    → (more : List (List ℕ)) × (claim : Claim) × Spells (fed (before ++ more)) lts claim
goes_on lts before position fine lead =
    let ends = can_end lts position fine in
    let more = map spaced ends.lines in
    let found = from_lines lts (before ++ more) (fed (before ++ more)) refl (lead_on lts at_heading before position more at_end lead (lead_all_of lts position ends.lines at_end ends.lead)) in
    (more, found.0, found.1)
