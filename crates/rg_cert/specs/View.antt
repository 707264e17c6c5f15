-- How the code's forms and positions are seen.
use Rattle.std.specs.Prelude.{ℕ, ◌≤◌, List, [], ◌∷◌, map}
use denote.Bor.{Bor}
use Rattle.rg_cert.specs.declared.table.Range.{Range}
use Rattle.rg_cert.specs.declared.table.Range.TheVariants as range
use Rattle.rg_cert.specs.declared.table.Field.{Field}
use Rattle.rg_cert.specs.declared.table.Field.TheVariants as field
use Rattle.rg_cert.specs.declared.table.RowForm.{RowForm}
use Rattle.rg_cert.specs.declared.table.RowForm.TheVariants as of_row
use Rattle.rg_cert.specs.declared.table.LineForm.{LineForm}
use Rattle.rg_cert.specs.declared.table.LineForm.TheVariants as of_line
use Rattle.rg_cert.specs.declared.version.Version.{Version}
use Rattle.rg_cert.specs.declared.version.Version.TheVariants as version
use Rattle.rg_cert.specs.declared.position.Count.{Count}
use Rattle.rg_cert.specs.declared.position.Count.TheVariants as count
use Rattle.rg_cert.specs.declared.position.Position.{Position}
use Rattle.rg_cert.specs.declared.position.Position.TheVariants as position
use Rattle.rg_cert.specs.declared.position.Next.{Next}
use Rattle.rg_cert.specs.declared.position.Next.TheVariants as next
use Rattle.rg_cert.specs.declared.draft.Head.{Head}
use Rattle.rg_cert.specs.declared.draft.Head.TheVariants as head
use Rattle.rg_cert.specs.declared.draft.Draft.{Draft}
use Rattle.rg_cert_data.specs.declared.certificate.Reason.{Reason}
use Rattle.rg_cert_data.specs.declared.certificate.Reason.TheVariants as reason
use Rattle.rg_cert_data.specs.Trees.{TreeNode, named_row, node_of, nodes_of}
use Rattle.rg_cert.specs.Text as text
use Rattle.rg_cert.specs.Lines as line
use Rattle.rg_cert.specs.Drafts as draft

abbrev pub range_in : Range → line.Range
range_in range.Multiplier = line.multiplier
range_in range.Split = line.split_value
range_in range.Depth = line.depth

-- texts that are borrowed
abbrev pub texts_in : List (Bor (List ℕ)) → List (List ℕ)
texts_in items = map (λ w. w.now) items

abbrev pub field_in : Field → line.Field
field_in (field.Word w) = line.word w.now
field_in (field.OneOf words) = line.one_of (texts_in words.now)
field_in field.State = line.state
field_in field.Label = line.label
field_in (field.Number range) = line.number (range_in range)

abbrev pub row_form_in : RowForm → line.RowForm
row_form_in of_row.Lone = line.lone_form
row_form_in of_row.Arc = line.arc_form
row_form_in of_row.State = line.state_form
row_form_in of_row.Label = line.label_form
row_form_in of_row.Depth = line.depth_form

abbrev pub line_form_in : LineForm → line.LineForm
line_form_in of_line.Unreachable = line.unreachable_line
line_form_in of_line.Fork = line.fork_line
line_form_in of_line.Event = line.event_line
line_form_in of_line.States = line.states_line
line_form_in of_line.Case = line.case_line
line_form_in of_line.SplitTokens = line.split_tokens_line
line_form_in of_line.SplitEffect = line.split_effect_line
line_form_in of_line.SplitStart = line.split_start_line
line_form_in of_line.Leaf = line.leaf_line
line_form_in (of_line.Row row) = line.row_line (row_form_in row)
line_form_in of_line.End = line.end_line

abbrev pub version_in : Version → text.Version
version_in version.One = text.version_one
version_in version.Two = text.version_two

abbrev pub count_in : Count → line.Count
count_in count.One = line.one
count_in count.Several = line.several

abbrev pub position_in : Position → line.Position
position_in (position.Reason v) = line.at_reason (version_in v)
position_in position.Last = line.at_last
position_in (position.OneCase v) = line.at_one_case (version_in v)
position_in (position.Cases v) = line.at_cases (version_in v)
position_in (position.Node v count due) = line.at_node (version_in v) (count_in count) due
position_in (position.Row v count due) = line.at_row (version_in v) (count_in count) due
position_in position.End = line.at_end

abbrev pub next_in : Next → line.Next
next_in (next.To position) = line.to (position_in position)
next_in next.Short = line.short
next_in next.Long = line.long
next_in next.Refused = line.refused

-- at most so many nodes must still follow the position
abbrev pub HasFewDue : Position → ℕ → Type 0
HasFewDue position n = draft.due_at (position_in position) ≤ n

abbrev pub head_in : Head → draft.Head
head_in (head.Unreachable s) = draft.of_unreachable s
head_in (head.Fork s t s₁ s₂) = draft.of_fork s t s₁ s₂
head_in (head.Event s t) = draft.of_event s t
head_in (head.States s s') = draft.of_states s s'

abbrev pub draft_in : Draft → draft.Draft
draft_in d = record { cases = map nodes_of d.cases.items; nodes = map node_of d.nodes.items; rows = map named_row d.rows.items }

-- the head and the cases of a reason
abbrev pub reason_head : Reason → draft.Head
reason_head (reason.Unreachable s) = draft.of_unreachable s
reason_head (reason.Fork s t s₁ s₂) = draft.of_fork s t s₁ s₂
reason_head (reason.Event s t case) = draft.of_event s t
reason_head (reason.States s s' cases) = draft.of_states s s'

abbrev pub reason_cases : Reason → List (List TreeNode)
reason_cases (reason.Unreachable s) = []
reason_cases (reason.Fork s t s₁ s₂) = []
reason_cases (reason.Event s t case) = nodes_of case ∷ []
reason_cases (reason.States s s' cases) = map nodes_of cases.items
