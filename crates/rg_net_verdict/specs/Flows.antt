-- What a label takes from places and puts on them, as a list of these places.
use Rattle.std.specs.Prelude.{◌≡◌, ◌≢◌, ◌⊎◌, ℕ, ◌+◌, ◌-◌, ◌<◌, ◌≤◌, ◌==◌, ◌&&◌, if◌then◌else◌, List, [], ◌∷◌, length, All, Contains, Vec, slice_index, slice_index_or}
use Rattle.std.specs.declared.alloc.Global.{Global}
use Rattle.rg_integers.specs.Range.{greatest}
use Rattle.rg_theory.specs.Net.{Place, Net, Marking, pre_weight, post_weight, IsPlaceAt}
use Rattle.rg_net_verdict.specs.declared.flow.Flow.{Flow}

-- places below n in their order, with weights in range
pub record AreListed (flow : List Flow) (n : ℕ) : Type 0 where
  pub within : All (λ f. f.place < n) flow
  pub ordered : (j k : ℕ) (d : Flow) → j < k → k < length flow → (slice_index_or flow j d).place < (slice_index_or flow k d).place
  pub post : All (λ f. f.post ≤ greatest) flow

-- of the places below n, the list has with both weights of label t all from which it takes or on which it puts tokens
pub record IsFlowBelow (net : Net) (t n : ℕ) (flow : List Flow) : Type 0 where
  pub listed : AreListed flow n
  pub weights : All (λ f. (p : Place) → IsPlaceAt net f.place p → (f.pre ≡ pre_weight p t) × (f.post ≡ post_weight p t)) flow
  pub each : (i : ℕ) (p : Place) → i < n → IsPlaceAt net i p → ((f : Flow) × Contains flow f × (f.place ≡ i)) ⊎ ((pre_weight p t ≡ 0) × (post_weight p t ≡ 0) × All (λ f. f.place ≢ i) flow)

abbrev pub IsFlow : Net → ℕ → List Flow → Type 0
IsFlow net t flow = IsFlowBelow net t (length net.places) flow

-- one list for each label, of the places below n
pub record AreFlowsBelow (net : Net) (n : ℕ) (flows : List (Vec Flow Global)) : Type 0 where
  pub one_each : length flows ≡ net.labels
  pub each : (t : ℕ) (d : Vec Flow Global) → t < net.labels → IsFlowBelow net t n (slice_index_or flows t d).items

abbrev pub AreFlows : Net → List (Vec Flow Global) → Type 0
AreFlows net flows = AreFlowsBelow net (length net.places) flows

-- the lists of the first k labels are of the places up to n, and the others of those below n
pub record AreFlowsAt (net : Net) (n k : ℕ) (flows : List (Vec Flow Global)) : Type 0 where
  pub one_each : length flows ≡ net.labels
  pub done : (t : ℕ) (d : Vec Flow Global) → t < k → t < net.labels → IsFlowBelow net t (n + 1) (slice_index_or flows t d).items
  pub left : (t : ℕ) (d : Vec Flow Global) → k ≤ t → t < net.labels → IsFlowBelow net t n (slice_index_or flows t d).items

-- the place with its weights, unless both are 0
abbrev pub flow_if : ℕ → ℕ → ℕ → List Flow
flow_if place pre post = if (pre == 0) && (post == 0) then [] else (record { place = place; pre = pre; post = post } ∷ [])

-- each place of the list has the tokens that the label takes
abbrev pub HasTokens : List Flow → Marking → Type 0
HasTokens flow m = All (λ f. f.pre ≤ slice_index m f.place) flow

-- what a firing leaves on a place of the list
abbrev pub left_by : Marking → Flow → ℕ
left_by m f = slice_index m f.place - f.pre + f.post

-- the places of the list change by their weights, and no other place does
pub record IsMoved (flow : List Flow) (from to : Marking) : Type 0 where
  pub long : length to ≡ length from
  pub each : All (λ f. slice_index to f.place ≡ left_by from f) flow
  pub others : (i : ℕ) → i < length from → All (λ f. f.place ≢ i) flow → slice_index to i ≡ slice_index from i

-- the place is the first of the list that gets more than 2^127 - 1 tokens
pub record IsFirstOver (flow : List Flow) (m : Marking) (i : ℕ) : Type 0 where
  pub k : ℕ
  pub f : Flow
  pub below : k < length flow
  pub at : slice_index_or flow k f ≡ f
  pub place : f.place ≡ i
  pub over : greatest < left_by m f
  pub before : (j : ℕ) (d : Flow) → j < k → left_by m (slice_index_or flow j d) ≤ greatest
