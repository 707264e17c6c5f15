-- The reading of cases, line by line.
use Rattle.std.proofs.Common.{◌≡◌, ℕ, ◌+◌, List, [], ◌∷◌, ◌++◌, length, map, length-append, sym, ap, ap₂, ◌∙◌, arith}
use Rattle.std.proofs.lemmas.List.{map-append}
use Rattle.rg_theory.specs.System.{System}
use Rattle.rg_cert.specs.Text.{Version, spaced}
use Rattle.rg_cert.specs.Lines.{LineForm, Position}
use Rattle.rg_cert.specs.Faults.{TextGoesOn}
use Rattle.rg_cert.specs.Drafts.{Head, after_head, Draft, Adds, draft_lines, IsDraftAt, IsNextLine}
use Rattle.rg_cert.proofs.Walks.{goes_more}
use Rattle.rg_cert.proofs.DraftSteps.{drafted}

-- the lines so far, which are those of the draft
pub record IsReading (lts : System) (version : Version) (head : Head) (text : List ℕ) (position : Position) (d : Draft) (rest : List ℕ) (number : ℕ) : Type 0 where
  pub before : List (List ℕ)
  pub goes_on : TextGoesOn lts (after_head version head) text before position rest
  pub count : number ≡ length before + 4
  pub draft : IsDraftAt lts version head position d
  pub lines : before ≡ map spaced (draft_lines lts position d)

-- one line more
pub reading_goes : (lts : System) (version : Version) (head : Head) (text : List ℕ) (position : Position) (d : Draft) (rest : List ℕ) (number : ℕ)
    (form : LineForm) (texts : List (List ℕ)) (next : Position) (after : List ℕ) (new : Draft)
    → IsReading lts version head text position d rest number → IsNextLine lts position rest form texts next after → Adds lts position form texts d new
    → IsReading lts version head text next new after (number + 1)
reading_goes lts version head text position d rest number form texts next after new is line adds =
    let one = drafted lts version head position form texts next d new is.draft line.has.fields line.leads adds in
    record {
      before = is.before ++ line.line ∷ [];
      goes_on = goes_more lts (after_head version head) text is.before position rest form texts next after is.goes_on line;
      count = omega (arith, is.count, length-append is.before (line.line ∷ []));
      draft = one.0;
      lines = ap₂ (λ a b. a ++ b ∷ []) is.lines line.has.spelled ∙ sym (map-append spaced (draft_lines lts position d) (texts ∷ [])) ∙ ap (map spaced) (sym one.1);
    }
