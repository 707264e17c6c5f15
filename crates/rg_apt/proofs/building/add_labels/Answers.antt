use Rattle.std.proofs.Common.{◌≡◌, ◌<◌, ◌+◌, ◌++◌, ◌∷◌, ℕ, List, [], length, get_or, take, map, sym, ap, ◌∙◌, arith}
use Rattle.std.proofs.lemmas.List.{get_or_default, map-append}
use Rattle.std.proofs.lemmas.Result.{err_from_is_err_and}
use Rattle.rg_lexer.specs.declared.token.Kind.TheVariants.{Name}
use Rattle.rg_lexer.specs.declared.token.Token.{Token}
use Rattle.rg_lexer.specs.Lexeme.{lexeme}
use Rattle.rg_lts.specs.Draft.{Draft}
use Rattle.rg_apt.specs.Contents.{label_fault}
use Rattle.rg_apt.specs.View.{labels_in}
use Rattle.rg_apt.specs.Built.{label_text}
use Rattle.rg_text.proofs.Left.{left_start, left_more, left_first, left_end, before_is, all_before}
use Rattle.rg_apt.proofs.StateSteps.{label_name_fault, label_fine}
use Rattle.rg_apt.proofs.building.add_labels.Goals as goal

-- what a read past the end would give
abbrev past_end : Token
past_end = record { kind = Name; from = 0; to = 0 }

same_read : (xs : List Token) (i : ℕ) → i < length xs → get_or xs i past_end ≡ get_or xs i (get_or xs i past_end)
same_read xs i within = get_or_default xs i past_end (get_or xs i past_end) within

abbrev names_to : List ℕ → List Token → ℕ → List (List ℕ)
names_to bytes xs i = map label_text (labels_in bytes (take i xs))

labels_then : (bytes : List ℕ) (xs : List Token) (i : ℕ) → i < length xs → names_to bytes xs i ++ (lexeme bytes (get_or xs i past_end)).text ∷ [] ≡ names_to bytes xs (i + 1)
labels_then bytes xs i within =
    sym (ap (map label_text) (before_is (lexeme bytes) xs i (get_or xs i past_end) within (same_read xs i within))
    ∙ map-append label_text (map (lexeme bytes) (take i xs)) (lexeme bytes (get_or xs i past_end) ∷ []))

one_more : (old mid new : Draft) (names names' : List (List ℕ)) (name : List ℕ) → mid ≡ record old { label_names = names }
    → new ≡ record mid { label_names = mid.label_names ++ name ∷ [] } → names ++ name ∷ [] ≡ names' → new ≡ record old { label_names = names' }
one_more old mid new names names' name made added same =
    added ∙ ap (λ (d : Draft). record d { label_names = d.label_names ++ name ∷ [] }) made ∙ ap (λ l. record old { label_names = l }) same

pub loop-label-init : goal.loop-label-init
loop-label-init c = record {
  has = ap (λ l. record c.args.builder.now { label_names = l }) c.requires.blank;
  left = left_start (lexeme c.args.bytes.now) label_fault c.args.labels.now;
}

pub loop-label-preserved : goal.loop-label-preserved
loop-label-preserved c =
    let bytes = c.args.bytes.now in
    let xs = c.args.labels.now in
    let i = c.loop-label.label-index in
    let within : i < length xs = omega arith in
    let x = get_or xs i past_end in
    let names = ap (λ (d : Draft). d.label_names) c.loop-label.invariant.has in
    record {
      has = one_more c.args.builder.now c.loop-label.builder c.add_label.new.builder (names_to bytes xs i) (names_to bytes xs (i + 1)) (lexeme bytes x).text
          c.loop-label.invariant.has c.in_ok-add_label.ensures.added (labels_then bytes xs i within);
      left = left_more (lexeme bytes) label_fault xs i x within (same_read xs i within)
          (label_fine (labels_in bytes (take i xs)) (lexeme bytes x) c.loop-label.builder.label_names names c.in_ok-add_label.ensures.new) c.loop-label.invariant.left;
    }

pub returns-in_err-add_label-clause-fault : goal.returns-in_err-add_label-clause-fault
returns-in_err-add_label-clause-fault c =
    let p = err_from_is_err_and c.from_residual.result c.from_residual.ensures.1 in
    let bytes = c.args.bytes.now in
    let xs = c.args.labels.now in
    let i = c.loop-label.label-index in
    let within : i < length xs = omega arith in
    let x = get_or xs i past_end in
    let names = ap (λ (d : Draft). d.label_names) c.loop-label.invariant.has in
    rw (p.1, p.2)
    (λ memory. left_first (lexeme bytes) label_fault xs i x _ within (same_read xs i within)
    (label_name_fault (labels_in bytes (take i xs)) (lexeme bytes x) c.loop-label.builder.label_names _ names (c.in_err-add_label.ensures.fault memory)) c.loop-label.invariant.left)

pub returns-clause-none : goal.returns-clause-none
returns-clause-none c =
    left_end (lexeme c.args.bytes.now) label_fault c.args.labels.now c.loop-label.label-index (omega arith) c.loop-label.invariant.left

pub returns-clause-has : goal.returns-clause-has
returns-clause-has c =
    c.loop-label.invariant.has
    ∙ ap (λ l. record c.args.builder.now { label_names = map label_text l }) (all_before (lexeme c.args.bytes.now) c.args.labels.now c.loop-label.label-index (omega arith))
