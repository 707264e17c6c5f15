use Rattle.std.proofs.Common.{◌≡◌, Contains, ◌<◌, ℕ, List, length, get_or, take, map, sym, ap, subst, ◌∙◌, arith}
use Rattle.std.proofs.lemmas.Result.{err_from_is_err_and}
use Rattle.std.proofs.lemmas.List.{get_or_default, length-map, length-take-le}
use Rattle.rg_lexer.specs.declared.token.Kind.TheVariants.{Name}
use Rattle.rg_lexer.specs.declared.token.Token.{Token}
use Rattle.rg_lexer.specs.Lexeme.{lexeme}
use Rattle.rg_text.proofs.Left.{left_start, left_more, left_first, left_end, before_is, all_before}
use Rattle.rg_net_grammar.specs.View.{places_in}
use Rattle.rg_netfile.specs.Contents.{place_fault, most_places}
use Rattle.rg_netfile.proofs.Apart.{apart_from, apart_none, apart_more}
use Rattle.rg_netfile.proofs.EntryFaults.{text_of, place_fault_of, place_fine, names_more}
use Rattle.rg_netfile.proofs.building.place_table.Goals as goal

-- what a read past the end would give
abbrev past_end : Token
past_end = record { kind = Name; from = 0; to = 0 }

same_read : (xs : List Token) (i : ℕ) → i < length xs → get_or xs i past_end ≡ get_or xs i (get_or xs i past_end)
same_read xs i within = get_or_default xs i past_end (get_or xs i past_end) within

pub loop-place-init : goal.loop-place-init
loop-place-init c = record {
  names = c.new-table.ensures;
  few = omega arith;
  apart = apart_from c.new-table.ensures apart_none;
  left = left_start (lexeme c.args.bytes.now) place_fault c.args.places.now;
}

pub returns-in_err-add_place-clause-fault : goal.returns-in_err-add_place-clause-fault
returns-in_err-add_place-clause-fault c =
    let p = err_from_is_err_and c.from_residual.result c.from_residual.ensures.1 in
    let bytes = c.args.bytes.now in
    let xs = c.args.places.now in
    let i = c.loop-place.place-index in
    let within : i < length xs = omega arith in
    let x = get_or xs i past_end in
    let before = places_in bytes (take i xs) in
    let names = c.loop-place.table in
    let many : length before ≡ i = length-map (take i xs) (lexeme bytes) ∙ length-take-le i xs (omega arith) in
    let size : length c.loop-place.table ≡ length before =
    omega (arith, ap length c.loop-place.invariant.names, length-map before text_of) in
    let f = c.in_err-add_place.field-0.0 in
    rw (p.1, p.2)
    (λ memory. left_first (lexeme bytes) place_fault xs i x f within (same_read xs i within)
    (place_fault_of before (lexeme bytes x) names c.name_of.result.now f c.loop-place.invariant.names c.name_of.ensures.value (length c.loop-place.table) size
    (c.in_err-add_place.ensures.fault memory)) c.loop-place.invariant.left)

pub loop-place-preserved : goal.loop-place-preserved
loop-place-preserved c =
    let bytes = c.args.bytes.now in
    let xs = c.args.places.now in
    let i = c.loop-place.place-index in
    let within : i < length xs = omega arith in
    let x = get_or xs i past_end in
    let before = places_in bytes (take i xs) in
    let more = before_is (lexeme bytes) xs i x within (same_read xs i within) in
    let absent = subst (λ n. Contains c.loop-place.table n → ⊥) c.name_of.ensures.value c.in_ok-add_place.ensures.absent in
    let many : length before ≡ i = length-map (take i xs) (lexeme bytes) ∙ length-take-le i xs (omega arith) in
    let room : i < most_places =
    omega (arith, c.in_ok-add_place.ensures.few, ap length c.loop-place.invariant.names, length-map before text_of) in
    record {
      names = c.in_ok-add_place.ensures.ok ∙ names_more before (lexeme bytes x) _ _ c.loop-place.invariant.names c.name_of.ensures.value ∙ ap (map text_of) (sym more);
      few = omega arith;
      apart = apart_from c.in_ok-add_place.ensures.ok (apart_more c.loop-place.table c.name_of.result.now c.loop-place.invariant.apart c.in_ok-add_place.ensures.absent);
      left = left_more (lexeme bytes) place_fault xs i x within (same_read xs i within)
          (place_fine before (lexeme bytes x) c.loop-place.table c.loop-place.invariant.names absent (omega arith)) c.loop-place.invariant.left;
    }

pub returns-clause-names : goal.returns-clause-names
returns-clause-names c =
    c.loop-place.invariant.names ∙ ap (map text_of) (all_before (lexeme c.args.bytes.now) c.args.places.now c.loop-place.place-index (omega arith))

pub returns-clause-none : goal.returns-clause-none
returns-clause-none c =
    left_end (lexeme c.args.bytes.now) place_fault c.args.places.now c.loop-place.place-index (omega arith) c.loop-place.invariant.left
