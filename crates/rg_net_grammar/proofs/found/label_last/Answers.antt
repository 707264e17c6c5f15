use Rattle.std.proofs.Common.{◌≡◌, ◌-◌, Option, None, Some, option_map, refl, sym, ap, ◌∙◌, arith}
use Rattle.std.specs.Option.{option_or}
use Rattle.std.proofs.lemmas.List.{get_or_default}
use Rattle.rg_lexer.specs.declared.token.Token.{Token}
use Rattle.rg_lexer.specs.Lexeme.{Lexeme, lexeme}
use Rattle.rg_net_grammar.specs.Contents.{Transition}
use Rattle.rg_net_grammar.specs.Reading.{with_value}
use Rattle.rg_net_grammar.specs.View.{transition_in}
use Rattle.rg_grammar.proofs.Last.{last_set}
use Rattle.rg_net_grammar.proofs.found.label_last.Goals as goal

or_map : {X Y : Type 0} (f : X → Y) (a b : Option X) → option_map f (option_or a b) ≡ option_or (option_map f a) (option_map f b)
or_map f None b = refl
or_map f (Some x) b = refl

pub returns-then-n-gt0-clause-found : goal.returns-then-n-gt0-clause-found
returns-then-n-gt0-clause-found c = λ bytes setting label.
    let old = c.index_mut.result.now in
    let items = c.args.transitions.now.items in
    let same : c.index.result.now ≡ old =
    c.index.ensures ∙ get_or_default items (c.len-n.result - 1) c.index.result.now old (omega arith) ∙ sym c.index_mut.ensures.value in
    last_set (transition_in bytes) (with_value setting) items (c.len-n.result - 1) old _ (omega arith) c.index_mut.ensures.value
    (ap {B = Transition Lexeme} (λ (o : Option Lexeme). record { name = lexeme bytes old.name; label = o })
    (ap (option_map (lexeme bytes)) c.or.ensures ∙ or_map (lexeme bytes) c.index.result.now.label c.args.label
    ∙ ap (λ (t : Transition Token). option_or (option_map (lexeme bytes) t.label) (option_map (lexeme bytes) c.args.label)) same
    ∙ ap (option_or (option_map (lexeme bytes) old.label)) label))
