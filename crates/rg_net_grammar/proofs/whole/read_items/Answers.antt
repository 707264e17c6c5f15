use Rattle.std.proofs.Common.{◌≡◌, List}
use Rattle.std.proofs.lemmas.Result.{IfOk-weaker}
use Rattle.rg_lexer.specs.Lexeme.{Lexeme, AreLexemes}
use Rattle.rg_grammar.specs.Grammar.{Finds}
use Rattle.rg_grammar.proofs.Described.{found_items}
use Rattle.rg_net_grammar.specs.declared.found.Found.{Found}
use Rattle.rg_net_grammar.specs.Item.{Item, AreItems}
use Rattle.rg_net_grammar.specs.Contents.{declared}
use Rattle.rg_net_grammar.specs.Reading.{net_grammar}
use Rattle.rg_net_grammar.specs.Text.{AreItemsOf}
use Rattle.rg_net_grammar.specs.View.{found_in}
use Rattle.rg_net_grammar.proofs.WholeTexts.{describes}
use Rattle.rg_net_grammar.proofs.whole.read_items.Goals as goal

pub returns-clause-ok : goal.returns-clause-ok
returns-clause-ok c =
    let bytes = c.args.bytes.now in
    IfOk-weaker c.read.result
    (λ (f : Found). (xs : List Lexeme) × AreLexemes bytes xs × Finds net_grammar xs (found_in bytes f))
    (λ (f : Found). (items : List Item) × AreItemsOf bytes items × (found_in bytes f ≡ declared items))
    (λ f found.
    let items = found_items net_grammar AreItems declared describes found.0 (found_in bytes f) found.2 in
    (items.0, (found.0, found.1, items.1), items.2))
    c.read.ensures.ok
