-- How `factor` ends for what comes of a system.
use Rattle.std.proofs.Common.{◌≡◌, ℕ, List, ◌++◌, length, map, get_or, All, Option, None, Some, refl, sym, ap, ap₂, subst, ◌∙◌}
use Rattle.std.proofs.Math.ListN.{get_or-map}
use Rattle.std.proofs.lemmas.List.{length-map}
use Rattle.std.proofs.lemmas.List.Elements.{Contains-get_or}
use Rattle.std.proofs.lemmas.Option.{get_or_from_slice_get}
use Rattle.rg_integers.specs.Range.{greatest}
use Rattle.rg_theory.specs.System.{System, states, IsInRange}
use Rattle.rg_theory.specs.Net.{Net}
use Rattle.rg_theory.specs.Solves.{Solves}
use Rattle.rg_theory.specs.declared.Class.{Class}
use Rattle.rg_theory.specs.Class.{IsBounded, InClass}
use Rattle.rg_lts.specs.WellFormed.{IsWellFormed}
use Rattle.rg_net.specs.NetText.{net_text}
use Rattle.rg_net.specs.Range.{IsNetInRange}
use Rattle.rg_netfile.specs.Spells.{Spells as NetSpells}
use Rattle.rg_netfile.proofs.PrintedTexts.{printed_spelled}
use Rattle.rg_cert_data.specs.declared.certificate.Certificate.{Certificate}
use Rattle.rg_cert_data.specs.Certificates.{reason_of, claim_of}
use Rattle.rg_cert.specs.Text.{cert_text}
use Rattle.rg_cert.specs.Spells.{Spells as CertificateSpells}
use Rattle.rg_cert.proofs.Printed.{text_spells}
use Rattle.rg_product.specs.declared.Broken.{Broken}
use Rattle.rg_product.specs.Squares.{IsBroken}
use Rattle.rg_product.specs.Blocks.{IsOneBlock}
use Rattle.rg_product.specs.Product.{Factor, IsFactorAt, Product}
use Rattle.rg_product.specs.Factoring.{factors, one_block, IsFactoring, IsFactoring.of_one_block, IsFactoring.of_factors}
use Rattle.rg_product.specs.Beside.{net_beside, IsIrredundant}
use Rattle.rg_product.proofs.ProductSquares.{joined_is_one_block, one_block_no_product}
use Rattle.rg_top.specs.FactorsAnswer.{IsNetBeside as IsMadeOfNets, IsCertificateOfFactor, IsTermOfFactor}
use Rattle.rg_cert_data.specs.declared.wide_at.WideAt.{WideAt}
use Rattle.rg_separate.specs.View.{shown_of}
use Rattle.rg_synth.specs.Answer.{IsOpen}
use Rattle.rg_messages.specs.FactorTexts.{one_block_text, factors_text, unsolvable_factor_line}
use Rattle.rg_top.specs.Factor.{AreFactorsOf, FactorEnds, no_blocks, all_factors, a_net, a_certificate, a_term}
use Rattle.rg_top.specs.End.{says_yes, says_no, shows_term}
use Rattle.rg_top.specs.Terms.{Term.of_factor as of_factor_term}

-- a text of what is read, which is what is there
pub text_of_same : {A : Type 0} (text : A → List ℕ) (out : List ℕ) (read there : A) → out ≡ text read → read ≡ there → out ≡ text there
text_of_same text out read there e same = e ∙ ap text same

pub text_of_both : {A B : Type 0} (text : A → B → List ℕ) (out : List ℕ) (read there : A) (read' there' : B) → out ≡ text read read' → read ≡ there → read' ≡ there' → out ≡ text there there'
text_of_both text out read there read' there' e same same' = e ∙ ap₂ text same same'

-- ---- one block

pub each_broken : (lts : System) (squares : List Broken) → IsFactoring lts (one_block squares) → All (IsBroken lts) squares
each_broken lts squares (of_one_block _ joining all) = λ k d lt. ((joining.members (get_or squares k d)).0 (Contains-get_or squares k d lt)).is_broken

is_one_block : (lts : System) (squares : List Broken) → IsFactoring lts (one_block squares) → IsOneBlock lts
is_one_block lts squares (of_one_block _ joining all) = joined_is_one_block lts squares joining all

pub blocks_end : (lts : System) (class : Option Class) (squares : List Broken) → IsInRange lts → IsOpen lts → IsFactoring lts (one_block squares)
    → FactorEnds lts class (says_no (one_block_text lts squares))
blocks_end lts class squares fine is_open found =
    let one = is_one_block lts squares found in
    no_blocks class squares is_open found (record { none = λ a b tuples fine_a fine_b some some'. one_block_no_product lts a b tuples fine fine_a fine_b one some some' })

-- ---- factors

product_of : (lts : System) (fs : List Factor) (tuples : List (List ℕ)) → IsFactoring lts (factors fs tuples) → Product lts fs tuples
product_of lts fs tuples (of_factors blocks reached _ _ parted many parts product) = product

pub are_factors : (lts : System) (fs : List Factor) (tuples : List (List ℕ)) → IsOpen lts → IsFactoring lts (factors fs tuples) → AreFactorsOf lts fs tuples
are_factors lts fs tuples is_open found = record { is_open = is_open; factoring = found; product = product_of lts fs tuples found }

-- what is written where no nets are asked for
pub factors_end : (lts : System) (class : Option Class) (fs : List Factor) (tuples : List (List ℕ)) → class ≡ None → AreFactorsOf lts fs tuples
    → FactorEnds lts class (says_yes (factors_text lts fs tuples))
factors_end lts class fs tuples none are = subst (λ o. FactorEnds lts o (says_yes (factors_text lts fs tuples))) (sym none) (all_factors fs tuples are)

-- there is a tuple for each state, where the tuples are seen as lists
pub tuples_long : {V : Type 0} (view : V → List ℕ) (lts : System) (fs : List Factor) (tuples : List V) → AreFactorsOf lts fs (map view tuples) → length tuples ≡ states lts
tuples_long view lts fs tuples are = sym (length-map tuples view) ∙ are.product.one_each

pub factor_here : {V : Type 0} (view : V → Factor) (all : List V) (i : ℕ) (d : V) (f : Factor) → IsFactorAt (map view all) i f → f ≡ view (get_or all i d)
factor_here view all i d f at = sym (get_or_from_slice_get (map view all) i f (view d) at) ∙ get_or-map view all i d

-- ---- nets of a class

pub nets_end : (class : Class) (lts : System) (fs : List Factor) (tuples : List (List ℕ)) (net : Net) (out : List ℕ) → IsWellFormed lts → AreFactorsOf lts fs tuples → IsMadeOfNets class lts fs net
    → out ≡ net_text net lts → FactorEnds lts (Some class) (says_yes out)
nets_end class lts fs tuples net out formed are made text =
    let beside : Net = net_beside lts fs made.nets in
    let in_range = subst IsNetInRange made.is made.in_range in
    let told : out ≡ net_text beside lts = text ∙ ap (λ (n : Net). net_text n lts) made.is in
    a_net class out (record {
      fs = fs;
      tuples = tuples;
      are = are;
      nets = made.nets;
      each = made.each;
      in_range = in_range;
      solves = subst (λ (n : Net). Solves n lts) made.is made.solves;
      in_class = subst (λ (n : Net). InClass n class) made.is made.in_class;
      irredundant = subst (λ (n : Net). IsIrredundant n lts) made.is made.irredundant;
      narrow = subst (λ (n : Net). IsBounded n greatest) made.is made.narrow;
      text = told;
      spelled = λ few. subst (λ bytes. NetSpells bytes lts beside) (sym told) (printed_spelled beside lts formed refl in_range few);
    })

pub certificate_end : (class : Class) (lts : System) (fs : List Factor) (tuples : List (List ℕ)) (i : ℕ) (cert : Certificate) (out : List ℕ) → AreFactorsOf lts fs tuples
    → (found : IsCertificateOfFactor class lts fs i cert) → out ≡ unsolvable_factor_line i ++ cert_text (claim_of cert) found.f.lts → FactorEnds lts (Some class) (says_no out)
certificate_end class lts fs tuples i cert out are found text =
    let factor : System = found.f.lts in
    let lines : List ℕ = cert_text (claim_of cert) factor in
    a_certificate class out (record {
      fs = fs;
      tuples = tuples;
      are = are;
      i = i;
      f = found.f;
      first = found.first;
      certificate = lines;
      is = record {
        reason = reason_of cert.reason;
        answer = found.answer;
        is = found.right.is;
        holds = found.right.holds;
        none = found.right.none;
        text = ap (λ k. cert_text (record { class = k; reason = reason_of cert.reason }) factor) found.right.of_class;
        spelled = subst (λ k. CertificateSpells lines factor (record { class = k; reason = reason_of cert.reason })) found.right.of_class
            (text_spells (claim_of cert) factor lines found.right.in_range.claim refl);
      };
      none = found.none;
      text = text;
    })

pub term_end : (class : Class) (lts : System) (fs : List Factor) (tuples : List (List ℕ)) (i : ℕ) (at : WideAt) → AreFactorsOf lts fs tuples → IsTermOfFactor class fs i at
    → FactorEnds lts (Some class) (shows_term (of_factor_term i (shown_of at)))
term_end class lts fs tuples i at are found = a_term class i (shown_of at) (record {
  fs = fs;
  tuples = tuples;
  are = are;
  f = found.f;
  first = found.first;
  shown = record { is_open = found.is_open; passes = found.passes; answer = found.answer };
})
