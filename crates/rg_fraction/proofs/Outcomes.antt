-- What the calls that form one term over another answer.
use Rattle.std.proofs.Common.{Result, Ok, Err}
use Rattle.std.specs.Prelude.{ℤ, pos, ◌*ℤ◌, ◌<ℤ◌, unsigned_abs}
use Rattle.std.specs.Int.{IsGcd}
use Rattle.rg_integers.specs.Value.{SameValue}
use Rattle.rg_integers.proofs.Order.{mul_positive, positive_differs}
use Rattle.rg_integers.proofs.Values.{SameValue-trans, one_reduced_form}
use Rattle.rg_integers.specs.declared.term.Wide.{Wide}
use Rattle.rg_fraction.specs.declared.fraction.Fraction.{Fraction}
use Rattle.rg_fraction.specs.Terms.{sum_top, sum_bottom, product_top, product_bottom}
use Rattle.rg_integers.specs.Term.{term_value}
use Rattle.rg_fraction.specs.Fractions.{IsFormed, IsSum, IsProduct, ShowsProduct}
use Rattle.rg_fraction.proofs.Forms.{sum-value, sum-positive, product-value, product-positive, product_form}

-- the two terms may be told by another form of their value
formed : (s t : Wide) (n d : ℤ) (r : Result Fraction Wide) → pos 0 <ℤ term_value t → SameValue (term_value s) (term_value t) n d
    → IsFormed s t (term_value s) (term_value t) r → IsFormed s t n d r
formed s t n d (Ok f) h v o = (
  o.0,
  o.1,
  SameValue-trans f.numerator f.denominator (term_value s) (term_value t) n d (positive_differs (term_value t) h) o.2 v,
)
formed s t n d (Err w) h v o = o

pub sum_formed : (n d m e : ℤ) (r : Result Fraction Wide) → pos 0 <ℤ d → pos 0 <ℤ e
    → IsFormed (sum_top n d m e) (sum_bottom n d m e) (term_value (sum_top n d m e)) (term_value (sum_bottom n d m e)) r → IsSum n d m e r
sum_formed n d m e r hd he = formed (sum_top n d m e) (sum_bottom n d m e) _ _ r (sum-positive n d m e hd he) (sum-value n d m e)

pub product_formed : (n d m e : ℤ) (r : Result Fraction Wide) → pos 0 <ℤ d → pos 0 <ℤ e
    → IsFormed (product_top n d m e) (product_bottom n d m e) (term_value (product_top n d m e)) (term_value (product_bottom n d m e)) r
    → IsProduct n d m e r
product_formed n d m e r hd he = formed (product_top n d m e) (product_bottom n d m e) _ _ r (product-positive n d m e hd he) (product-value n d m e)

-- the product shows the two terms, which are reduced
pub product_shows : (n d m e : ℤ) (r : Result Fraction Wide) → pos 0 <ℤ d → pos 0 <ℤ e
    → IsGcd (unsigned_abs n) (unsigned_abs d) 1 → IsGcd (unsigned_abs m) (unsigned_abs e) 1
    → IsProduct n d m e r → ShowsProduct n d m e r
product_shows n d m e (Ok f) hd he nd me o =
    one_reduced_form f.numerator f.denominator _ _ (n *ℤ m) (d *ℤ e) (positive_differs (d *ℤ e) (mul_positive d e hd he))
    (record { positive = f.positive; reduced = f.reduced; value = o.2 }) (product_form n d m e hd he nd me)
product_shows n d m e (Err w) hd he nd me o = tt
