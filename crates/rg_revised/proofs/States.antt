-- An exchange of the relations of the columns.
use Rattle.std.proofs.Common.{rules, false, ◌≡◌, ◌≢◌, ℕ, ◌+◌, ◌<◌, ◌≤◌, Bool, List, ◌++◌, take, length, ap, subst, sym, ◌∙◌, arith}
use Rattle.std.proofs.Math.ListN.{set, length-set}
use Rattle.std.proofs.Math.Seq.{take-append_seam}
use Rattle.std.specs.Prelude.{ℤ, pos, ◌*ℤ◌, ◌≤ℤ◌, unsigned_abs}
use Rattle.std.specs.Int.Signed.{lt_z}
use Rattle.std.proofs.lemmas.Int.{ints}
use Rattle.rg_integers.specs.Sum.{number_at}
use Rattle.rg_integers.specs.Sign.{size}
use Rattle.rg_revised.specs.Rows.{TableWithin, TableRenewed}
use Rattle.rg_revised.specs.Held.{IsPivot}
use Rattle.rg_revised.specs.View.{BasisState}
use Rattle.rg_revised.specs.State.{IsExchangeOf}
use Rattle.rg_revised.proofs.Keeping.{pivot_size, held_exchanged}
use Rattle.rg_revised.proofs.Held.{multiplied_from}

pub exchange_of : (b : BasisState) (table' numbers pivot : List ℤ) (p variable : ℕ) (negative : Bool) (most : ℕ) (z : ℤ) → p < length b.slots → length numbers ≡ length b.slots + 1
    → number_at numbers p ≢ pos 0 → IsPivot numbers pivot p negative
    → TableRenewed (length b.slots + 1) pivot b.table table' p negative b.d most (length b.slots) → z ≡ number_at pivot p → unsigned_abs z ≤ most
    → IsExchangeOf b numbers p variable most (record { slots = set b.slots p variable; d = z; table = table' })
exchange_of b table' numbers pivot p variable negative most z inside width named signed r is small system members old lt outside relation = record {
  held = held_exchanged system members b table' numbers pivot p variable negative b.d b.d z old.held lt outside relation width inside named signed (record {
    positive = old.held.basis.positive;
    denominator = ap (λ x. b.d *ℤ x) (sym is);
    same_length = r.same_length;
    rows = λ t below. multiplied_from pivot _ _ p negative b.d most (r.rows t (subst (λ n. t < n) (sym old.held.count) below));
  });
  within = subst (λ n. TableWithin (n + 1) n most table') (sym (length-set b.slots p variable)) (λ t below. (r.rows t below).within);
  d_within = small;
}

-- the items of a vector, after a slice of all was written
pub written_back : (n : ℕ) (xs zs : List ℤ) → length xs ≡ n → take n (xs ++ zs) ≡ xs
written_back n xs zs e = subst (λ k. take k (xs ++ zs) ≡ xs) e (take-append_seam xs zs)

pub size_is_size : (numbers pivot : List ℤ) (p : ℕ) (negative : Bool) (z : ℤ) → IsPivot numbers pivot p negative → p < length numbers → z ≡ number_at pivot p → pos 0 ≤ℤ z
size_is_size numbers pivot p negative z signed lt is = subst (λ x. pos 0 ≤ℤ x) (sym (is ∙ pivot_size numbers pivot p negative signed lt)) (not_negative (number_at numbers p))
  where
    not_negative : (x : ℤ) → pos 0 ≤ℤ size x
    not_negative x = omega (arith, ints)

pub small_enough : (z most : ℤ) → pos 0 ≤ℤ z → z ≤ℤ most → unsigned_abs z ≤ unsigned_abs most
small_enough z most h le = omega (arith, ints)

pub not_larger : (z most : ℤ) → lt_z most z ≡ false → z ≤ℤ most
not_larger z most h = search rules
