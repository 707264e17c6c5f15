-- The supports of a table's rows, of which one is written.
use Rattle.std.proofs.Common.{◌≡◌, ◌≢◌, ⊎_elim, ℕ, ◌+◌, ◌-◌, ◌*◌, take, drop, refl, ◌<◌, List, length, get_or, sym, subst, get_or-set_other, get_or-set_same, length-set}
use Rattle.std.specs.Prelude.{ℤ}
use Rattle.std.proofs.Math.ListN.{set}
use borrow.Rule.Slice.PartMut.{put_mid}
use Rattle.rg_linear.proofs.Members.{equal_or_not}
use Rattle.rg_linear.proofs.TableRows.{row_put, row_other, part_is}
use Rattle.rg_linear.specs.Table.{row_at}
use Rattle.rg_revised.specs.declared.support.Support.{Support}
use Rattle.rg_revised.specs.Supports.{IsSupport, AreSupports, blank}

-- the support of a row that is borrowed
pub before_part : (width : ℕ) (table : List ℤ) (supports : List Support) (t : ℕ) → AreSupports width table supports → t < length supports
    → IsSupport (take ((t * width + width) - t * width) (drop (t * width) table)) (get_or supports t blank)
before_part width table supports t known lt = subst (λ x. IsSupport x (get_or supports t blank)) (sym (part_is width table table t refl)) (known t lt)

-- the row is written, and its support is one of the new row
pub supported : (width : ℕ) (table row : List ℤ) (supports : List Support) (s : Support) (t n k : ℕ) → AreSupports width table supports → length table ≡ n * width → t < n → k ≡ width
    → length row ≡ width → IsSupport row s → AreSupports width (put_mid (t * width) k table row) (set supports t s)
supported width table row supports s t n k known size lt is same right v less = ⊎_elim here other (equal_or_not v t)
  where
    before : v < length supports
    before = subst (λ m. v < m) (length-set supports t s) less

    here : v ≡ t → IsSupport (row_at width (put_mid (t * width) k table row) v) (get_or (set supports t s) v blank)
    here e = subst (λ u. IsSupport (row_at width (put_mid (t * width) k table row) u) (get_or (set supports t s) u blank)) (sym e)
        (subst (λ x. IsSupport x (get_or (set supports t s) t blank)) (sym (row_put width table row n t k size lt same))
        (subst (IsSupport row) (sym (get_or-set_same supports t s blank (subst (λ u. u < length supports) e before))) right))

    other : v ≢ t → IsSupport (row_at width (put_mid (t * width) k table row) v) (get_or (set supports t s) v blank)
    other ne = subst (λ x. IsSupport x (get_or (set supports t s) v blank)) (sym (row_other width table row n t k v size lt same is ne))
        (subst (IsSupport (row_at width table v)) (sym (get_or-set_other supports t v s blank ne)) (known v before))
