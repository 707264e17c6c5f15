-- What a step makes of the tableau, in a short descent and in a long one.
use Rattle.std.proofs.Common.{◌≡◌, ℕ, ◌+◌, ◌*◌, ◌^◌, ◌<◌, ◌≤◌, max, true, false, List, ◌∷◌, length, subst, sym, ◌∙◌, arith}
use Rattle.std.specs.Prelude.{ℤ, pos, ◌<ℤ◌, unsigned_abs}
use Rattle.std.proofs.lemmas.Int.{ints}
use Rattle.std.proofs.lemmas.Bool.{false≢true}
use Rattle.rg_integers.specs.Sum.{number_at}
use Rattle.rg_fraction.specs.Rows.{IsPrimitivePart}
use Rattle.rg_linear.specs.System.{LinearSystem, row_variable}
use Rattle.rg_revised.specs.Basis.{IsRelationOf, IsMultiple}
use Rattle.rg_revised.specs.Rows.{RowWithin, TableWithin}
use Rattle.rg_revised.specs.Held.{relation_of}
use Rattle.rg_revised.specs.Long.{IsNarrowed}
use Rattle.rg_revised.specs.Reading.{IsRead, constant_over}
use Rattle.rg_revised.specs.View.{BasisState, TableauState}
use Rattle.rg_revised.specs.State.{IsTableauOf, IsRow, IsRowRead, IsExchangeOf, IsLongExchangeOf, IsSetExchange, IsTableauExchange, HasRoom, HasConstants}
use Rattle.rg_revised.proofs.ConstantsHeld.{read_constant}
use Rattle.rg_revised.proofs.Relations.{factor_fails}
use Rattle.rg_revised.proofs.Renewing.{divided_is_relation}
use Rattle.rg_revised.proofs.Stepping.{relation, step_fits, long_step_fits}
use Rattle.rg_revised.proofs.LongRows.{IsDivided, divided_from, divided_multiple, rows_within}

-- ---- a row is read

abbrev with_numbers : TableauState → List ℤ → ℤ → TableauState
with_numbers t numbers over = record { basis = t.basis; constants = t.constants; named = t.named; numbers = numbers; over = over; norm = t.norm; most = t.most; long = t.long }

pub short_room : (system : LinearSystem) (members : List ℕ) (t : TableauState) → t.long ≡ false → IsTableauOf system members t → HasRoom system t.most
short_room system members t short is = (t.norm, is.room.norms, is.room.some, is.room.short short)

module _ (system : LinearSystem) (members : List ℕ) (t : TableauState) (i : ℕ) (coeffs : List ℤ) (constant : ℤ) (is : IsTableauOf system members t) (row : IsRow system i coeffs constant) where
  constant_at : (numbers : List ℤ) → IsRead (length t.basis.slots + 1) coeffs constant t.basis.table t.basis.d numbers → number_at numbers (length t.basis.slots)
      ≡ constant_over coeffs t.constants constant t.basis.d
  constant_at numbers read = read_constant t.basis t.constants t.named is.constants coeffs constant numbers (row.each ∙ sym is.held.held.count) read

  pub short_read : (numbers : List ℤ) → IsRead (length t.basis.slots + 1) coeffs constant t.basis.table t.basis.d numbers
      → IsRowRead system members i coeffs constant t (with_numbers t numbers t.basis.d)
  short_read numbers read = record {
    whole = record { held = is.held; room = is.room; constants = is.constants; width = read.same_length };
    relation = relation system members t.basis t.most is.held i coeffs constant row numbers read;
    fails = λ less. subst (λ z. z <ℤ pos 0) (sym (constant_at numbers read)) less;
  }

  pub long_read : (raw q numbers : List ℤ) (over : ℤ) (g : ℕ) → IsRead (length t.basis.slots + 1) coeffs constant t.basis.table t.basis.d raw → IsPrimitivePart (t.basis.d ∷ raw) q g
      → IsNarrowed q over numbers → length numbers ≡ length t.basis.slots + 1 → IsRowRead system members i coeffs constant t (with_numbers t numbers over)
  long_read raw q numbers over g read part narrowed width = record {
    whole = record { held = is.held; room = is.room; constants = is.constants; width = width };
    relation = divided_is_relation system members (row_variable system i) (pos (max g 1)) (relation_of t.basis.slots t.basis.d raw) (relation_of t.basis.slots over numbers) divided.positive multiple
        (relation system members t.basis t.most is.held i coeffs constant row raw read);
    fails = λ less. factor_fails (pos (max g 1)) (number_at numbers (length t.basis.slots)) (number_at raw (length t.basis.slots)) divided.positive multiple.constant
        (subst (λ z. z <ℤ pos 0) (sym (constant_at raw read)) less);
  }
    where
      divided : IsDivided (t.basis.d ∷ raw) (pos (max g 1)) over numbers
      divided = divided_from (t.basis.d ∷ raw) q g over numbers part narrowed (let w = read.same_length in omega arith)

      multiple : IsMultiple (pos (max g 1)) (relation_of t.basis.slots t.basis.d raw) (relation_of t.basis.slots over numbers)
      multiple = divided_multiple t.basis.slots t.basis.d (pos (max g 1)) over raw numbers divided (read.same_length ∙ sym width) (omega arith)

-- ---- an exchange

pub short_exchange : (t : TableauState) (numbers : List ℤ) (p variable : ℕ) (basis : BasisState) → t.long ≡ false → t.over ≡ t.basis.d → IsExchangeOf t.basis t.numbers p variable t.most basis
    → IsSetExchange t p variable (record { basis = basis; constants = t.constants; named = t.named; numbers = numbers; over = t.over; norm = t.norm; most = t.most; long = t.long })
short_exchange t numbers p variable basis short over exchange system members is lt outside relation_is = (
  step_fits system members t.basis t.most is.held (short_room system members t short is) variable _,
  exchange system members is.held lt outside (subst (λ d. IsRelationOf system members variable (relation_of t.basis.slots d t.numbers)) over relation_is),
  is.room,
)

-- the numbers after a long exchange, and their largest size
pub record IsLargest (b : BasisState) (largest : ℤ) : Type 0 where
  pub d : unsigned_abs b.d ≤ unsigned_abs largest
  pub within : RowWithin (unsigned_abs largest) b.table
  pub positive : pos 0 <ℤ largest
  pub short : unsigned_abs largest < 2 ^ 63

pub long_exchange : (t : TableauState) (numbers : List ℤ) (p variable : ℕ) (basis : BasisState) (largest most : ℤ) → t.long ≡ true
    → unsigned_abs t.over ≤ unsigned_abs largest → RowWithin (unsigned_abs largest) t.numbers → ((t.norm + 1) * t.most) * unsigned_abs largest < 2 ^ 126
    → IsLongExchangeOf t.basis t.numbers t.over p variable basis → IsLargest basis most
    → IsSetExchange t p variable (record { basis = basis; constants = t.constants; named = t.named; numbers = numbers; over = t.over; norm = t.norm; most = unsigned_abs most; long = t.long })
long_exchange t numbers p variable basis largest most long over_small small fits exchange new system members is lt outside relation_is =
    let held = exchange system members is.held.held lt outside relation_is in (
      long_step_fits system members t.basis t.most is.held t.norm (unsigned_abs largest) variable _ t.over t.numbers is.room.norms relation_is is.width over_small small fits,
      record {
        held = held;
        within = subst (λ n. TableWithin (length basis.slots + 1) n (unsigned_abs most) basis.table) (sym held.count)
            (rows_within (length basis.slots + 1) system.columns (unsigned_abs most) basis.table held.size new.within);
        d_within = new.d;
      },
      record {
        norms = is.room.norms;
        norm_fits = is.room.norm_fits;
        some = at_least_one most new.positive;
        most_fits = new.short;
        short = λ no. absurd (false≢true (sym no ∙ long));
      },
    )
  where
    at_least_one : (z : ℤ) → pos 0 <ℤ z → 1 ≤ unsigned_abs z
    at_least_one z h = omega (arith, ints)

pub tableau_exchange : (t after : TableauState) (p variable : ℕ) (constants : List ℤ) (named : List ℕ) → IsSetExchange t p variable after → HasConstants after.basis constants named
    → length after.numbers ≡ length after.basis.slots + 1
    → IsTableauExchange t p variable (record {
      basis = after.basis;
      constants = constants;
      named = named;
      numbers = after.numbers;
      over = after.over;
      norm = after.norm;
      most = after.most;
      long = after.long;
    })
tableau_exchange t after p variable constants named exchange are width system members is lt outside relation_is =
    let (fits, held, room) = exchange system members is lt outside relation_is in
    (fits, record { held = held; room = room; constants = are; width = width })
