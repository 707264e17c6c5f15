-- What calls give, from the computations that they come to.
use Rattle.std.proofs.Common.{◌≡◌, refl, Result, Ok, Err}
use Rattle.std.specs.Prelude.{IfOk}
use Rattle.rg_integers.specs.declared.term.Wide.{Wide}
use Rattle.rg_fraction.specs.declared.fold_stop.FoldStop.{FoldStop}
use Rattle.rg_fraction.specs.declared.fold_stop.FoldStop.TheVariants as stop
use Rattle.rg_folds.specs.Fold.{Comes}

-- where each result of one computation is one of another
pub comes_by : {T X : Type 0} (fold other : Result X Wide → Type 0) (view : T → X) (given : Result T FoldStop) → Comes fold view given
    → ((r : Result X Wide) → fold r → other r) → Comes other view given
comes_by fold other view (Ok v) h leads = leads (Ok (view v)) h
comes_by fold other view (Err (stop.Wide w)) h leads = leads (Err w) h
comes_by fold other view (Err stop.NoMemory) h leads = h

-- what is true of the value
pub comes_value : {T X : Type 0} (fold : Result X Wide → Type 0) (view : T → X) (P : T → Type 0) (given : Result T FoldStop) → Comes fold view given
    → ((v : T) → fold (Ok (view v)) → P v) → IfOk given P
comes_value fold view P (Ok v) h shows = shows v h
comes_value fold view P (Err e) h shows = tt

-- from an error's own words
pub comes_unless : {U Y : Type 0} (other : Result Y Wide → Type 0) (seen : U → Y) (e : FoldStop) → ((w : Wide) → e ≡ stop.Wide w → other (Err w)) → Comes other seen (Err e)
comes_unless other seen (stop.Wide w) leads = leads w refl
comes_unless other seen stop.NoMemory leads = tt
