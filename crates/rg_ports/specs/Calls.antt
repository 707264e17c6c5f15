-- The calls that read one file of a shelf: it is picked, and read until its end is found.
use Rattle.std.specs.Prelude.{ℕ, ◌+◌, ◌-◌, ◌<◌, ◌≤◌, List, Bool, true, false, Option, None, Some, Result, Ok, Err, Vec}
use Rattle.std.specs.declared.alloc.Global.{Global}
use Rattle.rg_ports.specs.declared.reading.ReadStop.{ReadStop}
use Rattle.rg_ports.specs.declared.reading.ReadStop.TheVariants.{Failed, TooLong, NoMemory, Missing}

-- with what the calls end: a read that finds the end of the file, a call that fails, the answer that there is no such file, or a
-- reader that wants no more
pub data LastCall : Type 0 where
  finds_end : LastCall
  fails : LastCall
  finds_none : LastCall
  breaks_off : LastCall

-- reads of at most so many bytes of the picked file, from one state of a shelf to another: each gives some bytes but for the last
-- one, which finds the end or fails, unless they break off
pub data Reads {S : Type 0} (hands : S → ℕ → Option ℕ → S → Type 0) : ℕ → S → LastCall → S → Type 0 where
  at_end : (most : ℕ) (s t : S) (size : ℕ) → 0 < size → hands s size (Some 0) t → Reads hands most s finds_end t
  refused : (most : ℕ) (s t : S) (size : ℕ) → hands s size None t → Reads hands most s fails t
  enough : (most : ℕ) (s : S) → Reads hands most s breaks_off s
  more : (most : ℕ) (s m t : S) (size n : ℕ) (last : LastCall) → 0 < n → n ≤ most → hands s size (Some n) m
      → Reads hands (most - n) m last t → Reads hands most s last t

-- the file of this name is picked, and where it is there it is read: one byte more than the limit at most
pub data ReadsFile {S : Type 0} (finds : S → List ℕ → Option Bool → S → Type 0) (hands : S → ℕ → Option ℕ → S → Type 0)
    (limit : ℕ) (name : List ℕ) : S → LastCall → S → Type 0 where
  unpicked : (s t : S) → finds s name None t → ReadsFile finds hands limit name s fails t
  missing : (s t : S) → finds s name (Some false) t → ReadsFile finds hands limit name s finds_none t
  picked : (s m t : S) (last : LastCall) → finds s name (Some true) m → Reads hands (limit + 1) m last t → ReadsFile finds hands limit name s last t

-- with what the calls end where a file is read whole, or where it isn't
abbrev pub last_call : Result (Vec ℕ Global) ReadStop → LastCall
last_call (Ok bytes) = finds_end
last_call (Err Failed) = fails
last_call (Err Missing) = finds_none
last_call (Err TooLong) = breaks_off
last_call (Err NoMemory) = breaks_off
