-- What is fixed stays over every call of a book.
use Rattle.std.proofs.Common.{◌≡◌, ℕ, Option, Some, None, Result, Ok, Err, ap}
use Rattle.std.specs.declared.alloc.AllocError.{AllocError}
use Rattle.td_rows.specs.declared.key.Key.{Key}
use Rattle.td_book.specs.declared.arriving.ArriveRefusal.{ArriveRefusal}
use Rattle.td_book.specs.declared.arriving.ArriveRefusal.TheVariants as arrivals
use Rattle.td_book.specs.Arriving.{ArriveOutcome, SweepOutcome}
use Rattle.td_book.specs.Desk.{BookModel}

all : (old new : BookModel) → new ≡ old → new.fixed ≡ old.fixed
all old new same = ap (λ (b : BookModel). b.fixed) same

pub arrive_fixed : (k : Key) (old new : BookModel) (r : Result ℕ ArriveRefusal)
    → ArriveOutcome k old new r → new.fixed ≡ old.fixed
arrive_fixed k old new (Ok n) is = ap (λ (b : BookModel). b.fixed) is.3
arrive_fixed k old new (Err arrivals.NoSuchRow) is = all old new is.1
arrive_fixed k old new (Err (arrivals.DoesNotApply s)) is = all old new is.4
arrive_fixed k old new (Err arrivals.NoMemory) is = all old new is.3

pub sweep_fixed : (old new : BookModel) (r : Result (Option ℕ) AllocError) → SweepOutcome old new r
    → new.fixed ≡ old.fixed
sweep_fixed old new (Ok None) is = all old new is.1
sweep_fixed old new (Ok (Some n)) is = ap (λ (b : BookModel). b.fixed) is.1
sweep_fixed old new (Err e) is = all old new is
