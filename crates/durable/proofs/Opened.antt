-- What an open finds after the tables are set up.
use Rattle.std.proofs.Common.{◌≡◌, ℕ, false, Option, None, Some, Ok, Err, Result, MatchOption, IfOk, OnOk}
use Rattle.std.specs.declared.alloc.Global.{Global}
use Rattle.std.specs.declared.vec.Vec.{Vec}
use Rattle.sqlite.specs.declared.error.Error.{Error}
use Rattle.sqlite.specs.State.{State, HasCleanDisk, IsUnchanged}
use Rattle.model.specs.declared.entry.Entry.{Entry}
use Rattle.model.specs.Transactions.{Language}
use Rattle.keep.specs.Durable.{Durable}
use Rattle.durable.specs.Tables.{schema}
use Rattle.durable.specs.Stored.{Offers, IsBad, IsOpened, IsReady}
use Rattle.durable.specs.Judging.{IsNoLog, IsFound}
use Rattle.durable.proofs.Offering.{found_opens, opened_from, no_log_found}

pub judged_opens : (old mid new : State) (members : ℕ) (tables : Language) (r : Result (Option (Vec Entry Global)) Error) → HasCleanDisk mid → mid.in_transaction ≡ false → IsReady mid → ((d : Durable) → Offers mid d → Offers old d) → OnOk r (mid.now.schema ≡ schema → IsUnchanged mid new)
    → IfOk r (λ o. mid.now.schema ≡ schema → MatchOption o (IsNoLog mid.now members tables) (λ log. IsFound mid.now members tables log.items))
    → IfOk r (λ o. MatchOption o (IsBad new members tables) (λ log. IsOpened old new members tables log.items))
judged_opens old mid new members tables (Err e) clean out ready left same ok = tt
judged_opens old mid new members tables (Ok None) clean out ready left same ok = no_log_found mid new members tables ready (same ready.tables) (ok ready.tables)
judged_opens old mid new members tables (Ok (Some log)) clean out ready left same ok =
    opened_from old mid new members tables log.items left (found_opens mid new members tables log.items clean out ready (same ready.tables) (ok ready.tables))
