-- What INSERT, UPDATE and DELETE do to a table at an instant, each day by itself: SQL:2011's statements on a table with
-- an application-time period, UPDATE and DELETE with FOR PORTION OF or without, and WITHOUT OVERLAPS in the key.
-- The parts of a row outside the portion stay with their values, and are born at the instant as well.
use Rattle.std.specs.Prelude.{ℕ, Bool, false, ◌&&◌, ◌||◌, nat_lt, Option, Some, None, option_map, option_and_then, unwrap_or, is_none, is_some, List, if◌then◌else◌, Result, Ok, Err, sum_by, count_by}
use Rattle.std.specs.List.{list_any, range_with_len}
use Rattle.std.specs.Option.{option_map_or}
use Rattle.fault.specs.declared.refusal.Refusal.{Refusal}
use Rattle.fault.specs.declared.refusal.Refusal.TheVariants.{KeyOverlap, NumberRange}
use Rattle.model.specs.declared.value.Value.{Value}
use Rattle.model.specs.Tables.{days, Period, inside, Fact, Table, Row, joined, row_at, begins}
use Rattle.model.specs.Statements.{is_edge, days_of, inserted}
use Rattle.model.specs.Transactions.{Action, Insert, Update, Delete}

-- the day lies in a row that is met: it passes WHERE and has a day in the portion
unfoldable pub is_met : (Row → Bool) → Period → Table → List Value → ℕ → Bool
is_met passes p old k d = option_map_or (λ row. passes row && nat_lt row.period.start p.end && nat_lt p.start row.period.end) (row_at old k d) false

-- 23: SET is out of range for a day in the portion of a row that is met
unfoldable pub set_overflows : (Row → Bool) → Period → (List Value → Option (List Value)) → Table → Bool
set_overflows passes p set old = list_any (λ k. list_any (λ d. is_met passes p old k d && is_none (option_and_then (λ c. set c.values) (old.fact k d)))
    (days_of p)) old.keys

-- each day of a row that is met is born anew: inside the portion with the new values of its old ones, or empty where there are none
unfoldable pub rewritten : (Row → Bool) → Period → (List Value → Option (List Value)) → ℕ → Table → Table
rewritten passes p new t old =
    let born = λ (d : ℕ) (c : Fact). option_map (λ v. record { values = v; system_start = t }) (if inside p d then new c.values else Some c.values) in
    record old { fact = λ k d. if is_met passes p old k d then option_and_then (born d) (old.fact k d) else old.fact k d }

-- The table after the action at instant t, or its refusal 20 or 23. The edges of an UPDATE's portion cut the rows that are met; what
-- SET is out of range for, it leaves.
unfoldable pub changed : Action → ℕ → Table → Result Table Refusal
changed (Insert key values p) t old = if list_any (λ d. is_some (old.fact key d)) (days_of p) then Err KeyOverlap else Ok (inserted key values p t old)
changed (Update passes p set) t old = if set_overflows passes p set old then Err NumberRange
    else Ok (record (rewritten passes p (λ v. Some (unwrap_or (set v) v)) t old)
    { is_cut = λ k d. old.is_cut k d || (is_edge p d && joined old k d && is_met passes p old k d) })
changed (Delete passes p) t old = Ok (rewritten passes p (λ v. None) t old)

-- how many rows there are: of each key, the days on which one begins
unfoldable pub row_count : Table → ℕ
row_count table = sum_by (λ k. count_by (begins table k) (range_with_len 0 days)) table.keys
