-- What a log of entries means: its stamps and closed time, the outcomes of its requests, each executed once, and the
-- state of the tables at each instant. (Numbered requests: client interaction in "In search of an understandable
-- consensus algorithm"; the state at an instant: the system-versioned tables of SQL:2011.)
use Rattle.std.specs.Prelude.{◌≡◌, ℕ, ◌+◌, ◌-◌, ◌<◌, ◌≤◌, ◌==◌, Bool, false, ◌&&◌, nat_lt, nat_le, Option, Some, option_map, unwrap_or, List, [], ◌∷◌, length, take, reverse, slice_get, if◌then◌else◌, Result, Ok, Err, filter}
use Rattle.std.specs.Option.{option_and_then, option_map_or}
use Rattle.std.specs.Result.{result_unwrap_or}
use Rattle.model.specs.Lists.{nth}
use Rattle.model.specs.Tables.{empty_table}
use Rattle.fault.specs.declared.refusal.Refusal.{Refusal}
use Rattle.fault.specs.declared.refusal.Refusal.TheVariants.{Old, Gap}
use Rattle.model.specs.Transactions.{State, Language, executed_text}
use Rattle.model.specs.declared.entry.Request.{Request}
use Rattle.model.specs.declared.entry.Entry.{Entry}
use Rattle.model.specs.declared.entry.Told.{Told}
use Rattle.model.specs.Stamps.{TIME_LAST, above, greater}

-- ---- stamps and closed times

-- stamps are instants and strictly rise
pub record IsStamped (list : List Entry) : Type 0 where
  pub instants : (i : ℕ) (e : Entry) → nth list i ≡ Some e → e.stamp ≤ TIME_LAST
  pub rising : (i j : ℕ) (d e : Entry) → i < j → nth list i ≡ Some d → nth list j ≡ Some e → d.stamp < e.stamp

-- the newest entry, if there is one
abbrev pub last_entry : List Entry → Option Entry
last_entry list = nth list (length list)

-- the closed time: the last stamp, if there is one
abbrev pub closed : List Entry → Option ℕ
closed list = option_map (λ e. e.stamp) (last_entry list)

-- one more than the last stamp
abbrev pub least_stamp : List Entry → ℕ
least_stamp log = above (closed log)

-- one more than the last stamp and the floor
abbrev pub least_over : Option ℕ → List Entry → ℕ
least_over floor log = above (greater (closed log) floor)

-- ---- requests. In what follows `before` is a list of entries from the newest back to the oldest.

-- accepted at an instant, or refused
abbrev pub Outcome : Type 0
Outcome = Result ℕ Refusal

-- how many of the client's requests were executed: each has the number after the one before
unfoldable pub executed : ℕ → List Entry → ℕ
executed client [] = 0
executed client (e ∷ before) =
    let n = executed client before in
    if option_map_or (λ r. r.client == client && r.number == n + 1) e.request false then n + 1 else n

-- a first has the number after that of the client's last first, so it is executed
abbrev pub is_first : Request → List Entry → Bool
is_first r before = r.number == executed r.client before + 1

-- accepted at its instant, or refused
abbrev pub outcome_at : ℕ → Result State Refusal → Outcome
outcome_at t (Ok next) = Ok t
outcome_at t (Err refusal) = Err refusal

-- what the first requests leave, one at a time, each once; a refused transaction changes nothing
unfoldable pub state_after : Language → List Entry → State
state_after language [] = λ n. empty_table
state_after language (e ∷ before) =
    let state = state_after language before in
    option_map_or (λ r. if is_first r before then result_unwrap_or (executed_text language e.stamp r.text state) state else state) e.request state

-- what a first request comes to
abbrev pub first_outcome : Language → ℕ → Request → List Entry → Outcome
first_outcome language t r before = outcome_at t (executed_text language t r.text (state_after language before))

-- the outcomes of the client's first requests, from the newest back
unfoldable pub first_outcomes : Language → ℕ → List Entry → List Outcome
first_outcomes language client [] = []
first_outcomes language client (e ∷ before) =
    let earlier = first_outcomes language client before in
    option_map_or (λ r. if r.client == client && is_first r before then first_outcome language e.stamp r before ∷ earlier else earlier) e.request earlier

-- those of its latest eight firsts, or of all, if they are fewer: the newest has the number `executed`, the one before it 1 less, and so on
abbrev pub kept : Language → ℕ → List Entry → List Outcome
kept language client before = take 8 (first_outcomes language client before)

-- a first is executed; a greater number leaves a gap; that of one of the latest eight firsts has its outcome; a smaller one is old
unfoldable pub outcome : Language → ℕ → Request → List Entry → Outcome
outcome language t r before =
    let n = executed r.client before in
    if r.number == n + 1 then first_outcome language t r before
    else if nat_lt n r.number then Err Gap
    else unwrap_or (slice_get (kept language r.client before) (n - r.number)) (Err Old)

-- the entries before an index of a list, from the newest back
abbrev pub before_index : List Entry → ℕ → List Entry
before_index list i = reverse (take (i - 1) list)

-- what is told of the entry at an index, if it is a request
abbrev pub told_at : Language → List Entry → ℕ → Option Told
told_at language list i = option_and_then (λ e. option_map (λ r. record { index = i; client = r.client; number = r.number; outcome = outcome language e.stamp r (before_index list i) }) e.request) (nth list i)

-- ---- the state at an instant

-- what the entries of the list leave that are stamped at most t
unfoldable pub state_at : Language → List Entry → ℕ → State
state_at language list t = state_after language (reverse (filter (λ e. nat_le e.stamp t) list))
