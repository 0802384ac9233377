-- What an index of periods by key has, what it finds, and how it changes.
use Rattle.std.specs.Prelude.{◌≡◌, ◌≤◌, ◌==◌, ℕ, Bool, true, false, ◌&&◌, not, nat_lt, List, [], ◌∷◌, ◌++◌, length, AllPairs, filter, if◌then◌else◌}
use Rattle.std.specs.List.{list_any, list_all}
use Rattle.model.specs.declared.value.Value.{Value}
use Rattle.model.specs.Values.{same_key}
use Rattle.model.specs.Tables.{Period, inside}
use Rattle.model.specs.Statements.{days_of}

-- the items of each key
abbrev pub Index : Type 0 → Type 0
Index T = List Value → List T

-- each period ends no later than those after it start: they are in order, and no day is in two of them
abbrev pub AreApart : List Period → Type 0
AreApart periods = AllPairs (λ p q. p.end ≤ q.start) periods

-- a day of p is a day of q
abbrev pub shares_day : Period → Period → Bool
shares_day p q = list_any (inside q) (days_of p)

-- both have the same start and end
abbrev pub same_period : Period → Period → Bool
same_period p q = p.start == q.start && p.end == q.end

-- from a place on, these of the items share a day with p, and no others do
pub record AreSharing {T : Type 0} (period : T → Period) (p : Period) (items : List T) (place : ℕ) (found : List T) : Type 0 where
  pub before : List T
  pub after : List T
  pub all : items ≡ before ++ (found ++ after)
  pub place_is : length before ≡ place
  pub none_before : list_any (λ x. shares_day p (period x)) before ≡ false
  pub each : list_all (λ x. shares_day p (period x)) found ≡ true
  pub none_after : list_any (λ x. shares_day p (period x)) after ≡ false

-- one item more, in the order of the starts of their periods
abbrev pub with_item : {T : Type 0} → (T → Period) → T → List T → List T
with_item period x [] = x ∷ []
with_item period x (y ∷ ys) = if nat_lt (period y).start (period x).start then y ∷ with_item period x ys else x ∷ y ∷ ys

-- the items but those of this period
abbrev pub without_period : {T : Type 0} → (T → Period) → Period → List T → List T
without_period period p items = filter (λ x. not (same_period (period x) p)) items

-- the index with the items of one key changed
abbrev pub changed_at : {T : Type 0} → List Value → (List T → List T) → Index T → Index T
changed_at key change index = λ k. if same_key key k then change (index k) else index k
