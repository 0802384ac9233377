-- How members stand, and which of them is to lead a group on.
use Rattle.std.specs.Prelude.{ℕ, zero, suc, Bool, true, false, ◌&&◌, ◌||◌, ◌==◌, nat_lt, nat_le, if◌then◌else◌, Option, Some, None, length}
use Rattle.std.specs.Ordering.{ord_max, nat_cmp}
use Rattle.model.specs.Lists.{nth}
use Rattle.model.specs.Members.{Node, last_term}
use Rattle.model.specs.Worlds.{World}
use Rattle.world.specs.View.{if_up}
use Rattle.script.specs.declared.standing.Standing.{Standing}

-- of one that is down, or not there, all is 0
abbrev pub standing_of : Option Node → Standing
standing_of None = record { term = 0; last_term = 0; length = 0; applied = 0 }
standing_of (Some x) = record { term = x.term; last_term = last_term x.log; length = length x.log; applied = x.commit }

abbrev pub standing_at : World → ℕ → Standing
standing_at w m = standing_of (if_up (nth w.nodes m))

-- its log is at least as up to date as the other's
abbrev pub is_up_to_date : Standing → Standing → Bool
is_up_to_date a b = nat_lt b.last_term a.last_term || ((b.last_term == a.last_term) && nat_le b.length a.length)

-- its log ends with an entry of its term
abbrev pub ends_own : Standing → Bool
ends_own s = nat_lt 0 s.length && (s.last_term == s.term)

-- in the term of the other, with as much applied as the other's log has
abbrev pub is_in_step : Standing → Standing → Bool
is_in_step a b = (a.term == b.term) && (a.applied == b.length)

-- of the first so many members the last one whose log is as up to date as that of each of them
abbrev pub foremost : ℕ → World → ℕ
foremost zero w = 0
foremost (suc m) w = if is_up_to_date (standing_at w (suc m)) (standing_at w (foremost m w)) then suc m else foremost m w

-- the length of the longest log of the first so many members
abbrev pub longest : ℕ → World → ℕ
longest zero w = 0
longest (suc m) w = ord_max nat_cmp (longest m w) (standing_at w (suc m)).length

-- the first so many members are in step with this one
abbrev pub are_in_step : Standing → ℕ → World → Bool
are_in_step s zero w = true
are_in_step s (suc m) w = are_in_step s m w && is_in_step (standing_at w (suc m)) s

-- the log of member m ends with an entry of its term, and each of n members is in that term and has applied as much
abbrev pub is_well : ℕ → World → ℕ → Bool
is_well n w m = ends_own (standing_at w m) && are_in_step (standing_at w m) n w
