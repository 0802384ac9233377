-- What a member may start with.
use Rattle.std.specs.Prelude.{◌≡◌, ◌≤◌, ℕ, min, true, nat_le, vec_len}
use Rattle.std.specs.List.{list_all}
use Rattle.model.specs.Steps.{TERM_LAST, LOG_LIMIT}
use Rattle.keep.specs.Log.{is_vote}
use Rattle.keep.specs.declared.state.State.{State}

-- the hard state, the length and the end of a log of a member of a group of so many, as far as these tell
pub record IsStart (members : ℕ) (s : State) : Type 0 where
  pub term : s.hard.term ≤ TERM_LAST
  pub vote : is_vote members s.hard.vote ≡ true
  pub room : s.length ≤ LOG_LIMIT
  pub last : vec_len s.tail ≡ min s.length 1024
  pub terms : list_all (λ e. nat_le e.term TERM_LAST) s.tail.items ≡ true
