-- What members are, by what they send and take.
use Rattle.std.specs.Prelude.{ℕ, Bool, true, false, ◌&&◌, ◌||◌, ◌==◌, nat_lt, if◌then◌else◌}
use Rattle.std.specs.Ordering.{ord_max, nat_cmp}
use Rattle.model.specs.declared.message.Message.{Message}
use Rattle.model.specs.declared.message.Body.{Body}
use Rattle.model.specs.declared.message.Body.TheVariants.{RequestVote, Vote, Append, Reply, Seek, Stored, Seal}
use Rattle.lanes.specs.declared.role.Role.{Role}
use Rattle.lanes.specs.declared.role.Role.TheVariants.{Follows, Stands, Leads, Down}
use Rattle.lanes.specs.declared.role.Standing.{Standing}

-- before anything happens
abbrev pub opening : Standing
opening = record { role = Follows; term = 0 }

-- An Append shows that its sender leads, a request for a vote that it stands for election; no other message shows what it is.
abbrev pub shown_by : Body → Role → Role
shown_by (Append prev_index prev_term entries commit) role = Leads
shown_by (RequestVote last_index last_term) role = Stands
shown_by (Vote given floor) role = role
shown_by (Reply ok matched) role = role
shown_by (Seek index floor) role = role
shown_by (Stored index floor) role = role
shown_by (Seal index floor) role = role

-- once it sent a message
abbrev pub after_sending : Message → Standing → Standing
after_sending message s = record { role = shown_by message.body s.role; term = ord_max nat_cmp s.term message.term }

abbrev pub stands : Role → Bool
stands Stands = true
stands Follows = false
stands Leads = false
stands Down = false

-- a message of a greater term makes a member follow, and so does an Append of the term in which it stands
abbrev pub after_taking : ℕ → Bool → Standing → Standing
after_taking term is_append s =
    if nat_lt s.term term || (is_append && (stands s.role && (term == s.term))) then record { role = Follows; term = term } else s

-- in another role
abbrev pub in_role : Role → Standing → Standing
in_role role s = record { role = role; term = s.term }
