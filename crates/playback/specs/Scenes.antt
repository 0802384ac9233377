-- What a play has heard, as far as events come of it.
use Rattle.std.specs.Prelude.{◌≡◌, ℕ, Bool, false, if◌then◌else◌, max, nat_lt, ℤ, Some, List, [], ◌++◌, map, pos, replicate}
use Rattle.keep.specs.Durable.{Durable}
use Rattle.model.specs.Lists.{nth, with_nth}
use Rattle.model.specs.declared.event.Job.{Job}
use Rattle.model.specs.declared.message.Message.{Message}
use Rattle.model.specs.Worlds.{Event, Output}
use Rattle.playback.specs.declared.actor.Actor.{Actor}
use Rattle.playback.specs.declared.play.Play.{Play}
use Rattle.playback.specs.declared.told.Word.{Word}
use Rattle.playback.specs.Histories.{History, history_of, and_stored, and_then}
use Rattle.playback.specs.Posts.{messages, sent_in}
use Rattle.playback.specs.Standings.{Standing, Down, standing_of}
use Rattle.playback.specs.Words.{noted_after, told_in, words_in}

-- What was done, whether journals before the first one are away, how each member stands, the messages that were sent, how many of them
-- before the journal that is heard, and what clocks show; up to which entry outcomes are written, whether no step was taken since the
-- journal began, and what may be given out of requests
pub record Scene : Type 0 where
  pub history : History
  pub is_later : Bool
  pub members : List Standing
  pub sent : List Message
  pub before : ℕ
  pub reading : ℤ
  pub noted : ℕ
  pub is_head : Bool
  pub words : List Word

abbrev pub standings : List Actor → List Standing
standings = map (λ (a : Actor). standing_of a.doing)

abbrev pub scene_of : Play → Scene
scene_of p = record { history = history_of p.group; is_later = nat_lt 0 p.first; members = standings p.actors.items; sent = messages p.posts.items; before = p.before; reading = p.reading; noted = p.noted; is_head = p.is_head; words = p.words.items }

-- before a journal is heard of so many members, with which this was done
abbrev pub outset : ℕ → History → (is_later : Bool) → Scene
outset members history is_later = record { history = history; is_later = is_later; members = replicate members Down; sent = []; before = 0; reading = pos 0; noted = 0; is_head = false; words = [] }

-- an event happens
abbrev pub happened : Scene → Event → Scene
happened s event = record s { history = and_then s.history event }

-- a member is down, and has this stored
abbrev pub with_stored : Scene → ℕ → Durable → Scene
with_stored s m stored = record s { history = and_stored s.history m stored }

-- a member stands so
abbrev pub with_member : Scene → ℕ → Standing → Scene
with_member s m x = record s { members = with_nth s.members m x }

abbrev pub StandsAs : Scene → ℕ → Standing → Type 0
StandsAs s m x = nth s.members m ≡ Some x

-- these are sent
abbrev pub posted : Scene → List Output → Scene
posted s outs = record s { sent = s.sent ++ sent_in outs }

-- they tell this of requests
abbrev pub noting : Scene → List Output → Scene
noting s outs = record s { noted = noted_after s.noted (told_in outs) }

abbrev pub wording : Scene → Job → List Output → Scene
wording s job outs = record s { words = s.words ++ words_in job outs }

-- A member begins with a log of so many entries. Before the first step of a journal: it has no outcomes of these
abbrev pub met : Scene → ℕ → Scene
met s length = record s { noted = if s.is_head then max s.noted length else s.noted }
