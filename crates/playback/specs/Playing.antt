-- What the lines of journals let happen, as they are played.
use Rattle.std.specs.Prelude.{◌≡◌, ◌≢◌, ◌⊎◌, ⊤, Bool, true, false, ℕ, Some, List, [], length}
use Rattle.model.specs.Lists.{nth}
use Rattle.keep.specs.Durable.{Durable}
use Rattle.model.specs.declared.event.Job.{Job}
use Rattle.model.specs.declared.event.Job.TheVariants.{Local, Delivery}
use Rattle.model.specs.declared.event.Left.{Left}
use Rattle.model.specs.declared.message.Message.{Message}
use Rattle.model.specs.Worlds.{Event, Output, Start, Stop, Torn}
use Rattle.flight.specs.Telling.{outcomes_of}
use Rattle.sessions.specs.Kills.{whole}
use Rattle.sessions.specs.Sessions.{later_job}
use Rattle.journal.specs.declared.line.Taken.{Taken}
use Rattle.journal.specs.declared.line.Line.{Line}
use Rattle.journal.specs.declared.line.Line.TheVariants.{Opens, Rests, Life, Clock, Takes, Saves, Made, Ends, Answer, Printed}
use Rattle.journal.specs.declared.stored.Summary.{Summary}
use Rattle.store.specs.Recording.{job_of}
use Rattle.sqlread.specs.declared.query.Query.{Query}
use Rattle.world.specs.View.{event_of, outputs_of}
use Rattle.world.specs.declared.event.Event.TheVariants.{Ask}
use Rattle.world.specs.declared.output.Output.{Output as Out}
use Rattle.playback.specs.Histories.{HasShown, HasStored, IsAsked, IsGiven, IsPut}
use Rattle.playback.specs.Laters.{IsMet}
use Rattle.playback.specs.Scenes.{Scene, StandsAs, happened, met, noting, posted, with_member, wording}
use Rattle.playback.specs.Words.{first_told, told_in, IsSaid}
use Rattle.playback.specs.Standings.{Standing, Down, Up, Within}

-- what a line says that a member takes, where messages count on from those before the journal
abbrev pub taken_job : Scene → Taken → Job
taken_job s taken = later_job s.before (job_of s.reading taken)

-- a message that is taken was sent to the member
abbrev pub IsFor : Scene → ℕ → Job → Type 0
IsFor s m (Local input) = ⊤
IsFor s m (Delivery number reading) = (message : Message) × (nth s.sent number ≡ Some message) × (message.addressee ≡ m)

-- whether a member is up and in no step
abbrev pub Idles : Scene → ℕ → Bool → Type 0
Idles s m true = StandsAs s m Up
Idles s m false = (standing : Standing) × StandsAs s m standing × (standing ≢ Up)

-- a member that stands so goes down: the step that it is in is cut short, and else it is stopped
abbrev pub IsDowning : ℕ → Standing → Event → Type 0
IsDowning m (Within job) event = (left : Left) × (event ≡ Torn m job left)
IsDowning m standing event = event ≡ Stop m

abbrev pub GoesDown : Scene → ℕ → Scene → Type 0
GoesDown s m t = (standing : Standing) × (event : Event) × StandsAs s m standing × IsDowning m standing event × (t ≡ happened (with_member s m Down) event)

-- A member rests as a journal begins. One that was up was stopped; of a step that it is in it is not known yet what that left
abbrev pub Rested : Scene → ℕ → Standing → Scene → Type 0
Rested s m Up t = t ≡ happened (with_member s m Down) (Stop m)
Rested s m standing t = t ≡ s

-- Where journals are away a member is met: it goes on from something that is this in short. One that was met before goes on as it was
abbrev pub Meets : Scene → ℕ → Summary → Scene → Type 0
Meets s m found t = (t ≡ s) ⊎ ((s.is_later ≡ true) × IsMet s m found t)

-- What a line lets happen. A step happens as its end is told, or is cut short as the member is started again
abbrev pub Plays : Scene → Line → Scene → Type 0
Plays s (Opens journal sum marks) t = t ≡ record s { before = length s.sent; is_head = true; noted = 0; words = [] }
Plays s (Rests m stored) t = (standing : Standing) × StandsAs s m standing × Rested s m standing t
Plays s (Life m stored) t = (mid : Scene) × (there : Scene) × GoesDown s m mid × Meets mid m stored there × (t ≡ with_member (met (happened there (Start m)) stored.length) m Up)
Plays s (Clock now) t = t ≡ record s { reading = now }
Plays s (Takes m taken) t = StandsAs s m Up × IsFor s m (taken_job s taken) × (t ≡ record (with_member s m (Within (taken_job s taken))) { is_head = false })
Plays s (Saves m stored) t = t ≡ s
Plays s (Made m outcomes) t =
    (job : Job) × (outs : List Output) × StandsAs s m (Within job) × IsGiven s.history (whole m job) outs × (outcomes ≡ outcomes_of (first_told s.noted (told_in outs)))
    × (t ≡ wording (noting (posted (happened (with_member s m Up) (whole m job)) outs) outs) job outs)
Plays s (Ends m) t = StandsAs s m Up × (t ≡ happened (with_member s m Down) (Stop m))
Plays s (Answer m text answer) t =
    (query : Query) × (outs : List Out) × IsAsked s.history text query × IsGiven s.history (event_of (Ask m query)) (outputs_of outs) × HasShown s.history (Ask m query) outs × IsPut outs answer
    × (t ≡ happened s (event_of (Ask m query)))
Plays s (Printed client number words) t = IsSaid s.words client number words × (t ≡ record s { words = [] })

-- at the end a member has this stored: it goes down as if it were started again, is started, has it, and is stopped
abbrev pub IsLeft : Scene → ℕ → Durable → Scene → Type 0
IsLeft s m stored t = (mid : Scene) × GoesDown s m mid × HasStored (happened mid (Start m)).history m stored × (t ≡ happened (happened mid (Start m)) (Stop m))
