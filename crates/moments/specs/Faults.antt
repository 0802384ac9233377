-- What an audit's faults are as refusals, and what those of a moment say.
use Rattle.std.specs.Prelude.{◌≡◌, ◌⊎◌, ℕ, List, Option, None, Some}
use Rattle.std.specs.declared.vec.Vec.{Vec}
use Rattle.std.specs.declared.alloc.Global.{Global}
use Rattle.fault.specs.declared.refusal.Refusal.{Refusal}
use Rattle.fault.specs.declared.refusal.Refusal.TheVariants as refusal
use Rattle.model.specs.Worlds.{Event}
use Rattle.model.specs.declared.event.Job.{Job}
use Rattle.flight.specs.declared.life.Life.{Life}
use Rattle.flight.specs.declared.life.Step.{Step}
use Rattle.flight.specs.declared.life.Ending.{Ending}
use Rattle.flight.specs.declared.life.Ending.TheVariants.{Up, Stopped, Torn}
use Rattle.flight.specs.declared.life.Packet.{Packet}
use Rattle.moments.specs.declared.moment.Deed.{Deed}
use Rattle.moments.specs.declared.moment.Deed.TheVariants.{Opens, Takes, Tears, Answers, Stops}
use Rattle.moments.specs.declared.moment.Moment.{Moment}
use Rattle.moments.specs.declared.recorded.AuditFault.{AuditFault}
use Rattle.moments.specs.declared.recorded.AuditFault.TheVariants.{NoMemory, OutOfOrder, Broken, Unsent, Wrong}
use Rattle.moments.specs.Past.{Past}
use Rattle.moments.specs.Behind.{IsJob, life_at, step_at}

abbrev pub refusal_of : AuditFault → Refusal
refusal_of NoMemory = refusal.NoMemory
refusal_of (OutOfOrder node mark) = refusal.StampOrder node mark
refusal_of (Broken node mark) = refusal.BrokenLife node mark
refusal_of (Unsent node mark) = refusal.Unsent node mark
refusal_of (Wrong node mark) = refusal.WrongAnswer node mark

-- 52 where the packet is not one that was there to be taken, 54 where it is
abbrev pub IsPacketFault : Past → ℕ → ℕ → Packet → AuditFault → Type 0
IsPacketFault p node mark packet fault = ((fault ≡ Unsent node mark) × ((job : Job) → IsJob p node packet job → ⊥)) ⊎ ((fault ≡ Wrong node mark) × ((job : Job) × IsJob p node packet job))

abbrev pub IsStepFault : Past → ℕ → ℕ → Option Step → AuditFault → Type 0
IsStepFault p node mark None fault = fault ≡ Unsent node mark
IsStepFault p node mark (Some s) fault = IsPacketFault p node mark s.packet fault

-- the same of a step that was cut short
abbrev pub IsEndFault : Past → ℕ → ℕ → Ending → AuditFault → Type 0
IsEndFault p node mark Up fault = fault ≡ Unsent node mark
IsEndFault p node mark Stopped fault = fault ≡ Unsent node mark
IsEndFault p node mark (Torn s) fault = IsPacketFault p node mark s.packet fault

abbrev pub IsCutFault : Past → ℕ → ℕ → Option Life → AuditFault → Type 0
IsCutFault p node mark None fault = fault ≡ Unsent node mark
IsCutFault p node mark (Some life) fault = IsEndFault p node mark life.ending fault

abbrev pub IsDeedFault : List (Vec Life Global) → Past → ℕ → ℕ → Deed → AuditFault → Type 0
IsDeedFault lives p node mark (Opens life) fault = fault ≡ Broken node mark
IsDeedFault lives p node mark (Takes life step) fault = IsStepFault p node mark (step_at lives node life step) fault
IsDeedFault lives p node mark (Tears life) fault = IsCutFault p node mark (life_at lives node life) fault
IsDeedFault lives p node mark (Answers answer) fault = fault ≡ Wrong node mark
IsDeedFault lives p node mark (Stops life) fault = fault ≡ Broken node mark

-- The fault of a moment that has no events, with its node and mark: 51 where a life begins, 52 where a step is taken or cut
-- short whose message was not sent then, 54 where a step tells what the run does not, or an answer is given
abbrev pub IsFaultAt : List (Vec Life Global) → Past → Moment → AuditFault → Type 0
IsFaultAt lives p m fault = IsDeedFault lives p m.node m.mark m.deed fault

-- no events are such
abbrev pub NoneAre : (List Event → Type 0) → Type 0
NoneAre such = (events : List Event) → such events → ⊥

-- this names the fault, and no events are such
abbrev pub Lacks : (AuditFault → Type 0) → (List Event → Type 0) → AuditFault → Type 0
Lacks named such fault = named fault × NoneAre such

-- this holds of 51, 52 and 54, and it is not 53
abbrev pub IsNo : (AuditFault → Type 0) → AuditFault → Type 0
IsNo so NoMemory = Unit {0}
IsNo so (OutOfOrder node mark) = ⊥
IsNo so (Broken node mark) = so (Broken node mark)
IsNo so (Unsent node mark) = so (Unsent node mark)
IsNo so (Wrong node mark) = so (Wrong node mark)
