-- Marks that rise as they should, and the marks that a node has.
use Rattle.std.specs.Prelude.{◌≡◌, ℕ, Bool, true, false, nat_lt, ◌&&◌, ◌||◌, ◌==◌, Option, Some, None, List, [], ◌∷◌}
use Rattle.std.specs.List.{All, list_any}
use Rattle.std.specs.declared.vec.Vec.{Vec}
use Rattle.std.specs.declared.alloc.Global.{Global}
use Rattle.model.specs.Lists.{nth}
use Rattle.flight.specs.Lives.{all_steps, last_mark, sent_at}
use Rattle.flight.specs.declared.life.Life.{Life}
use Rattle.flight.specs.declared.life.Step.{Step}
use Rattle.flight.specs.declared.life.Ending.{Ending}
use Rattle.flight.specs.declared.life.Ending.TheVariants.{Up, Stopped, Torn}
use Rattle.moments.specs.declared.recorded.Recorded.{Recorded}
use Rattle.moments.specs.declared.recorded.AuditFault.{AuditFault}
use Rattle.moments.specs.declared.recorded.AuditFault.TheVariants.{OutOfOrder}

-- each step's mark is above the one before it, and above that of the message that it brings
unfoldable pub marks_rise : ℕ → List Step → Bool
marks_rise mark [] = true
marks_rise mark (s ∷ steps) = nat_lt mark s.mark && nat_lt (sent_at s.packet) s.mark && marks_rise s.mark steps

-- over the openings and the steps of a node
unfoldable pub lives_rise : ℕ → List Life → Bool
lives_rise last [] = true
lives_rise last (life ∷ lives) = nat_lt last life.opening.mark && marks_rise life.opening.mark (all_steps life) && lives_rise (last_mark life) lives

-- the marks of each node rise
abbrev pub Rise : List (Vec Life Global) → Type 0
Rise lives = All (λ (own : Vec Life Global). lives_rise 0 own.items ≡ true) lives

-- 53, where they do not
abbrev pub IsFallen : List (Vec Life Global) → AuditFault → Type 0
IsFallen lives (OutOfOrder node mark) = Rise lives → ⊥
IsFallen lives _ = ⊥

-- the step that was cut short has this mark
abbrev pub is_torn_at : ℕ → Ending → Bool
is_torn_at mark Up = false
is_torn_at mark Stopped = false
is_torn_at mark (Torn s) = s.mark == mark

-- an opening or a step of the life has this mark
abbrev pub has_mark : ℕ → Life → Bool
has_mark mark life = (life.opening.mark == mark) || (list_any (λ s. s.mark == mark) life.steps.items || is_torn_at mark life.ending)

abbrev pub IsMarkOf : Option (Vec Life Global) → ℕ → Type 0
IsMarkOf None mark = ⊥
IsMarkOf (Some lives) mark = list_any (has_mark mark) lives.items ≡ true

-- the answer rests on an opening or a step of its node
abbrev pub IsMarked : List (Vec Life Global) → Recorded → Type 0
IsMarked lives a = IsMarkOf (nth lives a.node) a.mark
