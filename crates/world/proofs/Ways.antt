-- Mild events are such as the code takes.
use Rattle.std.proofs.Common.{◌≡◌, ℕ, suc, ◌∙◌, Bool, List, [], ◌∷◌, map, refl, ap}
use Rattle.std.specs.Prelude.{ℤ}
use Rattle.model.specs.Transactions.{Language}
use Rattle.model.specs.Worlds.{World, Event}
use Rattle.model.specs.declared.message.Input.TheVariants.{Timeout, Beat}
use Rattle.believed.specs.Worlds.{happens}
use Rattle.believed.specs.Progress.{IsMild, Starts, TimesOut, Beats, Arrives, AllMild}
use Rattle.world.specs.declared.event.Event.{Event as Given}
use Rattle.world.specs.declared.event.Event.TheVariants as given
use Rattle.world.specs.View.{event_of}

taken : (live : ℕ → Bool) (reading : ℤ) (w : World) (e : Event) → IsMild live reading w e → (g : Given) × (event_of g ≡ e)
taken live reading w _ (Starts m l) = (given.Start m, refl)
taken live reading w _ (TimesOut m l) = (given.Hand m Timeout, refl)
taken live reading w _ (Beats m l) = (given.Hand m Beat, refl)
taken live reading w _ (Arrives k p at from to) = (given.Deliver k reading, refl)

pub all_taken : (language : Language) (n : ℕ) (live : ℕ → Bool) (clock : ℕ → ℤ) (w : World) (way : List Event) → AllMild language n live clock w way → (events : List Given) × (map event_of events ≡ way)
all_taken language n live clock w [] h = ([], refl)
all_taken language n live clock w (e ∷ es) (h, t) =
    let a = taken live (clock 0) w e h in
    let b = all_taken language n live (λ i. clock (suc i)) (happens language n w e) es t in
    (a.0 ∷ b.0, ap (λ z. z ∷ map event_of b.0) a.1 ∙ ap (λ z. e ∷ z) b.1)
