-- How members go down and come up, step by step.
use Rattle.std.proofs.Common.{◌≡◌, ◌∙◌, ℕ, Result, Ok, Err, OnOk, ap}
use Rattle.model.specs.Worlds.{Start}
use Rattle.journal.specs.declared.stored.Summary.{Summary}
use Rattle.playback.specs.Playing.{GoesDown, Meets}
use Rattle.playback.specs.Scenes.{Scene, happened, met, with_member}
use Rattle.playback.specs.Standings.{Up}

-- what follows where a call is Ok
pub then_ok : {A E P Q : Type 0} (r : Result A E) → OnOk r P → (P → Q) → OnOk r Q
then_ok (Ok x) p f = f p
then_ok (Err e) p f = tt

pub always_ok : {A E P : Type 0} (r : Result A E) → P → OnOk r P
always_ok (Ok x) p = p
always_ok (Err e) p = tt

-- a life begins
pub comes_up : (s mid there b c t : Scene) (m : ℕ) (found : Summary) → GoesDown s m mid → Meets mid m found there → b ≡ happened there (Start m) → c ≡ met b found.length → t ≡ with_member c m Up
    → (y z : Scene) × GoesDown s m y × Meets y m found z × (t ≡ with_member (met (happened z (Start m)) found.length) m Up)
comes_up s mid there b c t m found down known starts meets up = (
  mid,
  there,
  down,
  known,
  up ∙ ap (λ (z : Scene). with_member z m Up) (meets ∙ ap (λ (z : Scene). met z found.length) starts),
)
