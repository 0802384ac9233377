-- What one step of a core, once it is stored, makes of a member.
use Rattle.std.proofs.Common.{◌≡◌, ◌∙◌, ℕ, ◌≤◌, inl, inr, Option, Some, None, List, ◌++◌, take, length, sym, ap, subst}
use Rattle.model.specs.declared.entry.Entry.{Entry}
use Rattle.model.specs.Members.{Node}
use Rattle.model.specs.Steps.{Effect}
use Rattle.model.specs.Kept.{node_after}
use Rattle.keep.specs.Durable.{Durable, IsBeforeOrAfter}
use Rattle.keep.specs.declared.change.Change.{Change}
use Rattle.raft.specs.declared.state.Core.{Core}
use Rattle.raft.specs.declared.state.Effect.TheVariants.{Done}
use Rattle.raft.specs.declared.state.Taken.{Taken}
use Rattle.raft.specs.View.{ChangeFits, EffectFits, EffectForms, IsInStep, after_change, effect_of, log_of, node_of}
use Rattle.node.specs.Saving.{IsDue}
use Rattle.node.specs.View.{durable_of, saves_after, Fits, IsSavedOnce}
use Rattle.node.proofs.Starting.{stored_is}

-- a member is known by its core and its log
pub same_node : (c : Core) (stored other : List Entry) → log_of c stored ≡ log_of c other → node_of c stored ≡ node_of c other
same_node c stored other h = ap (λ (log : List Entry). record (node_of c stored) { log = log }) h

-- it keeps no more than is stored
pub fits_store : (c new : Core) (change : Option Change) (d : Durable) → IsInStep c d → ChangeFits (node_of c d.log) (node_of new d.log) change → Fits change d
fits_store c new None d step fits = tt
fits_store c new (Some x) d step fits = subst (λ (log : List Entry). x.kept ≤ length log) (sym step.log) fits.within

-- the log that is stored is that of the member after the step
pub new_log : (c new : Core) (change : Option Change) (d : Durable) → IsInStep c d → ChangeFits (node_of c d.log) (node_of new d.log) change → (after_change change d).log ≡ log_of new d.log
new_log c new None d step fits = step.log ∙ sym fits.log
new_log c new (Some x) d step fits = ap (λ (log : List Entry). take x.kept log ++ x.entries.items) step.log ∙ fits.log

-- so the member is the same over what was stored and over what is stored now
pub same_member : (c new : Core) (change : Option Change) (d : Durable) → IsInStep c d → ChangeFits (node_of c d.log) (node_of new d.log) change → IsInStep new (after_change change d) → node_of new (after_change change d).log ≡ node_of new d.log
same_member c new change d step fits then = same_node new (after_change change d).log d.log (sym then.log ∙ new_log c new change d step fits)

-- a save is asked for where what is stored changes
saved_once : (x y : Node) (change : Option Change) (saves saves' : ℕ) → ChangeFits x y change → saves' ≡ saves_after change saves → IsSavedOnce (durable_of x) (durable_of y) saves saves'
saved_once x y None saves saves' fits more = inl ((λ i. record { hard = fits.hard i; log = fits.log i }), more)
saved_once x y (Some c) saves saves' fits more = inr ((λ same. fits.news (record { hard = ap (λ (d : Durable). d.hard) same; log = ap (λ (d : Durable). d.log) same })), more)

-- ---- a step that is done

module _ (c new : Core) (d : Durable) (t : Taken) (step : IsInStep c d) (fits : EffectFits (node_of c d.log) (node_of new d.log) (Done t)) (forms : EffectForms new d (Done t)) where
  pub due : IsDue new t.change d
  due = record { fits = fits_store c new t.change d step fits.0; forms = forms.forms; step = forms.step }

  -- what is stored then is the member's
  stored_then : after_change t.change d ≡ durable_of (node_of new d.log)
  stored_then = stored_is new (after_change t.change d) forms.step ∙ ap durable_of (same_member c new t.change d step fits.0 forms.step)

  -- what a keeper may hold where the step fails is the member's from before it or after it
  pub torn_at : (w : Effect) → effect_of new d.log (Done t) ≡ w → (e : Durable) → IsBeforeOrAfter d (after_change t.change d) e → IsBeforeOrAfter (durable_of (node_of c d.log)) (durable_of (node_after (node_of c d.log) w)) e
  torn_at w is e (inl h) = inl (h ∙ stored_is c d step)
  torn_at w is e (inr h) = inr (h ∙ stored_then ∙ ap (λ (x : Effect). durable_of (node_after (node_of c d.log) x)) is)

  pub saved_at : (now : Durable) (saves between saves' : ℕ) → now ≡ after_change t.change d → between ≡ saves → saves' ≡ saves_after t.change between → IsSavedOnce (durable_of (node_of c d.log)) (durable_of (node_of new now.log)) saves saves'
  saved_at now saves between saves' is same more =
      let member : node_of new now.log ≡ node_of new d.log = ap (λ (x : Durable). node_of new x.log) is ∙ same_member c new t.change d step fits.0 forms.step in
      subst (λ (x : Node). IsSavedOnce (durable_of (node_of c d.log)) (durable_of x) saves saves') (sym member)
      (saved_once (node_of c d.log) (node_of new d.log) t.change saves saves' fits.0 (subst (λ (n : ℕ). saves' ≡ saves_after t.change n) same more))
