-- Messages that are posted with the mark at which they were sent.
use Rattle.std.proofs.Common.{◌≡◌, ◌∙◌, ℕ, zero, suc, ◌+◌, ◌<◌, Bool, false, List, [], ◌∷◌, ◌++◌, take, drop, map, length, refl, sym, ap, append_assoc, Option, Some, None, ℤ, subst, inl, inr, arith}
use Rattle.std.specs.Prelude.{◌↔◌, slice_get, slice_index_or, IsTrue}
use Rattle.std.proofs.lemmas.List.{take_more, map-append}
use Rattle.std.proofs.lemmas.Option.{same_Some}
use Rattle.model.specs.Lists.{nth}
use Rattle.model.specs.declared.message.Message.{Message}
use Rattle.model.specs.Worlds.{Event, happens, run, new_world, Gives}
use Rattle.sqlread.specs.Meaning.{language_of}
use Rattle.world.specs.declared.history.World.{World as Whole}
use Rattle.world.specs.declared.output.Output.{Output as Out}
use Rattle.world.specs.Run.{language_in, tables_in, members_in, events_of, now_of, member_of}
use Rattle.world.specs.View.{event_of, outputs_of}
use Rattle.moments.specs.declared.replay.Replay.{Replay}
use Rattle.moments.specs.Posts.{messages_in, past_with, posted, IsSentThen}
use Rattle.moments.specs.Past.{Past, IsSent}
use Rattle.model.specs.declared.event.Job.{Job as ModelJob}
use Rattle.flight.specs.declared.life.Packet.{Packet}
use Rattle.flight.specs.declared.life.Packet.TheVariants.{Delivered}
use Rattle.flight.specs.declared.life.Step.{Step}
use Rattle.flight.specs.declared.life.Life.{Life}
use Rattle.flight.specs.declared.life.Ending.{Ending}
use Rattle.flight.specs.declared.life.Ending.TheVariants.{Torn}
use Rattle.moments.specs.Faults.{IsEndFault, Lacks}
use Rattle.moments.specs.declared.recorded.AuditFault.TheVariants.{Unsent, Wrong}
use Rattle.moments.specs.Behind.{IsJob, IsCut}
use Rattle.moments.specs.View.{past_of, Happened, IsSameRun}
use Rattle.moments.proofs.Sending.{messages_append, sent_after}

-- ---- marks

-- one output more
pub posts_more : (mark : ℕ) (start cur later : List ℕ) (outs : List Out) (i : ℕ) (o : Out) → cur ≡ start ++ posted mark (messages_in (take i outs)) → later ≡ cur ++ posted mark (messages_in (o ∷ [])) →
    i < length outs → o ≡ slice_index_or outs i o → later ≡ start ++ posted mark (messages_in (take (i + 1) outs))
posts_more mark start cur later outs i o so next lt is =
    let mark_of : Message → ℕ = λ message. mark in
    next ∙ ap (λ xs. xs ++ posted mark (messages_in (o ∷ []))) so ∙ append_assoc start _ _
    ∙ ap (λ xs. start ++ xs) (sym (map-append mark_of (messages_in (take i outs)) (messages_in (o ∷ []))) ∙ ap (posted mark) (sym (messages_append (take i outs) (o ∷ []))
    ∙ ap messages_in (ap (λ x. take i outs ++ x ∷ []) is ∙ sym (take_more outs i o lt))))

-- the k-th message was this one exactly where that is the one that was found
pub sent_is : (found : Option Message) (sent message : Message) (same : Bool) → found ≡ Some sent → (IsTrue same ↔ (sent ≡ message)) → IsTrue same ↔ (found ≡ Some message)
sent_is found sent message same is equal = (λ t. is ∙ ap (λ m. Some m) (equal.0 t), λ e. equal.1 (same_Some sent message (sym is ∙ e)))

pub none_sent : (found : Option Message) (message : Message) → found ≡ None → IsTrue false ↔ (found ≡ Some message)
none_sent found message is = (λ t. absurd (cc t), λ e. absurd (cc (sym is ∙ e)))

within : {A : Type 0} (xs : List A) (k : ℕ) (x : A) → slice_get xs k ≡ Some x → k < length xs
within [] k x e = cc
within (y ∷ xs) zero x e = omega arith
within (y ∷ xs) (suc k) x e = let less = within xs k x e in omega (arith, less)

-- what stands at a place with another mark was not sent then
pub other_mark : (p : Past) (at found place : ℕ) (message : Message) → slice_get p.marks place ≡ Some found → (found ≡ at → ⊥) → IsTrue false ↔ IsSentThen p at message (place + 1)
other_mark p at found place message there other = (
  λ t. absurd (cc t),
  λ h.
      let P : ℕ → Type 0 = λ k. nth p.marks k ≡ Some at in
      let e : place + 1 ≡ suc place = omega arith in
      absurd (other (same_Some found at (sym there ∙ subst P e h.marked))),
)

-- what stands at a place with the mark was sent then, if it is the message
pub then_is : (p : Past) (at found place : ℕ) (message : Message) (same : Bool) → slice_get p.marks place ≡ Some found → found ≡ at → (IsTrue same ↔ (nth p.world.sent (place + 1) ≡ Some message)) →
    IsTrue same ↔ IsSentThen p at message (place + 1)
then_is p at found place message same there mark equal =
    let P : ℕ → Type 0 = λ k. nth p.marks k ≡ Some at in
    let e : suc place ≡ place + 1 = omega arith in
    (λ t. record { is = equal.0 t; marked = subst P e (there ∙ ap (λ m. Some m) mark) }, λ h. equal.1 h.is)

-- where no place has the message with the mark it was not sent then
pub none_among : (p : Past) (at : ℕ) (message : Message) → ((k : ℕ) → k < length p.marks → IsSentThen p at message (k + 1) → ⊥) → (k : ℕ) → IsSentThen p at message k → ⊥
none_among p at message none zero h = absurd (cc h.marked)
none_among p at message none (suc k) h =
    let P : ℕ → Type 0 = λ j. IsSentThen p at message j in
    let e : suc k ≡ k + 1 = omega arith in
    none k (within p.marks k at h.marked) (subst P e h)

pub sent_to : (p : Past) (at node : ℕ) (message : Message) (k : ℕ) → message.addressee ≡ node → IsSentThen p at message k → IsSent p at node message k
sent_to p at node message k to h = record { is = h.is; marked = h.marked; addressed = to }

pub none_to : (p : Past) (at node : ℕ) (message : Message) → ((k : ℕ) → IsSentThen p at message k → ⊥) → (k : ℕ) → IsSent p at node message k → ⊥
none_to p at node message none k h = none k (record { is = h.is; marked = h.marked })

pub to_another : (p : Past) (at node : ℕ) (message : Message) → (message.addressee ≡ node → ⊥) → (k : ℕ) → IsSent p at node message k → ⊥
to_another p at node message other k h = other h.addressed

-- ---- jobs

-- a message that was not sent then makes no job
pub no_job : (x : Replay) (marks : List ℕ) (mark node : ℕ) (reading : ℤ) (message : Message) (packet : Packet) → marks ≡ x.marks.items → packet ≡ Delivered mark reading message →
    ((k : ℕ) → IsSent (past_with x.world marks) mark node message k → ⊥) → (job : ModelJob) → IsJob (past_of x) node packet job → ⊥
no_job x marks mark node reading message packet same is none job h =
    let P : Packet → Type 0 = λ q. IsJob (past_of x) node q job in
    let found = subst P is h in
    let Q : List ℕ → Type 0 = λ ms. IsSent (past_with x.world ms) mark node message found.0 in
    none found.0 (subst Q (sym same) found.1)

-- a step that is cut short has no events where its packet makes no job, or where it told anything
pub nothing_cut : (p : Past) (node mark : ℕ) (next : Option Life) (ending : Ending) (s : Step) → ending ≡ Torn s → ((job : ModelJob) → IsJob p node s.packet job → ⊥) →
    Lacks (IsEndFault p node mark ending) (IsCut p node next ending) (Unsent node mark)
nothing_cut p node mark next ending s is none =
    let P : Ending → Type 0 = λ e. Lacks (IsEndFault p node mark e) (IsCut p node next e) (Unsent node mark) in
    subst P (sym is) (inl (refl, none), λ events h. none h.0 h.2)

pub cut_told : (p : Past) (node mark : ℕ) (next : Option Life) (ending : Ending) (s : Step) (job : ModelJob) → ending ≡ Torn s → IsJob p node s.packet job → (s.outcomes ≡ [] → ⊥) →
    Lacks (IsEndFault p node mark ending) (IsCut p node next ending) (Wrong node mark)
cut_told p node mark next ending s job is there told =
    let P : Ending → Type 0 = λ e. Lacks (IsEndFault p node mark e) (IsCut p node next e) (Wrong node mark) in
    subst P (sym is) (inr (refl, (job, there)), λ events h. told h.5)

-- ---- events

-- one event happened, and the marks of its messages are known
pub one_happened : (old new : Replay) (mark : ℕ) (e : Event) (outs : List Out) →
    Gives (language_in old.world) (members_in old.world) (now_of old.world) e (outputs_of outs) →
    now_of new.world ≡ happens (language_in old.world) (members_in old.world) (now_of old.world) e →
    events_of new.world ≡ events_of old.world ++ e ∷ [] → tables_in new.world ≡ tables_in old.world → members_in new.world ≡ members_in old.world →
    new.world.is_spent ≡ false → new.marks.items ≡ old.marks.items ++ posted mark (messages_in outs) → Happened old new mark (e ∷ [])
one_happened old new mark e outs gives now kept tables members spent marks =
    let s = language_in old.world in
    let n = members_in old.world in
    let w = now_of old.world in
    let all : new.marks.items ≡ old.marks.items ++ posted mark (drop (length w.sent) (happens s n w e).sent) =
    marks ∙ ap (λ ms. old.marks.items ++ posted mark ms) (sym (sent_after s n w e outs gives)) in
    record {
      kept = kept;
      past = λ i. record { world = now i; marks = all i };
      tables = tables;
      members = members;
      live = record { live = spent };
    }

-- ---- what stays the same

now_same : (old new : Whole) → new.kept.items ≡ old.kept.items → tables_in new ≡ tables_in old → members_in new ≡ members_in old → now_of new ≡ now_of old
now_same old new kept tables members = λ i. run (language_of (tables i)) (members i) (new_world (members i)) (map event_of (kept i))

pub member_same : (a b : Replay) (node : ℕ) → IsSameRun a b → member_of b.world node ≡ member_of a.world node
member_same a b node same = ap (λ (p : Past). nth p.world.nodes node) same.past

pub same_again : (a b c : Replay) → IsSameRun a b → IsSameRun b c → IsSameRun a c
same_again a b c p q = record {
  kept = q.kept ∙ p.kept;
  past = q.past ∙ p.past;
  tables = q.tables ∙ p.tables;
  members = q.members ∙ p.members;
  live = q.live;
}
