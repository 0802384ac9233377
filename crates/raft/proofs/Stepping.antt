-- A step over what is stored, after room is made.
use Rattle.std.proofs.Common.{◌≡◌, ◌∙◌, ℕ, zero, suc, ◌+◌, ◌-◌, ◌≤◌, min, Option, Some, None, append-nil, List, ◌++◌, take, drop, length, sym, ap, subst, arith, rules, append_assoc}
use Rattle.std.proofs.Common.{length-append}
use Rattle.std.specs.Prelude.{vec_len}
use Rattle.std.proofs.lemmas.List.{length-take, take-append-drop}
use Rattle.model.specs.declared.entry.Entry.{Entry}
use Rattle.model.specs.Members.{Node}
use Rattle.keep.specs.Durable.{Durable}
use Rattle.raft.specs.declared.state.Core.{Core}
use Rattle.raft.specs.declared.state.Effect.{Effect as Given}
use Rattle.raft.specs.declared.state.Effect.TheVariants.{Refused, Ignored, Done}
use Rattle.raft.specs.declared.state.Taken.{Taken}
use Rattle.keep.specs.declared.change.Change.{Change}
use Rattle.keep.specs.declared.hard_state.HardState.{HardState}
use Rattle.keep.specs.Log.{IsLog}
use Rattle.model.specs.Transactions.{Language}
use Rattle.sqlread.specs.Meaning.{language_of}
use Rattle.raft.specs.View.{hard_in, hard_of, log_of, node_of, ChangeFits, EffectFits, EffectForms, IsInStep, IsStorable, Reaches}
use Rattle.raft.proofs.Windows.{taken_past}

sum_of : (n s t k : ℕ) → n ≡ k + t → k ≡ min s n → (1 ≤ s → 1 ≤ t) → n ≡ s + t
sum_of n zero t k e m h = omega (arith, e, m)
sum_of n (suc s) t k e m h = omega (arith, e, m, h (omega arith))

-- how long the stored log is
pub stored_length : (c : Core) (d : Durable) → IsInStep c d → length d.log ≡ c.log.elsewhere + vec_len c.log.tail
stored_length c d step =
    let tail : vec_len c.log.tail ≡ length c.log.tail.items = search rules in
    let len : length d.log ≡ length (take c.log.elsewhere d.log) + length c.log.tail.items = ap length step.log ∙ length-append (take c.log.elsewhere d.log) c.log.tail.items in
    sum_of (length d.log) c.log.elsewhere (vec_len c.log.tail) (length (take c.log.elsewhere d.log)) (omega (arith, len, tail)) (length-take c.log.elsewhere d.log) c.log.ends

-- entries that are stored are left to the reader
pub room_same : (s t : ℕ) (stored old new : List Entry) → s ≤ t → s ≤ length stored → new ≡ drop (t - s) old → stored ≡ take s stored ++ old → take t stored ++ new ≡ take s stored ++ old
room_same s t stored old new le there cut is =
    let first : take t stored ≡ take s stored ++ take (t - s) old = ap (take t) is ∙ taken_past (take s stored) old t s (omega (arith, length-take s stored, there)) le in
    rw (first, cut) (append_assoc (take s stored) (take (t - s) old) (drop (t - s) old) ∙ ap (λ (xs : List Entry). take s stored ++ xs) (take-append-drop (t - s) old))

-- ---- what is stored afterwards

as_stored : (members : ℕ) (tables : Language) (h h' : HardState) (log log' : List Entry) → h ≡ h' → log ≡ log' → IsLog members tables (record { hard = h; log = log }) → IsLog members tables (record { hard = h'; log = log' })
as_stored members tables h h' log log' hard same is = subst (λ (l : List Entry). IsLog members tables (record { hard = h'; log = l })) same (subst (λ (x : HardState). IsLog members tables (record { hard = x; log = log })) hard is)

-- the log of a member stays so where it is stored
own_log : (c : Core) (stored : List Entry) → Reaches c stored → log_of c (log_of c stored) ≡ log_of c stored
own_log c stored there =
    let s = c.log.elsewhere in
    let none : s - s ≡ 0 = omega arith in
    let first : take s (take s stored ++ c.log.tail.items) ≡ take s stored = taken_past (take s stored) c.log.tail.items s s (omega (arith, length-take s stored, there)) (omega arith) ∙ ap (λ n. take s stored ++ take n c.log.tail.items) none ∙ append-nil (take s stored) in
    ap (λ (xs : List Entry). xs ++ c.log.tail.items) first

pub forms_before : (members : ℕ) (tables : Language) (c : Core) (d : Durable) (log : List Entry) → IsInStep c d → d.log ≡ log → IsLog members tables d → IsLog members tables (record { hard = hard_in c; log = log })
forms_before members tables c d log step same is = as_stored members tables d.hard (hard_in c) d.log log step.hard same is

stored_change : (new : Core) (d : Durable) (x : Node) (change : Option Change) → x.log ≡ d.log → hard_of x ≡ d.hard → Reaches new d.log → ChangeFits x (node_of new d.log) change → IsLog new.members (language_of new.schema) (record { hard = hard_in new; log = log_of new d.log }) → IsStorable new change d
stored_change new d x None whole hard there fits log =
    let same : log_of new d.log ≡ d.log = fits.log ∙ whole in
    let is : hard_in new ≡ d.hard = fits.hard ∙ hard in
    record { forms = as_stored new.members (language_of new.schema) (hard_in new) d.hard (log_of new d.log) d.log is same log; step = record { hard = sym is; log = sym same } }
stored_change new d x (Some c) whole hard there fits log =
    let same : take c.kept d.log ++ c.entries.items ≡ log_of new d.log = ap (λ (l : List Entry). take c.kept l ++ c.entries.items) (sym whole) ∙ fits.log in
    record {
      forms = as_stored new.members (language_of new.schema) (hard_in new) c.hard (log_of new d.log) (take c.kept d.log ++ c.entries.items) (sym fits.hard) (sym same) log;
      step = record { hard = fits.hard; log = same ∙ sym (own_log new d.log there) ∙ ap (log_of new) (sym same) };
    }

pub storable : (new : Core) (d : Durable) (x : Node) (e : Given Taken) → x.log ≡ d.log → hard_of x ≡ d.hard → Reaches new d.log → EffectFits x (node_of new d.log) e → IsLog new.members (language_of new.schema) (record { hard = hard_in new; log = log_of new d.log }) → EffectForms new d e
storable new d x (Refused refusal) whole hard there fits log = record { hard = sym hard ∙ ap hard_of (sym fits); log = sym whole ∙ ap (λ (y : Node). y.log) (sym fits) }
storable new d x Ignored whole hard there fits log = record { hard = sym hard ∙ ap hard_of (sym fits); log = sym whole ∙ ap (λ (y : Node). y.log) (sym fits) }
storable new d x (Done t) whole hard there fits log = stored_change new d x t.change whole hard there fits.0 log
