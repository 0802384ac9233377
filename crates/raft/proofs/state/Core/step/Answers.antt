use Rattle.std.proofs.Common.{◌≡◌, ◌∙◌, ◌++◌, ◌≤◌, true, List, take, length, sym, ap, subst, arith}
use Rattle.model.specs.declared.entry.Entry.{Entry}
use Rattle.sqlread.specs.Meaning.{language_of}
use Rattle.keep.specs.Log.{IsLog}
use Rattle.raft.specs.Memory.{spares_memory}
use Rattle.raft.specs.View.{effect_of, hard_in, log_of, node_of, works, EffectFits, Reaches}
use Rattle.raft.proofs.Filling.{filled, filled_long, filled_same}
use Rattle.raft.proofs.Growing.{step_grows}
use Rattle.raft.proofs.Stepping.{stored_length, room_same, forms_before, storable}
use Rattle.raft.proofs.state.Core.step.Goals as goal

pub take_work-requires : goal.take_work-requires
take_work-requires g c = λ κs lives.
    let old = c.args.self.now in
    let d = g.S.LogReader.stored c.args.reader.now in
    let room = c.begin_step.new.self in (
      λ a m. lives a m,
      (
        c.requires.up,
        (
          filled_long room.elsewhere d.log,
          (
            λ start.
                let len = stored_length old d (c.requires.stored start) in
                sym (filled_same room.elsewhere d.log (omega (arith, len, c.begin_step.ensures.length))),
            (
              λ start.
                  let step = c.requires.stored start in
                  let len = stored_length old d step in
                  let there : old.log.elsewhere ≤ length d.log = omega (arith, len) in
                  let same : filled room.elsewhere d.log ≡ d.log = filled_same room.elsewhere d.log (omega (arith, len, c.begin_step.ensures.length)) in
                  let logs : take room.elsewhere d.log ++ room.tail.items ≡ log_of old d.log = room_same old.log.elsewhere room.elsewhere d.log old.log.tail.items room.tail.items c.begin_step.ensures.elsewhere there c.begin_step.ensures.tail step.log in
                  let log = g.met.S.LogReader.only_logs c.args.reader.now old.members (language_of old.schema) c.requires.serves start in
                  let whole : d.log ≡ take room.elsewhere (filled room.elsewhere d.log) ++ room.tail.items = step.log ∙ sym logs ∙ ap (λ (l : List Entry). take room.elsewhere l ++ room.tail.items) (sym same) in
                  forms_before old.members (language_of old.schema) old d _ step whole log,
              (c.begin_step.ensures.room, c.begin_step.ensures.saved),
            ),
          ),
        ),
      ),
    )

pub returns-in-Ok-clause-done : goal.returns-in-Ok-clause-done
returns-in-Ok-clause-done g c = λ honest.
    let start = c.in-Ok.ensures.reader.honest honest in
    let old = c.args.self.now in
    let d = g.S.LogReader.stored c.args.reader.now in
    let room = c.begin_step.new.self in
    let step = c.requires.stored start in
    let len = stored_length old d step in
    let there : old.log.elsewhere ≤ length d.log = omega (arith, len) in
    let same : filled room.elsewhere d.log ≡ d.log = filled_same room.elsewhere d.log (omega (arith, len, c.begin_step.ensures.length)) in
    let logs : take room.elsewhere d.log ++ room.tail.items ≡ log_of old d.log = room_same old.log.elsewhere room.elsewhere d.log old.log.tail.items room.tail.items c.begin_step.ensures.elsewhere there c.begin_step.ensures.tail step.log in
    let new = c.take_work.new.self in
    let first = subst (λ (l : List Entry). effect_of new l c.in-Ok.effect ≡ works old.schema old.members old.me c.args.work (record (node_of old l) { log = take room.elsewhere l ++ room.tail.items })) same (c.in-Ok.ensures.done honest) in
    subst (λ (l : List Entry). effect_of new d.log c.in-Ok.effect ≡ works old.schema old.members old.me c.args.work (record (node_of old d.log) { log = l })) logs first

pub returns-in-Ok-clause-fits : goal.returns-in-Ok-clause-fits
returns-in-Ok-clause-fits g c = λ honest.
    let start = c.in-Ok.ensures.reader.honest honest in
    let old = c.args.self.now in
    let d = g.S.LogReader.stored c.args.reader.now in
    let room = c.begin_step.new.self in
    let step = c.requires.stored start in
    let len = stored_length old d step in
    let there : old.log.elsewhere ≤ length d.log = omega (arith, len) in
    let same : filled room.elsewhere d.log ≡ d.log = filled_same room.elsewhere d.log (omega (arith, len, c.begin_step.ensures.length)) in
    let logs : take room.elsewhere d.log ++ room.tail.items ≡ log_of old d.log = room_same old.log.elsewhere room.elsewhere d.log old.log.tail.items room.tail.items c.begin_step.ensures.elsewhere there c.begin_step.ensures.tail step.log in
    let new = c.take_work.new.self in
    let first = subst (λ (l : List Entry). EffectFits (record (node_of old l) { log = take room.elsewhere l ++ room.tail.items }) (node_of new l) c.in-Ok.effect) same (c.in-Ok.ensures.fits honest) in
    subst (λ (l : List Entry). EffectFits (record (node_of old d.log) { log = l }) (node_of new d.log) c.in-Ok.effect) logs first

pub returns-in-Ok-clause-grows : goal.returns-in-Ok-clause-grows
returns-in-Ok-clause-grows g c = λ honest.
    let start = c.in-Ok.ensures.reader.honest honest in
    let old = c.args.self.now in
    let d = g.S.LogReader.stored c.args.reader.now in
    let step = c.requires.stored start in
    let within : old.commit ≤ length (log_of old d.log) = omega (arith, stored_length old d step, ap length step.log, old.commit_within) in
    step_grows old.schema old.members old.me (node_of old d.log) c.take_work.new.self d.log c.in-Ok.effect c.args.work within (returns-in-Ok-clause-done g c honest) (returns-in-Ok-clause-fits g c honest)

pub returns-in-Ok-clause-forms : goal.returns-in-Ok-clause-forms
returns-in-Ok-clause-forms g c = λ honest.
    let start = c.in-Ok.ensures.reader.honest honest in
    let old = c.args.self.now in
    let d = g.S.LogReader.stored c.args.reader.now in
    let room = c.begin_step.new.self in
    let step = c.requires.stored start in
    let len = stored_length old d step in
    let there : old.log.elsewhere ≤ length d.log = omega (arith, len) in
    let same : filled room.elsewhere d.log ≡ d.log = filled_same room.elsewhere d.log (omega (arith, len, c.begin_step.ensures.length)) in
    let logs : take room.elsewhere d.log ++ room.tail.items ≡ log_of old d.log = room_same old.log.elsewhere room.elsewhere d.log old.log.tail.items room.tail.items c.begin_step.ensures.elsewhere there c.begin_step.ensures.tail step.log in
    let new = c.take_work.new.self in
    let near : Reaches new d.log = omega (arith, len, c.begin_step.ensures.length, c.in-Ok.ensures.lower) in
    let log = subst (λ (l : List Entry). IsLog new.members (language_of new.schema) (record { hard = hard_in new; log = log_of new l })) same (c.in-Ok.ensures.forms honest) in
    storable new d (node_of old d.log) c.in-Ok.effect (sym step.log) (sym step.hard) near (returns-in-Ok-clause-fits g c honest) log

pub returns-in-Err-clause-spares : goal.returns-in-Err-clause-spares
returns-in-Err-clause-spares g c = λ fresh start idle.
    let old = c.args.self.now in
    let d = g.S.LogReader.stored c.args.reader.now in
    let room = c.begin_step.new.self in
    let step = c.requires.stored start in
    let len = stored_length old d step in
    let there : old.log.elsewhere ≤ length d.log = omega (arith, len) in
    let same : filled room.elsewhere d.log ≡ d.log = filled_same room.elsewhere d.log (omega (arith, len, c.begin_step.ensures.length)) in
    let logs : take room.elsewhere d.log ++ room.tail.items ≡ log_of old d.log = room_same old.log.elsewhere room.elsewhere d.log old.log.tail.items room.tail.items c.begin_step.ensures.elsewhere there c.begin_step.ensures.tail step.log in
    let first = subst (λ (l : List Entry). spares_memory old.members old.me c.args.work (record (node_of old d.log) { log = l }) ≡ true) (sym logs) idle in
    c.in-Err.ensures.spares (subst (λ (l : List Entry). spares_memory old.members old.me c.args.work (record (node_of old l) { log = take room.elsewhere l ++ room.tail.items }) ≡ true) (sym same) first)
