use Rattle.std.proofs.Common.{◌∙◌, ◌+◌, ◌∷◌, [], ℕ, List, Option, Some, ap, length, length-append, subst, sym}
use Rattle.model.specs.declared.entry.Entry.{Entry}
use Rattle.playback.specs.Histories.{BeginsLog, HasEntry, History, history_of}
use Rattle.playback.specs.Scenes.{scene_of, Scene}
use Rattle.playback.proofs.Logs.{begins_more, history_stays}
use Rattle.playback.proofs.play.Play.first_entries.Goals as goal

pub loop-before-preserved : goal.loop-before-preserved
loop-before-preserved c =
    let so_far = c.loop-before.invariant in
    let m : ℕ = c.args.member in
    let i : ℕ = c.loop-before.before in
    let e : Entry = c.in-Some.entry in
    let first : History = (scene_of c.args.self.now).history in
    let found : HasEntry (history_of c.loop-before.self.group) m (i + 1) (Some e) = subst (λ (o : Option Entry). HasEntry (history_of c.loop-before.self.group) m (i + 1) o) c.in-Some.is c.in_ok-entry.ensures.found in
    let has : HasEntry first m (i + 1) (Some e) = subst (λ (h : History). HasEntry h m (i + 1) (Some e)) (ap (λ (s : Scene). s.history) so_far.same) found in
    record {
      same = ap (λ (h : History). record (scene_of c.loop-before.self) { history = h }) (history_stays c.loop-before.self.group c.entry.new.self c.entry.ensures.kept c.entry.ensures.same) ∙ so_far.same;
      count = ap length c.in_ok-push.ensures.items ∙ length-append c.loop-before.entries.items (e ∷ []) ∙ ap (λ (n : ℕ). n + 1) so_far.count;
      first = subst (λ (xs : List Entry). BeginsLog first m xs) (sym c.in_ok-push.ensures.items) (begins_more first m i c.loop-before.entries.items e so_far.count so_far.first has);
    }
