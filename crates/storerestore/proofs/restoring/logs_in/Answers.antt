use Rattle.std.proofs.Common.{◌≡◌, ◌∙◌, List, [], ◌∷◌, ◌++◌, Option, length, ap, rules, sym}
use Rattle.std.specs.Prelude.{map}
use Rattle.std.specs.Vec.Iter.{into_iter_items, into_iter_len}
use Rattle.std.proofs.lemmas.Iterator.Adapters.{YieldsList-from_vec}
use Rattle.std.proofs.lemmas.Iterator.Consumers.{YieldsList-end}
use Rattle.std.proofs.lemmas.List.{map-append, map-id}
use Rattle.store.specs.declared.held.HeldLog.{HeldLog}
use Rattle.storerestore.specs.declared.looking.Looked.{Looked}
use Rattle.storerestore.proofs.restoring.logs_in.Goals as goal

pub loop-looked-preserved : goal.loop-looked-preserved
loop-looked-preserved c =
    c.in_ok-push.ensures.items
    ∙ ap (λ (logs : List (Option HeldLog)). logs ++ c.in-Some.looked.log ∷ []) c.loop-looked.invariant
    ∙ sym (map-append (λ (looked : Looked). looked.log) c.loop-looked.yielded (c.in-Some.looked ∷ []))

pub returns : goal.returns
returns c =
    let all = c.args.all.items in
    let items : into_iter_items c.into_iter-looked-iterator.result ≡ all = search rules in
    let many : into_iter_len c.into_iter-looked-iterator.result ≡ length all = search rules in
    let t = YieldsList-end (YieldsList-from_vec all items many) c.loop-looked.yielded c.loop-looked.looked-iterator c.loop-looked.yielded_by c.next.result c.next.new.self c.in-None.is c.next.ensures.steps in
    c.loop-looked.invariant ∙ ap (map (λ (looked : Looked). looked.log)) (sym (map-id c.loop-looked.yielded) ∙ t.0)
