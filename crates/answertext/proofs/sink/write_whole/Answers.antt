use Rattle.std.proofs.Common.{◌≡◌, ◌∙◌, ◌++◌, List, ℕ, Bor, ◌-◌, length, take, drop, ap, append_assoc, arith}
use Rattle.std.proofs.lemmas.List.{take-append-drop, take_all, length-drop}
use Rattle.answertext.specs.Appending.{appends-more, appends-kept}
use Rattle.answertext.proofs.sink.write_whole.Goals as goal
use Rattle.answertext.proofs.sink.write_whole.Goals.{in-Ok, in-Err}

pub loop-preserved : goal.loop-preserved
loop-preserved g c =
    let so_far = c.loop.invariant in
    let rest = c.loop.rest.now in
    elim c.match-write.branch [
      | in-Ok w ↦
          let written = take w.in-Ok.count rest in
          let left : c.match-write.rest.now ≡ drop w.in-Ok.count rest =
          ap (λ (x : Bor (List ℕ)). x.now) w.rest-is
          ∙ take_all (length rest - w.in-Ok.count) (drop w.in-Ok.count rest) (omega (arith, length-drop w.in-Ok.count rest)) in (
            so_far.0 ++ written,
            append_assoc so_far.0 written c.match-write.rest.now
                ∙ ap (λ l. so_far.0 ++ (written ++ l)) left
                ∙ ap (λ l. so_far.0 ++ l) (take-append-drop w.in-Ok.count rest)
                ∙ so_far.1,
            appends-more _ _ _ so_far.0 written so_far.2 w.in-Ok.ensures.bytes,
          )
      | in-Err w ↦ (
        so_far.0,
        ap (λ (x : Bor (List ℕ)). so_far.0 ++ x.now) w.rest-is ∙ so_far.1,
        appends-kept _ _ _ so_far.0 so_far.2 w.in-Err.ensures.bytes,
      )
    ]
