use Rattle.std.proofs.Common.{rules, ◌≡◌, ◌∷◌, [], List, Ok, true, false, refl, sym, subst}
use Rattle.std.specs.List.{All}
use Rattle.model.specs.Worlds.{Ask}
use Rattle.sqlread.specs.Meaning.{select_of}
use Rattle.sqlread.specs.Shapes.{query_of}
use Rattle.sqlread.specs.Texts.{query_in}
use Rattle.world.specs.declared.output.Output.{Output}
use Rattle.world.specs.View.{outputs_of, HasColumns}
use Rattle.moments.specs.Behind.{IsText}
use Rattle.world.specs.Run.{tables_in, members_in}
use Rattle.moments.specs.View.{past_of}
use Rattle.moments.proofs.Telling.{answered, untold}
use Rattle.moments.proofs.replay.Replay.answer.Goals as goal

pub returns-clause-ok : goal.returns-clause-ok
returns-clause-ok c =
    let old = c.args.self.now in
    let q = query_of c.in-Ok.query in
    let t = tables_in old.world in (
      Ask c.args.node (select_of q) ∷ [],
      answered t c.args.schema.now (members_in old.world) (past_of old) c.args.node c.args.recorded.now q c.in_ok-outs.outs.items c.requires.tables (search rules) c.in_ok-outs.ensures.gives
          (search rules),
      c.in_ok-outs.ensures.happened,
    )

pub returns-then-not-branch-clause-fault : goal.returns-then-not-branch-clause-fault
returns-then-not-branch-clause-fault c =
    let old = c.args.self.now in
    let q = query_of c.in-Ok.query in
    let t = tables_in old.world in
    let a = c.args.recorded.now in
    let outs = c.in_ok-outs.outs.items in
    let read : query_in c.args.schema.now a.query ≡ Ok q = search rules in
    let H : List Output → Type 0 = λ xs. All (HasColumns t q.table) xs in
    let I : List Output → Type 0 = λ xs. IsText t q.table (outputs_of xs) a.answer in
    let tells = c.in_ok-is_text.ensures t q.table (subst H (sym c.deref.ensures.value) c.in_ok-outs.ensures.columns) in (
      refl,
      untold c.one_answer.ensures t c.args.schema.now (members_in old.world) (past_of old) c.args.node a q outs c.requires.tables read c.in_ok-outs.ensures.gives
          (λ told.
          let on : c.in_ok-is_text.field-0 ≡ true = tells.1 (subst I (sym c.deref.ensures.value) told) in
          let off : c.in_ok-is_text.field-0 ≡ false = c.if-not-branch.true in
          absurd (cc (on, off))),
    )
