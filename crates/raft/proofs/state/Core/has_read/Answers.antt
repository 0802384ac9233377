use Rattle.std.proofs.Common.{◌≡◌, Option, true, ℕ, List, is_ok, sym, subst}
use Rattle.sqlread.specs.Meaning.{language_of}
use Rattle.model.specs.declared.entry.Entry.{Entry}
use Rattle.model.specs.declared.entry.Request.{Request}
use Rattle.model.specs.Steps.{spells}
use Rattle.keep.specs.Log.{is_entry}
use Rattle.raft.proofs.LogFacts.{all_got, reads_of, same_text}
use Rattle.raft.proofs.state.Core.has_read.Goals as goal

pub returns-in-Some-request : goal.returns-in-Some-request
returns-in-Some-request c = λ all yes.
    let schema = language_of c.args.self.now.schema in
    let e = c.in-Some.entry.now in
    let found = c.in-Some.ensures.lookup in
    let passes : is_entry schema e ≡ true = subst (λ (d : Entry). is_entry schema d ≡ true) (sym found.1) (all_got (is_entry schema) c.args.window.now c.args.place e found.3.0 all) in
    let reads = subst (λ (o : Option Request). spells schema o ≡ true) c.in-Some-request.is (reads_of schema e passes) in
    subst (λ (t : List ℕ). is_ok (schema.reads t) ≡ true) (same_text _ _ c.eq.result c.eq.ensures yes) reads
