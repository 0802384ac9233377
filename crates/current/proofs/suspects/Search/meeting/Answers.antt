use Rattle.std.proofs.Common.{◌≡◌, ◌∷◌, ◌==◌, ◌∙◌, true, false, List, map, inl, inr, refl, ap, sym, subst, rules, length, arith}
use Rattle.std.specs.List.Sorted.{IsStrictlySortedBy}
use Rattle.std.specs.Map.Iter.{deref_pair}
use Rattle.std.proofs.lemmas.Map.Iter.{rest_more}
use Rattle.model.specs.Tables.{Row}
use Rattle.model.specs.Values.{key_cmp}
use Rattle.rowlaws.specs.Rows.{Has}
use Rattle.current.specs.Rows.{row_of}
use Rattle.current.specs.ByKey.{rows_in}
use Rattle.current.specs.Reads.{seeking}
use Rattle.current.specs.Suspects.{rows_by, references_by, meets_span, refers_among}
use Rattle.current.proofs.Costs.{later_sorted, seek_next, seek_past, strand_short}
use Rattle.current.proofs.Planning.{Entry}
use Rattle.rowlaws.proofs.Members.{has_flat}
use Rattle.current.proofs.Placed.{apart_in_strand}
use Rattle.current.proofs.Sorted.{entry_in_strand}
use Rattle.current.proofs.Looking.{looks_first, looks_past, looks_then, looks_last, next_strand, none_in_strand}
use Rattle.current.proofs.suspects.Search.meeting.Goals as goal

pub loop-strand-init : goal.loop-strand-init
loop-strand-init c =
    let s = c.args.self.now in
    let m = c.args.rows.now.index.strands in
    let same : c.into_iter-strand-iterator.result ≡ m.entries = search rules in
    record {
      looks = looks_first s _ _ _ (λ r w. subst (λ (es : List Entry). Has (rows_in es) r) (sym same) w.0);
      entries = λ e h. subst (λ (es : List Entry). Has es e) same h;
      sorted = subst (λ (es : List Entry). IsStrictlySortedBy key_cmp (map (λ x. x.0) es)) (sym same) c.args.rows.now.ordered;
      few = λ digits short. let e = ap (λ (es : List Entry). seeking digits (rows_by s) (references_by s) (meets_span c.args.span) (refers_among s.table.now c.args.columns.now c.args.keys.now.keys) (rows_in es)) same in omega (arith, e);
    }

pub loop-strand-preserved-then-is_empty : goal.loop-strand-preserved-then-is_empty
loop-strand-preserved-then-is_empty c =
    let s = c.args.self.now in
    let e : Entry = (c.in-Some.field-0-0.now, c.in-Some.strand.now) in
    let rest = c.next.new.self in
    let split : c.loop-strand.strand-iterator ≡ e ∷ rest = rest_more deref_pair _ _ _ (c.in-Some.field-0-0, c.in-Some.strand) c.in-Some.is c.next.ensures.steps in
    let none : (length e.1 == 0) ≡ true = sym c.is_empty.ensures ∙ c.if-is_empty.true in
    record {
      looks = looks_past s _ _ _ _ _ c.loop-strand.invariant.looks (λ r w left. elim (next_strand e rest c.loop-strand.strand-iterator split r left) [ inl here ↦ absurd (none_in_strand e none r here) | inr later ↦ later ]);
      entries = λ x h. c.loop-strand.invariant.entries x (subst (λ (es : List Entry). Has es x) (sym split) (inr h));
      sorted = later_sorted e rest (subst (λ (es : List Entry). IsStrictlySortedBy key_cmp (map (λ x. x.0) es)) split c.loop-strand.invariant.sorted);
      few = λ digits short.
          let some = meets_span c.args.span in
          let judged = refers_among s.table.now c.args.columns.now c.args.keys.now.keys in
          let all = ap (λ (es : List Entry). seeking digits (rows_by s) (references_by s) some judged (rows_in es)) split in
          let past = seek_past digits (rows_by s) (references_by s) some judged e rest none in
          let before = c.loop-strand.invariant.few digits short in
          omega (arith, all, past, before);
    }

pub loop-strand-preserved : goal.loop-strand-preserved
loop-strand-preserved c =
    let s = c.args.self.now in
    let t = c.args.rows.now in
    let e : Entry = (c.in-Some.field-0-0.now, c.in-Some.strand.now) in
    let rest = c.next.new.self in
    let split : c.loop-strand.strand-iterator ≡ e ∷ rest = rest_more deref_pair _ _ _ (c.in-Some.field-0-0, c.in-Some.strand) c.in-Some.is c.next.ensures.steps in
    let some : (length e.1 == 0) ≡ false = sym c.is_empty.ensures ∙ c.if-is_empty.false in
    let there : (x : Entry) → Has (e ∷ rest) x → Has t.index.strands.entries x = λ x h. c.loop-strand.invariant.entries x (subst (λ (es : List Entry). Has es x) (sym split) h) in
    let sorted = subst (λ (es : List Entry). IsStrictlySortedBy key_cmp (map (λ x. x.0) es)) split c.loop-strand.invariant.sorted in
    record {
      looks = looks_then s _ _ _ _ _ _ _ c.loop-strand.invariant.looks c.in_ok-next.ensures.looks (λ r w left. elim (next_strand e rest c.loop-strand.strand-iterator split r left) [
        | inl here ↦ inl (here, w.1, w.2, w.3)
        | inr later ↦ inr later
      ]);
      entries = λ x h. there x (inr h);
      sorted = later_sorted e rest sorted;
      few = λ digits short.
          let met = meets_span c.args.span in
          let judged = refers_among s.table.now c.args.columns.now c.args.keys.now.keys in
          let all = ap (λ (es : List Entry). seeking digits (rows_by s) (references_by s) met judged (rows_in es)) split in
          let next = seek_next digits (rows_by s) (references_by s) met judged e rest sorted (λ x h. entry_in_strand t.index.strands t.ordered t.in_strands x (there x h)) some in
          let before = c.loop-strand.invariant.few digits short in
          let few = c.meeting_of_key.ensures.few digits short in
          omega (arith, all, next, before, few);
    }

pub meeting_of_key-requires-clause-apart : goal.meeting_of_key-requires-clause-apart
meeting_of_key-requires-clause-apart c =
    let t = c.args.rows.now in
    let e : Entry = (c.in-Some.field-0-0.now, c.in-Some.strand.now) in
    let rest = c.next.new.self in
    let split : c.loop-strand.strand-iterator ≡ e ∷ rest = rest_more deref_pair _ _ _ (c.in-Some.field-0-0, c.in-Some.strand) c.in-Some.is c.next.ensures.steps in
    let there = c.loop-strand.invariant.entries e (subst (λ (es : List Entry). Has es e) (sym split) (inl refl)) in
    apart_in_strand e.0 0 e.1 (entry_in_strand t.index.strands t.ordered t.in_strands e there)

pub meeting_of_key-requires-clause-among : goal.meeting_of_key-requires-clause-among
meeting_of_key-requires-clause-among c r h =
    let t = c.args.rows.now in
    let e : Entry = (c.in-Some.field-0-0.now, c.in-Some.strand.now) in
    let rest = c.next.new.self in
    let split : c.loop-strand.strand-iterator ≡ e ∷ rest = rest_more deref_pair _ _ _ (c.in-Some.field-0-0, c.in-Some.strand) c.in-Some.is c.next.ensures.steps in
    let there = c.loop-strand.invariant.entries e (subst (λ (es : List Entry). Has es e) (sym split) (inl refl)) in
    subst (λ (all : List Row). Has all r) c.requires (has_flat (λ (x : Entry). map row_of x.1) t.index.strands.entries e r there h)

pub meeting_of_key-requires-clause-short : goal.meeting_of_key-requires-clause-short
meeting_of_key-requires-clause-short c =
    let t = c.args.rows.now in
    let e : Entry = (c.in-Some.field-0-0.now, c.in-Some.strand.now) in
    let rest = c.next.new.self in
    let split : c.loop-strand.strand-iterator ≡ e ∷ rest = rest_more deref_pair _ _ _ (c.in-Some.field-0-0, c.in-Some.strand) c.in-Some.is c.next.ensures.steps in
    let there = c.loop-strand.invariant.entries e (subst (λ (es : List Entry). Has es e) (sym split) (inl refl)) in
    let less = strand_short t.index.strands.entries e there in
    let same = ap length c.requires in
    omega (arith, less, same)

pub returns-clause-looks : goal.returns-clause-looks
returns-clause-looks c = looks_last c.args.self.now _ _ _ _ c.loop-strand.invariant.looks (λ r w left. subst (λ (es : List Entry). Has (rows_in es) r) c.in-None.ensures.steps.0 left)

pub returns-clause-few : goal.returns-clause-few
returns-clause-few c digits short = let before = c.loop-strand.invariant.few digits short in omega (arith, before)

pub returns-in_err-next-clause-few : goal.returns-in_err-next-clause-few
returns-in_err-next-clause-few c digits short =
    let s = c.args.self.now in
    let t = c.args.rows.now in
    let e : Entry = (c.in-Some.field-0-0.now, c.in-Some.strand.now) in
    let rest = c.next.new.self in
    let split : c.loop-strand.strand-iterator ≡ e ∷ rest = rest_more deref_pair _ _ _ (c.in-Some.field-0-0, c.in-Some.strand) c.in-Some.is c.next.ensures.steps in
    let some : (length e.1 == 0) ≡ false = sym c.is_empty.ensures ∙ c.if-is_empty.false in
    let there : (x : Entry) → Has (e ∷ rest) x → Has t.index.strands.entries x = λ x h. c.loop-strand.invariant.entries x (subst (λ (es : List Entry). Has es x) (sym split) h) in
    let sorted = subst (λ (es : List Entry). IsStrictlySortedBy key_cmp (map (λ x. x.0) es)) split c.loop-strand.invariant.sorted in
    let met = meets_span c.args.span in
    let judged = refers_among s.table.now c.args.columns.now c.args.keys.now.keys in
    let all = ap (λ (es : List Entry). seeking digits (rows_by s) (references_by s) met judged (rows_in es)) split in
    let next = seek_next digits (rows_by s) (references_by s) met judged e rest sorted (λ x h. entry_in_strand t.index.strands t.ordered t.in_strands x (there x h)) some in
    let before = c.loop-strand.invariant.few digits short in
    let few = c.meeting_of_key.ensures.few digits short in
    omega (arith, all, next, before, few)
