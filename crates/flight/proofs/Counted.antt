-- Counted entries.
use Rattle.std.proofs.Common.{◌≡◌, ℕ, ◌<◌, ◌^◌, List, length, sym, ap, arith, inl, inr}
use Rattle.std.specs.Prelude.{All}
use Rattle.fault.specs.declared.refusal.Refusal.{Refusal}
use Rattle.model.specs.declared.entry.Entry.{Entry}
use Rattle.flight.specs.Spelling.{number_text, entry_text, entries_text, each_text}
use Rattle.flight.specs.Ranges.{IsNumber, IsEntry}
use Rattle.flight.specs.Reading.{SpellsOnly, IsUnread}
use Rattle.flight.proofs.Lengths.{after_number, after_entries}

few_entries : (text : List ℕ) (es : List Entry) (rest : List ℕ) → length text < 2 ^ 63 → text ≡ entries_text es rest → IsNumber (length es)
few_entries text es rest fits e =
    let long : length text ≡ length (entries_text es rest) = ap length e in
    let count = after_number 10 (length es) (each_text entry_text es rest) in
    let entries = after_entries es rest in
    omega (arith, long, count, entries, fits)

module _ (text : List ℕ) (fits : length text < 2 ^ 63) where
  pub entries_unnumbered : (r : Refusal) → IsUnread IsNumber (number_text 10) text r → IsUnread (All IsEntry) entries_text text r
  entries_unnumbered r (inl memory) = inl memory
  entries_unnumbered r (inr (bad, none)) = inr (bad, λ w other is e. none (length w) (each_text entry_text w other) (few_entries text w other fits e) e)

  module _ (count : ℕ) (rest : List ℕ) (number : SpellsOnly IsNumber (number_text 10) text count rest) where
    pub entries_unread : (r : Refusal) → IsUnread (λ es. (length es ≡ count) × All IsEntry es) (each_text entry_text) rest r → IsUnread (All IsEntry) entries_text text r
    entries_unread r (inl memory) = inl memory
    entries_unread r (inr (bad, none)) = inr (
      bad,
      λ w other is e.
          let o = number (length w) (each_text entry_text w other) (few_entries text w other fits e) e in
          none w other (o.0, is) (sym o.1),
    )

    pub entries_only : (es : List Entry) (left : List ℕ) → SpellsOnly (λ es. (length es ≡ count) × All IsEntry es) (each_text entry_text) rest es left → SpellsOnly (All IsEntry) entries_text text es left
    entries_only es left only = λ w other is e.
        let o = number (length w) (each_text entry_text w other) (few_entries text w other fits e) e in
        only w other (o.0, is) (sym o.1)
