-- Items that are appended: their entries, and what they close.
use Rattle.std.proofs.Common.{◌≡◌, ◌∙◌, ℕ, ◌+◌, max, Bool, true, false, nat_lt, Option, Some, None, List, [], ◌∷◌, ◌++◌, length, take, drop, refl, sym, ap, subst, arith, length-append, append_assoc, if◌then◌else◌}
use Rattle.std.proofs.lemmas.List.{append-nil, take-append-drop}
use Rattle.std.proofs.lemmas.List.Elements.{filter_map-append}
use Rattle.std.proofs.lemmas.List.Sums.{fold-append}
use Rattle.std.proofs.lemmas.Bool.Decides.{nat_tests}
use Rattle.model.specs.declared.entry.Entry.{Entry}
use Rattle.model.specs.Stamps.{greater}
use Rattle.journal.specs.Digests.{next_digest, digest_of}
use Rattle.history.specs.declared.item.Item.{Item}
use Rattle.history.specs.declared.item.Item.TheVariants.{Applied, Sealed}
use Rattle.history.specs.Items.{entry_of, entries_in, closed_in, Rises}
use Rattle.history.proofs.Rising.{closed_more}
use Rattle.store.specs.declared.since.Since.{Since}
use Rattle.storeviews.specs.Listing.{marked, marked_time, marked_rise, items_since}

-- ---- two parts of one list

-- more at the end of the second
pub joined : (a b c d more : List Item) → c ≡ a → d ≡ b ++ more → c ++ d ≡ (a ++ b) ++ more
joined a b c d more e f = ap (λ (xs : List Item). xs ++ d) e ∙ ap (λ (xs : List Item). a ++ xs) f ∙ sym (append_assoc a b more)

-- ---- entries

pub entries_join : (xs ys : List Item) → entries_in (xs ++ ys) ≡ entries_in xs ++ entries_in ys
entries_join xs ys = filter_map-append entry_of xs ys

entries_marked : (mark : ℕ) (es : List Entry) → entries_in (marked mark es) ≡ es
entries_marked mark [] = refl
entries_marked mark (e ∷ es) = ap (λ (zs : List Entry). e ∷ zs) (entries_marked mark es)

no_entries : (mark : ℕ) (time : Option ℕ) → entries_in (marked_time mark time) ≡ []
no_entries mark None = refl
no_entries mark (Some t) = refl

pub entries_timed : (items : List Item) (mark : ℕ) (time : Option ℕ) → entries_in (items ++ marked_time mark time) ≡ entries_in items
entries_timed items mark time = entries_join items (marked_time mark time) ∙ ap (λ (es : List Entry). entries_in items ++ es) (no_entries mark time) ∙ append-nil (entries_in items)

pub entries_since : (mark : ℕ) (before : List Item) (x : Since) → entries_in (before ++ items_since mark before x) ≡ entries_in before ++ x.entries.items
entries_since mark before x =
    let es = x.entries.items in
    let rise = marked_rise mark (closed_in (before ++ marked mark es)) x.closed in
    ap entries_in (sym (append_assoc before (marked mark es) rise))
    ∙ entries_timed (before ++ marked mark es) mark _
    ∙ entries_join before (marked mark es)
    ∙ ap (λ (zs : List Entry). entries_in before ++ zs) (entries_marked mark es)

entries_one : (old new : List Item) (mark : ℕ) (e : Entry) → new ≡ old ++ Applied mark e ∷ [] → entries_in new ≡ entries_in old ++ e ∷ []
entries_one old new mark e is = ap entries_in is ∙ entries_join old (Applied mark e ∷ [])

pub counted_one : (n : ℕ) (old new : List Item) (mark : ℕ) (e : Entry) → new ≡ old ++ Applied mark e ∷ [] → n ≡ length (entries_in old) → n + 1 ≡ length (entries_in new)
counted_one n old new mark e is had =
    let longer : length (entries_in new) ≡ length (entries_in old) + 1 = ap length (entries_one old new mark e is) ∙ length-append (entries_in old) (e ∷ []) in
    omega (arith, longer, had)

pub digested_one : (d : List ℕ) (old new : List Item) (mark : ℕ) (e : Entry) → new ≡ old ++ Applied mark e ∷ [] → d ≡ digest_of (entries_in old) → next_digest d e ≡ digest_of (entries_in new)
digested_one d old new mark e is had =
    ap (λ (before : List ℕ). next_digest before e) had
    ∙ sym (fold-append next_digest _ (entries_in old) (e ∷ []))
    ∙ ap digest_of (sym (entries_one old new mark e is))

-- ---- what is closed

pub rises_parts : (n : ℕ) (items : List Item) → Rises items → Rises (take n items ++ drop n items)
rises_parts n items h = subst Rises (sym (take-append-drop n items)) h

-- a time that is not below what is closed
lifted : (items : List Item) (mark s t : ℕ) (b : Bool) → nat_lt s t ≡ b → Rises items → Some s ≡ closed_in items → max s t ≡ t → closed_in (items ++ marked_time mark (if b then Some t else None)) ≡ Some t
lifted items mark s t true less h is most = sym (closed_more items (Sealed mark t) h tt) ∙ ap (λ (time : Option ℕ). greater time (Some t)) (sym is) ∙ ap Some most
lifted items mark s t false less h is most =
    let level : s ≡ t = grind (arith, nat_tests) in
    ap closed_in (append-nil items) ∙ sym is ∙ ap Some level

some_max : (s t : ℕ) → Some (max s t) ≡ Some t → max s t ≡ t
some_max s t h = cc h

pub closes : (items : List Item) (mark : ℕ) (shown closed : Option ℕ) → Rises items → shown ≡ closed_in items → greater shown closed ≡ closed → closed_in (items ++ marked_rise mark shown closed) ≡ closed
closes items mark None None h is most = ap closed_in (append-nil items) ∙ sym is
closes items mark None (Some t) h is most = sym (closed_more items (Sealed mark t) h tt) ∙ ap (λ (time : Option ℕ). greater time (Some t)) (sym is)
closes items mark (Some s) None h is most = absurd (cc most)
closes items mark (Some s) (Some t) h is most = lifted items mark s t (nat_lt s t) refl h is (some_max s t most)
