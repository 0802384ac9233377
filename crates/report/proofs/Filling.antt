-- A list that is filled up from the log of a member.
use Rattle.std.proofs.Common.{◌≡◌, ◌∙◌, ℕ, ◌+◌, ◌<◌, ◌≤◌, List, [], ◌∷◌, ◌++◌, length, take, drop, ap, sym, subst, add-one, append-nil, append_assoc, arith, inl, inr}
use Rattle.std.specs.Prelude.{Option, Some, None, option_map, option_and_then, slice_get}
use Rattle.std.proofs.lemmas.List.{take_more, length-take, length-take-le, drop-append-le}
use Rattle.std.proofs.lemmas.Bool.{cases_lt}
use Rattle.std.proofs.lemmas.Option.{slice_get_within, get_or_from_slice_get}
use Rattle.std.proofs.Math.ListN.{drop_of_length-le}
use Rattle.model.specs.Lists.{nth, IsBeginning}
use Rattle.model.specs.Agreement.{longer}
use Rattle.model.specs.Members.{Node, applied}
use Rattle.model.specs.declared.entry.Entry.{Entry}
use Rattle.report.specs.Deciding.{longer_at, GoesAlong}
use Rattle.report.proofs.Deciding.{filled_up, longer_stays}

-- the list has what stood there, and behind it what the member's log has up to this place, where that is beyond it
abbrev pub Filled : List Entry → Option Node → ℕ → List Entry → Type 0
Filled old None place list = list ≡ old
Filled old (Some x) place list = (list ≡ old ++ drop (length old) (take place x.log)) × (length old < place → place ≤ length x.log)

nothing_there : (old log : List Entry) → old ≡ old ++ drop (length old) (take (length old) log)
nothing_there old log =
    let short : length (take (length old) log) ≤ length old = omega (arith, length-take (length old) log) in
    sym (ap (λ l. old ++ l) (drop_of_length-le (take (length old) log) short) ∙ append-nil old)

-- one entry more
pub fill_more : (old : List Entry) (o : Option Node) (place : ℕ) (list : List Entry) (entry : Entry) → Filled old o place list → length old ≤ place
    → Some entry ≡ option_and_then (λ (x : Node). nth x.log (place + 1)) o → Filled old o (place + 1) (list ++ entry ∷ [])
fill_more old None place list entry is from found = absurd (cc found)
fill_more old (Some x) place list entry is from found =
    let at : slice_get x.log place ≡ Some entry = sym (found ∙ ap (nth x.log) (add-one place)) in
    let within : place < length x.log = slice_get_within x.log place entry at in
    let long : length (take place x.log) ≡ place = length-take-le place x.log (omega (arith, within)) in
    let next : take (place + 1) x.log ≡ take place x.log ++ entry ∷ [] = take_more x.log place entry within ∙ ap (λ e. take place x.log ++ e ∷ []) (get_or_from_slice_get x.log place entry entry at) in
    let behind : drop (length old) (take (place + 1) x.log) ≡ drop (length old) (take place x.log) ++ entry ∷ [] =
    ap (drop (length old)) next ∙ drop-append-le (length old) (take place x.log) (entry ∷ []) (omega (arith, long, from)) in
    (ap (λ l. l ++ entry ∷ []) is.0 ∙ (append_assoc old (drop (length old) (take place x.log)) (entry ∷ []) ∙ ap (λ l. old ++ l) (sym behind)), λ h. omega (arith, within))

-- all that the member has applied
pub fill_ends : (old : List Entry) (o : Option Node) (place commit : ℕ) (list : List Entry) → Filled old o place list → Some commit ≡ option_map (λ (x : Node). x.commit) o → GoesAlong old o
    → length old ≤ place → commit ≤ place → (length old < place → place ≤ commit) → list ≡ longer_at old o
fill_ends old None place commit list is at along from past bound = absurd (cc at)
fill_ends old (Some x) place commit list is at along from past bound =
    let same : commit ≡ x.commit = (cc at) in
    elim (cases_lt (length old) commit) [
      | inl less ↦
          let there : place ≡ commit = omega (arith, less, past, bound, from) in
          is.0 ∙ (ap (λ n. old ++ drop (length old) (take n x.log)) there
          ∙ (filled_up along.0 old x.log commit along.1 (subst (λ n. IsBeginning (take n x.log) along.0) (sym same) along.2) less (subst (λ n. n ≤ length x.log) there (is.1 (omega (arith, there, less))))
          ∙ ap (λ n. longer old (take n x.log)) same))
      | inr more ↦
          let there : place ≡ length old = elim (cases_lt (length old) place) [ inl beyond ↦ absurd (omega (arith, bound beyond, more, beyond)) | inr short ↦ omega (arith, short, from) ] in
          let short : length (applied x) ≤ length old = omega (arith, length-take x.commit x.log, same, more) in
          is.0 ∙ (ap (λ n. old ++ drop (length old) (take n x.log)) there ∙ (sym (nothing_there old x.log) ∙ sym (longer_stays old (applied x) short)))
    ]
