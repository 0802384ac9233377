-- What comes of entries, one more.
use Rattle.std.proofs.Common.{◌≡◌, ◌∙◌, ℕ, ◌+◌, ◌<◌, List, [], ◌∷◌, ◌++◌, length, get_or, take, drop, reverse, ap, sym, add-one, append_assoc, drop-cons, Result}
use Rattle.std.proofs.lemmas.List.{take_more, reverse-append}
use Rattle.fault.specs.declared.refusal.Refusal.{Refusal}
use Rattle.model.specs.Transactions.{Language}
use Rattle.model.specs.declared.entry.Entry.{Entry}
use Rattle.report.specs.Settled.{outcome_in, outcomes_from}

pub told_more : (language : Language) (list : List Entry) (i : ℕ) (e : Entry) (told more whole : List (Result ℕ Refusal)) → i < length list → e ≡ get_or list i e
    → more ≡ told ++ outcome_in language (reverse (take i list)) e.stamp e.request
    → told ++ outcomes_from language (reverse (take i list)) (drop i list) ≡ whole
    → more ++ outcomes_from language (reverse (take (i + 1) list)) (drop (i + 1) list) ≡ whole
told_more language list i e told more whole less at added so_far =
    let before = reverse (take i list) in
    let later = drop (i + 1) list in
    let own = outcome_in language before e.stamp e.request in
    let next : drop i list ≡ e ∷ later = drop-cons list i e less ∙ (λ j. sym at j ∷ drop (sym (add-one i) j) list) in
    let turned : reverse (take (i + 1) list) ≡ e ∷ before =
    ap reverse (take_more list i e less ∙ ap (λ x. take i list ++ x ∷ []) (sym at)) ∙ reverse-append (take i list) (e ∷ []) in
    let joined : told ++ (own ++ outcomes_from language (e ∷ before) later) ≡ whole = sym (ap (λ l. told ++ outcomes_from language before l) next) ∙ so_far in
    (λ j. added j ++ outcomes_from language (turned j) later) ∙ (append_assoc told own (outcomes_from language (e ∷ before) later) ∙ joined)
