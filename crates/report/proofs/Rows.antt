-- The members of a report, one more.
use Rattle.std.proofs.Common.{◌≡◌, ◌∙◌, ℕ, ◌+◌, ◌<◌, List, ◌∷◌, ◌++◌, length, get_or, drop, ap, sym, add-one, append_assoc, drop-cons}
use Rattle.std.specs.declared.string.String.{String}
use Rattle.std.specs.declared.alloc.Global.{Global}
use Rattle.json.specs.Token.{Token}
use Rattle.report.specs.Machine.{member_tokens, members_tokens, name_at}
use Rattle.report.specs.declared.whole.Held.{Held}

pub member_more : (files : List (String Global)) (nodes : List Held) (i : ℕ) (d : Held) (name : List ℕ) (told more whole : List Token) → i < length nodes → name ≡ name_at files i
    → more ≡ told ++ member_tokens (i + 1) name (get_or nodes i d) → told ++ members_tokens i files (drop i nodes) ≡ whole → more ++ members_tokens (i + 1) files (drop (i + 1) nodes) ≡ whole
member_more files nodes i d name told more whole less named added so_far =
    let later = drop (i + 1) nodes in
    let h = get_or nodes i d in
    let own = member_tokens (i + 1) (name_at files i) h in
    let next : drop i nodes ≡ h ∷ later = drop-cons nodes i d less ∙ ap (λ n. h ∷ drop n nodes) (sym (add-one i)) in
    let joined : told ++ (own ++ members_tokens (i + 1) files later) ≡ whole = sym (ap (λ l. told ++ members_tokens i files l) next) ∙ so_far in
    let same : more ≡ told ++ own = added ∙ ap (λ n. told ++ member_tokens (i + 1) n h) named in
    ap (λ l. l ++ members_tokens (i + 1) files later) same ∙ (append_assoc told own (members_tokens (i + 1) files later) ∙ joined)
