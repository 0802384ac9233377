use Rattle.std.proofs.Common.{◌≡◌, ◌∙◌, ◌+◌, ◌++◌, ◌∷◌, List, ℕ, true, false, string_bytes, ap, refl, rules, subst, sym}
use Rattle.console.specs.Lines.{IsNextLine, IsNoLine, IsShortened, IsWhole, is_ended, left_of}
use Rattle.console.proofs.Lines.{Gathers, begun_on, if_known, last_on, whole_ended, whole_over}
use Rattle.console.proofs.session.Session.whole_text.Goals as goal

pub returns-then-is_whole : goal.returns-then-is_whole
returns-then-is_whole g c =
    let first = c.args.first.now in
    let more = c.loop-more._more in
    let kept = string_bytes c.loop-more.gathered.text in
    let text = string_bytes c.in_ok-into_text.field-0 in
    let behind = left_of g.R.Read.remaining c.loop-more.input.reader in
    let ended : c.loop-more.is_whole ≡ true = search rules in
    let told : (whole : List ℕ) → IsShortened whole kept → IsShortened whole text = c.in_ok-into_text.ensures in
    if_known (left_of g.R.Read.remaining c.args.input.now.reader)
    (λ xs. (whole : List ℕ) × Gathers first more whole behind c.loop-more.is_whole xs × IsShortened whole kept)
    (λ xs. (whole : List ℕ) × IsWhole first xs whole behind × IsShortened whole text)
    (λ xs held. (held.0, whole_ended first xs more held.0 behind held.1.0 (sym held.1.1 ∙ ended), told held.0 held.2)) c.loop-more.invariant

pub returns-in_default : goal.returns-in_default
returns-in_default g c =
    let first = c.args.first.now in
    let more = c.loop-more._more in
    let kept = string_bytes c.loop-more.gathered.text in
    let text = string_bytes c.in_ok-into_text-2.field-0 in
    let behind = left_of g.R.Read.remaining c.loop-more.input.reader in
    let left = left_of g.R.Read.remaining c.next_line.new.input.reader in
    let none : IsNoLine behind left = search rules in
    let told : (whole : List ℕ) → IsShortened whole kept → IsShortened whole text = c.in_ok-into_text-2.ensures in
    if_known (left_of g.R.Read.remaining c.args.input.now.reader)
    (λ xs. (whole : List ℕ) × Gathers first more whole behind c.loop-more.is_whole xs × IsShortened whole kept)
    (λ xs. (whole : List ℕ) × IsWhole first xs whole left × IsShortened whole text)
    (λ xs held. (held.0, whole_over first xs more held.0 behind held.1.0 left none, told held.0 held.2)) c.loop-more.invariant

pub loop-more-preserved : goal.loop-more-preserved
loop-more-preserved g c =
    let first = c.args.first.now in
    let more = c.loop-more._more in
    let kept = string_bytes c.loop-more.gathered.text in
    let line = string_bytes c.in-Some.line in
    let longer = string_bytes c.push.new.self.text in
    let behind = left_of g.R.Read.remaining c.loop-more.input.reader in
    let left = left_of g.R.Read.remaining c.next_line.new.input.reader in
    let goes : c.loop-more.is_whole ≡ false = search rules in
    let next : IsNextLine behind line left = search rules in
    let shown = c.as_str.result.now in
    let same : shown ≡ line = search rules in
    let pushed : (whole : List ℕ) → IsShortened whole kept → IsShortened (whole ++ 10 ∷ line) longer =
    λ whole is. subst (λ (l : List ℕ). IsShortened (whole ++ 10 ∷ l) longer) same (c.in_ok-push.ensures.gathers whole is) in
    let ended : c.is_ended-is_whole-in-loop-more.result ≡ is_ended line = search rules in
    if_known (left_of g.R.Read.remaining c.args.input.now.reader)
    (λ xs. (whole : List ℕ) × Gathers first more whole behind c.loop-more.is_whole xs × IsShortened whole kept)
    (λ xs. (whole : List ℕ) × Gathers first (more + 1) whole left c.is_ended-is_whole-in-loop-more.result xs × IsShortened whole longer)
    (λ xs held.
    let whole = held.0 in
    let longer_whole = whole ++ 10 ∷ line in
    (longer_whole, (begun_on first xs more whole behind held.1.0 line longer_whole left (sym held.1.1 ∙ goes) next refl, ended ∙ ap is_ended (last_on first xs more whole behind held.1.0 line left next)), pushed whole held.2)) c.loop-more.invariant
