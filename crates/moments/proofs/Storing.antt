-- What a member has stored.
use Rattle.std.proofs.Common.{◌≡◌, ◌∙◌, ◌<◌, ◌+◌, ℕ, zero, suc, take, get_or, add-one, List, [], length, Option, Some, None, refl, sym, ap}
use Rattle.std.specs.Prelude.{option_map, option_and_then, unwrap_or, slice_get}
use Rattle.std.proofs.lemmas.List.{take_more_same}
use Rattle.std.proofs.lemmas.Option.{get_or_from_slice_get, slice_get_within}
use Rattle.model.specs.Lists.{nth}
use Rattle.model.specs.Members.{Node}
use Rattle.model.specs.declared.entry.Entry.{Entry}
use Rattle.world.specs.View.{if_up, entry_in}
use Rattle.moments.specs.Behind.{log_in}

entry_at : (o : Option Node) (i : ℕ) → option_and_then (λ (x : Node). nth x.log i) o ≡ nth (unwrap_or (option_map (λ (x : Node). x.log) o) []) i
entry_at None zero = refl
entry_at None (suc i) = refl
entry_at (Some x) i = refl

pub entry_of : (m : Option Node) (i : ℕ) → entry_in i m ≡ nth (log_in m) i
entry_of m i = entry_at (if_up m) i

-- ---- entries

-- the entry at a place, as it is asked for from 1
pub entry_found : (m : Option Node) (i : ℕ) (found : Option Entry) → found ≡ entry_in (i + 1) m → found ≡ slice_get (log_in m) i
entry_found m i found h = h ∙ entry_of m (i + 1) ∙ ap (nth (log_in m)) (add-one i)

pub entries_more : (log entries : List Entry) (i : ℕ) (found e : Entry) → Some found ≡ slice_get log i → found ≡ e → i < length entries → e ≡ get_or entries i e → take i log ≡ take i entries → take (i + 1) log ≡ take (i + 1) entries
entries_more log entries i found e at same within is before =
    take_more_same log entries i e (slice_get_within log i found (sym at)) within before (get_or_from_slice_get log i found e (sym at) ∙ same ∙ is)
