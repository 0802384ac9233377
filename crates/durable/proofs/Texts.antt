-- Lists of entries whose texts are texts.
use Rattle.std.proofs.Common.{◌≡◌, ℕ, zero, suc, ◌+◌, ◌<◌, List, [], ◌∷◌, ◌++◌, take, length, get_or, sym, subst, ap, ◌∙◌}
use Rattle.std.proofs.lemmas.List.{take_more}
use Rattle.model.specs.declared.entry.Entry.{Entry}
use Rattle.durable.specs.Stored.{IsText, AreTexts}

pub texts_append : (a b : List Entry) → AreTexts a → AreTexts b → AreTexts (a ++ b)
texts_append [] b p q = q
texts_append (e ∷ a) b p q = (p.0, texts_append a b p.1 q)

pub texts_take : (n : ℕ) (a : List Entry) → AreTexts a → AreTexts (take n a)
texts_take zero a p = tt
texts_take (suc n) [] p = tt
texts_take (suc n) (e ∷ a) p = (p.0, texts_take n a p.1)

pub texts_more : (xs : List Entry) (i : ℕ) (x : Entry) → i < length xs → x ≡ get_or xs i x → AreTexts (take i xs) → IsText x.request → AreTexts (take (i + 1) xs)
texts_more xs i x low is before here = subst AreTexts (sym (take_more xs i x low ∙ ap (λ y. take i xs ++ y ∷ []) (sym is))) (texts_append (take i xs) (x ∷ []) before (here, tt))
