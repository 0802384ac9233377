-- What a question shows, where nothing more is seen.
use Rattle.std.proofs.Common.{◌≡◌, ◌⊎◌, List, Err, ap, sym, subst, ⊎_elim}
use mathlib.Core.List.{IsPrefix}
use Rattle.fault.specs.declared.refusal.Refusal.{Refusal}
use Rattle.fault.specs.declared.refusal.Refusal.TheVariants.{NoMemory, NoView}
use Rattle.model.specs.Transactions.{Language}
use Rattle.sqlread.specs.Shapes.{QueryShape}
use Rattle.history.specs.declared.front.Front.{Front}
use Rattle.history.specs.declared.item.Item.{Item}
use Rattle.history.proofs.Fronts.{prefix_self, prefix_trans}
use Rattle.view.specs.Viewing.{Answers}

-- the same list begins with itself
pub same_grows : (f g : Front) → g ≡ f → IsPrefix f.seen.log g.seen.log
same_grows f g same = subst (λ h. IsPrefix f.seen.log h.seen.log) (sym same) (prefix_self f.seen.log)

-- what was told is rested on still
pub rests_still : (told : List Item) (f g : Front) → g ≡ f → IsPrefix told f.seen.log → IsPrefix told g.seen.log
rests_still told f g same first = subst (λ h. IsPrefix told h.seen.log) (sym same) first

pub rests_more : (told seen now : List Item) → IsPrefix seen now → IsPrefix told seen → IsPrefix told now
rests_more told seen now grows first = prefix_trans told seen now first grows

-- there was no reading or no memory, and what is seen is the same
pub refused : (language : Language) (q : QueryShape) (f g : Front) (e : Refusal) → (e ≡ NoView) ⊎ (e ≡ NoMemory) → g ≡ f → Answers language q f.seen.log g.seen.log (Err e)
refused language q f g e why same =
    let lists : g.seen.log ≡ f.seen.log = ap (λ h. h.seen.log) same in
    ⊎_elim (λ (is : e ≡ NoView). subst (λ r. Answers language q f.seen.log g.seen.log (Err r)) (sym is) lists)
    (λ (is : e ≡ NoMemory). subst (λ r. Answers language q f.seen.log g.seen.log (Err r)) (sym is) lists) why
