-- How members stand after a change of one.
use Rattle.std.proofs.Common.{◌≡◌, ◌∙◌, ℕ, ◌+◌, ◌<◌, List, [], ◌∷◌, ◌++◌, length, get_or, Option, Some, Bool, true, false, IsTrue, ◌↔◌, refl, sym, ap, subst, add-one}
use Rattle.std.specs.Prelude.{option_map, replicate}
use Rattle.std.proofs.lemmas.List.{map-set, map-append, replicate-append-replicate}
use Rattle.std.proofs.lemmas.Option.{slice_get-map, slice_get_read}
use Rattle.std.proofs.Math.ListN.{set}
use Rattle.std.proofs.Math.Seq.{map-set_same}
use Rattle.model.specs.Lists.{nth, with_nth}
use Rattle.playback.specs.declared.actor.Actor.{Actor}
use Rattle.playback.specs.Scenes.{standings, Scene, StandsAs}
use Rattle.playback.specs.Playing.{Idles}
use Rattle.playback.specs.Standings.{Standing, Down, Up, standing_of}

-- the member with so many before it stands so now
pub stands_now : (actors : List Actor) (at m : ℕ) (a : Actor) (x : Standing) → m ≡ at + 1 → standing_of a.doing ≡ x → standings (set actors at a) ≡ with_nth (standings actors) m x
stands_now actors at m a x place stands =
    map-set (λ (b : Actor). standing_of b.doing) actors at a
    ∙ ap (λ (y : Standing). set (standings actors) at y) stands
    ∙ ap (λ (k : ℕ). with_nth (standings actors) k x) (sym (place ∙ add-one at))

-- it stands as before
pub stands_still : (actors : List Actor) (at : ℕ) (a b : Actor) → b ≡ get_or actors at b → standing_of a.doing ≡ standing_of b.doing → standings (set actors at a) ≡ standings actors
stands_still actors at a b is same = map-set_same (λ (c : Actor). standing_of c.doing) actors at a b (same ∙ ap (λ (c : Actor). standing_of c.doing) is)

-- how it stands
pub stands_as : (actors : List Actor) (at m : ℕ) (b : Actor) (x : Standing) → m ≡ at + 1 → at < length actors → b ≡ get_or actors at b → standing_of b.doing ≡ x → nth (standings actors) m ≡ Some x
stands_as actors at m b x place within is stands =
    ap (λ (k : ℕ). nth (standings actors) k) (place ∙ add-one at)
    ∙ slice_get-map (λ (c : Actor). standing_of c.doing) actors at
    ∙ ap (λ (o : Option Actor). option_map (λ (c : Actor). standing_of c.doing) o) (slice_get_read actors (length actors) at b refl within is)
    ∙ ap (λ (y : Standing). Some y) stands

-- whether it is up and in no step
pub idles : (is : Bool) (s : Scene) (m : ℕ) (x : Standing) → StandsAs s m x → IsTrue is ↔ (x ≡ Up) → Idles s m is
idles true s m x stands says = subst (λ (y : Standing). StandsAs s m y) (says.0 refl) stands
idles false s m x stands says = (x, stands, λ up. absurd (cc (says.1 up)))

-- one member more, of which nothing is told
pub standings_push : (i : ℕ) (xs ys : List Actor) (x : Actor) → ys ≡ xs ++ x ∷ [] → standings xs ≡ replicate i Down → standing_of x.doing ≡ Down → standings ys ≡ replicate (i + 1) Down
standings_push i xs ys x is all down =
    ap standings is
    ∙ map-append (λ (a : Actor). standing_of a.doing) xs (x ∷ [])
    ∙ ap (λ (l : List Standing). l ++ standing_of x.doing ∷ []) all
    ∙ ap (λ (y : Standing). replicate i Down ++ y ∷ []) down
    ∙ replicate-append-replicate i 1 Down
