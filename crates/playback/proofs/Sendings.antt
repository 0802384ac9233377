-- Messages among outputs, one by one.
use Rattle.std.proofs.Common.{◌≡◌, ◌∙◌, ℕ, ◌+◌, ◌<◌, List, [], ◌∷◌, ◌++◌, length, get_or, take, Option, Some, refl, sym, ap, add-one, append_assoc}
use Rattle.std.specs.Prelude.{option_map}
use Rattle.std.proofs.lemmas.List.{take_more, map-append}
use Rattle.std.proofs.lemmas.Option.{slice_get-map, slice_get_read}
use Rattle.std.specs.Prelude.{slice_get}
use Rattle.model.specs.Lists.{nth}
use Rattle.model.specs.declared.message.Message.{Message}
use Rattle.model.specs.Worlds.{Output, Sent, Applied, Refused, Answered}
use Rattle.sessions.specs.Sessions.{later_number}
use Rattle.world.specs.declared.output.Output.{Output as Out}
use Rattle.sessions.specs.Sessions.{later_number}
use Rattle.world.specs.View.{output_of, outputs_of}
use Rattle.playback.specs.declared.post.Post.{Post}
use Rattle.playback.specs.Posts.{messages, sent_in}

pub sent_in-append : (xs ys : List Output) → sent_in (xs ++ ys) ≡ sent_in xs ++ sent_in ys
sent_in-append [] ys = refl
sent_in-append (Sent number message ∷ xs) ys = ap (λ (l : List Message). message ∷ l) (sent_in-append xs ys)
sent_in-append (Applied m told ∷ xs) ys = sent_in-append xs ys
sent_in-append (Refused m refusal ∷ xs) ys = sent_in-append xs ys
sent_in-append (Answered m answer ∷ xs) ys = sent_in-append xs ys

-- what the first outputs send, and the next one
pub sent_more : (xs : List Out) (i : ℕ) (x : Out) → i < length xs → sent_in (outputs_of (take (i + 1) xs)) ≡ sent_in (outputs_of (take i xs)) ++ sent_in (output_of (get_or xs i x) ∷ [])
sent_more xs i x within =
    ap (λ (l : List Out). sent_in (outputs_of l)) (take_more xs i x within)
    ∙ ap sent_in (map-append output_of (take i xs) (get_or xs i x ∷ []))
    ∙ sent_in-append (outputs_of (take i xs)) (output_of (get_or xs i x) ∷ [])

-- the message of a number
pub nth_message : (posts : List Post) (at k : ℕ) (p : Post) → slice_get posts at ≡ Some p → k ≡ at + 1 → nth (messages posts) k ≡ Some p.message
nth_message posts at k p got place =
    ap (λ (j : ℕ). nth (messages posts) j) (place ∙ add-one at)
    ∙ slice_get-map (λ (q : Post). q.message) posts at
    ∙ ap (λ (o : Option Post). option_map (λ (q : Post). q.message) o) got

-- the number of a journal's message in the run
pub later_at : (before number k : ℕ) → number ≡ k + 1 → later_number before number ≡ before + k + 1
later_at before number k is = ap (λ (j : ℕ). later_number before j) (is ∙ add-one k) ∙ sym (add-one (before + k))

-- as much as the first outputs send is there, and then what the next one sends
pub sent_next : (first mid last : List Message) (xs : List Out) (i : ℕ) (x : Out) → i < length xs → x ≡ get_or xs i x
    → mid ≡ first ++ sent_in (outputs_of (take i xs)) → last ≡ mid ++ sent_in (output_of x ∷ []) → last ≡ first ++ sent_in (outputs_of (take (i + 1) xs))
sent_next first mid last xs i x within is so_far now =
    now
    ∙ ap (λ (l : List Message). l ++ sent_in (output_of x ∷ [])) so_far
    ∙ append_assoc first (sent_in (outputs_of (take i xs))) (sent_in (output_of x ∷ []))
    ∙ ap (λ (y : Out). first ++ (sent_in (outputs_of (take i xs)) ++ sent_in (output_of y ∷ []))) is
    ∙ ap (λ (l : List Message). first ++ l) (sym (sent_more xs i x within))

-- the same of a post that was read
pub posted_as : (xs posts : List Post) (at k : ℕ) (p : Post) (m : Message) → xs ≡ posts → at < length xs → p ≡ get_or xs at p → k ≡ at + 1 → m ≡ p.message → nth (messages posts) k ≡ Some m
posted_as xs posts at k p m same within read place copy =
    ap (λ (l : List Post). nth (messages l) k) (sym same)
    ∙ nth_message xs at k p (slice_get_read xs (length xs) at p refl within read) place
    ∙ ap (λ (n : Message). Some n) (sym copy)
