-- A copy of a message is the message, and what becomes of one that comes twice.
use Rattle.std.proofs.Common.{◌≡◌, ◌∙◌, ◌++◌, ◌∷◌, [], ℕ, List, Result, Ok, Err, rules, ap, sym}
use Rattle.std.proofs.lemmas.List.{append_assoc}
use Rattle.std.specs.Result.{OnOk}
use Rattle.network.specs.declared.weather.Fate.{Fate}
use Rattle.network.specs.declared.weather.Fate.TheVariants.{Twice}
use Rattle.live.specs.declared.mail.Letter.{Letter}
use Rattle.live.specs.Letters.{letter, letters_of}
use Rattle.model.specs.declared.message.Message.{Message}
use Rattle.model.specs.declared.message.Body.{Body}
use Rattle.model.specs.declared.message.Body.TheVariants.{RequestVote, Vote, Append, Reply, Seek, Stored, Seal}
use Rattle.model.specs.contracts.message.BodyClone.TheImpl.{by_variants}

pub same_body : (x y : Body) → by_variants x y → y ≡ x
same_body (RequestVote a b) (RequestVote p q) h = search rules
same_body (Vote a b) (Vote p q) h = search rules
same_body (Append a b c d) (Append p q r s) h = search rules
same_body (Reply a b) (Reply p q) h = search rules
same_body (Seek a b) (Seek p q) h = search rules
same_body (Stored a b) (Stored p q) h = search rules
same_body (Seal a b) (Seal p q) h = search rules
same_body x y h = absurd h

pub sent_twice : {E : Type 0} (r : Result (Unit {0}) E) (old once twice : List Letter) (mark : ℕ) (message again : Message) (fate : Fate) → fate ≡ Twice → again ≡ message →
    once ≡ old ++ letter 0 mark message ∷ [] → OnOk r (twice ≡ once ++ letter 0 mark again ∷ []) → OnOk r (twice ≡ old ++ letters_of fate mark message)
sent_twice (Ok u) old once twice mark message again fate is same first second =
    second ∙ ap (λ (m : Message). once ++ letter 0 mark m ∷ []) same ∙ ap (λ ls. ls ++ letter 0 mark message ∷ []) first
    ∙ append_assoc old (letter 0 mark message ∷ []) (letter 0 mark message ∷ []) ∙ ap (λ f. old ++ letters_of f mark message) (sym is)
sent_twice (Err e) old once twice mark message again fate is same first second = second
