-- One step of one member: the new words compute what today's do.
use Rattle.std.proofs.Common.{◌≡◌, ℕ, zero, suc, ◌+◌, ◌-◌, ◌||◌, ◌&&◌, Bool, true, false, cond, not, Option, Some, None, List, [], ◌∷◌, ◌++◌, length, map, take, drop, max, min, refl, sym, ap, ◌∙◌}
use Rattle.std.specs.Prelude.{ℤ, nat_lt, nat_le, ◌==◌, is_none, option_map}
use Rattle.std.specs.Option.{option_map_or}
use Rattle.std.specs.List.{list_all}
use Rattle.fault.specs.declared.refusal.Refusal.TheVariants.{NotLeader, TimeFull, LogFull, TermFull}
use Rattle.model.specs.Transactions.{Language}
use Rattle.model.specs.declared.entry.Entry.{Entry}
use Rattle.model.specs.declared.entry.Request.{Request}
use Rattle.model.specs.declared.member.SealedFloor.{SealedFloor}
use Rattle.model.specs.declared.message.Body.{Body}
use Rattle.model.specs.declared.message.Message.{Message}
use Rattle.model.specs.declared.message.Body.TheVariants.{RequestVote, Vote, Append, Reply, Seek, Stored, Seal}
use Rattle.model.specs.declared.message.Input.{Input}
use Rattle.model.specs.declared.message.Input.TheVariants.{Timeout, Beat, Close, Submit, Floor}
use Rattle.period.specs.Day.{greatest as greatest'}
use Rattle.model.specs.Lists.{nth, nth_or}
use Rattle.model.specs.Stamps.{greater, above}
use Rattle.model.specs.Members.{Node, is_leader, is_candidate, is_in}
use Rattle.model.specs.Members as then
use Rattle.model.specs.Steps as before
use Rattle.believed.specs.Members as members
use Rattle.believed.specs.Steps as now
use Rattle.believed.proofs.Bridges.{as_new, if_new, majority_same, others_same, agreed_same, stands_same, hears_same, seek_same, vote_same}

-- ---- what is sent

appends_same : (n me : ℕ) (x : Node) → now.to_all n me (now.append_to n me x) ≡ before.append_to_all n x me
appends_same n me x = ap (λ xs. map (before.append_to x me) xs) (others_same n me)

tells_same : (n me : ℕ) (x : Node) (body : Body) → now.to_all n me (now.message n me x body) ≡ before.tell_all n x me body
tells_same n me x body = ap (λ xs. map (λ to. record { sender = me; addressee = to; term = x.term; body = body }) xs) (others_same n me)

-- ---- inputs

own_cases : (l t f : Bool) (known : Option ℕ) (y : Node) (sent more : List Message) → sent ≡ more →
    cond l (option_map_or now.Refuses (cond t (Some TimeFull) (cond f (Some LogFull) None)) (now.Moves y sent)) (now.Refuses (NotLeader known))
    ≡ as_new (cond (not l) (before.Refuses (NotLeader known)) (cond t (before.Refuses TimeFull) (cond f (before.Refuses LogFull) (before.Moves (record { node = y; sent = more })))))
own_cases false t f known y sent more e = refl
own_cases true true f known y sent more e = refl
own_cases true false true known y sent more e = refl
own_cases true false false known y sent more e = ap (λ s. now.Moves y s) e

own_same : (n me : ℕ) (reading : ℤ) (request : Option Request) (x : Node) → now.append_own n me reading request x ≡ as_new (before.append_own n me reading request x)
unfolding now.append_own before.append_own
own_same n me reading request x = own_cases (is_leader x.role) (before.is_time_full x.floor x.log) (before.is_log_full x.log) x.known (before.extended reading request x) _ _
    (appends_same n me (before.extended reading request x))

floor_cases : (b : Bool) (y : Node) (sent more : List Message) → sent ≡ more → cond b (now.Moves y sent) now.Nothing ≡ as_new (cond b (before.Moves (record { node = y; sent = more })) before.Nothing)
floor_cases true y sent more e = ap (λ s. now.Moves y s) e
floor_cases false y sent more e = refl

floor_same : (n me : ℕ) (reading : ℤ) (x : Node) → now.on_input n me (Floor reading) x ≡ as_new (before.ask_floor n me reading x)
unfolding now.on_input before.ask_floor
floor_same n me reading x = floor_cases _ (before.asking n me reading x) _ _ (tells_same n me x (Seek (length x.log) (before.next_floor reading x)))

time_cases : (l t : Bool) (y : Node) (sent more : List Message) → sent ≡ more →
    cond l now.Nothing (cond t (now.Refuses TermFull) (now.Moves y sent)) ≡ as_new (cond l before.Nothing (cond t (before.Refuses TermFull) (before.Moves (record { node = y; sent = more }))))
time_cases true t y sent more e = refl
time_cases false true y sent more e = refl
time_cases false false y sent more e = ap (λ s. now.Moves y s) e

time_same : (n me : ℕ) (x : Node) → now.on_input n me Timeout x ≡ as_new (before.time_out n me x)
unfolding now.on_input before.time_out
time_same n me x = time_cases (is_leader x.role) _ (before.stands_up n me x) _ _ (tells_same n me (before.stands_up n me x) (RequestVote (length x.log) (then.last_term x.log)))

pub input_same : (n me : ℕ) (input : Input) (x : Node) → now.on_input n me input x ≡ as_new (before.on_input n me input x)
unfolding now.on_input
input_same n me Timeout x = time_same n me x
input_same n me Beat x = floor_cases (is_leader x.role) x _ _ (appends_same n me x)
input_same n me (Close reading) x = own_same n me reading None x
input_same n me (Floor reading) x = floor_same n me reading x
input_same n me (Submit reading request) x = own_same n me reading (Some request) x

-- ---- votes

opened_cases : (t f : Bool) (a b : Node) → cond (is_none (cond t (Some TimeFull) (cond f (Some LogFull) None))) a b ≡ cond (t || f) b a
opened_cases true f a b = refl
opened_cases false true a b = refl
opened_cases false false a b = refl

abbrev crowned : ℕ → ℤ → Node → Node
crowned n reading x = cond (is_none (now.full (before.crowned n x))) (now.extended reading None (before.crowned n x)) (before.crowned n x)

crowned_same : (n me : ℕ) (reading : ℤ) (x : Node) → crowned n reading x ≡ before.opened reading (before.crowned n x)
crowned_same n me reading x =
    let y = before.crowned n x in opened_cases (before.is_time_full y.floor y.log) (before.is_log_full y.log) (before.extended reading None y) y

won_cases : (b m : Bool) (y z : Node) (x : Node) (sent more : List Message) → sent ≡ more →
    cond (not b) (now.Moves x []) (cond m (now.Moves z sent) (now.Moves y []))
    ≡ as_new (before.Moves (cond b (cond m (record { node = z; sent = more }) (record { node = y; sent = [] })) (record { node = x; sent = [] })))
won_cases false m y z x sent more e = refl
won_cases true false y z x sent more e = refl
won_cases true true y z x sent more e = ap (λ s. now.Moves z s) e

won_same : (n me : ℕ) (reading : ℤ) (sender term : ℕ) (given : Bool) (floor : Option ℕ) (x : Node) →
    now.on_body n me reading sender term (Vote given floor) x ≡ as_new (before.Moves (before.on_vote n me reading sender term given floor x))
unfolding now.on_body before.on_vote
won_same n me reading sender term given floor x =
    let y = before.counted sender floor x in
    let b = given && (term == x.term) && is_candidate x.role in
    ap (λ m. cond (not b) (now.Moves x []) (cond m (let z = crowned n reading y in now.Moves z (now.to_all n me (now.append_to n me z))) (now.Moves y []))) (majority_same n (is_in y.votes))
    ∙ ap (λ z. cond (not b) (now.Moves x []) (cond (then.is_majority n (is_in y.votes)) (now.Moves z (now.to_all n me (now.append_to n me z))) (now.Moves y []))) (crowned_same n me reading y)
    ∙ won_cases b (then.is_majority n (is_in y.votes)) y (before.opened reading (before.crowned n y)) x _ _ (appends_same n me (before.opened reading (before.crowned n y)))

-- ---- seals

none_greater : (a : Option ℕ) → greater a None ≡ a
none_greater None = refl
none_greater (Some t) = refl

applied_by : (b : Bool) (s : SealedFloor) (x : Node) →
    cond b (record x { sealed = greater x.sealed (Some s.floor); waiting = None }) x
    ≡ record x { sealed = greater x.sealed (cond b (Some s.floor) None); waiting = cond b None x.waiting }
applied_by true s x = refl
applied_by false s x = ap (λ t. record x { sealed = t }) (sym (none_greater x.sealed))

settled_by : (w : Option SealedFloor) (x : Node) → x.waiting ≡ w →
    option_map_or (λ s. cond (before.is_applied x s) (record x { sealed = greater x.sealed (Some s.floor); waiting = None }) x) w x
    ≡ record x { sealed = greater x.sealed (before.seal_floor x w); waiting = before.unapplied x w }
settled_by None x e = ap (λ t. record x { sealed = t }) (sym (none_greater x.sealed)) ∙ ap (λ w. record x { sealed = greater x.sealed None; waiting = w }) e
settled_by (Some s) x e = applied_by (before.is_applied x s) s x ∙ ap (λ w. record x { sealed = greater x.sealed (cond (before.is_applied x s) (Some s.floor) None); waiting = cond (before.is_applied x s) None w }) e

longer_by : (b : Bool) (s w : SealedFloor) (x : Node) → x.waiting ≡ Some w → cond b (record x { waiting = Some s }) x ≡ record x { waiting = cond b (Some s) (Some w) }
longer_by true s w x e = refl
longer_by false s w x e = ap (λ v. record x { waiting = v }) e

learned_by : (b : Bool) (s : SealedFloor) (w : Option SealedFloor) (x : Node) → x.waiting ≡ w →
    cond b (record x { sealed = greater x.sealed (Some s.floor) }) (cond (option_map_or (λ v. nat_lt v.floor s.floor) w true) (record x { waiting = Some s }) x)
    ≡ record x { sealed = greater x.sealed (cond b (Some s.floor) None); waiting = before.longer_waiting w (cond b None (Some s)) }
learned_by true s None x e = ap (λ w. record x { sealed = greater x.sealed (Some s.floor); waiting = w }) e
learned_by true s (Some w) x e = ap (λ v. record x { sealed = greater x.sealed (Some s.floor); waiting = v }) e
learned_by false s None x e = ap (λ t. record x { sealed = t; waiting = Some s }) (sym (none_greater x.sealed))
learned_by false s (Some w) x e = longer_by (nat_lt w.floor s.floor) s w x e
    ∙ ap (λ t. record x { sealed = t; waiting = cond (nat_lt w.floor s.floor) (Some s) (Some w) }) (sym (none_greater x.sealed))

settled_same : (x : Node) → now.settled x ≡ before.settled x
settled_same x = settled_by x.waiting x refl

learned_same : (s : SealedFloor) (x : Node) → now.learned s x ≡ before.learned s x
learned_same s x = learned_by (before.is_applied x s) s x.waiting x refl

-- ---- Append

stamp_by : (prev : Option Entry) → option_map_or (λ d. d.stamp + 1) prev 0 ≡ above (option_map (λ d. d.stamp) prev)
stamp_by None = refl
stamp_by (Some d) = refl

on_same : (prev : Option Entry) (bound : ℕ) (es : List Entry) → now.go_on prev bound es ≡ before.go_on prev bound es
on_same prev bound [] = refl
on_same prev bound (e ∷ es) =
    ap (λ s. nat_lt 0 e.term && nat_le (then.term_of prev) e.term && nat_le e.term bound && nat_le s e.stamp && now.go_on (Some e) bound es) (stamp_by prev)
    ∙ ap (λ b. nat_lt 0 e.term && nat_le (then.term_of prev) e.term && nat_le e.term bound && nat_le (above (option_map (λ d. d.stamp) prev)) e.stamp && b) (on_same (Some e) bound es)

accepted_same : (log : List Entry) (prev : ℕ) (es : List Entry) → now.accepted log prev es ≡ before.accepted log prev es
accepted_same log prev es = ap (λ j. cond (j == prev + length es) log (take j log ++ drop (j - prev) es)) (agreed_same log prev es)

fits_cases : (a b c d : Bool) → not (a && b && not c && not d) ≡ (not (a && b) || c || d)
fits_cases false b c d = refl
fits_cases true false c d = refl
fits_cases true true true d = refl
fits_cases true true false true = refl
fits_cases true true false false = refl

fits_same : (log : List Entry) (commit prev bound : ℕ) (es : List Entry) →
    not (now.fits_on log commit prev bound es) ≡ (not (before.continues log prev bound es) || before.cuts_below commit log prev es || nat_lt before.LOG_LIMIT (length (before.accepted log prev es)))
fits_same log commit prev bound es =
    fits_cases (now.go_on (nth log prev) bound es) (now.go_on (nth log (members.agreed log prev es)) bound (drop (members.agreed log prev es - prev) es)) _ _
    ∙ ap (λ a. not (a && now.go_on (nth log (members.agreed log prev es)) bound (drop (members.agreed log prev es - prev) es)) || (nat_lt (members.agreed log prev es) (prev + length es) && nat_lt (members.agreed log prev es) commit) || nat_lt before.LOG_LIMIT (length (now.accepted log prev es))) (on_same (nth log prev) bound es)
    ∙ ap (λ j. not (before.go_on (nth log prev) bound es && now.go_on (nth log j) bound (drop (j - prev) es)) || (nat_lt j (prev + length es) && nat_lt j commit) || nat_lt before.LOG_LIMIT (length (cond (j == prev + length es) log (take j log ++ drop (j - prev) es)))) (agreed_same log prev es)
    ∙ ap (λ b. not (before.go_on (nth log prev) bound es && b) || before.cuts_below commit log prev es || nat_lt before.LOG_LIMIT (length (before.accepted log prev es))) (on_same (nth log (then.agreed log prev es)) bound (drop (then.agreed log prev es - prev) es))

append_cases : (t l s f : Bool) (x y z : Node) (nay nay' aye : List Message) →
    cond t (now.Moves x nay) (cond l now.Nothing (cond s (now.Moves y nay') (cond f now.Nothing (now.Moves z aye))))
    ≡ as_new (cond t (before.Moves (record { node = x; sent = nay })) (cond l before.Nothing (cond s (before.Moves (record { node = y; sent = nay' })) (cond f before.Nothing (before.Moves (record { node = z; sent = aye }))))))
append_cases true l s f x y z nay nay' aye = refl
append_cases false true s f x y z nay nay' aye = refl
append_cases false false true f x y z nay nay' aye = refl
append_cases false false false true x y z nay nay' aye = refl
append_cases false false false false x y z nay nay' aye = refl

append_same : (n me : ℕ) (reading : ℤ) (sender term prev prev_term : ℕ) (es : List Entry) (commit : ℕ) (x : Node) →
    now.on_body n me reading sender term (Append prev prev_term es commit) x ≡ as_new (before.on_append me sender term prev prev_term es commit x)
unfolding now.on_body before.on_append
append_same n me reading sender term prev prev_term es commit x =
    let y = before.follows sender x in
    let c = max x.commit (min commit (prev + length es)) in
    let nay = before.respond x me sender (Reply false 0) in
    let aye = before.respond x me sender (Reply true (prev + length es)) in
    let t = nat_lt term x.term in
    let l = is_leader x.role in
    ap (λ s. cond t (now.Moves x nay) (cond l now.Nothing (cond (not s) (now.Moves y nay) (cond (not (now.fits_on x.log x.commit prev term es)) now.Nothing (now.Moves (now.settled (record y { log = now.accepted x.log prev es; commit = c })) aye))))) (stands_same x.log prev prev_term)
    ∙ ap (λ f. cond t (now.Moves x nay) (cond l now.Nothing (cond (not (then.stands x.log prev prev_term)) (now.Moves y nay) (cond f now.Nothing (now.Moves (now.settled (record y { log = now.accepted x.log prev es; commit = c })) aye))))) (fits_same x.log x.commit prev term es)
    ∙ ap (λ log. cond t (now.Moves x nay) (cond l now.Nothing (cond (not (then.stands x.log prev prev_term)) (now.Moves y nay) (cond (not (before.continues x.log prev term es) || before.cuts_below x.commit x.log prev es || nat_lt before.LOG_LIMIT (length (before.accepted x.log prev es))) now.Nothing (now.Moves (now.settled (record y { log = log; commit = c })) aye))))) (accepted_same x.log prev es)
    ∙ ap (λ z. cond t (now.Moves x nay) (cond l now.Nothing (cond (not (then.stands x.log prev prev_term)) (now.Moves y nay) (cond (not (before.continues x.log prev term es) || before.cuts_below x.commit x.log prev es || nat_lt before.LOG_LIMIT (length (before.accepted x.log prev es))) now.Nothing (now.Moves z aye))))) (settled_same (before.takes_entries prev es commit y))
    ∙ append_cases t l (not (then.stands x.log prev prev_term)) _ x y (before.settled (before.takes_entries prev es commit y)) nay nay aye

-- ---- Reply

greatest_same : (p : ℕ → Bool) (n : ℕ) → greatest' p n ≡ before.greatest p n
unfolding greatest'
greatest_same p zero = refl
greatest_same p (suc n) = ap (λ k. cond (p (suc n)) (suc n) k) (greatest_same p n)

greatest_by : (p q : ℕ → Bool) → ((i : ℕ) → p i ≡ q i) → (n : ℕ) → before.greatest p n ≡ before.greatest q n
greatest_by p q e zero = refl
greatest_by p q e (suc n) = ap (λ b. cond b (suc n) (before.greatest p n)) (e (suc n)) ∙ ap (λ k. cond (q (suc n)) (suc n) k) (greatest_by p q e n)

matched_same : (n me : ℕ) (x : Node) (i : ℕ) → now.is_matched n me x i ≡ before.is_matched n me x i
matched_same n me x i = ap (λ b. (then.term_at x.log i == x.term) && b) (majority_same n (before.holds_to me x.matched i))

commit_same : (n me : ℕ) (x : Node) → greatest' (now.is_matched n me x) (length x.log) ≡ before.greatest (before.is_matched n me x) (length x.log)
commit_same n me x = greatest_same (now.is_matched n me x) (length x.log) ∙ greatest_by (now.is_matched n me x) (before.is_matched n me x) (matched_same n me x) (length x.log)

reply_cases : (l o m c k : Bool) (x back forth : Node) (b all all' one : List Message) → all ≡ all' →
    cond (not l) (now.Moves x []) (cond (not o) (now.Moves back b) (cond m now.Nothing (cond c (now.Moves forth all) (now.Moves forth (cond k one [])))))
    ≡ as_new (cond l (cond o (cond m before.Nothing (before.Moves (record { node = forth; sent = cond c all' (cond k one []) }))) (before.Moves (record { node = back; sent = b }))) (before.Moves (record { node = x; sent = [] })))
reply_cases false o m c k x back forth b all all' one e = refl
reply_cases true false m c k x back forth b all all' one e = refl
reply_cases true true true c k x back forth b all all' one e = refl
reply_cases true true false true k x back forth b all all' one e = ap (λ s. now.Moves forth s) e
reply_cases true true false false k x back forth b all all' one e = refl

reply_same : (n me : ℕ) (reading : ℤ) (sender term : ℕ) (ok : Bool) (matched : ℕ) (x : Node) → now.on_body n me reading sender term (Reply ok matched) x ≡ as_new (before.on_reply n me sender term ok matched x)
unfolding now.on_body before.on_reply_yes before.on_reply_no
reply_same n me reading sender term ok matched x =
    let l = is_leader x.role && (term == x.term) in
    let y = before.noted sender matched x in
    let back = before.stepped_back sender x in
    let after = λ (z : Node). cond (not l) (now.Moves x []) (cond (not ok) (now.Moves back (before.append_to back me sender ∷ [])) (cond (nat_lt (length x.log) matched) now.Nothing
    (cond (nat_lt x.commit z.commit) (now.Moves z (now.to_all n me (now.append_to n me z))) (now.Moves z (cond (nat_le (nth_or z.next sender 0) (length x.log)) (before.append_to z me sender ∷ []) []))))) in
    ap (λ k. after (now.settled (record y { commit = max x.commit k }))) (commit_same n me y)
    ∙ ap after (settled_same (before.commits n me y))
    ∙ (let z = before.settled (before.commits n me y) in
    reply_cases l ok (nat_lt (length x.log) matched) (nat_lt x.commit z.commit) (nat_le (nth_or z.next sender 0) (length x.log)) x back z (before.append_to back me sender ∷ []) _ _ (before.append_to z me sender ∷ []) (appends_same n me z))

-- ---- Stored

stored_cases : (b p q : Bool) (x y z : Node) (sent more : List Message) → sent ≡ more →
    cond (not b) (now.Moves x []) (cond (p || not q) (now.Moves y []) (now.Moves z sent))
    ≡ as_new (before.Moves (cond b (cond (not p && q) (record { node = z; sent = more }) (record { node = y; sent = [] })) (record { node = x; sent = [] })))
stored_cases false p q x y z sent more e = refl
stored_cases true true q x y z sent more e = refl
stored_cases true false false x y z sent more e = refl
stored_cases true false true x y z sent more e = ap (λ s. now.Moves z s) e

stored_same : (n me : ℕ) (reading : ℤ) (sender term index floor : ℕ) (x : Node) → now.on_body n me reading sender term (Stored index floor) x ≡ as_new (before.Moves (before.on_stored n me sender term index floor x))
unfolding now.on_body before.on_stored
stored_same n me reading sender term index floor x =
    let y = before.with_stored sender x in
    let b = is_leader x.role && (term == x.term) && before.asks_for x.asked index floor in
    let seal : SealedFloor = record { term = term; index = index; floor = floor } in
    let after = λ (p q : Bool) (z : Node). cond (not b) (now.Moves x []) (cond (p || not q) (now.Moves y []) (now.Moves z (now.to_all n me (now.message n me y (Seal index floor))))) in
    ap (λ p. after p (members.is_majority n (is_in y.stored)) (now.learned seal y)) (majority_same n (is_in x.stored))
    ∙ ap (λ q. after (then.is_majority n (is_in x.stored)) q (now.learned seal y)) (majority_same n (is_in y.stored))
    ∙ ap (λ z. after (then.is_majority n (is_in x.stored)) (then.is_majority n (is_in y.stored)) z) (learned_same seal y)
    ∙ stored_cases b (then.is_majority n (is_in x.stored)) (then.is_majority n (is_in y.stored)) x y (before.learned seal y) _ _ (tells_same n me y (Seal index floor))

-- ---- every message

body_same : (n me : ℕ) (reading : ℤ) (sender term : ℕ) (body : Body) (x : Node) → now.on_body n me reading sender term body x ≡ as_new (before.on_body n me reading sender term body x)
unfolding now.on_body
body_same n me reading sender term (RequestVote i t) x = vote_same n me reading sender term i t x
body_same n me reading sender term (Vote given floor) x = won_same n me reading sender term given floor x
body_same n me reading sender term (Append prev prev_term es commit) x = append_same n me reading sender term prev prev_term es commit x
body_same n me reading sender term (Reply ok matched) x = reply_same n me reading sender term ok matched x
body_same n me reading sender term (Seek index floor) x = seek_same n me reading sender term index floor x
body_same n me reading sender term (Stored index floor) x = stored_same n me reading sender term index floor x
body_same n me reading sender term (Seal index floor) x = ap (λ y. now.Moves y []) (learned_same (record { term = term; index = index; floor = floor }) x)

and_true : (b : Bool) → b ≡ b && true
and_true true = refl
and_true false = refl

and_shift : (a b c : Bool) → (a && b && c) ≡ (a && b && c && true)
and_shift a b c = and_true (a && b && c)

and_spread : (p a b c d : Bool) → p && (a && b && c && d) ≡ p && a && b && c && d
and_spread true a b c d = refl
and_spread false a b c d = refl

said_same : (language : Language) (term : ℕ) (body : Body) → now.can_be_said language term body
    ≡ nat_le (length (before.entries_of body)) 64 && before.go_on None term (before.entries_of body) && list_all (λ e. before.spells language e.request) (before.entries_of body) && before.floor_fits body
said_same language term (RequestVote i t) = refl
said_same language term (Vote given floor) = refl
said_same language term (Append prev prev_term es commit) =
    ap (λ b. nat_le (length es) 64 && b && list_all (λ e. before.spells language e.request) es) (on_same None term es)
    ∙ and_shift (nat_le (length es) 64) (before.go_on None term es) (list_all (λ e. before.spells language e.request) es)
said_same language term (Reply ok matched) = refl
said_same language term (Seek index floor) = refl
said_same language term (Stored index floor) = refl
said_same language term (Seal index floor) = refl

honest_same : (language : Language) (n me : ℕ) (m : Message) → now.is_honest language n me m ≡ before.is_honest language n me m
honest_same language n me m = ap (λ b. (m.addressee == me) && nat_lt 0 m.sender && nat_le m.sender n && not (m.sender == me) && nat_lt 0 m.term && nat_le m.term before.TERM_LAST && b) (said_same language m.term m.body)
    ∙ and_spread ((m.addressee == me) && nat_lt 0 m.sender && nat_le m.sender n && not (m.sender == me) && nat_lt 0 m.term && nat_le m.term before.TERM_LAST) _ _ _ _

pub message_same : (language : Language) (n me : ℕ) (reading : ℤ) (m : Message) (x : Node) → now.on_message n me language reading m x ≡ as_new (before.on_message language n me reading m x)
message_same language n me reading m x =
    ap (λ b. cond b (now.on_body n me reading m.sender m.term m.body (now.hears m.term x)) now.Nothing) (honest_same language n me m)
    ∙ ap (λ y. cond (before.is_honest language n me m) (now.on_body n me reading m.sender m.term m.body y) now.Nothing) (hears_same m.term x)
    ∙ ap (λ e. cond (before.is_honest language n me m) e now.Nothing) (body_same n me reading m.sender m.term m.body (before.hears m.term x))
    ∙ if_new (before.is_honest language n me m) _ _
