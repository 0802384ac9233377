-- The world after an event, and after events, is what it is today.
use Rattle.std.proofs.Common.{◌≡◌, ℕ, ◌&&◌, Bool, true, false, cond, not, Option, Some, None, List, [], ◌∷◌, ◌++◌, ◌+◌, ◌-◌, length, refl, ap, ◌∙◌, map, append-nil}
use Rattle.std.specs.Prelude.{ℤ, Result, Ok, Err, fold, scan, flat_map, nat_lt}
use Rattle.std.specs.Option.{option_map_or}
use Rattle.std.specs.List.{enumerate_from, filter_map, range_with_len}
use Rattle.fault.specs.declared.refusal.Refusal.{Refusal}
use Rattle.fault.specs.declared.refusal.Refusal.TheVariants.{NodeDown}
use Rattle.model.specs.Lists.{nth}
use Rattle.model.specs.Transactions.{Language, Statement}
use Rattle.model.specs.declared.entry.Entry.{Entry}
use Rattle.model.specs.declared.message.Message.{Message}
use Rattle.model.specs.declared.message.Input.TheVariants.{Timeout, Beat, Close, Submit, Floor}
use Rattle.model.specs.declared.event.Job.{Job}
use Rattle.model.specs.declared.event.Job.TheVariants.{Local, Delivery}
use Rattle.model.specs.declared.event.Left.{Left}
use Rattle.model.specs.declared.event.Left.TheVariants.{Old, New}
use Rattle.model.specs.Members.{Node, applied}
use Rattle.model.specs.Steps as before
use Rattle.model.specs.Worlds.{World, Event, Hand, Deliver, Stop, Start, Torn, Ask, Output, Sent, Applied, Refused, stopped}
use Rattle.model.specs.Worlds as world
use Rattle.model.specs.Agreement as agreement
use Rattle.believed.specs.Steps as now
use Rattle.believed.specs.Logs as told_log
use Rattle.believed.specs.Worlds as later
use Rattle.believed.specs.Agreement as decide
use Rattle.believed.proofs.Bridges.{as_new}
use Rattle.believed.proofs.StepsSame.{message_same, input_same}
use Rattle.believed.proofs.LogsSame.{told_at_same}

submit_cases : (reads : Result (List Statement) Refusal) (p : now.Effect) (q : before.Effect) → p ≡ as_new q →
    elim (reads) [ Ok statements ↦ p | Err refusal ↦ now.Refuses refusal ] ≡ as_new (elim (reads) [ Ok statements ↦ q | Err refusal ↦ before.Refuses refusal ])
submit_cases (Ok statements) p q e = e
submit_cases (Err refusal) p q e = refl

message_cases : (language : Language) (n m : ℕ) (reading : ℤ) (x : Node) (found : Option Message) →
    option_map_or (λ message. now.on_message n m language reading message x) found now.Nothing
    ≡ as_new (option_map_or (λ message. before.on_message language n m reading message x) found before.Nothing)
message_cases language n m reading x None = refl
message_cases language n m reading x (Some p) = message_same language n m reading p x

effect_same : (language : Language) (n : ℕ) (w : World) (m : ℕ) (job : Job) (x : Node) → later.effect language n w m job x ≡ as_new (world.effect language n w m job x)
effect_same language n w m (Local Timeout) x = input_same n m Timeout x
effect_same language n w m (Local Beat) x = input_same n m Beat x
effect_same language n w m (Local (Close reading)) x = input_same n m (Close reading) x
effect_same language n w m (Local (Floor reading)) x = input_same n m (Floor reading) x
effect_same language n w m (Local (Submit reading request)) x = submit_cases (language.reads request.text) _ _ (input_same n m (Submit reading request) x)
effect_same language n w m (Delivery k reading) x = message_cases language n m reading x (nth w.sent k)

stepped_same : (language : Language) (w : World) (m : ℕ) (x : Node) (e : before.Effect) → (later.stepped language w m x (as_new e)).0 ≡ world.done w m e
stepped_same language w m x (before.Moves a) = refl
stepped_same language w m x (before.Refuses r) = refl
stepped_same language w m x before.Nothing = refl

up_cases : (up : Bool) (p : World × List Output) (q w : World) (out : List Output) → p.0 ≡ q → (cond up p (w, out)).0 ≡ cond up q w
up_cases true p q w out e = e
up_cases false p q w out e = refl

done_by : (language : Language) (n : ℕ) (w : World) (m : ℕ) (job : Job) (found : Option Node) →
    (option_map_or (λ x. cond x.up (later.stepped language w m x (later.effect language n w m job x)) (w, Refused m NodeDown ∷ [])) found (w, [])).0 ≡ world.does language n w m job found
done_by language n w m job None = refl
done_by language n w m job (Some x) = up_cases x.up _ _ w (Refused m NodeDown ∷ [])
    (ap (λ e. (later.stepped language w m x e).0) (effect_same language n w m job x) ∙ stepped_same language w m x (world.effect language n w m job x))

done_same : (language : Language) (n : ℕ) (w : World) (m : ℕ) (job : Job) → (later.done language n w m job).0 ≡ world.does language n w m job (nth w.nodes m)
done_same language n w m job = done_by language n w m job (nth w.nodes m)

deliver_by : (language : Language) (n : ℕ) (w : World) (job : Job) (found : Option Message) →
    (option_map_or (λ p. later.done language n w p.addressee job) found (w, [])).0 ≡ world.delivers language n w job found
deliver_by language n w job None = refl
deliver_by language n w job (Some p) = done_same language n w p.addressee job

stop_by : (w : World) (m : ℕ) (found : Option Node) → option_map_or (λ x. cond x.up (later.with_node w m (stopped x) []) w) found w ≡ world.stops w m found
stop_by w m None = refl
stop_by w m (Some x) = refl

not_cases : (b : Bool) (p q : World) → cond (not b) p q ≡ cond b q p
not_cases true p q = refl
not_cases false p q = refl

start_by : (w : World) (m : ℕ) (found : Option Node) → option_map_or (λ x. cond (not x.up) (later.with_node w m (record (stopped x) { up = true }) []) w) found w ≡ world.starts w m found
start_by w m None = refl
start_by w m (Some x) = not_cases x.up _ _

left_same : (left : Left) (x : Node) (e : before.Effect) → later.left_of left x (as_new e) ≡ world.node_left left x e
left_same New x (before.Moves a) = refl
left_same New x (before.Refuses r) = refl
left_same New x before.Nothing = refl
left_same Old x (before.Moves a) = refl
left_same Old x (before.Refuses r) = refl
left_same Old x before.Nothing = refl

for_same : (w : World) (m : ℕ) (job : Job) → later.is_for w m job ≡ world.is_for w m job
for_same w m (Local input) = refl
for_same w m (Delivery k reading) = refl

tear_by : (language : Language) (n : ℕ) (w : World) (m : ℕ) (job : Job) (left : Left) (found : Option Node) →
    option_map_or (λ x. cond (x.up && later.is_for w m job) (later.with_node w m (stopped (later.left_of left x (later.effect language n w m job x))) []) w) found w
    ≡ world.tears language n w m job left found
tear_by language n w m job left None = refl
tear_by language n w m job left (Some x) =
    ap (λ b. cond (x.up && b) (later.with_node w m (stopped (later.left_of left x (later.effect language n w m job x))) []) w) (for_same w m job)
    ∙ ap (λ e. cond (x.up && world.is_for w m job) (later.with_node w m (stopped (later.left_of left x e)) []) w) (effect_same language n w m job x)
    ∙ ap (λ y. cond (x.up && world.is_for w m job) (later.with_node w m (stopped y) []) w) (left_same left x (world.effect language n w m job x))

pub happens_same : (language : Language) (n : ℕ) (w : World) (e : Event) → later.happens language n w e ≡ world.happens language n w e
happens_same language n w (Hand m input) = done_same language n w m (Local input)
happens_same language n w (Deliver k reading) = deliver_by language n w (Delivery k reading) (nth w.sent k)
happens_same language n w (Stop m) = stop_by w m (nth w.nodes m)
happens_same language n w (Start m) = start_by w m (nth w.nodes m)
happens_same language n w (Torn m job left) = tear_by language n w m job left (nth w.nodes m)
happens_same language n w (Ask m q) = refl

pub run_same : (language : Language) (n : ℕ) (w : World) (es : List Event) → later.run language n w es ≡ world.run language n w es
run_same language n w [] = refl
run_same language n w (e ∷ es) = ap (λ v. fold (later.happens language n) v es) (happens_same language n w e) ∙ run_same language n (world.happens language n w e) es

-- ---- outputs

numbered_same : (k : ℕ) (sent : List Message) → map (λ (s : ℕ × Message). Sent s.0 s.1) (enumerate_from (k + 1) sent) ≡ world.numbered k sent
numbered_same k [] = refl
numbered_same k (message ∷ more) = ap (λ xs. Sent (k + 1) message ∷ xs) (numbered_same (k + 1) more)

tells_same : (language : Language) (m : ℕ) (x y : Node) →
    map (Applied m) (filter_map (told_log.told_at language y.log) (range_with_len (x.commit + 1) (y.commit - x.commit))) ≡ world.tells language m x y
tells_same language m x y = λ i. map (Applied m) (filter_map (λ k. told_at_same language y.log k i) (range_with_len (x.commit + 1) (y.commit - x.commit)))

gives_same : (language : Language) (w : World) (m : ℕ) (x : Node) (e : before.Effect) → (later.stepped language w m x (as_new e)).1 ≡ world.effect_gives language w m x e
gives_same language w m x (before.Moves a) = ap (λ xs. xs ++ map (Applied m) (filter_map (told_log.told_at language a.node.log) (range_with_len (x.commit + 1) (a.node.commit - x.commit)))) (numbered_same (length w.sent) a.sent)
    ∙ ap (λ xs. world.numbered (length w.sent) a.sent ++ xs) (tells_same language m x a.node)
gives_same language w m x (before.Refuses r) = refl
gives_same language w m x before.Nothing = refl

gives_cases : (up : Bool) (p : World × List Output) (out : List Output) (w : World) (down : List Output) → p.1 ≡ out → (cond up p (w, down)).1 ≡ cond up out down
gives_cases true p out w down e = e
gives_cases false p out w down e = refl

gives_by : (language : Language) (n : ℕ) (w : World) (m : ℕ) (job : Job) (found : Option Node) →
    (option_map_or (λ x. cond x.up (later.stepped language w m x (later.effect language n w m job x)) (w, Refused m NodeDown ∷ [])) found (w, [])).1 ≡ world.step_gives language n w m job found
gives_by language n w m job None = refl
gives_by language n w m job (Some x) = gives_cases x.up _ _ w (Refused m NodeDown ∷ [])
    (ap (λ e. (later.stepped language w m x e).1) (effect_same language n w m job x) ∙ gives_same language w m x (world.effect language n w m job x))

pub job_gives : (language : Language) (n : ℕ) (w : World) (m : ℕ) (job : Job) → (later.done language n w m job).1 ≡ world.step_gives language n w m job (nth w.nodes m)
job_gives language n w m job = gives_by language n w m job (nth w.nodes m)

delivery_by : (language : Language) (n : ℕ) (w : World) (job : Job) (found : Option Message) →
    (option_map_or (λ p. later.done language n w p.addressee job) found (w, [])).1 ≡ world.delivery_gives language n w job found
delivery_by language n w job None = refl
delivery_by language n w job (Some p) = job_gives language n w p.addressee job

pub delivery_same : (language : Language) (n : ℕ) (w : World) (k : ℕ) (reading : ℤ) → (later.comes language n w (Deliver k reading)).1 ≡ world.delivery_gives language n w (Delivery k reading) (nth w.sent k)
delivery_same language n w k reading = delivery_by language n w (Delivery k reading) (nth w.sent k)

-- ---- what is decided

longest_same : (best : List Entry) (xs : List Node) → fold (λ best list. cond (nat_lt (length best) (length list)) list best) best (map (λ x. applied x) xs) ≡ agreement.longest best xs
longest_same best [] = refl
longest_same best (x ∷ xs) = longest_same (agreement.longer best (applied x)) xs

longest_append : (f : Node → List Entry) (best : List Entry) (xs ys : List Node) → fold (λ best list. cond (nat_lt (length best) (length list)) list best) best (map f (xs ++ ys))
    ≡ fold (λ best list. cond (nat_lt (length best) (length list)) list best) (fold (λ best list. cond (nat_lt (length best) (length list)) list best) best (map f xs)) (map f ys)
longest_append f best [] ys = refl
longest_append f best (x ∷ xs) ys = longest_append f (cond (nat_lt (length best) (length (f x))) (f x) best) xs ys

decided_by : (language : Language) (n : ℕ) (best : List Entry) (w : World) (es : List Event) →
    fold (λ best list. cond (nat_lt (length best) (length list)) list best) best (map (λ x. applied x) (flat_map (λ w. w.nodes) (w ∷ scan (later.happens language n) (later.happens language n) w es)))
    ≡ agreement.decided_from language n best w es
decided_by language n best w [] = ap (λ xs. fold (λ best list. cond (nat_lt (length best) (length list)) list best) best (map (λ x. applied x) xs)) (append-nil w.nodes) ∙ longest_same best w.nodes
decided_by language n best w (e ∷ es) =
    longest_append (λ x. applied x) best w.nodes (flat_map (λ w. w.nodes) (later.happens language n w e ∷ scan (later.happens language n) (later.happens language n) (later.happens language n w e) es))
    ∙ ap (λ b. fold (λ best list. cond (nat_lt (length best) (length list)) list best) b (map (λ x. applied x) (flat_map (λ w. w.nodes) (later.happens language n w e ∷ scan (later.happens language n) (later.happens language n) (later.happens language n w e) es)))) (longest_same best w.nodes)
    ∙ ap (λ v. fold (λ best list. cond (nat_lt (length best) (length list)) list best) (agreement.longest best w.nodes) (map (λ x. applied x) (flat_map (λ w. w.nodes) (v ∷ scan (later.happens language n) (later.happens language n) v es)))) (happens_same language n w e)
    ∙ decided_by language n (agreement.longest best w.nodes) (world.happens language n w e) es

pub decided_same : (language : Language) (n : ℕ) (outset : World) (events : List Event) → decide.decided language n outset events ≡ agreement.decided language n outset events
decided_same language n outset events = decided_by language n [] outset events
