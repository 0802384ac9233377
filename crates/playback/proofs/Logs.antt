-- Logs that are read entry by entry, and what members are left with.
use Rattle.std.proofs.Common.{◌≡◌, ◌∙◌, ℕ, ◌+◌, List, [], ◌∷◌, ◌++◌, length, take, Option, Some, None, Bool, true, false, Result, Ok, Err, refl, sym, ap, subst, add-one, length-append}
use Rattle.std.specs.Result.{OnOk}
use Rattle.std.specs.Prelude.{slice_get, option_and_then, option_map, if◌then◌else◌}
use Rattle.keep.specs.Durable.{Durable}
use Rattle.model.specs.Lists.{nth}
use Rattle.model.specs.Members.{Node}
use Rattle.model.specs.Worlds.{Start, Stop}
use Rattle.model.specs.declared.entry.Entry.{Entry}
use Rattle.std.proofs.Math.Seq.{take-length}
use Rattle.std.proofs.lemmas.List.{take_more}
use Rattle.std.proofs.lemmas.Option.{get_or_from_slice_get, slice_get_within}
use Rattle.sqlchecks.specs.Columns.{Tables}
use Rattle.world.specs.Deeds.{Deed}
use Rattle.world.specs.Resumed.{deeds_of, members_of, tables_of}
use Rattle.world.specs.declared.resumed.Resumed.{Resumed}
use Rattle.world.specs.View.{StoredState, durable_in, durable_of, entry_in, stored_of}
use Rattle.playback.specs.Histories.{History, BeginsLog, HasEntry, HasState, HasStored, history_of, member_in}
use Rattle.playback.specs.Playing.{GoesDown, IsLeft}
use Rattle.playback.specs.Scenes.{Scene, happened}

-- ---- entry by entry

-- what is told of an entry of a member that is up is the entry there
entry_of : (index : ℕ) (o : Option Node) (x : Node) (e : Entry) → o ≡ Some x → x.up ≡ true → Some e ≡ entry_in index o → nth x.log index ≡ Some e
entry_of index o x e there up told =
    sym (told ∙ ap (λ (p : Option Node). entry_in index p) there ∙ ap (λ (b : Bool). option_and_then (λ (y : Node). nth y.log index) (if b then Some x else None)) up)

-- the same was done with members of whom something is read
pub history_stays : (was now : Resumed) → deeds_of now ≡ deeds_of was → (tables_of now ≡ tables_of was) × (members_of now ≡ members_of was) → history_of now ≡ history_of was
history_stays was now deeds same =
    ap (λ (l : List Deed). let h : History = record { tables = tables_of now; members = members_of now; deeds = l } in h) deeds
    ∙ ap (λ (t : Tables). let h : History = record { tables = t; members = members_of now; deeds = deeds_of was } in h) same.0
    ∙ ap (λ (n : ℕ). let h : History = record { tables = tables_of was; members = n; deeds = deeds_of was } in h) same.1

-- one entry more
next_entry : (log items : List Entry) (i : ℕ) (e : Entry) → length items ≡ i → items ≡ take (length items) log → slice_get log i ≡ Some e → items ++ e ∷ [] ≡ take (length (items ++ e ∷ [])) log
next_entry log items i e count begins got =
    let first : items ≡ take i log = begins ∙ ap (λ (n : ℕ). take n log) count in
    let longer : length (items ++ e ∷ []) ≡ i + 1 = length-append items (e ∷ []) ∙ ap (λ (n : ℕ). n + 1) count in
    let more : take (i + 1) log ≡ take i log ++ e ∷ [] = take_more log i e (slice_get_within log i e got) ∙ ap (λ (y : Entry). take i log ++ y ∷ []) (get_or_from_slice_get log i e e got) in
    ap (λ (l : List Entry). l ++ e ∷ []) first ∙ sym more ∙ ap (λ (n : ℕ). take n log) (sym longer)

pub begins_none : (h : History) (m : ℕ) → BeginsLog h m []
begins_none h m = λ x there up. refl

pub begins_more : (h : History) (m i : ℕ) (items : List Entry) (e : Entry) → length items ≡ i → BeginsLog h m items → HasEntry h m (i + 1) (Some e) → BeginsLog h m (items ++ e ∷ [])
begins_more h m i items e count begins has = λ x there up.
    let got : nth x.log (i + 1) ≡ Some e = entry_of (i + 1) (member_in h m) x e there up has in
    let here : slice_get x.log i ≡ Some e = subst (λ (k : ℕ). nth x.log k ≡ Some e) (add-one i) got in
    next_entry x.log items i e count (begins x there up) here

-- ---- all that a member has stored

-- what is told of a member that is up is what it has stored
state_of : (o : Option Node) (state : StoredState) → Some state ≡ durable_in o → (x : Node) × (o ≡ Some x) × (x.up ≡ true) × (state ≡ stored_of (durable_of x))
state_of None state told = absurd (let bad : Some state ≡ None = told in cc)
state_of (Some x) state told = go x.up refl
  where
    go : (b : Bool) → x.up ≡ b → (y : Node) × (Some x ≡ Some y) × (y.up ≡ true) × (state ≡ stored_of (durable_of y))
    go true up =
        let is : Some state ≡ Some (stored_of (durable_of x)) = told ∙ ap (λ (c : Bool). option_map (λ (y : Node). stored_of (durable_of y)) (if c then Some x else None)) up in
        (x, refl, up, cc)
    go false down =
        let is : Some state ≡ None = told ∙ ap (λ (c : Bool). option_map (λ (y : Node). stored_of (durable_of y)) (if c then Some x else None)) down in
        absurd (cc)

pub has_stored : (h : History) (m : ℕ) (state : StoredState) (log : List Entry) → HasState h m (Some state) → length log ≡ state.length → BeginsLog h m log
    → HasStored h m (record { hard = state.hard; log = log })
has_stored h m state log told count begins =
    let at = state_of (member_in h m) state told in
    let x : Node = at.0 in
    let hard : state.hard ≡ (durable_of x).hard = ap (λ (s : StoredState). s.hard) at.3 in
    let whole : length log ≡ length x.log = count ∙ ap (λ (s : StoredState). s.length) at.3 in
    let same : log ≡ x.log = begins x at.1 at.2 ∙ ap (λ (n : ℕ). take n x.log) whole ∙ take-length x.log in
    (x, at.1, at.2, ap (λ (k : _). record (durable_of x) { hard = k }) (sym hard) ∙ ap (λ (l : List Entry). record { hard = state.hard; log = l }) (sym same))

-- a member is left with this, where it went down, was started, had it, and was stopped
pub is_left : (s met mid a b t : Scene) (m : ℕ) (d : Durable) → met ≡ s → GoesDown met m mid → a ≡ happened mid (Start m) → HasStored a.history m d → b ≡ a → t ≡ happened b (Stop m) → IsLeft s m d t
is_left s met mid a b t m d known down starts has same stops = (
  mid,
  subst (λ (z : Scene). GoesDown z m mid) known down,
  subst (λ (z : Scene). HasStored z.history m d) starts has,
  stops ∙ ap (λ (z : Scene). happened z (Stop m)) (same ∙ starts),
)

-- what holds of what is given holds of what comes of it
pub on_ok : {A E : Type 0} (r : Result A E) {P Q : Type 0} → (P → Q) → OnOk r P → OnOk r Q
on_ok (Ok a) f ok = f ok
on_ok (Err e) f ok = ok
