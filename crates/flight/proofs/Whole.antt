-- A flight file from its first line to its last.
use Rattle.std.proofs.Common.{◌≡◌, ◌≢◌, ◌∙◌, ℕ, List, [], ◌∷◌, ◌++◌, refl, sym, ap, subst, inl, inr, ◌⊎◌, Bool, true, false, length, arith}
use Rattle.std.specs.Prelude.{codes, All, Ok, ⊤, ◌==◌}
use Rattle.fault.specs.declared.refusal.Refusal.{Refusal}
use Rattle.fault.specs.declared.refusal.Refusal.TheVariants.{NoMemory, BadFlight}
use Rattle.sqlchecks.specs.Columns.{Tables}
use Rattle.schemaread.specs.Schemas.{SchemaSays}
use Rattle.flight.specs.declared.reading.Head.{Head}
use Rattle.flight.specs.declared.flight.Version.{Version}
use Rattle.flight.specs.declared.flight.Answered.{Answered}
use Rattle.flight.specs.Contents.{LifeContents, FlightContents}
use Rattle.flight.specs.Spelling.{version_text, block_text}
use Rattle.flight.specs.Ranges.{IsLife, IsAnswer, one_at_a_time}
use Rattle.flight.specs.Courses.{lives_text, AreLives}
use Rattle.flight.specs.Files.{IsFileOf, IsOnlyOf, IsNoFile}
use Rattle.flight.specs.Heads.{heading_text, IsHead}
use Rattle.flight.specs.Reading.{Spells, SpellsOnly, IsUnread, IsAfter, IsNotBegun}

-- what stands after the head
abbrev after_head : FlightContents → List ℕ
after_head g = block_text g.schema (lives_text g.version (g.lives, g.answers) [])

-- the queries read over the one schema that the text declares
over : (a b : Tables) (answers : List Answered) → a ≡ b → All (IsAnswer a) answers → All (IsAnswer b) answers
over a b answers e h = subst (λ (t : Tables). All (IsAnswer t) answers) e h

module _ (text : List ℕ) where
  pub no_version : (r : Refusal) → IsUnread (λ _. ⊤) version_text text r → IsNoFile text r
  no_version r (inl memory) = inl memory
  no_version r (inr (bad, none)) = inr (bad, λ g h. none g.version (heading_text (record { node = g.node; members = g.members }) (codes "schema " ++ after_head g)) tt h.1)

  module _ (version : Version) (rest : List ℕ) (versions : SpellsOnly (λ _. ⊤) version_text text version rest) where
    versioned : (g : FlightContents) → IsFileOf text g → (g.version ≡ version) × (rest ≡ heading_text (record { node = g.node; members = g.members }) (codes "schema " ++ after_head g))
    versioned g h = let o = versions g.version (heading_text (record { node = g.node; members = g.members }) (codes "schema " ++ after_head g)) tt h.1 in (o.0, sym o.1)

    pub no_head : (r : Refusal) → IsUnread IsHead heading_text rest r → IsNoFile text r
    no_head r (inl memory) = inl memory
    no_head r (inr (bad, none)) = inr (bad, λ g h. none (record { node = g.node; members = g.members }) (codes "schema " ++ after_head g) h.0.0 (versioned g h).1)

    module _ (head : Head) (first : List ℕ) (heads : SpellsOnly IsHead heading_text rest head first) where
      headed : (g : FlightContents) → IsFileOf text g → (record { node = g.node; members = g.members } ≡ head) × (first ≡ codes "schema " ++ after_head g)
      headed g h = let o = heads (record { node = g.node; members = g.members }) (codes "schema " ++ after_head g) h.0.0 (versioned g h).1 in (o.0, sym o.1)

      pub no_word : (r : Refusal) → r ≡ BadFlight → IsNotBegun (codes "schema ") first → IsNoFile text r
      no_word r bad not = inr (bad, λ g h. not (after_head g) (headed g h).1)

      module _ (second : List ℕ) (after : IsAfter (codes "schema ") first second) where
        worded : (g : FlightContents) → IsFileOf text g → second ≡ after_head g
        worded g h = sym (after.1 (after_head g) (headed g h).1)

        pub no_block : (r : Refusal) → IsUnread (λ _. ⊤) block_text second r → IsNoFile text r
        no_block r (inl memory) = inl memory
        no_block r (inr (bad, none)) = inr (bad, λ g h. none g.schema (lives_text g.version (g.lives, g.answers) []) tt (worded g h))

        module _ (schema third : List ℕ) (blocks : SpellsOnly (λ _. ⊤) block_text second schema third) where
          declared : (g : FlightContents) → IsFileOf text g → (g.schema ≡ schema) × (third ≡ lives_text g.version (g.lives, g.answers) [])
          declared g h = let o = blocks g.schema (lives_text g.version (g.lives, g.answers) []) tt (worded g h) in (o.0, sym o.1)

          says_of : (g : FlightContents) → IsFileOf text g → (tables : Tables) → SchemaSays g.schema (Ok tables) → SchemaSays schema (Ok tables)
          says_of g h tables says = subst (λ (s : List ℕ). SchemaSays s (Ok tables)) (declared g h).0 says

          pub no_tables : (r : Refusal) → (r ≡ NoMemory) ⊎ ((r ≡ BadFlight) × ((tables : Tables) → SchemaSays schema (Ok tables) → ⊥)) → IsNoFile text r
          no_tables r (inl memory) = inl memory
          no_tables r (inr (bad, none)) = inr (bad, λ g h. none h.0.1.0 (says_of g h h.0.1.0 h.0.1.1))

          module _ (tables : Tables) (one : (other : Tables) → SchemaSays schema (Ok other) → other ≡ tables) where
            lived : (g : FlightContents) → IsFileOf text g → AreLives version head.node tables (g.lives, g.answers)
            lived g h =
                let asking = h.0.1 in
                let node : g.node ≡ head.node = ap (λ (x : Head). x.node) (headed g h).0 in
                (subst (λ (n : ℕ). All (IsLife version n) g.lives) node (subst (λ (v : Version). All (IsLife v g.node) g.lives) (versioned g h).0 h.0.2), over asking.0 tables g.answers (one asking.0 (says_of g h asking.0 asking.1)) asking.2)

            spelled : (g : FlightContents) → IsFileOf text g → third ≡ lives_text version (g.lives, g.answers) []
            spelled g h = (declared g h).1 ∙ ap (λ (v : Version). lives_text v (g.lives, g.answers) []) (versioned g h).0

            pub no_lives : (r : Refusal) → IsUnread (AreLives version head.node tables) (lives_text version) third r → IsNoFile text r
            no_lives r (inl memory) = inl memory
            no_lives r (inr (bad, none)) = inr (bad, λ g h. none (g.lives, g.answers) [] (lived g h) (spelled g h))

            module _ (lives : List LifeContents) (answers : List Answered) (fourth : List ℕ) (only : SpellsOnly (AreLives version head.node tables) (lives_text version) third (lives, answers) fourth) where
              ended : (g : FlightContents) → IsFileOf text g → (g.lives ≡ lives) × (g.answers ≡ answers) × ([] ≡ fourth)
              ended g h =
                  let o = only (g.lives, g.answers) [] (lived g h) (spelled g h) in
                  ((λ i. (o.0 i).0), (λ i. (o.0 i).1), o.1)

              pub not_ended : (r : Refusal) → r ≡ BadFlight → fourth ≢ [] → IsNoFile text r
              not_ended r bad more = inr (bad, λ g h. more (sym (ended g h).2))

              pub not_in_turn : (r : Refusal) → r ≡ BadFlight → one_at_a_time lives ≢ true → IsNoFile text r
              not_in_turn r bad not = inr (bad, λ g h. not (subst (λ (l : List LifeContents). one_at_a_time l ≡ true) (ended g h).0 h.0.3))

              pub only_flight : IsOnlyOf text (record { version = version; node = head.node; members = head.members; schema = schema; lives = lives; answers = answers })
              only_flight = λ g h.
                  let v = (versioned g h).0 in
                  let a = (headed g h).0 in
                  let b = (declared g h).0 in
                  let d = ended g h in
                  (λ i. record { version = v i; node = (a i).node; members = (a i).members; schema = b i; lives = d.0 i; answers = d.1 i })

-- ---- a file that was read

module _ (text : List ℕ) (version : Version) (rest : List ℕ) (head : Head) (first second schema third : List ℕ) (tables : Tables) (lives : List LifeContents) (answers : List Answered) (fourth : List ℕ) where
  pub file_of : text ≡ version_text version rest → Spells IsHead heading_text rest head first → first ≡ codes "schema " ++ second → second ≡ block_text schema third → SchemaSays schema (Ok tables)
      → Spells (AreLives version head.node tables) (lives_text version) third (lives, answers) fourth → fourth ≡ [] → one_at_a_time lives ≡ true
      → IsFileOf text (record { version = version; node = head.node; members = head.members; schema = schema; lives = lives; answers = answers })
  file_of line h word block says l end turn =
      let whole : third ≡ lives_text version (lives, answers) [] = l.1 ∙ ap (λ r. lives_text version (lives, answers) r) end in
      ((h.0, (tables, says, l.0.1), l.0.0, turn), line ∙ ap (λ r. version_text version r) (h.1 ∙ ap (λ r. heading_text head r) (word ∙ ap (λ r. codes "schema " ++ r) (block ∙ ap (λ r. block_text schema r) whole))))

-- ---- tests

pub not_empty : (xs : List ℕ) (b : Bool) → b ≡ (length xs == 0) → b ≡ false → xs ≢ []
not_empty xs b test is = λ e. let h : false ≡ true = sym is ∙ test ∙ ap (λ l. length l == 0) e in absurd (cc h)

pub all_read : (xs : List ℕ) → length xs ≡ 0 → xs ≡ []
all_read [] none = refl
all_read (x ∷ xs) none = absurd (omega (arith, none))

pub not_true : (b : Bool) → b ≡ false → b ≢ true
not_true b is = λ e. let h : false ≡ true = sym is ∙ e in absurd (cc h)
