-- What becomes of a message, by the words of a generator.
use Rattle.std.specs.Prelude.{ℕ, ◌+◌, ◌%◌, ◌==◌, nat_lt, if◌then◌else◌}
use Rattle.rand_core.specs.Pcg32Seed.{pcg32_seed}
use Rattle.rand_pcg.specs.Lcg.{Lcg}
use Rattle.rand_pcg.specs.Pcg.{pcg32, pcg32_of_seed}
use Rattle.network.specs.declared.weather.Fate.{Fate}
use Rattle.network.specs.declared.weather.Fate.TheVariants.{Lost, Once, Twice, Later}

-- the generator of a seed
abbrev pub generator_of : ℕ → Lcg
generator_of seed = pcg32_of_seed (pcg32_seed 16 seed)

-- a message that comes late: 1 to 5 rounds, by one word
abbrev pub later : Lcg → Fate × Lcg
later g = let word = pcg32 g in (Later (1 + word.0 % 5), word.1)

-- a message that is not lost: by one word, of ten one comes twice, two come late, and seven once
abbrev pub coming : Lcg → Fate × Lcg
coming g =
    let word = pcg32 g in
    if word.0 % 10 == 0 then (Twice, word.1)
    else if nat_lt (word.0 % 10) 3 then later word.1
    else (Once, word.1)

-- a message, where `loss` of a hundred are lost, and the generator with the words that are left
abbrev pub fate : ℕ → Lcg → Fate × Lcg
fate loss g =
    let word = pcg32 g in
    if nat_lt (word.0 % 100) loss then (Lost, word.1) else coming word.1
