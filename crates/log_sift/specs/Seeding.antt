-- What the hashes of a log's audit IDs begin with.
use Rattle.std.specs.Prelude.{◌≡◌, ℕ, List, take}
use Rattle.std.specs.Hash.DefaultHasher as sip
use Rattle.hash_seed.specs.declared.seed.Seeded.{Seeded}
use Rattle.sha2.specs.Sha256.{sha256}

-- the seed of so many bytes at the log's front
abbrev pub seed_of : List ℕ → List ℕ
seed_of log = sha256 (take 65536 log)

-- the hashes begin with it
abbrev pub AreSeeded : List ℕ → Seeded → Type 0
AreSeeded log hashes = hashes.start ≡ sip.write sip.initial (seed_of log)
