-- The contract of each public entry, by name: what was given, and what came out. A clause is
-- nothing but its name.
use Rattle.std.specs.Prelude.{ℕ, ◌≡◌, List, ℤ}
use Rattle.basis.specs.LittleEndian.{little_endian}
use Rattle.digest.specs.declared.Digest.{Digest}
use Rattle.digest.specs.Fnv.{START, fnv, digest_of}
use Rattle.digest.specs.Words.{bytes_of_words, state_bytes}

-- `Digest::new`
abbrev pub NewSays : Digest → Type 0
NewSays out = out.value ≡ START

-- `Digest::of_state`
abbrev pub OfStateSays : ℕ → List ℤ → Digest → Type 0
OfStateSays steps state out = out.value ≡ digest_of (state_bytes steps state)

-- `Digest::bytes`
abbrev pub BytesSays : Digest → List ℕ → Digest → Type 0
BytesSays digest bytes out = out.value ≡ fnv digest.value bytes

-- `Digest::word`
abbrev pub WordSays : Digest → ℕ → Digest → Type 0
WordSays digest word out = out.value ≡ fnv digest.value (little_endian 4 word)

-- `Digest::words`
abbrev pub WordsSays : Digest → List ℤ → Digest → Type 0
WordsSays digest words out = out.value ≡ fnv digest.value (bytes_of_words words)
