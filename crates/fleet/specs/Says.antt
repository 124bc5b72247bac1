-- The contract of the one public entry, by name: what was given, and what came out. Its clause is
-- nothing but its name.
use Rattle.std.specs.Prelude.{◌≡◌, List, ℤ, pos, length, replicate}

-- `clear_rows`: the words before, and those that it leaves
abbrev pub ClearRowsSays : List ℤ → List ℤ → Type 0
ClearRowsSays before left = left ≡ replicate (length before) (pos 0)
