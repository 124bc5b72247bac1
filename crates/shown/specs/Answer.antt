-- Document 01, 'Digest and shown place': the place of both coordinates.
use Rattle.std.specs.Prelude.{ℕ, ℤ}
use Rattle.shown.specs.Blend.{blend_of}
use Rattle.shown.specs.declared.Place.{Place}

-- 'The shown place of a carrier is a pair of f64': previously at (px, py), now at (cx, cy).
unfoldable pub shown_place : ℕ → ℤ → ℤ → ℤ → ℤ → ℕ → Place
shown_place length px py cx cy remainder =
    record { x = blend_of length px cx remainder; y = blend_of length py cy remainder }
