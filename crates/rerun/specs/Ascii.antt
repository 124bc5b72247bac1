-- Texts as bytes of ASCII.
use Rattle.std.specs.Prelude.{ℕ, List, [], ◌∷◌, ◌++◌}
use Prim.Native.Char.{code}
use Prim.Native.String.{String, [] as empty, ◌∷◌ as ◌before◌}

-- The byte of each character, in their order.
unfoldable pub ascii : String → List ℕ
ascii empty = []
ascii (c before text) = code c ∷ ascii text

-- A line: the text, then the byte 10.
abbrev pub line : String → List ℕ
line text = ascii text ++ (10 ∷ [])
