-- Document 01, 'The program': the lines that it writes, as bytes of ASCII.
use Rattle.std.specs.Prelude.{ℕ, zero, suc, ◌+◌, ◌/◌, ◌%◌, cond, List, [], ◌∷◌, ◌++◌, flat_map}
use Rattle.std.specs.Prelude.{ltb, ℤ, pos, negsuc}
use Rattle.basis.specs.Order.{Answer, refused, accepted}
use Rattle.rerun.specs.declared.ended.Ended.{Ended}
use Rattle.rerun.specs.Ascii.{ascii}

-- A number in decimal, of at most so many digits: its last digit stands last.
unfoldable pub decimal_to : ℕ → ℕ → List ℕ
decimal_to zero n = []
decimal_to (suc most) n =
    cond (ltb n 10) ((48 + n) ∷ []) (decimal_to most (n / 10) ++ ((48 + n % 10) ∷ []))

-- Any u64 has at most 20 digits.
abbrev pub decimal : ℕ → List ℕ
decimal n = decimal_to 20 n

-- A space, then a word with its sign.
unfoldable pub word_text : ℤ → List ℕ
word_text (pos n) = 32 ∷ decimal n
word_text (negsuc n) = 32 ∷ 45 ∷ decimal (suc n)

-- '`steps N`, then a line `carrier x y u v lever` for each carrier': here for one, carrier 0;
unfoldable pub lines_of : Ended → List ℕ
lines_of ended =
    ascii "steps " ++ decimal ended.steps ++ (10 ∷ ascii "0")
    ++ flat_map word_text ended.state ++ (10 ∷ [])

-- or the one line `refused N`.
unfoldable pub line_of : ℕ → List ℕ
line_of number = ascii "refused " ++ decimal number ++ (10 ∷ [])

-- What the program writes for the answer that its input comes to.
abbrev pub program_text : Answer Ended → List ℕ
program_text (accepted ended) = lines_of ended
program_text (refused number) = line_of number
