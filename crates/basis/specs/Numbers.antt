-- Document 01, 'Numbers given back', by name, with those that document 02 adds, and the limits that
-- rules of several crates name.
use Rattle.std.specs.Prelude.{ℕ}

-- 'the record is now held'
abbrev pub TAKEN : ℕ
TAKEN = 0

-- 'the same 8 bytes are already held; nothing changes'
abbrev pub HELD : ℕ
HELD = 1

-- 'not 8 bytes, or one of the last two isn't 0'
abbrev pub MALFORMED : ℕ
MALFORMED = 2

-- 'carrier number is B or more'
abbrev pub CARRIER : ℕ
CARRIER = 3

-- 'lever above 9'
abbrev pub LEVER : ℕ
LEVER = 4

-- 'record step is 180,000 or more; replay of more than 180,000 steps'
abbrev pub STEP : ℕ
STEP = 5

-- 'another lever is held at that place'
abbrev pub CONFLICT : ℕ
CONFLICT = 6

-- 'record step + 64 is below the steps made'
abbrev pub LATE : ℕ
LATE = 7

-- '2,048 records are held'
abbrev pub FULL : ℕ
FULL = 8

-- 'W, H or B out of range; a cell byte above 1; a size out of range; a start that isn't free'
abbrev pub WORLD : ℕ
WORLD = 9

-- 'at opening or replay, a lent length isn't exactly W·H cell bytes, 4·B world words, 5·B state
-- words, 320·B row words, 16,384 log bytes'
abbrev pub ROOM : ℕ
ROOM = 10

-- 'reading below the last reading'
abbrev pub BACKWARD : ℕ
BACKWARD = 11

-- 'steps made plus the steps due would pass 180,000'
abbrev pub END : ℕ
END = 12

-- 'a log to be read isn't a whole number of records, has more than 2,048, a record that rules 2 to
-- 5 refuse, or isn't strictly ascending'
abbrev pub LOG : ℕ
LOG = 13

-- 'after opening, the session or a buffer handed back isn't sound, wrong lengths included'
abbrev pub FAULT : ℕ
FAULT = 14

-- 'A stiffness or state out of range, or a step that would leave the range' (02 §7)
abbrev pub LOAD : ℕ
LOAD = 17

-- 'More than eight forces, a number of the point or of a counted force that isn't finite, or a
-- result that isn't finite' (02 §8)
abbrev pub ROPE : ℕ
ROPE = 18

-- 'There are B carriers, 1 to 32'
abbrev pub most_carriers : ℕ
most_carriers = 32

-- 'A session makes at most 180,000'
abbrev pub most_steps : ℕ
most_steps = 180000

-- 'lever above 9' is refused.
abbrev pub most_lever : ℕ
most_lever = 9

-- 'Held records stand in the log buffer ..; at most 2,048'
abbrev pub most_records : ℕ
most_records = 2048

-- 'pool/20,000 whole steps are made': the length of a step, in microseconds.
abbrev pub step_length : ℕ
step_length = 20000

-- 'The saved rows are 64 states', one for each of 'the last 64 steps made'.
abbrev pub row_count : ℕ
row_count = 64
