-- What a command is to write for an input, as lists.
use Rattle.std.specs.Prelude.{ℕ, List, [], ◌++◌, flat_map, sum_by}

-- A part of an answer: its text for `out`, its line for the report, how many bytes of input it takes, and how
-- many must have come before it is known whole, where the end of the input counts as one.
pub record Part : Type 0 where
  pub text : List ℕ
  pub line : List ℕ
  pub size : ℕ
  pub wants : ℕ

-- how a command ends: done, done with some block that failed, or its input refused with a number at a place
pub data Ending : Type 0 where
  finished : Ending
  some_failed : Ending
  bad : (number place : ℕ) → Ending

-- The answer to an input: its parts, which are what `out` begins with and then the blocks, what closes `out`,
-- the report's last line, and the ending. After the last part the ending takes `tail` bytes, an end word or
-- what ends with the refused unit. It is known once `due` bytes have come there, where the end of the input
-- counts as one: 0 where the last part was known to be the last. Up to `ahead` blocks are read before any of
-- them is written.
pub record Answer : Type 0 where
  pub parts : List Part
  pub closing : List ℕ
  pub last : List ℕ
  pub ending : Ending
  pub tail : ℕ
  pub due : ℕ
  pub ahead : ℕ

-- what parts add to `out`, one after the other
abbrev pub texts : List Part → List ℕ
texts parts = flat_map (λ p. p.text) parts

-- what they add to the report
abbrev pub lines : List Part → List ℕ
lines parts = flat_map (λ p. p.line) parts

-- how many bytes of input they take
abbrev pub size_of : List Part → ℕ
size_of parts = sum_by (λ p. p.size) parts

-- these parts, and then what the rest answers
abbrev pub preceded_by : List Part → Answer → Answer
preceded_by parts a = record a { parts = parts ++ a.parts }

-- what `out` begins with, after a header of so many bytes (0: none)
abbrev pub heading : (text : List ℕ) → (size : ℕ) → Part
heading text size = record { text = text; line = []; size = size; wants = size }

-- nothing more, and a refusal
abbrev pub refusal : (number place tail due : ℕ) → Answer
refusal number place tail due =
    record {
      parts = [];
      closing = [];
      last = [];
      ending = bad number place;
      tail = tail;
      due = due;
      ahead = 1;
    }

-- nothing more but the closing and the last line
abbrev pub closed : (closing last : List ℕ) → Ending → (tail due : ℕ) → Answer
closed closing last ending tail due =
    record {
      parts = [];
      closing = closing;
      last = last;
      ending = ending;
      tail = tail;
      due = due;
      ahead = 1;
    }
