-- Rule: The parts that a page is made of, and their bytes.
use Rattle.std.specs.Prelude.{ℕ, ◌==◌, if◌then◌else◌, List, Option, Some, None, decimal, flat_map}
use Rattle.page_markup.specs.Escaping.{escaped}
use Rattle.page_markup.specs.Moments.{moment_text, month_text, month_words}
use Rattle.page_markup.specs.declared.piece.Piece.{Piece}
use Rattle.page_markup.specs.declared.piece.Piece.TheVariants as piece
use Rattle.page_markup.specs.declared.texts.TheConstants.{UNKNOWN}

pub data Part : Type 0 where
  -- markup, or a text of the program's own
  Mark : List ℕ → Part
  -- a text from outside
  Text : List ℕ → Part
  Number : ℕ → Part
  -- 0 is not known
  Known : ℕ → Part
  -- in seconds since 1970-01-01T00:00:00Z
  Moment : ℕ → Part
  -- None is not known
  Ending : Option ℕ → Part
  -- a month in words
  Month : ℕ → Part
  -- a month as YYYY-MM
  MonthNumber : ℕ → Part

abbrev pub count_text : ℕ → List ℕ
count_text number = if number == 0 then UNKNOWN.now else decimal number

abbrev pub ending_text : Option ℕ → List ℕ
ending_text None = UNKNOWN.now
ending_text (Some at) = moment_text at

abbrev pub shown : Part → List ℕ
shown (Mark it) = it
shown (Text it) = escaped it
shown (Number it) = decimal it
shown (Known it) = count_text it
shown (Moment at) = moment_text at
shown (Ending at) = ending_text at
shown (Month it) = month_words it
shown (MonthNumber it) = month_text it

abbrev pub html : List Part → List ℕ
html parts = flat_map shown parts

-- the part that a piece of the code stands for
abbrev pub part_of : Piece → Part
part_of (piece.Mark it) = Mark it.now
part_of (piece.Text it) = Text it.now
part_of (piece.Number it) = Number it
part_of (piece.Known it) = Known it
part_of (piece.Moment at) = Moment at
part_of (piece.Ending at) = Ending at
part_of (piece.Month it) = Month it
part_of (piece.MonthNumber it) = MonthNumber it
