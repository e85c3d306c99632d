-- What `Counted` makes of a std reader or writer: what it may still read or was given, and how many
-- calls failed.
use Rattle.std.specs.Prelude.{ℕ, Bool}
use Rattle.input_fields.specs.declared.counted.Counted.{Counted}

-- the reader underneath
abbrev pub inner_of : {R : Type 0} → Counted R → R
inner_of source = source.inner

-- whether the reader told its end
abbrev pub has_told_end : {R : Type 0} → Counted R → Bool
has_told_end source = source.has_ended

-- the calls that failed so far
abbrev pub failures_of : {R : Type 0} → Counted R → ℕ
failures_of source = source.failures
