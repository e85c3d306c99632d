-- Rule: How long the parts of a message may be, in bytes (all this project's own).
use Rattle.std.specs.Prelude.{ℕ}

abbrev pub longest_head : ℕ
longest_head = 16384

-- in a head, and in trailers
abbrev pub most_fields : ℕ
most_fields = 64

-- a message of IPP up to its request-id (RFC 8010 section 3.1.1)
abbrev pub shortest_body : ℕ
shortest_body = 8

-- a document of 16 MiB and 64 KiB of attributes
abbrev pub longest_body : ℕ
longest_body = 16842752

-- a line that tells a chunk's size, its end among them
abbrev pub longest_size_line : ℕ
longest_size_line = 256

-- with the empty line after them
abbrev pub longest_trailers : ℕ
longest_trailers = 4096

-- the head of an answer, for which there is room
abbrev pub longest_answer_head : ℕ
longest_answer_head = 256

-- the status line in it (RFC 9112 section 4), with a phrase of so many
abbrev pub longest_status_line : ℕ
longest_status_line = 64

abbrev pub longest_phrase : ℕ
longest_phrase = 31
