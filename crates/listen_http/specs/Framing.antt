-- Rule: Where the body of a message ends (RFC 9112 section 6): one Content-Length of 1 to 18
-- digits, or one Transfer-Encoding, which is chunked, or neither, and then there is none (narrower
-- than RFC 9112: this project's rule).
use Rattle.std.specs.Prelude.{ℕ, ◌&&◌, Bool, List, [], ◌∷◌, Option, Some, None, codes, if◌then◌else◌, length, nat_le, nat_lt}
use Rattle.std.specs.Char.{is_ascii_digit}
use Rattle.std.specs.List.{list_all}
use Rattle.std.specs.Str.Parse.{digits_value}
use Rattle.listen_http.specs.Fields.{NameAndValue, values_named}
use Rattle.input_http.specs.Words.{is_same_word}
use Rattle.listen_http.specs.declared.framing.Framing.{Framing}
use Rattle.listen_http.specs.declared.framing.Framing.TheVariants.{Length, Chunked}

abbrev pub is_short_number : List ℕ → Bool
is_short_number digits =
    nat_lt 0 (length digits) && (nat_le (length digits) 18 && list_all is_ascii_digit digits)

abbrev pub by_length : List ℕ → Option Framing
by_length digits = if is_short_number digits then Some (Length (digits_value 10 digits)) else None

abbrev pub by_coding : List ℕ → Option Framing
by_coding coding = if is_same_word coding (codes "chunked") then Some Chunked else None

-- by the values of Content-Length and of Transfer-Encoding
abbrev pub framed_by : (lengths codings : List (List ℕ)) → Option Framing
framed_by [] [] = Some (Length 0)
framed_by [] (coding ∷ []) = by_coding coding
framed_by [] (coding ∷ another ∷ codings) = None
framed_by (digits ∷ []) [] = by_length digits
framed_by (digits ∷ []) (coding ∷ codings) = None
framed_by (digits ∷ another ∷ lengths) codings = None

abbrev pub framing_of : List NameAndValue → Option Framing
framing_of fields = framed_by (values_named (codes "content-length") fields)
    (values_named (codes "transfer-encoding") fields)
