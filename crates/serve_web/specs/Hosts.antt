-- Rule: Which Hosts are answered (RFC 9110 section 7.2), by a list of names. A site of another name whose
-- name leads to this machine is none of them.
use Rattle.std.specs.Prelude.{ℕ, Bool, true, false, ◌&&◌, ◌==◌, List, [], ◌∷◌, codes, drop, length, nat_le, option_map, take, Option, None, Some}
use Rattle.std.specs.Char.{is_ascii_digit}
use Rattle.std.specs.List.{list_all, list_any, slice_split}
use Rattle.http.specs.Request.{head_of}
use Rattle.http.specs.declared.request.Request.{Request}
use Rattle.http_header.specs.FieldValue.{FieldValue}
use Rattle.http_uri.specs.Uri.{uri_authority}
use Rattle.input_http.specs.Origins.{value_in}
use Rattle.input_http.specs.Words.{is_same_word}

-- no port, or one behind a colon (RFC 3986 section 3.2.3)
abbrev pub is_port : (rest : List ℕ) → Bool
is_port [] = true
is_port (mark ∷ digits) = mark == 58 && list_all is_ascii_digit digits

-- the host is this name, in any case (RFC 9110 section 4.2.3), at whatever port
abbrev pub begins : (name host : List ℕ) → Bool
begins name host =
    is_same_word (take (length name) host) name && is_port (drop (length name) host)

abbrev pub is_at : (name host : List ℕ) → Bool
is_at name host = nat_le (length name) (length host) && begins name host

-- it is one of the names; one comma parts the names
abbrev pub is_named : (names host : List ℕ) → Bool
is_named names host = list_any (λ name. is_at name host) (slice_split (λ b. b == 44) names)

abbrev pub is_host_among : (names : List ℕ) → (host : Option (List ℕ)) → Bool
is_host_among names None = false
is_host_among names (Some host) = is_named names host

-- the host that is asked for: that of the target, where it has one (RFC 9112 section 3.2.2), else that
-- of the field
abbrev pub bytes_of : Option FieldValue → Option (List ℕ)
bytes_of value = option_map (λ value. value.bytes) value

abbrev pub host_in : (authority : Option (List ℕ)) → (field : Option FieldValue) → Option (List ℕ)
host_in (Some authority) field = Some authority
host_in None field = bytes_of field

abbrev pub host_of : Request (List ℕ) → Option (List ℕ)
host_of request =
    host_in (uri_authority (head_of request).uri) (value_in request (codes "host"))

-- where there are names, a request of no Host is not answered either
abbrev pub is_answered : (hosts : Option (List ℕ)) → Request (List ℕ) → Bool
is_answered None request = true
is_answered (Some names) request = is_host_among names (host_of request)
