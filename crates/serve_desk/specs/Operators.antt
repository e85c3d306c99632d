-- Rule: Who asks at the desk, as the proxy says it (this project's own).
use Rattle.std.specs.Prelude.{ℕ, List, [], ◌∷◌, Option, None, codes}
use Rattle.http.specs.Request.{head_of}
use Rattle.http.specs.declared.request.Request.{Request}
use Rattle.http_header.specs.FieldValue.{FieldValue}
use Rattle.http_header.specs.HeaderMap.{get_all}
use Rattle.serve_web.specs.Queries.{name_said}

-- the only one of these values, if it is a name
abbrev pub only_name : List FieldValue → Option (List ℕ)
only_name (value ∷ []) = name_said value.bytes
only_name _ = None

-- the name in the one field X-Operator
abbrev pub operator_of : Request (List ℕ) → Option (List ℕ)
operator_of request = only_name (get_all (head_of request).headers (codes "x-operator"))
