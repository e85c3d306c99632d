-- Rule: What browsers tell of the site whose page sent a request (RFC 6454 section 7; Fetch
-- Metadata Request Headers section 2.4): whether there is one, and for a form whether it is another.
use Rattle.std.specs.Prelude.{ℕ, Bool, true, false, not, ◌&&◌, ◌||◌, List, Option, Some, None, codes, bytes_eq, is_some}
use Rattle.http.specs.Request.{head_of}
use Rattle.http.specs.declared.request.Request.{Request}
use Rattle.http_header.specs.FieldValue.{FieldValue}
use Rattle.http_header.specs.HeaderMap.{get}
use Rattle.account_rules.specs.QueuePaths.{behind}

-- the first value of a field
abbrev pub value_in : (request : Request (List ℕ)) (name : List ℕ) → Option FieldValue
value_in request name = get (head_of request).headers name

-- a browser sent it; no client of IPP tells either
abbrev pub is_of_browser : Request (List ℕ) → Bool
is_of_browser request = is_some (value_in request (codes "origin"))
    || is_some (value_in request (codes "sec-fetch-site"))

-- a page of this origin asks, or whoever reads in the browser
abbrev pub is_own_site : Option FieldValue → Bool
is_own_site None = true
is_own_site (Some site) =
    bytes_eq site.bytes (codes "same-origin") || bytes_eq site.bytes (codes "none")

abbrev pub http_origin : (rest : Option (List ℕ)) (host : List ℕ) → Bool
http_origin None host = false
http_origin (Some rest) host = bytes_eq rest host

abbrev pub https_origin : (rest : Option (List ℕ)) (origin host : List ℕ) → Bool
https_origin (Some rest) origin host = bytes_eq rest host
https_origin None origin host = http_origin (behind (codes "http://") origin) host

-- the host behind `https://` or `http://`
abbrev pub is_origin_of : (origin host : List ℕ) → Bool
is_origin_of origin host = https_origin (behind (codes "https://") origin) origin host

-- it is the host that was asked
abbrev pub is_own_origin : (origin host : Option FieldValue) → Bool
is_own_origin None host = true
is_own_origin (Some origin) None = false
is_own_origin (Some origin) (Some host) = is_origin_of origin.bytes host.bytes

abbrev pub is_told_own : (site origin host : Option FieldValue) → Bool
is_told_own site origin host =
    (is_some site || is_some origin) && is_own_site site && is_own_origin origin host

-- one of the two fields is there, and neither tells of another site
abbrev pub is_own : Request (List ℕ) → Bool
is_own request =
    is_told_own (value_in request (codes "sec-fetch-site")) (value_in request (codes "origin"))
    (value_in request (codes "host"))

-- a form that another site may have sent
abbrev pub is_foreign : Request (List ℕ) → Bool
is_foreign request = bytes_eq (head_of request).method (codes "POST") && not (is_own request)
