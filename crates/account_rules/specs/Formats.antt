-- Rule: The media type of each document format (RFC 8011 section 5.4.22).
use Rattle.std.specs.Prelude.{◌≡◌, ℕ, Bool, List, [], ◌∷◌, Option, Some, codes, find}
use Rattle.std.specs.Str.{str_eq_ignore_ascii_case}
use Rattle.account_rules.specs.declared.format.Format.{Format}
use Rattle.account_rules.specs.declared.format.Format.TheVariants.{OctetStream, Pdf, PostScript, Jpeg, PwgRaster, Urf, Plain}

abbrev pub media_type : Format → List ℕ
media_type OctetStream = codes "application/octet-stream"
media_type Pdf = codes "application/pdf"
media_type PostScript = codes "application/postscript"
media_type Jpeg = codes "image/jpeg"
media_type PwgRaster = codes "image/pwg-raster"
media_type Urf = codes "image/urf"
media_type Plain = codes "text/plain"

-- all of them, in the order in which a printer lists them
abbrev pub formats : List Format
formats = OctetStream ∷ Pdf ∷ PostScript ∷ Jpeg ∷ PwgRaster ∷ Urf ∷ Plain ∷ []

-- letters without case
abbrev pub names_format : (text : List ℕ) (format : Format) → Bool
names_format text format = str_eq_ignore_ascii_case text (media_type format)

abbrev pub format_named : List ℕ → Option Format
format_named text = find (names_format text) formats

-- reading what was written gives the format
abbrev pub MediaTypesAreRead : Type 0
MediaTypesAreRead = (format : Format) → format_named (media_type format) ≡ Some format
