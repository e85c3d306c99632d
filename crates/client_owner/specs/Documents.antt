-- Rule: The format that the first bytes of a document tell (this project's own; RFC 8011 section
-- 5.4.22 has the formats).
use Rattle.std.specs.Prelude.{ℕ, Bool, if◌then◌else◌, bytes_eq, List, [], ◌∷◌, ◌++◌, codes, length, take}
use Rattle.account_rules.specs.declared.format.Format.{Format}
use Rattle.account_rules.specs.declared.format.Format.TheVariants.{OctetStream, Pdf, PostScript, Jpeg, PwgRaster, Urf}

abbrev pub begins_so : (front document : List ℕ) → Bool
begins_so front document = bytes_eq (take (length front) document) front

-- what begins as none of them is application/octet-stream
abbrev pub format_of : (document : List ℕ) → Format
format_of document =
    if begins_so (codes "%PDF-") document then Pdf
    else if begins_so (codes "%!") document then PostScript
    else if begins_so (0xFF ∷ 0xD8 ∷ 0xFF ∷ []) document then Jpeg
    else if begins_so (codes "RaS2") document then PwgRaster
    else if begins_so (codes "UNIRAST" ++ 0 ∷ []) document then Urf
    else OctetStream
