-- What of a file of grants was sent.
use Rattle.std.proofs.Common.{◌≡◌, ℕ, ◌+◌, ◌<◌, List, [], ◌∷◌, ◌++◌, codes, length, take, drop, get_or, ap, sym, ◌∙◌, append_assoc, append-nil, take-append-drop, suc}
use Rattle.std.specs.Prelude.{Some}
use Rattle.std.proofs.lemmas.Grind.{flat_map-append}
use Rattle.std.proofs.Math.Seq.{drop-cons}
use Rattle.std.proofs.lemmas.List.{take_more}
use Rattle.input_fields.specs.declared.grant_line.GrantLine.{GrantLine}
use Rattle.input_fields.specs.declared.grant_line.GrantLine.TheVariants.{Good, Bad}
use Rattle.client_lines.specs.Grants.{line_asked, record_sent, records_sent}

pub record_sent-line : (one : GrantLine) (line : List ℕ) → Some line ≡ line_asked one
    → record_sent one ≡ line ++ codes "\n"
record_sent-line (Good account month pages) line asked = cc
record_sent-line (Bad number) line asked = cc

-- what is sent for a one stands after what is sent for those before it
pub records_sent-at : (records : List GrantLine) (index : ℕ) (one : GrantLine)
    → index < length records → one ≡ get_or records index one
    → records_sent records ≡ (records_sent (take index records) ++ record_sent one)
    ++ records_sent (drop (suc index) records)
records_sent-at records index one within is =
    ap records_sent (sym (take-append-drop index records)
    ∙ ap (λ l. take index records ++ l) (drop-cons records index one within
    ∙ ap (λ r. r ∷ drop (suc index) records) (sym is)))
    ∙ flat_map-append record_sent (take index records) (one ∷ drop (suc index) records)
    ∙ sym (append_assoc (records_sent (take index records)) (record_sent one) (records_sent (drop (suc index) records)))

pub take_one : (records : List GrantLine) (index : ℕ) (one : GrantLine) → index < length records
    → one ≡ get_or records index one → take (index + 1) records ≡ take index records ++ one ∷ []
take_one records index one within is =
    take_more records index one within ∙ ap (λ r. take index records ++ r ∷ []) (sym is)

pub records_sent-more : (records : List GrantLine) (index : ℕ) (one : GrantLine)
    → index < length records → one ≡ get_or records index one
    → records_sent (take (index + 1) records)
    ≡ records_sent (take index records) ++ record_sent one
records_sent-more records index one within is =
    ap records_sent (take_one records index one within is)
    ∙ flat_map-append record_sent (take index records) (one ∷ [])
    ∙ ap (λ l. records_sent (take index records) ++ l) (append-nil (record_sent one))
