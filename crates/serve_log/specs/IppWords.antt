-- Rule: The words of IPP in a line: the operation, the job, and the keyword of a status.
use Rattle.std.specs.Prelude.{ℕ, ◌+◌, ◌*◌, ◌/◌, ◌%◌, ◌==◌, nat_lt, if◌then◌else◌, List, [], ◌∷◌, ◌++◌, codes, length, slice_index, Option, Some, None}
use Rattle.std.specs.Fmt.{decimal}

-- ---- a code of two bytes, as 0x000a

abbrev pub hex_digit : ℕ → ℕ
hex_digit digit = if nat_lt digit 10 then 48 + digit else 87 + digit

abbrev pub code_text : ℕ → List ℕ
code_text code =
    codes "0x" ++ hex_digit (code / 4096 % 16) ∷ hex_digit (code / 256 % 16)
    ∷ hex_digit (code / 16 % 16) ∷ hex_digit (code % 16) ∷ []

-- ---- the operation

-- the operation-id stands behind the version (RFC 8010 section 3.1.1)
abbrev pub code_of : (body : List ℕ) → ℕ
code_of body = slice_index body 2 * 256 + slice_index body 3

-- those that are served (RFC 8011 section 5.4.15)
abbrev pub operation_text : (code : ℕ) → List ℕ
operation_text code =
    if code == 0x02 then codes "Print-Job"
    else if code == 0x04 then codes "Validate-Job"
    else if code == 0x05 then codes "Create-Job"
    else if code == 0x06 then codes "Send-Document"
    else if code == 0x08 then codes "Cancel-Job"
    else if code == 0x09 then codes "Get-Job-Attributes"
    else if code == 0x0A then codes "Get-Jobs"
    else if code == 0x0B then codes "Get-Printer-Attributes"
    else if code == 0x0C then codes "Hold-Job"
    else if code == 0x0D then codes "Release-Job"
    else code_text code

-- a dash where the request ends before it
abbrev pub operation_field : (body : List ℕ) → List ℕ
operation_field body =
    if nat_lt (length body) 4 then codes "-" else operation_text (code_of body)

-- ---- the job

abbrev pub job_field : Option ℕ → List ℕ
job_field None = codes "-"
job_field (Some job) = decimal job

-- ---- the status

-- the keyword of a success (RFC 8011 sections B.1.2.1 to B.1.2.3)
abbrev pub success_word : (code : ℕ) → List ℕ
success_word code =
    if code == 0 then codes "successful-ok"
    else if code == 1 then codes "successful-ok-ignored-or-substituted-attributes"
    else if code == 2 then codes "successful-ok-conflicting-attributes"
    else codes "successful"
