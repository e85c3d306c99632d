-- Rule: The name under which a document is kept: `ACCOUNT-JOB-NUMBER` (this project's own).
use Rattle.std.specs.Prelude.{ℕ, List, ◌++◌, codes, decimal}

-- `ACCOUNT-JOB-NUMBER`
abbrev pub document_name : (account : List ℕ) (job number : ℕ) → List ℕ
document_name account job number =
    account ++ codes "-" ++ decimal job ++ codes "-" ++ decimal number
