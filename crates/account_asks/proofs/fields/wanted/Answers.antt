use Rattle.std.proofs.Common.{List, Some, ap, ◌∙◌, ℕ}
use Rattle.std.specs.Borrow.{Bor}
use Rattle.std.specs.Option.{option_map}
use Rattle.account_asks.specs.Fields.{wanted, names_of}
use Rattle.account_asks.specs.ProofPlainParts.{plain_names}
use Rattle.account_asks.proofs.Lookups.{bytes-map}
use Rattle.account_asks.proofs.fields.wanted.Goals as goal

pub returns-in_ok-names_of-in-Some-clause-wanted : goal.returns-in_ok-names_of-in-Some-clause-wanted
unfolding wanted
returns-in_ok-names_of-in-Some-clause-wanted c =
    let seen = rw c.in-Some.is at c.values.ensures in
    ap (λ (names : List (Bor (List ℕ))). Some (plain_names names)) c.in_ok-names_of-in-Some.ensures.names
    ∙ ap (λ (names : List (List ℕ)). Some names) (bytes-map c.in-Some.values.now)
    ∙ ap (option_map names_of) seen
