use Rattle.std.proofs.Common.{sym, ap, ◌∙◌, ℕ, List, Option, Bor}
use Rattle.account_replies.specs.Tables.{asked_names, is_wanted}
use Rattle.account_replies.proofs.Rows.{any_asked}
use Rattle.account_replies.proofs.selection.is_wanted.Goals as goal

pub returns-in-Some : goal.returns-in-Some
returns-in-Some c =
    c.is_asked_for.ensures ∙ (sym (any_asked c.args.name.now c.args.group.now c.in-Some.names.now)
    ∙ ap (λ (wanted : Option (Bor (List (Bor (List ℕ))))). is_wanted (asked_names wanted) c.args.name.now c.args.group.now) (sym c.in-Some.is))
