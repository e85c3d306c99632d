use Rattle.std.proofs.Common.{◌∙◌, ap, sym, lit<}
use Rattle.std.specs.Prelude.{unwrap_or}
use Rattle.csv.specs.Records.{fields_of}
use Rattle.input_fields.specs.declared.grant_line.GrantLine.TheVariants.{Bad}
use Rattle.input_fields.proofs.LineLemmas.{grant_line-three, has-field}
use Rattle.input_fields.proofs.grant_line.grant_line.Goals as goal
use Rattle.input_fields.proofs.grant_line.grant_line.Goals.{in_default-via-in-Some+in-Some+in_default, in_default-via-in-Some+in_default, in_default-via-in_default}

-- a record of three fields has each of them
pub returns-in_default-clause-said : goal.returns-in_default-clause-said
returns-in_default-clause-said c =
    let three = sym c.len.ensures ∙ c.if-len-ne3.false in
    elim c.in_default.branch [
      | in_default-via-in-Some+in-Some+in_default w ↦ absurd (has-field (fields_of c.args.row.now) 2 three (lit< tt) w.in_default.ensures''.value)
      | in_default-via-in-Some+in_default w ↦ absurd (has-field (fields_of c.args.row.now) 1 three (lit< tt) w.in_default.ensures'.value)
      | in_default-via-in_default w ↦ absurd (has-field (fields_of c.args.row.now) 0 three (lit< tt) w.in_default.ensures.value)
    ]

-- three fields that say a grant
pub returns-in-Some-clause-said : goal.returns-in-Some-clause-said
returns-in-Some-clause-said c =
    let h = c.in-Some-Some-Some in
    sym (grant_line-three c.args.number (fields_of c.args.row.now) h.account.now h.month.now h.pages.now (sym c.len.ensures ∙ c.if-len-ne3.false) h.ensures.value h.ensures'.value h.ensures''.value
    ∙ ap (λ line. unwrap_or line (Bad c.args.number)) (sym c.good_line.ensures.said ∙ c.in-Some.is))

-- three fields one of which does not say what it is to say
pub returns-in-None-clause-said : goal.returns-in-None-clause-said
returns-in-None-clause-said c =
    let h = c.in-Some-Some-Some in
    sym (grant_line-three c.args.number (fields_of c.args.row.now) h.account.now h.month.now h.pages.now (sym c.len.ensures ∙ c.if-len-ne3.false) h.ensures.value h.ensures'.value h.ensures''.value
    ∙ ap (λ line. unwrap_or line (Bad c.args.number)) (sym c.good_line.ensures.said ∙ c.in-None.is))
