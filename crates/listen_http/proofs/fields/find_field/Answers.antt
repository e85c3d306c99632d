use Rattle.std.proofs.Common.{sym, ◌∙◌, map, take}
use Rattle.listen_http.specs.Fields.{plain_field, values_named}
use Rattle.listen_http.proofs.Parts.{value_more, value_same}
use Rattle.listen_http.proofs.fields.find_field.Goals as goal
use Rattle.listen_http.proofs.fields.find_field.Goals.{then-is_named, else-is_named}

pub loop-field-preserved : goal.loop-field-preserved
loop-field-preserved c =
    let name = c.args.name.now in
    let fields = c.args.fields.now in
    let i = c.loop-field.field-index in
    let there = c.loop-field-test.true in
    elim c.if-is_named.branch [
      | then-is_named w ↦ rw (w.found-is, value_more name fields i _ there (sym c.is_named.ensures ∙ w.if-is_named.true)) (w.and-found.ensures (values_named name (map plain_field (take i fields))) c.loop-field.invariant)
      | else-is_named w ↦ rw (w.found-is, value_same name fields i _ there (sym c.is_named.ensures ∙ w.if-is_named.false)) c.loop-field.invariant
    ]
