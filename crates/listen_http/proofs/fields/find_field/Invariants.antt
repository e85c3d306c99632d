use Rattle.std.proofs.Common.{map, take}
use Rattle.listen_http.specs.Fields.{plain_field, values_named}
use Rattle.listen_http.specs.ProofFinding.{FoundIs}
use Rattle.listen_http.proofs.fields.find_field.Given as goal

abbrev pub invariant-loop-field : goal.invariant-loop-field
invariant-loop-field l = FoundIs (values_named l.name (map plain_field (take l.field-index l.fields))) l.found
