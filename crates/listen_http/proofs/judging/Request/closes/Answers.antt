use Rattle.std.proofs.Common.{◌||◌, ◌∙◌, ap, sym, map}
use Rattle.std.proofs.lemmas.Bool.{ne_eqb}
use Rattle.std.specs.List.{list_any}
use Rattle.listen_http.specs.Fields.{plain_field}
use Rattle.listen_http.specs.Judging.{is_close}
use Rattle.listen_http.proofs.Parts.{any_plain}
use Rattle.listen_http.proofs.judging.Request.closes.Goals as goal

pub returns-else-self-eq0 : goal.returns-else-self-eq0
returns-else-self-eq0 c =
    let fields = c.args.self.now.fields.now in
    c.has_close.ensures ∙ any_plain is_close fields ∙ ap (λ b. b || list_any is_close (map plain_field fields)) (sym (ne_eqb c.args.self.now.minor 0 c.if-self-eq0.false))
