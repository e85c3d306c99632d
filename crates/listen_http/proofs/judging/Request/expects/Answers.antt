use Rattle.std.proofs.Common.{◌==◌, ◌&&◌, ◌∙◌, ap, sym, map}
use Rattle.std.specs.List.{list_any}
use Rattle.listen_http.specs.Fields.{plain_field}
use Rattle.listen_http.specs.Judging.{is_expectation}
use Rattle.listen_http.proofs.Parts.{any_plain}
use Rattle.listen_http.proofs.judging.Request.expects.Goals as goal

pub returns-then-self-eq1 : goal.returns-then-self-eq1
returns-then-self-eq1 c =
    let fields = c.args.self.now.fields.now in
    c.has_expectation.ensures ∙ any_plain is_expectation fields ∙ ap (λ n. (n == 1) && list_any is_expectation (map plain_field fields)) (sym c.if-self-eq1.true)
