use Rattle.std.proofs.Common.{◌≡◌, ℕ, Bool, true, false, List, [], ◌++◌, ap, subst, ◌∙◌}
use Rattle.http1.specs.Fields.{Header as Field}
use Rattle.serve_web.specs.Fields.{shown_fields}
use Rattle.serve_web.specs.Responses.{IsPageIf, is_no_account}
use Rattle.serve_web.proofs.answer.put_page.Goals as goal

pub returns-then-is_no_account : goal.returns-then-is_no_account
returns-then-is_no_account c =
    let is : true ≡ is_no_account c.args.text.items = c.if-is_no_account.ensures ∙ ap is_no_account c.as_slice.ensures.value in
    subst (λ (b : Bool). IsPageIf b c.args.kind.now c.args.closes c.args.text.items c.refuse.new.response) is c.in_ok-refuse.ensures

pub returns : goal.returns
returns c =
    let blank : c.put_shown_fields.new.response.body.items ≡ [] = rw c.in_ok-put_shown_fields.ensures.body c.requires.blank.body in
    let is : false ≡ is_no_account c.args.text.items = c.if-is_no_account.ensures ∙ ap is_no_account c.as_slice.ensures.value in
    subst (λ (b : Bool). IsPageIf b c.args.kind.now c.args.closes c.args.text.items (record { status = c.put_shown_fields.new.response.status; headers = c.put_shown_fields.new.response.headers; body = c.push.new.self })) is
    (record {
      status = c.in_ok-put_shown_fields.ensures.status ∙ c.requires.blank.status;
      headers = c.in_ok-put_shown_fields.ensures.fields ∙ ap (λ (l : List Field). l ++ shown_fields c.args.kind.now c.args.closes) c.requires.blank.headers;
      body = c.in_ok-push.ensures ∙ ap (λ (l : List ℕ). l ++ c.in_ok-shared.field-0) blank ∙ c.in_ok-shared.ensures;
    })
