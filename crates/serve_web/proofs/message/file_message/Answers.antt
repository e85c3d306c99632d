use Rattle.std.proofs.Common.{◌≡◌, List, ℕ, ap, ◌∙◌, rules}
use Rattle.http.specs.Request.{body_of}
use Rattle.ipp_coding.specs.Spelling.{message_spelling}
use Rattle.client_owner.specs.Documents.{format_of}
use Rattle.client_owner.specs.Requests.{print_message}
use Rattle.input_lines.specs.OwnerRequests.{queue_uri}
use Rattle.serve_web.specs.Messages.{file_name}
use Rattle.serve_web.proofs.message.file_message.Goals as goal

pub returns : goal.returns
returns c =
    let job = c.new_job-job.ensures in
    let body : c.as_slice-2.result.now ≡ body_of c.args.request.now = search rules in
    let uri : c.as_slice-3.result.now ≡ queue_uri c.args.account = c.as_slice-3.ensures.value ∙ c.in_ok-uri.ensures.uri in (
      c.new_job-job.result,
      record {
        name_is = job.name_is ∙ c.as_slice.ensures.value ∙ c.in_ok-name.ensures ∙ ap file_name c.query_of.ensures;
        copies_are = job.copies_are;
        impressions_are = job.impressions_are;
        password_is = job.password_is ∙ c.slice_of-word.ensures ∙ c.in_ok-password.ensures;
        format_is = job.format_is ∙ ap format_of body;
        document_is = job.document_is ∙ body;
      },
      c.in_ok-text.ensures ∙ ap (λ (u : List ℕ). message_spelling (print_message u c.new_job-job.result)) uri,
    )
