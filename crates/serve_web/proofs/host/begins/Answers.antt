use Rattle.std.proofs.Common.{rules, ◌≡◌, ◌&&◌, Bool, true, length, drop, take, ap, sym, ◌∙◌}
use Rattle.std.proofs.lemmas.List.{take_rest}
use Rattle.input_http.specs.Words.{is_same_word}
use Rattle.serve_web.specs.Hosts.{is_port}
use Rattle.serve_web.proofs.host.begins.Goals as goal

pub returns-then-eq_ignore_ascii_case : goal.returns-then-eq_ignore_ascii_case
returns-then-eq_ignore_ascii_case c =
    let name = c.args.name.now in
    let host = c.args.host.now in
    let port : c.is_port.result ≡ is_port (drop (length name) host) = rw take_rest at c.is_port.ensures in
    let same : is_same_word (take (length name) host) name ≡ true = search rules in
    port ∙ sym (ap (λ (b : Bool). b && is_port (drop (length name) host)) same)
