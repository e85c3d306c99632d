-- What the pages hold requests to (this project's own).
use Rattle.std.specs.Prelude.{false, None}
use Rattle.serve_peers.specs.declared.page_rules.PageRules.{PageRules}

-- a file needs no password, and each Host is answered
abbrev pub no_page_rules : PageRules
no_page_rules = record { needs_password = false; hosts = None }
