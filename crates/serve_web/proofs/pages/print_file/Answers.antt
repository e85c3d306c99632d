use Rattle.std.proofs.Common.{◌≡◌, false, nat_lt, length, rules, tests}
use Rattle.serve_peers.specs.Space.{spare_of}
use Rattle.serve_space.specs.Spares.{takes_of}
use Rattle.serve_web.proofs.pages.print_file.Goals as goal

pub returns-clause-ok : goal.returns-clause-ok
returns-clause-ok g c =
    let fits : nat_lt (takes_of (spare_of c.args.served.now)) (length c.in_ok-message.message.items) ≡ false = search (rules, tests) in
    (c.in_ok-message.message.items, c.in_ok-message.ensures, rw (fits, ← c.has_long_body-closes.ensures) c.in_ok-apply.ensures.ok)
