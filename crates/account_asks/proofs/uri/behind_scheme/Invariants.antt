use Rattle.std.proofs.Common.{◌≡◌, drop}
use Rattle.account_asks.specs.Uris.{behind_scheme}
use Rattle.account_asks.proofs.uri.behind_scheme.Given as goal

abbrev pub invariant-loop-start : goal.invariant-loop-start
invariant-loop-start l = behind_scheme l.uri ≡ behind_scheme (drop l.start l.uri)
