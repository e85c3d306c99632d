use Rattle.std.proofs.Common.{refl, sym}
use Rattle.input_lines.proofs.action.Action.event.Goals as goal

pub returns-in-Open-clause-same : goal.returns-in-Open-clause-same
returns-in-Open-clause-same c = rw c.in-Open.is refl

pub returns-in-Device-clause-same : goal.returns-in-Device-clause-same
returns-in-Device-clause-same c = rw c.in-Device.is refl

pub returns-in-Rate-clause-same : goal.returns-in-Rate-clause-same
returns-in-Rate-clause-same c = rw c.in-Rate.is refl

pub returns-in-Grant-clause-same : goal.returns-in-Grant-clause-same
returns-in-Grant-clause-same c = rw c.in-Grant.is refl

pub returns-in-Ipp-clause-same : goal.returns-in-Ipp-clause-same
returns-in-Ipp-clause-same c = rw (c.in-Ipp.is, sym c.as_slice.ensures.value) refl

pub returns-in-Release-clause-same : goal.returns-in-Release-clause-same
returns-in-Release-clause-same c = rw (c.in-Release.is, sym c.as_slice-in-Release.ensures.value, c.unwrap_or.ensures) refl

pub returns-in-Start-clause-same : goal.returns-in-Start-clause-same
returns-in-Start-clause-same c = rw c.in-Start.is refl

pub returns-in-Settle-clause-same : goal.returns-in-Settle-clause-same
returns-in-Settle-clause-same c = rw c.in-Settle.is refl
