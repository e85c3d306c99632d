use Rattle.std.proofs.Common.{sym}
use Rattle.account_rules.proofs.DeviceLemmas.{is_known, is_unknown, device_rated}
use Rattle.account_rules.proofs.device.set_rate.Goals as goal

pub returns-in-Some-clause-known : goal.returns-in-Some-clause-known
returns-in-Some-clause-known c =
    sym (is_known c.args.name c.args.devices.now c.in-Some.place c.index-devices-place.result (sym c.in-Some.ensures) c.index-devices-place.is)

pub returns-in-Some-clause-rated : goal.returns-in-Some-clause-rated
returns-in-Some-clause-rated c answered =
    rw (← c.index-devices-place.is) (device_rated c.args.name c.args.devices.now c.in-Some.place c.index-devices-place.result c.args.units (sym c.in-Some.ensures) c.index-devices-place.is)

pub returns-in-None-clause-known : goal.returns-in-None-clause-known
returns-in-None-clause-known c = sym (is_unknown c.args.name c.args.devices.now (sym c.in-None.ensures))
