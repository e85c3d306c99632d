use Rattle.std.proofs.Common.{◌+◌, subst, sym, arith}
use Rattle.account_asks.proofs.Sorts.{KeysUpTo, no_keys, one_more_key, all_keys}
use Rattle.account_asks.proofs.firsts.keys_in.Goals as goal

pub loop-place-init : goal.loop-place-init
loop-place-init c = no_keys c.in_ok-keys.keys.items c.args.attributes.now c.in_ok-keys.ensures.items

pub loop-place-preserved : goal.loop-place-preserved
loop-place-preserved c =
    subst (λ keys. KeysUpTo keys c.args.attributes.now (c.loop-place.place + 1)) (sym c.in_ok-push.ensures.items)
    (one_more_key c.loop-place.keys.items c.args.attributes.now c.loop-place.place c.index-attributes-place.result c.key_of.result c.loop-place-test.true c.index-attributes-place.is c.key_of.ensures c.loop-place.invariant)

pub returns : goal.returns
returns c = all_keys c.loop-place.keys.items c.args.attributes.now c.loop-place.place (omega (arith, c.loop-place-test.false, c.loop-place.auto.place-end)) c.loop-place.invariant
