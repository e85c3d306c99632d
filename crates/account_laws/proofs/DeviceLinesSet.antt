-- What a line on a device sets.
use Rattle.std.proofs.Common.{◌≡◌, ◌≢◌, ℕ, Bool, true, false, cond, List, [], ◌∷◌, ◌++◌, Some, is_none, codes, refl, sym, ap, subst, ◌∙◌}
use Rattle.std.specs.Prelude.{MatchBool}
use Rattle.std.specs.Cmp.Lexicographic.{bytes_decides, nat_list_cmp_total}
use Rattle.std.specs.FinMap.{FinMap, get, get-insert, insert}
use Rattle.std.specs.Ordering.{eq_by_cmp}
use Rattle.account_machine.specs.Events.{OfAccount, OfDevice, Switch, Rate}
use Rattle.account_machine.specs.declared.event.Reply.{Reply}
use Rattle.account_machine.specs.declared.event.Reply.TheVariants as reply
use Rattle.account_laws.proofs.AsTold.{of_an_account, told_more}
use Rattle.account_laws.proofs.DevicesStay.{same_name}
use Rattle.account_laws.proofs.OperatorsAnswered.{rates_are_answered, turns_are_answered}
use Rattle.account_laws.specs.AccountsTold.{AccountTold, account_told, after_deed}
use Rattle.account_laws.specs.Deeds.{Rated, Switched, NoDeed}
use Rattle.account_laws.specs.DeviceLines.{AccountsSetNoDevice, RatesSetOneRate, SetsFlag, SetsRate, TurnsSetOneFlag}
use Rattle.account_laws.specs.Told.{is_ok}
use Rattle.account_rules.proofs.DeviceMaps as maps
use Rattle.account_rules.specs.Devices.{name_cmp}

-- ---- one name of a map

at_itself : (name : List ℕ) → eq_by_cmp name_cmp name name ≡ true
at_itself name = maps.named name name ∙ (bytes_decides name name).1 refl

at_other : (q name : List ℕ) → q ≢ name → eq_by_cmp name_cmp q name ≡ false
at_other q name differs = by (eq_by_cmp name_cmp q name) refl
  where
    by : (b : Bool) → eq_by_cmp name_cmp q name ≡ b → b ≡ false
    by true same = absurd (differs (same_name q name same))
    by false other = refl

module _ {X : Type 0} (m : FinMap name_cmp X) (name : List ℕ) (x : X) where
  put_there : get (insert m name x) name ≡ Some x
  put_there = get-insert nat_list_cmp_total m name x name ∙ ap (λ (b : Bool). cond b (Some x) (get m name)) (at_itself name)

  put_beside : (q : List ℕ) → q ≢ name → get (insert m name x) q ≡ get m q
  put_beside q differs = get-insert nat_list_cmp_total m name x q ∙ ap (λ (b : Bool). cond b (Some x) (get m q)) (at_other q name differs)

-- ---- the lines

sets_flag : (told : AccountTold) (device : List ℕ) (on : Bool) → SetsFlag device on told (record told { on = insert told.on device on })
sets_flag told device on = record { account = record { opened = refl; jobs = refl; next = refl; grants = refl }; flag = put_there told.on device on; others = put_beside told.on device on; rates = refl }

sets_rate : (told : AccountTold) (device : List ℕ) (units : ℕ) → SetsRate device units told (record told { rates = insert told.rates device units })
sets_rate told device units = record { account = record { opened = refl; jobs = refl; next = refl; grants = refl }; rate = put_there told.rates device units; others = put_beside told.rates device units; on = refl }

pub turns_set_one_flag : TurnsSetOneFlag
turns_set_one_flag life room devices is past later now device on said here =
    let told = account_told past in
    let answer = turns_are_answered life room devices is past later now device on said here in
    subst (SetsFlag device on told)
    (sym (told_more past ((now, OfDevice device (Switch on)), said) ∙ ap (λ (done : Bool). after_deed now told (cond done (Switched device on) NoDeed)) (ap is_ok answer)))
    (sets_flag told device on)

pub rates_set_one_rate : RatesSetOneRate
rates_set_one_rate life room devices is past later now device units said here =
    subst (λ (after : AccountTold). MatchBool (is_none (get told.on device)) (after ≡ told) (SetsRate device units told after)) (sym more) (by (is_none (get told.on device)))
  where
    told : AccountTold
    told = account_told past

    answer : said ≡ reply.Line (cond (is_none (get told.on device)) (codes "no-device") (codes "ok"))
    answer = rates_are_answered life room devices is past later now device units said here

    after_rate : Bool → AccountTold
    after_rate none = after_deed now told (cond (is_ok (reply.Line (cond none (codes "no-device") (codes "ok")))) (Rated device units) NoDeed)

    more : account_told (past ++ ((now, OfDevice device (Rate units)), said) ∷ []) ≡ after_rate (is_none (get told.on device))
    more = told_more past ((now, OfDevice device (Rate units)), said) ∙ ap (λ (r : Reply). after_deed now told (cond (is_ok r) (Rated device units) NoDeed)) answer

    by : (none : Bool) → MatchBool none (after_rate none ≡ told) (SetsRate device units told (after_rate none))
    by true = refl
    by false = sets_rate told device units

pub accounts_set_no_device : AccountsSetNoDevice
accounts_set_no_device life room devices is past later now account it said here =
    let same = of_an_account (account_told past) now account it said in
    let more = told_more past ((now, OfAccount account it), said) in
    record { on = ap (λ (told : AccountTold). told.on) more ∙ same.on; rates = ap (λ (told : AccountTold). told.rates) more ∙ same.rates }
