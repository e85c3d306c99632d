-- Pages show what was told.
use Rattle.std.proofs.Common.{ℕ, List, ap, map}
use Rattle.std.specs.Cmp.{nat_cmp_total}
use Rattle.std.specs.FinMap.{FinMap, entries, nat_cmp-IsAntisymmetric, same_map}
use Rattle.std.specs.Ordering.{nat_cmp}
use Rattle.account_machine.specs.declared.event.Reply.TheVariants as reply
use Rattle.account_laws.proofs.AsTold.{leaves_as_told}
use Rattle.account_laws.proofs.AsToldSums.{charged_as_told, granted_as_told, reserved_as_told}
use Rattle.account_laws.proofs.JobLinesTold.{ended_whole, going_on_whole, last_whole}
use Rattle.account_laws.proofs.LinesTold.{answered_so, values_told}
use Rattle.account_laws.specs.AccountsTold.{account_told}
use Rattle.account_laws.specs.PagesTold as law
use Rattle.account_laws.specs.PagesTold.{desk_told, devices_page_told, owner_told, statement_told}
use Rattle.account_questions.specs.declared.question.About.TheVariants.{DeskPage, OwnerPage, StatementPage}
use Rattle.account_rules.specs.declared.device.Device.{Device}
use Rattle.account_state.specs.Grants.{grant_of}
use Rattle.page_pages.specs.DeskAccounts.{desk_account_page}
use Rattle.page_pages.specs.DeskDevices.{devices_page}
use Rattle.page_pages.specs.Owners.{owner_page}
use Rattle.page_pages.specs.Statements.{statement_page}

pub owner_pages_are_told : law.OwnerPagesAreTold
owner_pages_are_told account month outcome stays needs_password =
    answered_so account (OwnerPage month outcome stays needs_password) (λ told. owner_page (owner_told account month outcome stays needs_password told)) (λ told room devices stands known.
    let granted = granted_as_told told room stands month in
    let reserved = reserved_as_told told room stands in
    let charged = charged_as_told told room stands in
    let waiting = going_on_whole told room stands in
    let ended = last_whole told room stands 20 in
    let all = values_told told devices known in
    λ i. reply.Line (owner_page (record {
      account = account;
      month = month;
      granted = granted i;
      reserved = reserved i;
      charged = charged i;
      waiting = waiting i;
      ended = ended i;
      devices = all i;
      outcome = outcome;
      stays = stays;
      needs_password = needs_password;
    })))

pub statement_pages_are_told : law.StatementPagesAreTold
statement_pages_are_told account first last form drawn_up =
    answered_so account (StatementPage first last form drawn_up) (λ told. statement_page (statement_told account first last form drawn_up told)) (λ told room devices stands known.
    let granted = granted_as_told told room stands last in
    let reserved = reserved_as_told told room stands in
    let charged = charged_as_told told room stands in
    let grants = ap (λ (grants : FinMap nat_cmp ℕ). map grant_of (entries grants)) (same_map nat_cmp_total nat_cmp-IsAntisymmetric room.grants told.grants stands.grants) in
    let ended = ended_whole told room stands in
    λ i. reply.Line (statement_page (record {
      account = account;
      first = first;
      last = last;
      form = form;
      drawn_up = drawn_up;
      granted = granted i;
      reserved = reserved i;
      charged = charged i;
      grants = grants i;
      ended = ended i;
    })))

pub desk_pages_are_told : law.DeskPagesAreTold
desk_pages_are_told account month =
    answered_so account (DeskPage month) (λ told. desk_account_page (desk_told account month told)) (λ told room devices stands known.
    let granted = granted_as_told told room stands month in
    let reserved = reserved_as_told told room stands in
    let charged = charged_as_told told room stands in
    let waiting = going_on_whole told room stands in
    let ended = last_whole told room stands 20 in
    let grants = ap (λ (grants : FinMap nat_cmp ℕ). map grant_of (entries grants)) (same_map nat_cmp_total nat_cmp-IsAntisymmetric room.grants told.grants stands.grants) in
    λ i. reply.Line (desk_account_page (record {
      account = account;
      month = month;
      granted = granted i;
      reserved = reserved i;
      charged = charged i;
      waiting = waiting i;
      ended = ended i;
      grants = grants i;
    })))

pub devices_pages_are_told : law.DevicesPagesAreTold
devices_pages_are_told life room devices names is =
    let told = account_told life in
    let left = leaves_as_told life room devices is in
    ap (λ (devices : List Device). reply.Line (devices_page devices)) (values_told told devices left.known)
