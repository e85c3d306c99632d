-- What is no host, and what is no queue for want of one.
use Rattle.std.proofs.Common.{◌≡◌, ◌∙◌, List, ℕ, ap, codes, inl, inr, subst, sym, true, false}
use Rattle.std.specs.Prelude.{IfNone, None, Option, Some, bytes_eq}
use Rattle.std.specs.Net.Grammar.{IsIpv4Text}
use Rattle.std.specs.declared.net.ipv4_addr.Ipv4Addr.{Ipv4Addr}
use Rattle.input_http.specs.Words.{before}
use Rattle.client_owner.specs.Queues.{IsHost, IsQueueAt, behind_scheme}
use Rattle.client_owner.specs.declared.queue.Queue.{Queue}

pub IfNone-of : {A : Type 0} (found : Option A) (P : Type 0) → P → IfNone found P
IfNone-of None P holds = holds
IfNone-of (Some value) P holds = tt

pub IfNone-map : {A : Type 0} (found : Option A) (P Q : Type 0) → (P → Q) → IfNone found P → IfNone found Q
IfNone-map None P Q then holds = then holds
IfNone-map (Some value) P Q then holds = tt

never : true ≡ false → ⊥
never same = cc

pub no_host : (host : List ℕ) → bytes_eq host (codes "localhost") ≡ false
    → ((address : Ipv4Addr) → IsIpv4Text host address → ⊥)
    → (address : Ipv4Addr) → IsHost host address → ⊥
no_host host other none address is = elim is [
  | inl local ↦ never (subst (λ text. bytes_eq text (codes "localhost") ≡ false) local.0 other)
  | inr text ↦ none address text
]

pub no_queue : (uri rest authority host : List ℕ) → Some rest ≡ behind_scheme uri
    → authority ≡ before 47 rest → host ≡ before 58 authority
    → ((address : Ipv4Addr) → IsHost host address → ⊥)
    → (queue : Queue) → IsQueueAt uri queue → ⊥
no_queue uri rest authority host scheme has_authority is_host none queue is =
    let found : Some is.rest ≡ Some rest = sym is.scheme ∙ sym scheme in
    let same : is.rest ≡ rest = cc in
    let hosts : queue.host.now ≡ host = is.host
    ∙ ap (before 58) (is.has_authority ∙ ap (before 47) same ∙ sym has_authority) ∙ sym is_host in
    none queue.address (subst (λ text. IsHost text queue.address) hosts is.is_host)
