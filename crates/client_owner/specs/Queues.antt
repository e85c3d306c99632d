-- Rule: The address of an account's queue: `ipp://HOST[:PORT]/ipp/print/ACCOUNT`, or the same with
-- `http` (RFC 3510; which hosts it may name is this project's own).
use Rattle.std.specs.Prelude.{◌≡◌, ◌≤◌, ◌⊎◌, ℕ, Bool, false, List, [], ◌∷◌, codes, drop, length, IsTrue, Option, Some, None}
use Rattle.std.specs.Net.Addr.{ipv4_octets}
use Rattle.std.specs.Net.Grammar.{IsIpv4Text}
use Rattle.std.specs.Option.{option_or}
use Rattle.std.specs.Str.Parse.{digits_value}
use Rattle.std.specs.declared.net.ipv4_addr.Ipv4Addr.{Ipv4Addr}
use Rattle.input_fields.specs.Fields.{IsDecimal}
use Rattle.input_http.specs.Words.{before}
use Rattle.account_rules.specs.Names.{is_name}
use Rattle.account_rules.specs.QueuePaths.{behind, queues}
use Rattle.client_owner.specs.declared.queue.Queue.{Queue}

-- what stands behind the scheme
unfoldable pub behind_scheme : (uri : List ℕ) → Option (List ℕ)
behind_scheme uri = option_or (behind (codes "ipp://") uri) (behind (codes "http://") uri)

-- HOST: an IPv4 address, or `localhost`
abbrev pub IsHost : (text : List ℕ) (address : Ipv4Addr) → Type 0
IsHost text address =
    ((text ≡ codes "localhost") × (ipv4_octets address ≡ 127 ∷ 0 ∷ 0 ∷ 1 ∷ []))
    ⊎ IsIpv4Text text address

-- nothing, which is port 631, or a ":" and PORT in decimal
abbrev pub IsPort : (text : List ℕ) (port : ℕ) → Type 0
IsPort [] port = port ≡ 631
IsPort (colon ∷ digits) port = (colon ≡ 58) × IsDecimal digits × (1 ≤ digits_value 10 digits)
    × (digits_value 10 digits ≤ 65535) × (port ≡ digits_value 10 digits)

abbrev pub names_account : Option (List ℕ) → Bool
names_account None = false
names_account (Some name) = is_name name

-- /ipp/print/ACCOUNT
abbrev pub is_queue_path : (path : List ℕ) → Bool
is_queue_path path = names_account (behind queues path)

-- the parts of a uri: the authority behind its scheme ends before the first "/", and the host in it
-- before the first ":"
pub record IsQueueAt (uri : List ℕ) (queue : Queue) : Type 0 where
  pub told : queue.uri.now ≡ uri
  pub rest : List ℕ
  pub authority : List ℕ
  pub scheme : behind_scheme uri ≡ Some rest
  pub has_authority : authority ≡ before 47 rest
  pub host : queue.host.now ≡ before 58 authority
  pub is_host : IsHost queue.host.now queue.address
  pub is_port : IsPort (drop (length queue.host.now) authority) queue.port
  pub path : queue.path.now ≡ drop (length authority) rest
  pub is_path : IsTrue (is_queue_path queue.path.now)
