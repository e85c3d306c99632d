-- What goes last on a connection, one step after another.
use Rattle.std.proofs.Common.{ℕ, Option, List, [], ◌++◌, refl, sym, ap, ◌∙◌, append_assoc}
use Rattle.std.proofs.KnownBytes.{Appends-trans}
use Rattle.serve_peers.proofs.Ends.{no_bytes}
use Rattle.serve_peers.specs.LastPeers.{SaysLast, Sends, left_of}
use Rattle.serve_peers.specs.Streams.{Ends}
use Rattle.serve_peers.specs.declared.last_peer.LastPeer.{LastPeer}

pub begun : (ends : Ends) (before : LastPeer) → SaysLast ends ends before before
begun ends before = record { came = []; went = []; carry = no_bytes ends; left = refl }

pub then : (left left2 given given2 given3 : Option (List ℕ)) (a b c : LastPeer) → SaysLast (left, given) (left2, given2) a b → Sends given2 given3 b c → SaysLast (left, given) (left2, given3) a c
then left left2 given given2 given3 a b c first later = record {
  came = first.came;
  went = first.went ++ later.0;
  carry = (first.carry.0, Appends-trans given given2 given3 first.went later.0 first.carry.1 later.1);
  left = first.left ∙ ap (λ x. first.went ++ x) later.2 ∙ sym (append_assoc first.went later.0 (left_of c));
}
