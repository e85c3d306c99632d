-- What comes and goes on a connection of HTTP, one step after another.
use Rattle.std.proofs.Common.{◌≡◌, ℕ, Option, List, [], ◌++◌, take, sym, ap, ◌∙◌, append_assoc, append-nil}
use Rattle.std.proofs.KnownBytes.{Appends-nil, Consumes-nil}
use Rattle.std.specs.Io.KnownBytes.{Appends, Consumes, Keeps}
use Rattle.http_server.specs.History.{History, IsQuiet, after_read, after_sent}
use Rattle.serve_peers.proofs.Ends.{carry_then, no_bytes, none_read}
use Rattle.serve_peers.specs.HttpPeers.{GoesOn}
use Rattle.serve_peers.specs.ProofHttpSteps.{ReadsBytes, WritesBytes}
use Rattle.serve_peers.specs.Streams.{Ends}

-- ---- one read, one write

pub none_came : (left left2 : Option (List ℕ)) (before after : History) → Keeps left left2 → after ≡ before → ReadsBytes left left2 before after
none_came left left2 before after kept is = record {
  came = [];
  reads = none_read left left2 kept;
  received = ap (λ (h : History). h.received) is ∙ sym (append-nil before.received);
  sent = ap (λ (h : History). h.sent) is;
}

pub came : (left left2 : Option (List ℕ)) (before after : History) (more : List ℕ) → Consumes left left2 more → after ≡ after_read before more → ReadsBytes left left2 before after
came left left2 before after more reads is = record {
  came = more;
  reads = reads;
  received = ap (λ (h : History). h.received) is;
  sent = ap (λ (h : History). h.sent) is;
}

pub went : (given given2 : Option (List ℕ)) (before after : History) (count : ℕ) → after ≡ after_sent before count → Appends given given2 (take count before.pending) → WritesBytes given given2 before after
went given given2 before after count is writes = record {
  went = take count before.pending;
  writes = writes;
  received = ap (λ (h : History). h.received) is;
  sent = ap (λ (h : History). h.sent) is;
}

-- ---- steps

pub quiet : (ends : Ends) (before after : History) → IsQuiet before after → GoesOn ends ends before after
quiet ends before after is = record {
  came = [];
  went = [];
  carry = no_bytes ends;
  received = is.0 ∙ sym (append-nil before.received);
  sent = is.2 ∙ sym (append-nil before.sent);
}

pub still : (ends : Ends) (before after : History) → after ≡ before → GoesOn ends ends before after
still ends before after is = quiet ends before after (ap (λ (h : History). h.received) is, ap (λ (h : History). h.ended) is, ap (λ (h : History). h.sent) is)

pub reads : (left left2 given : Option (List ℕ)) (before after : History) → ReadsBytes left left2 before after → GoesOn (left, given) (left2, given) before after
reads left left2 given before after is = record {
  came = is.came;
  went = [];
  carry = (is.reads, Appends-nil given);
  received = is.received;
  sent = is.sent ∙ sym (append-nil before.sent);
}

pub writes : (left given given2 : Option (List ℕ)) (before after : History) → WritesBytes given given2 before after → GoesOn (left, given) (left, given2) before after
writes left given given2 before after is = record {
  came = [];
  went = is.went;
  carry = (Consumes-nil left, is.writes);
  received = is.received ∙ sym (append-nil before.received);
  sent = is.sent;
}

pub then : (e f h : Ends) (a b c : History) → GoesOn e f a b → GoesOn f h b c → GoesOn e h a c
then e f h a b c first later = record {
  came = first.came ++ later.came;
  went = first.went ++ later.went;
  carry = carry_then e f h first.came later.came first.went later.went first.carry later.carry;
  received = later.received ∙ ap (λ x. x ++ later.came) first.received ∙ append_assoc a.received first.came later.came;
  sent = later.sent ∙ ap (λ x. x ++ later.went) first.sent ∙ append_assoc a.sent first.went later.went;
}
