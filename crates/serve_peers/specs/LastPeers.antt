-- What goes last on a connection whose round was lost, since its commit failed, and that nothing is
-- taken behind it (all this project's own).
use Rattle.std.specs.Prelude.{◌≡◌, ◌⊎◌, ℕ, List, [], ◌++◌, drop, take, Option, Result}
use Rattle.std.specs.Io.KnownBytes.{Appends}
use Rattle.sqlite_trees.specs.declared.store.Store.{Ghosts}
use Rattle.account_machine.specs.declared.verdict.Answered.{Answered}
use Rattle.input_http.specs.Texts.{refusal_text}
use Rattle.input_http.specs.declared.refusal.Refusal.{Refusal}
use Rattle.store_rounds.specs.declared.fault.StoreFault.{StoreFault}
use Rattle.serve_peers.specs.Turns.{AppliesNext}
use Rattle.serve_peers.specs.LastTexts.{last_text}
use Rattle.serve_peers.specs.Streams.{Carry, Ends}
use Rattle.serve_peers.specs.declared.entry.Entry.{Entry}
use Rattle.serve_peers.specs.declared.last_peer.LastPeer.{LastPeer}
use Rattle.serve_peers.specs.declared.patience.Patience.{Patience}
use Rattle.serve_peers.specs.declared.served.Served.{Served}

-- what is still to go on the connection, and nothing behind it
abbrev pub left_of : LastPeer → List ℕ
left_of peer = peer.output.items

abbrev pub patience_of : LastPeer → Patience
patience_of peer = peer.progress.patience

module _ {S : Type 0} (store : Ghosts S) where
  -- what was asked in a round that was lost is applied again, by itself, and what that comes to is
  -- all that is still to go; or there was no memory for it, and nothing is
  pub record IsToldAgain (asked : Entry) (peer : LastPeer) (old new : Served S) : Type 0 where
    pub told : Result Answered StoreFault
    pub next : AppliesNext store asked told old new
    pub left : (left_of peer ≡ last_text asked told) ⊎ (left_of peer ≡ [])

-- it was refused for this, and that is all that is still to go; or there was no memory for it, and
-- nothing is
abbrev pub IsToldRefusal : (why : Refusal) (peer : LastPeer) → Type 0
IsToldRefusal why peer = (left_of peer ≡ refusal_text why) ⊎ (left_of peer ≡ [])

-- so many bytes of what was still to go went
abbrev pub Leaves : (given given2 : Option (List ℕ)) (before after : LastPeer) (n : ℕ) → Type 0
Leaves given given2 before after n = Appends given given2 (take n (left_of before))
    × (left_of after ≡ drop n (left_of before))

-- the front of what was still to go went
abbrev pub Sends : (given given2 : Option (List ℕ)) (before after : LastPeer) → Type 0
Sends given given2 before after = (went : List ℕ) × Appends given given2 went
    × (left_of before ≡ went ++ left_of after)

-- The front of what was still to go went, and nothing else did. What came was dropped.
pub record SaysLast (ends ends2 : Ends) (before after : LastPeer) : Type 0 where
  pub came : List ℕ
  pub went : List ℕ
  pub carry : Carry ends ends2 came went
  pub left : left_of before ≡ went ++ left_of after
