-- For the proof of the code alone: one read and one write of a peer that speaks HTTP.
use Rattle.std.specs.Prelude.{◌≡◌, ℕ, List, ◌++◌, Option}
use Rattle.std.specs.Io.KnownBytes.{Appends, Consumes}
use Rattle.http_server.specs.History.{History}

-- bytes came
pub record ReadsBytes (left left2 : Option (List ℕ)) (before after : History) : Type 0 where
  pub came : List ℕ
  pub reads : Consumes left left2 came
  pub received : after.received ≡ before.received ++ came
  pub sent : after.sent ≡ before.sent

-- bytes went
pub record WritesBytes (given given2 : Option (List ℕ)) (before after : History) : Type 0 where
  pub went : List ℕ
  pub writes : Appends given given2 went
  pub received : after.received ≡ before.received
  pub sent : after.sent ≡ before.sent ++ went
