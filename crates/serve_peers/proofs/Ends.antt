-- Bytes of two ends, one step after another.
use Rattle.std.proofs.Common.{ℕ, Option, None, Some, Result, Ok, Err, List, [], ◌++◌, take, sym, ◌∙◌, append-nil}
use Rattle.std.proofs.KnownBytes.{Appends-nil, Appends-trans, Consumes-nil, Consumes-trans}
use Rattle.std.specs.Io.KnownBytes.{Appends, Consumes, Keeps, ReadConsumes}
use Rattle.serve_peers.specs.Streams.{Carry, Ends}

pub none_read : (left left2 : Option (List ℕ)) → Keeps left left2 → Consumes left left2 []
none_read None left2 is = tt
none_read (Some xs) None is = absurd is
none_read (Some xs) (Some ys) is = sym is

pub none_written : (given given2 : Option (List ℕ)) → Keeps given given2 → Appends given given2 []
none_written None given2 is = tt
none_written (Some xs) None is = absurd is
none_written (Some xs) (Some ys) is = is ∙ sym (append-nil xs)

pub no_bytes : (ends : Ends) → Carry ends ends [] []
no_bytes ends = (Consumes-nil ends.0, Appends-nil ends.1)

pub carry_then : (a b c : Ends) (came came2 went went2 : List ℕ) → Carry a b came went → Carry b c came2 went2 → Carry a c (came ++ came2) (went ++ went2)
carry_then a b c came came2 went went2 first later = (Consumes-trans a.0 b.0 c.0 came came2 first.0 later.0, Appends-trans a.1 b.1 c.1 went went2 first.1 later.1)

-- what one read consumed
consumed : {E : Type 0} → (left left2 : Option (List ℕ)) (r : Result ℕ E) (buf : List ℕ) → ReadConsumes left left2 r buf → (came : List ℕ) × Consumes left left2 came
consumed left left2 (Ok n) buf is = (take n buf, is.0)
consumed left left2 (Err e) buf is = ([], none_read left left2 is)

pub read_more : {E : Type 0} → (a b c : Option (List ℕ)) (r : Result ℕ E) (buf : List ℕ) → ((came : List ℕ) × Consumes a b came) → ReadConsumes b c r buf → (came : List ℕ) × Consumes a c came
read_more a b c r buf before is =
    let more = consumed b c r buf is in
    (before.0 ++ more.0, Consumes-trans a b c before.0 more.0 before.1 more.1)
