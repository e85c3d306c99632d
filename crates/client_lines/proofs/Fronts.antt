-- What was written is all of some bytes, or a front of them.
use Rattle.std.proofs.Common.{ℕ, List, [], ◌++◌, ap, sym, ◌∙◌, refl, append_assoc, append-nil}
use Rattle.std.specs.Prelude.{Option}
use Rattle.std.specs.Io.KnownBytes.{Appends, Keeps}
use Rattle.std.proofs.KnownBytes.{Appends-nil, Appends-trans, Appends-kept}
use Rattle.client_lines.specs.Sending.{AppendsUpTo}

pub AppendsUpTo-none : (a : Option (List ℕ)) (bytes : List ℕ) → AppendsUpTo a a bytes
AppendsUpTo-none a bytes = ([], bytes, refl, Appends-nil a)

pub AppendsUpTo-whole : (a b : Option (List ℕ)) (bytes : List ℕ)
    → Appends a b bytes → AppendsUpTo a b bytes
AppendsUpTo-whole a b bytes all = (bytes, [], sym (append-nil bytes), all)

-- a front is a front of more as well
pub AppendsUpTo-longer : (a b : Option (List ℕ)) (bytes more : List ℕ)
    → AppendsUpTo a b bytes → AppendsUpTo a b (bytes ++ more)
AppendsUpTo-longer a b bytes more (front, rest, split, appended) =
    (front, rest ++ more, ap (λ l. l ++ more) split ∙ append_assoc front rest more, appended)

-- a front after what was written whole
pub AppendsUpTo-behind : (a b c : Option (List ℕ)) (done bytes : List ℕ)
    → Appends a b done → AppendsUpTo b c bytes → AppendsUpTo a c (done ++ bytes)
AppendsUpTo-behind a b c done bytes first (front, rest, split, appended) = (
  done ++ front,
  rest,
  ap (λ l. done ++ l) split ∙ sym (append_assoc done front rest),
  Appends-trans a b c done front first appended,
)

pub AppendsUpTo-kept : (a b c : Option (List ℕ)) (bytes : List ℕ)
    → AppendsUpTo a b bytes → Keeps b c → AppendsUpTo a c bytes
AppendsUpTo-kept a b c bytes (front, rest, split, appended) kept =
    (front, rest, split, Appends-kept a b c front appended kept)
