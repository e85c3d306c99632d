-- One call after another.
use Rattle.std.proofs.Common.{◌≡◌, ℕ, ◌+◌, List, [], ◌++◌, length, take, drop, sym, ap, ◌∙◌, subst, append_assoc, arith, take-add, length-append, OnErr, OnOk, Option, Some, None, Result, Ok, Err}
use Rattle.std.proofs.Math.Seq.{take-append-add}
use Rattle.std.proofs.lemmas.List.{append-nil, take-append-le}
use Rattle.std.specs.Io.KnownBytes.{Appends}
use Rattle.input_fields.specs.Streams.{Yields}
use Rattle.listen_http.specs.Exchange.{AppendsFront}

pub Yields_more : (a b c : List ℕ → Type 0) (xs ys : List ℕ) → Yields a b xs → Yields b c ys → Yields a c (xs ++ ys)
Yields_more a b c xs ys f g rest h = subst a (sym (append_assoc xs ys rest)) (f (ys ++ rest) (g rest h))

pub Appends_more : (a b c : Option (List ℕ)) (xs ys : List ℕ) → Appends a b xs → Appends b c ys → Appends a c (xs ++ ys)
Appends_more None b c xs ys p q = tt
Appends_more (Some us) None c xs ys p q = absurd p
Appends_more (Some us) (Some vs) None xs ys p q = absurd q
Appends_more (Some us) (Some vs) (Some ws) xs ys p q = q ∙ ap (λ s. s ++ ys) p ∙ append_assoc us xs ys

pub nothing_sent : (a : Option (List ℕ)) → Appends a a []
nothing_sent None = tt
nothing_sent (Some us) = sym (append-nil us)

-- a front of what is left, after the front so far
pub wrote_more : (a b c : Option (List ℕ)) (text : List ℕ) (at n : ℕ) → Appends a b (take at text) → Appends b c (take n (drop at text)) → Appends a c (take (at + n) text)
wrote_more a b c text at n p q = subst (Appends a c) (sym (take-add at n text)) (Appends_more a b c (take at text) (take n (drop at text)) p q)

-- a front of one text is a front of a longer one
pub front_of_more : (a b : Option (List ℕ)) (text more : List ℕ) → AppendsFront a b text → AppendsFront a b (text ++ more)
front_of_more a b text more part =
    let size : length (text ++ more) ≡ length text + length more = length-append text more in
    let same : take part.0 (text ++ more) ≡ take part.0 text = take-append-le part.0 text more (omega (arith, part.1)) in
    (part.0, omega (arith, part.1, size), subst (Appends a b) (sym same) part.2)

-- and after a text a front of one that follows it
pub front_behind : (a b c : Option (List ℕ)) (text more : List ℕ) → Appends a b text → AppendsFront b c more → AppendsFront a c (text ++ more)
front_behind a b c text more all part =
    let size : length (text ++ more) ≡ length text + length more = length-append text more in
    let same : take (length text + part.0) (text ++ more) ≡ text ++ take part.0 more = take-append-add text more part.0 in
    (length text + part.0, omega (arith, part.1, size), subst (Appends a c) (sym same) (Appends_more a b c text (take part.0 more) all part.2))

-- what the second of two calls wrote, after the first
pub sent_behind : {A E : Type 0} (result : Result A E) (a b c : Option (List ℕ)) (text more : List ℕ) → Appends a b text → OnOk result (Appends b c more) → OnOk result (Appends a c (text ++ more))
sent_behind (Ok value) a b c text more all rest = Appends_more a b c text more all rest
sent_behind (Err error) a b c text more all rest = tt

pub failed_behind : {A E : Type 0} (result : Result A E) (a b c : Option (List ℕ)) (text more : List ℕ) → Appends a b text → OnErr result (AppendsFront b c more) → OnErr result (AppendsFront a c (text ++ more))
failed_behind (Ok value) a b c text more all rest = tt
failed_behind (Err error) a b c text more all rest = front_behind a b c text more all rest
