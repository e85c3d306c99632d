-- Words that are cut from the front of a line.
use Rattle.std.proofs.Common.{◌≡◌, ◌≤◌, ℕ, arith, Bool, true, false, cond, List, ◌++◌, codes, ap, sym, ◌∙◌, append_assoc}
use Rattle.std.proofs.lemmas.Bool.{true≢false}
use Rattle.std.specs.Prelude.{None, Some, is_some, unwrap_or}

-- a word and a space are cut from what is left of a line
pub words-cut : (front word rest more : List ℕ) → rest ≡ word ++ codes " " ++ more
    → front ++ rest ≡ front ++ word ++ codes " " ++ more
words-cut front word rest more cut =
    ap (λ l. front ++ l) cut ∙ sym (append_assoc front (word ++ codes " ") more)
    ∙ ap (λ l. l ++ more) (sym (append_assoc front word (codes " ")))

-- a name that was read is the bytes that it was read of
pub name-read : (is_name : Bool) (text name : List ℕ)
    → Some name ≡ cond is_name (Some text) None → text ≡ name
name-read true text name read = sym (ap (λ o. unwrap_or o name) read)
name-read false text name read = absurd (true≢false (ap is_some read))

-- a number between another and itself is that
pub number-between : (number job : ℕ) → job ≤ number → number ≤ job → number ≡ job
number-between number job least most = omega (arith, least, most)
