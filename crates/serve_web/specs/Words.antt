-- Rule: The word that tells why something was refused, as the query of a page has it.
use Rattle.std.specs.Prelude.{ℕ, ℤ, Bool, List, length, drop, Option, Some, None, codes, bytes_eq, find, option_and_then, option_map}
use Rattle.account_replies.specs.Words.{word_name}
use Rattle.input_http.specs.Words.{before}
use Rattle.account_rules.specs.QueuePaths.{behind}
use Rattle.account_rules.specs.declared.refusal.Word.{Word}
use Rattle.account_rules.specs.declared.refusal.Word.TheVariants.{Quota}
use Rattle.serve_web.specs.Numbers.{large_said, signed_said}
use Rattle.serve_web.specs.declared.word.TheConstants.{WORDS}

-- the text is that of a word that has no numbers
abbrev pub names_word : (text : List ℕ) (word : Word) → Bool
names_word text word = bytes_eq text (word_name word)

abbrev pub word_named : (text : List ℕ) → Option Word
word_named text = find (names_word text) WORDS

-- ---- the units that were needed, and those that were left, with a "+" between them

abbrev pub with_left : (left : Option ℤ) (need : ℕ) → Option Word
with_left left need = option_map (λ units. Quota need units) left

abbrev pub quota_in : (numbers : List ℕ) → Option Word
quota_in numbers =
    let digits = before 43 numbers in
    let left = option_and_then signed_said (behind (codes "+") (drop (length digits) numbers)) in
    option_and_then (with_left left) (large_said digits)

-- ---- any

abbrev pub quota_or_named : (numbers : Option (List ℕ)) (text : List ℕ) → Option Word
quota_or_named (Some numbers) text = quota_in numbers
quota_or_named None text = word_named text

abbrev pub word_in : (text : List ℕ) → Option Word
word_in text = quota_or_named (behind (codes "quota+") text) text
