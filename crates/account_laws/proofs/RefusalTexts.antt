-- The text and the code of each word: the machine has the same text, and both can be spelled.
use Rattle.std.proofs.Common.{◌≡◌, ◌^◌, ◌<◌, ◌≤◌, ◌++◌, length, length-append, codes, refl, arith}
use Rattle.std.specs.Fmt.{decimal, signed_decimal}
use Rattle.account_laws.proofs.Digits.{decimal_few, signed_few}
use Rattle.account_laws.specs.RefusalCodes.{code_of}
use Rattle.account_laws.specs.RefusalTexts.{text_of}
use Rattle.account_replies.specs.Words.{word_text}
use Rattle.account_rules.specs.declared.refusal.Word.{Word}
use Rattle.account_rules.specs.declared.refusal.Word.TheVariants as words

pub text_alike : (word : Word) → word_text word ≡ text_of word
text_alike words.Version = refl
text_alike _ = refl

pub text_fits : (word : Word) → length (text_of word) ≤ 32767
text_fits (words.Quota need left) =
    omega (arith, length-append (codes "quota ") (decimal need ++ (codes " " ++ signed_decimal left)), length-append (decimal need) (codes " " ++ signed_decimal left), length-append (codes " ") (signed_decimal left), decimal_few need, signed_few left)
text_fits (words.Conflict held) = omega (arith, length-append (codes "conflict ") (decimal held), decimal_few held)
text_fits _ = omega arith

pub code_fits : (word : Word) → code_of word < 2 ^ 16
code_fits words.Version = omega arith
code_fits _ = omega arith
