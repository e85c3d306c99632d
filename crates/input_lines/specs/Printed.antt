-- Rule: What the program prints of the answer to an event (all this project's own).
use Rattle.std.specs.Prelude.{ℕ, List, ◌++◌, codes, Option, Some, None}
use Rattle.std.specs.List.{flat_map}
use Rattle.hex.specs.Hex.{encode_lower}
use Rattle.account_machine.specs.declared.event.Reply.{Reply}
use Rattle.account_machine.specs.declared.event.Reply.TheVariants as reply_is
use Rattle.account_replies.specs.declared.part.Part.{Part}

-- a document: its line, and a line of its bytes in hexadecimal
abbrev pub part_lines : Part → List ℕ
part_lines part = part.line ++ codes "\n" ++ encode_lower part.bytes ++ codes "\n"

-- one line, or two for each document; an event that failed has no answer
abbrev pub answer_lines : Option Reply → List ℕ
answer_lines (Some (reply_is.Ipp message)) = codes "ipp " ++ encode_lower message ++ codes "\n"
answer_lines (Some (reply_is.Line text)) = text ++ codes "\n"
answer_lines (Some (reply_is.Documents parts)) = flat_map part_lines parts
answer_lines (Some reply_is.NoAccount) = codes "no-account\n"
answer_lines (Some reply_is.Short) = codes "short\n"
answer_lines None = codes "failed\n"
