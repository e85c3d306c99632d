-- Rule: The lines that a station is told (this project's own). A refusal's line is the text of its
-- word.
use Rattle.std.specs.Prelude.{ℕ, List, ◌++◌, codes}
use Rattle.std.specs.Fmt.{decimal, signed_decimal}
use Rattle.account_rules.specs.Formats.{media_type}
use Rattle.account_replies.specs.declared.station_line.Success.{Success}
use Rattle.account_replies.specs.declared.station_line.Success.TheVariants.{Released, Settled, Started}
use Rattle.account_replies.specs.declared.station_line.Success.TheVariants as success

abbrev pub success_text : Success → List ℕ
success_text success.Ok = codes "ok"
success_text (Released reserved left) =
    codes "ok reserved " ++ (decimal reserved ++ (codes " left " ++ signed_decimal left))
success_text (Settled charged left) =
    codes "ok charged " ++ (decimal charged ++ (codes " left " ++ signed_decimal left))
success_text (Started job copies format size) =
    codes "document "
    ++ (decimal job
    ++ (codes " "
    ++ (decimal copies
    ++ (codes " " ++ (media_type format ++ (codes " " ++ decimal size))))))
