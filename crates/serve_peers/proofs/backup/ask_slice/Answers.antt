use Rattle.std.proofs.Common.{rules, ◌≡◌, sym, ◌∙◌, inr}
use Rattle.serve_peers.specs.Backups.{file_of}
use Rattle.serve_peers.proofs.backup.ask_slice.Goals as goal

pub returns : goal.returns
returns c =
    let same : file_of c.in-Some.asked ≡ c.args.file.now = search rules in
    inr (c.in-Some.asked, sym c.take.ensures.value ∙ c.in-Some.is, same, c.slice_told-told.ensures, c.next.ensures)
