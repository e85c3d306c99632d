use Rattle.std.proofs.Common.{Bool, refl, subst, sym}
use Rattle.serve_peers.proofs.BackupKept.{kept, nothing}
use Rattle.serve_peers.specs.Copies.{copy_in}
use Rattle.serve_peers.specs.Keeping.{KeepsOutside}
use Rattle.serve_peers.proofs.served.Served.keep_backup.Goals as goal

pub returns-then-self-clause-nothing : goal.returns-then-self-clause-nothing
returns-then-self-clause-nothing g c = nothing g.S.Store c.args.self.now

pub returns-clause-keeps : goal.returns-clause-keeps
returns-clause-keeps g c =
    let old = c.args.self.now in
    let new = record old { rounds = c.keep_backup.new.rounds; journal = c.keep_backup.new.journal; background = c.keep_backup.new.self } in
    subst (λ (b : Bool). KeepsOutside g.S.Store g.T.Store b old new (copy_in c.args.copies.now) (copy_in c.keep_backup.new.copies)) (sym c.if-self.false) (c.keep_backup.ensures, refl)

pub returns-clause-nothing : goal.returns-clause-nothing
returns-clause-nothing g c =
    let old = c.args.self.now in
    let new = record old { rounds = c.keep_backup.new.rounds; journal = c.keep_backup.new.journal; background = c.keep_backup.new.self } in
    kept g.S.Store g.T.Store old new (copy_in c.args.copies.now) (copy_in c.keep_backup.new.copies) c.if-self.false refl c.keep_backup.ensures
