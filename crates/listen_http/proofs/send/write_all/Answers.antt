use Rattle.std.proofs.Common.{rules}
use Rattle.std.proofs.lemmas.List.{take_rest}
use Rattle.listen_http.proofs.Streams.{wrote_more}
use Rattle.listen_http.proofs.send.write_all.Goals as goal

-- a piece more was taken
pub pieces-preserved : goal.pieces-preserved
pieces-preserved g c = record {
  within = search rules;
  sent = wrote_more _ _ _ _ _ _ c.pieces.invariant.sent (rw take_rest at c.in-Ok.ensures.took);
  count = search rules;
}
