use Rattle.std.proofs.Common.{Ok, ap, refl, sym, ◌∙◌}
use Rattle.serve_peers.proofs.LineCalls.{ended, lost, no_text_then, none_waits, put_off, received, sent, stood, took, waited_then, waits}
use Rattle.serve_peers.specs.Lines.{output_of}
use Rattle.serve_peers.proofs.line_peer.LinePeer.step.Goals as goal

pub returns-then-wants_write-clause-takes : goal.returns-then-wants_write-clause-takes
returns-then-wants_write-clause-takes g c = sent g.S.Store _ _ _ _ _ _ _ c.send.ensures.sends

pub returns-then-asks_documents-clause-takes : goal.returns-then-asks_documents-clause-takes
returns-then-asks_documents-clause-takes g c = stood g.S.Store _ _ _ _

pub returns-in-Ok-Answered-clause-takes : goal.returns-in-Ok-Answered-clause-takes
returns-in-Ok-Answered-clause-takes g c = took g.S.Store _ _ _ _ _ _ (none_waits _ (sym c.wants_write.ensures ∙ c.if-wants_write.false)) (c.in-Ok-Answered.ensures.taken (ap Ok c.in-Ok-Answered.field-0-is)) c.in-Ok-Answered.ensures.side c.in-Ok-Answered.ensures.quiet

pub returns-in-Ok-Unended-clause-takes : goal.returns-in-Ok-Unended-clause-takes
returns-in-Ok-Unended-clause-takes g c = rw c.end.ensures.same (waited_then g.S.Store _ _ _ _ _ _ _ _ _ (c.in-Ok-Unended.ensures.none (ap Ok c.in-Ok-Unended.field-0-is)) (ended g.S.Store _ _ _ _ _ (ap output_of (c.in-Ok-Unended.ensures.none (ap Ok c.in-Ok-Unended.field-0-is)).connection ∙ none_waits _ (sym c.wants_write.ensures ∙ c.if-wants_write.false)) c.end.ensures.ended))

pub returns-in-Ok-Unended-2-clause-takes : goal.returns-in-Ok-Unended-2-clause-takes
returns-in-Ok-Unended-2-clause-takes g c = waits g.S.Store _ _ _ _ _ _ (c.in-Ok-Unended.ensures.none (ap Ok c.in-Ok-Unended.field-0-is))

pub returns-in-Ok-Unended-3-clause-takes : goal.returns-in-Ok-Unended-3-clause-takes
returns-in-Ok-Unended-3-clause-takes g c = waits g.S.Store _ _ _ _ _ _ (c.in-Ok-Unended.ensures.none (ap Ok c.in-Ok-Unended.field-0-is))

pub returns-in-Ok-Unended-4-clause-takes : goal.returns-in-Ok-Unended-4-clause-takes
returns-in-Ok-Unended-4-clause-takes g c = waited_then g.S.Store _ _ _ _ _ _ _ _ _ (c.in-Ok-Unended.ensures.none (ap Ok c.in-Ok-Unended.field-0-is)) (received g.S.Store _ _ _ _ _ _ _ c.receive.ensures.receives)

pub returns-in-Ok-PutOff-clause-takes : goal.returns-in-Ok-PutOff-clause-takes
returns-in-Ok-PutOff-clause-takes g c = put_off g.S.Store _ _ _ _ _ _ (c.in-Ok-PutOff.ensures.put_off (ap Ok c.in-Ok-PutOff.field-0-is))

pub returns-in-Err-clause-takes : goal.returns-in-Err-clause-takes
returns-in-Err-clause-takes g c = lost g.S.Store _ _ _ _ _ _ (none_waits _ (sym c.wants_write.ensures ∙ c.if-wants_write.false)) c.in-Err.ensures.lost c.in-Err.ensures.side c.in-Err.ensures.quiet refl

pub returns-in-Ok-NoText-clause-takes : goal.returns-in-Ok-NoText-clause-takes
returns-in-Ok-NoText-clause-takes g c = rw c.end-in-Ok-NoText.ensures.same (no_text_then g.S.Store _ _ _ _ _ _ _ _ _ (c.in-Ok-NoText.ensures.no_text (ap Ok c.in-Ok-NoText.field-0-is)) (ended g.S.Store _ _ _ _ _ (ap output_of (c.in-Ok-NoText.ensures.no_text (ap Ok c.in-Ok-NoText.field-0-is)).connection ∙ none_waits _ (sym c.wants_write.ensures ∙ c.if-wants_write.false)) c.end-in-Ok-NoText.ensures.ended))
