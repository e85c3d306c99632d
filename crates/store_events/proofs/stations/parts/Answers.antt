use Rattle.std.proofs.Common.{◌≡◌, List, [], ◌∷◌, ◌++◌, map, append_assoc, ap, ◌∙◌}
use Rattle.account_replies.specs.Parts.{part_of}
use Rattle.account_replies.specs.declared.part.Part.{Part}
use Rattle.account_rules.specs.declared.job.Document.{Document}
use Rattle.store_events.proofs.stations.parts.Goals as goal

-- what was pushed, and then what is left, where the first that was left is pushed
pushed_one : (part : Document → Part) (all done next : List Part) (left rest : List Document) (document : Document) (its : Part) → all ≡ done ++ map part left → left ≡ document ∷ rest → its ≡ part document → next ≡ done ++ its ∷ [] → all ≡ next ++ map part rest
pushed_one part all done next left rest document its so_far taken is pushed = rw (pushed, append_assoc, is) (so_far ∙ ap (λ (l : List Document). done ++ map part l) taken)

pub loop-document-preserved : goal.loop-document-preserved
loop-document-preserved c = pushed_one (part_of c.args.copies) _ _ _ _ _ _ _ c.loop-document.invariant c.in-Some.ensures.steps.0 c.in_ok-handed.ensures.part c.in_ok-push.ensures.items
