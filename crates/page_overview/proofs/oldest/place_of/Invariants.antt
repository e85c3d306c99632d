use Rattle.std.proofs.Common.{◌≡◌, ◌++◌, drop, take}
use Rattle.page_overview.specs.Overviews.{put_in}
use Rattle.page_overview.proofs.oldest.place_of.Given as goal

-- it comes behind those so far
abbrev pub invariant-loop-place : goal.invariant-loop-place
invariant-loop-place g l = put_in g.L.Aged.from l.lines l.line ≡ take l.place l.lines ++ put_in g.L.Aged.from (drop l.place l.lines) l.line
