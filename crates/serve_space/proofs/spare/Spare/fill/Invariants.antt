use Rattle.std.proofs.Common.{◌≤◌}
use Rattle.serve_space.specs.Spares.{held_of, takes_of, whole}
use Rattle.serve_space.proofs.spare.Spare.fill.Given as goal

abbrev pub invariant-loop : goal.invariant-loop
invariant-loop l = (held_of l.fn.self ≤ held_of l.self)
    × (held_of l.fn.self ≤ whole → held_of l.self ≤ whole)
    × (takes_of l.fn.self ≤ takes_of l.self)
