-- Rule: The terminal of a progress bar, as contracts see it (this project's own).
use Rattle.std.specs.Prelude.{Option}
use Rattle.client_operator.specs.declared.bar.Bar.{Bar}

-- where it shows that, if it does
abbrev pub terminal_of : {E : Type 0} → Bar E → Option E
terminal_of bar = bar.terminal
