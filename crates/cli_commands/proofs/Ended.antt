-- A run that ended well.
use Rattle.std.proofs.Common.{◌≡◌, ℕ, suc, pred, List, [], ◌∷◌, length, map, IfSome, Result, Ok, Err, IsOk, OnOk, refl, ap, slice_get}
use Rattle.account_machine.specs.Events.{Timed, plain_timed}
use Rattle.account_machine.specs.declared.event.Event.{Event}
use Rattle.input_lines.specs.Actions.{event_of_action}
use Rattle.input_lines.specs.declared.line.Line.{Line}
use Rattle.cli_commands.specs.Runs.{event_of_line}

pub on_ok_both : {X E P Q R : Type 0} (r : Result X E) → (P → Q → R) → OnOk r P → OnOk r Q → OnOk r R
on_ok_both (Ok x) f p q = f p q
on_ok_both (Err e) f p q = tt

pub of_ok : {X E P : Type 0} (r : Result X E) → IsOk r → OnOk r P → P
of_ok (Ok x) is p = p
of_ok (Err e) is p = let no : ⊥ = cc in absurd no

-- the events of lines are those of one after another
pub events_of_lines : (lines : List Line) (events : List (ℕ × Event)) → length events ≡ length lines
    → ((k : ℕ) → IfSome (slice_get lines k) (λ line. IfSome (slice_get events k) (λ e. plain_timed e ≡ (line.moment, event_of_action line.action))))
    → map plain_timed events ≡ map event_of_line lines
events_of_lines [] [] count each = refl
events_of_lines [] (e ∷ events) count each = let no : ⊥ = cc in absurd no
events_of_lines (line ∷ lines) [] count each = let no : ⊥ = cc in absurd no
events_of_lines (line ∷ lines) (e ∷ events) count each = rw (each 0) (ap (λ (rest : List Timed). event_of_line line ∷ rest) (events_of_lines lines events (ap pred count) (λ k. each (suc k))))
