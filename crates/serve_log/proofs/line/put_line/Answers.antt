use Rattle.std.proofs.Common.{◌≡◌, List, ℕ, ◌++◌, append_assoc, ◌∙◌, codes, Result, Ok, Err}
use Rattle.std.specs.Bool.{if◌then◌else◌}
use Rattle.std.specs.Result.{OnOk, is_ok}
use Rattle.serve_log.proofs.line.put_line.Goals as goal

-- the eight parts, one behind the other
behind : (a b c d e f g h moment door event told space end : List ℕ) → b ≡ a ++ moment → c ≡ b ++ space → d ≡ c ++ door → e ≡ d ++ space → f ≡ e ++ event → g ≡ f ++ space → h ≡ g ++ told
    → h ++ end ≡ a ++ (moment ++ space ++ door ++ space ++ event ++ space ++ told ++ end)
behind a b c d e f g h moment door event told space end p q r s t u v = simp (v, u, t, s, r, q, p, append_assoc)

put_last : {A E : Type 0} (result : Result A E) (before after part all : List ℕ) → after ≡ (if is_ok result then before ++ part else before) → before ++ part ≡ all → OnOk result (after ≡ all)
put_last (Ok value) before after part all is same = is ∙ same
put_last (Err error) before after part all is same = tt

pub returns : goal.returns
returns g c =
    put_last c.extend_from_slice-4.result _ _ (codes "\n") _ c.extend_from_slice-4.ensures.items
    (behind _ _ _ _ _ _ _ _ _ _ _ _ (codes " ") (codes "\n") c.in_ok-put_number.ensures c.in_ok-extend_from_slice.ensures.items c.in_ok-put_door.ensures c.in_ok-extend_from_slice-2.ensures.items c.in_ok-put_event.ensures c.in_ok-extend_from_slice-3.ensures.items c.in_ok-put_outcome.ensures)
