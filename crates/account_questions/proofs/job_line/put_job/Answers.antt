use Rattle.std.proofs.Common.{◌≡◌, ℕ, List, ◌++◌, Result, Ok, Err, OnOk, append_assoc}
use Rattle.account_questions.proofs.job_line.put_job.Goals as goal

-- one part after another
joined : {T E : Type 0} (told : Result T E) (o p t s w k n a b d e f g r : List ℕ) → a ≡ o ++ p → b ≡ a ++ t → d ≡ b ++ s → e ≡ d ++ w → f ≡ e ++ k → g ≡ f ++ s → OnOk told (r ≡ g ++ n)
    → OnOk told (r ≡ o ++ (p ++ (t ++ (s ++ (w ++ (k ++ (s ++ n)))))))
joined (Err fault) o p t s w k n a b d e f g r ea eb ed ee ef eg er = tt
joined (Ok done) o p t s w k n a b d e f g r ea eb ed ee ef eg er = rw (er, eg, ef, ee, ed, eb, ea) (simp append_assoc)

pub returns : goal.returns
returns c =
    joined c.put_name.result _ _ _ _ _ _ _ _ _ _ _ _ _ _ c.in_ok-put_place.ensures c.in_ok-put_times.ensures c.in_ok-push.ensures.items (rw c.as_slice.ensures at c.in_ok-put_password.ensures) c.in_ok-put_counts.ensures c.in_ok-push-2.ensures.items (rw c.as_slice-2.ensures at c.put_name.ensures)
