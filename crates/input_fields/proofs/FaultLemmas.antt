-- Which fault of the bytes gives which of the grants.
use Rattle.std.proofs.Common.{◌≡◌, ◌<◌, ℕ, true, List, length, nat_lt, Result, Ok, Err, arith, refl, ◌∙◌, sym}
use Rattle.std.specs.Prelude.{IsErrAnd, IsErrOf}
use Rattle.std.proofs.lemmas.Bool.Decides.{nat_tests}
use Rattle.input_fields.specs.declared.stream_fault.StreamFault.{StreamFault}
use Rattle.input_fields.specs.declared.stream_fault.StreamFault.TheVariants as stream
use Rattle.input_fields.specs.GrantFaults.{grant_fault_of}
use Rattle.input_fields.specs.GrantFiles.{is_too_large, longest_file}
use Rattle.input_fields.specs.declared.grant_fault.GrantFault.{GrantFault}
use Rattle.input_fields.specs.declared.grant_fault.GrantFault.TheVariants as grants

too_long : (fault : StreamFault) → grant_fault_of fault ≡ grants.TooMany → fault ≡ stream.TooLong
too_long stream.Read same = cc same
too_long stream.Memory same = cc same
too_long stream.TooLong same = refl

err-same : {A : Type 0} (a b : GrantFault) → ◌≡◌ {A = Result A GrantFault} (Err a) (Err b) → a ≡ b
err-same a b same = cc same

-- only an input that is too long has too much
pub many_from : {A : Type 0} (fault : StreamFault) (result : Result A GrantFault) → IsErrAnd result (λ e. e ≡ grant_fault_of fault) → IsErrOf result grants.TooMany → fault ≡ stream.TooLong
many_from fault (Ok lines) is many = absurd is
many_from {A} fault (Err e) is many = too_long fault (sym is ∙ err-same {A = A} e grants.TooMany many)

-- too many bytes exceed
pub is_too_large-bytes : (bytes : List ℕ) → longest_file < length bytes → is_too_large bytes ≡ true
is_too_large-bytes bytes over = let at : nat_lt longest_file (length bytes) ≡ true = grind (arith, nat_tests) in rw at refl
