-- What holds anyway holds of a call, whether it failed or not.
use Rattle.std.proofs.Common.{ap}
use Rattle.std.specs.Prelude.{Result, Ok, Err, IfOk, IsErrOf, OnErr, OnOk}

pub OnErr-of : {A E : Type 0} (result : Result A E) (P : Type 0) → P → OnErr result P
OnErr-of (Ok value) P holds = tt
OnErr-of (Err error) P holds = holds

pub OnOk-of : {A E : Type 0} (result : Result A E) (P : Type 0) → P → OnOk result P
OnOk-of (Ok value) P holds = holds
OnOk-of (Err error) P holds = tt

pub IfOk-map : {A E : Type 0} (result : Result A E) (P Q : A → Type 0)
    → ((value : A) → P value → Q value) → IfOk result P → IfOk result Q
IfOk-map (Ok value) P Q then holds = then value holds
IfOk-map (Err error) P Q then holds = tt

pub OnOk-map : {A E : Type 0} (result : Result A E) (P Q : Type 0)
    → (P → Q) → OnOk result P → OnOk result Q
OnOk-map (Ok value) P Q then holds = then holds
OnOk-map (Err error) P Q then holds = tt

error-or : {A E : Type 0} → Result A E → E → E
error-or (Ok value) other = other
error-or (Err error) other = error

-- an error is that error, whatever there would be else
pub IsErrOf-of : {A B E : Type 0} (error fault : E)
    → IsErrOf {T = A} (Err error) fault → IsErrOf {T = B} (Err error) fault
unfolding error-or
IsErrOf-of error fault is = ap Err (ap (λ r. error-or r error) is)
