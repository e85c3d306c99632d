-- What follows of an answer, and of a fault.
use Rattle.std.proofs.Common.{Result, Ok, Err, IfOk, OnOk, OnErr}

pub on_err_as : {A E : Type 0} (result : Result A E) (P Q : Type 0) → (P → Q) → OnErr result P → OnErr result Q
on_err_as (Ok a) P Q as_q p = tt
on_err_as (Err e) P Q as_q p = as_q p

pub if_ok_both : {A E : Type 0} (result : Result A E) (P : Type 0) (Q R : A → Type 0) → ((a : A) → P → Q a → R a) → OnOk result P → IfOk result Q → IfOk result R
if_ok_both (Ok a) P Q R as_r p q = as_r a p q
if_ok_both (Err e) P Q R as_r p q = tt
