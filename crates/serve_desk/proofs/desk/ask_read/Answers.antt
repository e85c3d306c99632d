use Rattle.std.proofs.Common.{◌≡◌, Some, Result, Ok, Err, OnOk, inl}
use Rattle.serve_desk.specs.Acts.{deed_of}
use Rattle.serve_desk.specs.Answers.{Applies, AsksText}
use Rattle.serve_desk.proofs.desk.ask_read.Goals as goal

on_ok : {A E : Type 0} (r : Result A E) (P Q : Type 0) → (P → Q) → OnOk r P → OnOk r Q
on_ok (Ok x) P Q f is = f is
on_ok (Err e) P Q f is = tt

pub returns-in-Some-clause-ok : goal.returns-in-Some-clause-ok
returns-in-Some-clause-ok g c =
    let does : deed_of c.args.line.action ≡ Some c.in-Some.deed = cc (c.in-Some.ensures) in
    on_ok c.apply.result (Applies g.S.Store c.args.operator c.args.text.now c.args.line c.in-Some.deed c.args.closes c.args.served.now c.apply.new.response c.apply.new.served)
    (AsksText g.S.Store c.args.operator c.args.text.now c.args.closes c.args.served.now c.apply.new.response c.apply.new.served)
    (λ (is : Applies g.S.Store c.args.operator c.args.text.now c.args.line c.in-Some.deed c.args.closes c.args.served.now c.apply.new.response c.apply.new.served). inl (record { line = c.args.line; read = c.requires.read; deed = c.in-Some.deed; does = does; applies = is }))
    c.apply.ensures.ok
