use Rattle.std.proofs.Common.{◌≡◌, ◌≤◌, ◌⊎◌, ◌+◌, ℕ, Bool, true, false, List, Option, Result, Ok, Err, inl, inr, refl, ap, sym, subst, ◌∙◌, arith, rules}
use Rattle.std.proofs.lemmas.Bool.{true≢false}
use Rattle.sqlite.specs.Held.{Held}
use Rattle.sqlite_trees.specs.declared.store.Store.{Ghosts}
use Rattle.room_serve.proofs.Carried.{HasCalled, called_on, none_called}
use Rattle.room_serve.specs.Connections.{ServesMessages}
use Rattle.room_serve.specs.Wires.{wire_has_ended}
use Rattle.room_serve.specs.declared.wire.After.{After}
use Rattle.room_serve.specs.declared.wire.After.TheVariants.{Again, Close}
use Rattle.room_serve.specs.declared.wire.Wire.{Wire}
use Rattle.listen_http.specs.declared.fault.WireFault.{WireFault}
use Rattle.cli_program.proofs.listening.serve_messages.Goals as goal

-- a call that did not leave the connection going on ended it
ends_at : (ended : Bool) (result : Result After WireFault) → result ≡ Ok Close → (ended ≡ false → result ≡ Ok Again) → ended ≡ true
ends_at true result is again = refl
ends_at false result is again = let same : Ok Close ≡ Ok Again = sym is ∙ again refl in let no : ⊥ = cc in absurd no

serves : {S R W : Type 0} (store : Ghosts S) (left : R → List ℕ → Type 0) (given : W → Option (List ℕ)) (number most : ℕ) (went_well : Bool) (first last : Wire R W) (old new : Held S) → HasCalled store left given number first last old new → number ≤ most
    → (went_well ≡ true → (wire_has_ended last ≡ true) ⊎ (number ≡ most)) → ServesMessages store left given most went_well first last old new
serves store left given number most went_well first last old new called within end = record {
  calls = called.calls;
  are = called.are;
  at_most = subst (λ (n : ℕ). n ≤ most) (sym called.count) within;
  to_the_end = λ well. elim (end well) [
    | inl ended ↦ inl ended
    | inr all ↦ inr (called.count ∙ all)
  ];
}

pub messages-init : goal.messages-init
messages-init g c = record {
  going = c.requires.going;
  reads = c.requires.reads;
  writes = c.requires.writes;
  called = none_called g.S.Store g.R.Source.left g.W.Sink.given c.args.wire.now c.args.store.now;
}

pub returns-in-Ok-Close : goal.returns-in-Ok-Close
returns-in-Ok-Close g c = record {
  calls = serves g.S.Store g.R.Source.left g.W.Sink.given _ _ true _ c.serve_one.new.wire _ c.serve_one.new.store
      (called_on g.S.Store g.R.Source.left g.W.Sink.given _ _ c.messages.wire c.serve_one.new.wire _ c.messages.store c.serve_one.new.store c.in-Some.now (Ok c.in-Ok-Close.field-0) c.messages.invariant.called c.messages.invariant.going c.in-Ok-Close.ensures.exchange)
      (omega arith) (λ well. inl (ends_at _ (Ok c.in-Ok-Close.field-0) (ap Ok c.in-Ok-Close.field-0-is) c.in-Ok-Close.ensures.goes_on.0));
}

pub returns-in-Err : goal.returns-in-Err
returns-in-Err g c = record {
  calls = serves g.S.Store g.R.Source.left g.W.Sink.given _ _ false _ c.serve_one.new.wire _ c.serve_one.new.store
      (called_on g.S.Store g.R.Source.left g.W.Sink.given _ _ c.messages.wire c.serve_one.new.wire _ c.messages.store c.serve_one.new.store c.in-Some.now (Err c.in-Err.field-0) c.messages.invariant.called c.messages.invariant.going (c.in-Err.ensures.fault c.messages.invariant.going))
      (omega arith) (λ well. absurd (true≢false (sym well)));
}

pub messages-preserved : goal.messages-preserved
messages-preserved g c = record {
  going = search rules;
  reads = search rules;
  writes = search rules;
  called = called_on g.S.Store g.R.Source.left g.W.Sink.given _ _ c.messages.wire c.serve_one.new.wire _ c.messages.store c.serve_one.new.store c.in-Some.now (Ok c.in-Ok-Again.field-0) c.messages.invariant.called c.messages.invariant.going c.in-Ok-Again.ensures.exchange;
}
