-- For the proof of the code alone: values lie within their limits in one way.
use Rattle.std.specs.Prelude.{List, [], ◌∷◌}
use Rattle.std.proofs.Props.{props}
use Rattle.ipp_coding.specs.Plain.{PlainValue}
use Rattle.ipp_coding.specs.Spelling.{AreValues}

pub AreValues-prop : (values : List PlainValue) → IsProp (AreValues values)
AreValues-prop [] = Prim.hlevel props
AreValues-prop (first ∷ further) = Prim.hlevel props
