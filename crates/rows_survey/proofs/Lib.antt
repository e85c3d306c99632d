pub mod ChargeWalk
