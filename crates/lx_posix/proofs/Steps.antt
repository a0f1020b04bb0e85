-- One more unit: what walks keep decides the order.
pub mod CommonWalk
pub mod KeptByWalk
pub mod KeptInParts
pub mod OneMoreUnit
