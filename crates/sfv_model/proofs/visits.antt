-- What a visitor is given.
pub mod Parts
pub mod Fields
pub mod EventsBeforeRuleAlike
pub mod EventsBeforeRule
pub mod BareFaultOffReach
pub mod EventsBeforeReach
pub mod EventsExpected
